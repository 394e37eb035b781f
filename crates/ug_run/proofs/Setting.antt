-- Why a configuration stands for no world, of the file that was picked.
use Rattle.std.proofs.Common.{◌≡◌, ℕ, List, Option, Result, Ok, Err}
use Rattle.std.specs.Prelude.{IfErr, OnOk}
use Rattle.ug_edge.specs.Told.{HasPicked, FileText, Missing, file_told}
use Rattle.ug_commands.specs.Grouped.{IsCause}
use Rattle.ug_commands.specs.declared.stop.Stop.{Stop}
use Rattle.ug_commands.specs.declared.stop.Stop.TheVariants as stops
use Rattle.ug_commands.proofs.Ends.{rest_of, part_read}
use Rattle.ug_commands.proofs.Listings.{configured}
use Rattle.ug_run.specs.Setups.{IsStopOf}

stopped : (files : Option (List FileText)) (name : List ℕ) (left now : Option (List ℕ)) (stop : Stop) → HasPicked files name left → (file_told files name ≡ Missing → ⊥) → IsCause stop left now → IsStopOf (file_told files name) stop
stopped files name left now stops.Read picked there cause = tt
stopped files name left now stops.Report picked there cause = cause
stopped files name left now stops.NoMemory picked there cause = tt
stopped files name left now stops.TooLong picked there cause =
    (there, record { read = cause.read; rest = rest_of now; is_part = part_read files name left now cause.read picked cause.taken; past = cause.so })
stopped files name left now (stops.Config number field) picked there cause = (there, configured files name left now _ picked cause)

pub stopped-all : {A : Type 0} (files : Option (List FileText)) (name : List ℕ) (left now : Option (List ℕ)) (result : Result A Stop) → HasPicked files name left → (file_told files name ≡ Missing → ⊥)
    → IfErr result (λ stop. IsCause stop left now) → IfErr result (λ stop. IsStopOf (file_told files name) stop)
stopped-all files name left now (Ok x) picked there cause = tt
stopped-all files name left now (Err stop) picked there cause = stopped files name left now stop picked there cause

-- what holds anyway holds where all went well
pub on_ok : {A E P : Type 0} (result : Result A E) → P → OnOk result P
on_ok (Ok x) p = p
on_ok (Err e) p = tt
