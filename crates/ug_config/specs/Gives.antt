-- What the code answers, and what reading gives.
use Rattle.std.specs.Global.{Vec}
use Rattle.std.specs.Prelude.{◌≡◌, List, Option, Some, None, Result, Ok, Err}
use Rattle.ug_config.specs.declared.refusals.ConfigRefusal.{ConfigRefusal}
use Rattle.ug_config.specs.declared.refusals.ConfigRefusal.TheVariants as refusals
use Rattle.ug_config.specs.Reads.{Refusal, Reads, fault_of}

-- The fault that is there is told. Out of memory says nothing of it.
abbrev pub Tells : ConfigRefusal → Option Refusal → Type 0
Tells refusals.NoMemory fault = Unit {0}
Tells (refusals.Refused number field) fault = fault ≡ Some (record { number = number; field = field.items })

-- What a function returned is what reading gives, unless memory ran out.
abbrev pub Gives : {A : Type 0} → Result A ConfigRefusal → Reads A → Type 0
Gives (Ok x) read = read ≡ Ok x
Gives (Err e) read = Tells e (fault_of read)

-- the same of a list
abbrev pub GivesItems : {A : Type 0} → Result (Vec A) ConfigRefusal → Reads (List A) → Type 0
GivesItems (Ok xs) read = read ≡ Ok xs.items
GivesItems (Err e) read = Tells e (fault_of read)
