-- What the code answers of documents and lists.
use Rattle.std.specs.Prelude.{◌≡◌, Result, Ok, Err}
use Rattle.toml.specs.Data.{Data}
use Rattle.toml.specs.View.{view}
use Rattle.toml.specs.declared.value.Value.{Value}
use Rattle.ug_config.specs.declared.refusals.ConfigRefusal.{ConfigRefusal}
use Rattle.ug_config.specs.Reads.{Reads, fault_of}
use Rattle.ug_config.specs.Gives.{Tells}

-- the same of a document
abbrev pub GivesData : Result Value ConfigRefusal → Reads Data → Type 0
GivesData (Ok d) read = read ≡ Ok (view d)
GivesData (Err e) read = Tells e (fault_of read)
