-- Files that are looked up by name, and what is left of them.
use Rattle.std.proofs.Common.{◌≡◌, ◌<◌, ℕ, zero, suc, List, [], ◌∷◌, length, get_or, drop, true, refl, arith, Some}
use Rattle.std.specs.Prelude.{slice_get}
use Rattle.ug_types.specs.Bytes.{same_bytes}
use Rattle.ug_edge.specs.declared.lists.File.{File}
use Rattle.ug_edge.specs.SiteState.{file_texts, bytes_from}
use Rattle.ug_edge.specs.Told.{file_named}

pub file_named-here :
    (name : List ℕ) (files : List File) (place : ℕ) (file : File)
    → place < length files → file ≡ get_or files place file → same_bytes name file.name.items ≡ true
    → file_named name (file_texts (drop place files)) ≡ Some (bytes_from 0 (slice_get files place))
file_named-here name [] place file inside here same = absurd (omega arith)
file_named-here name (x ∷ files) zero file inside here same = rw (← here) (rw same refl)
file_named-here name (x ∷ files) (suc place) file inside here same = file_named-here name files place file (omega arith) here same
