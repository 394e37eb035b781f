use Rattle.std.proofs.Common.{◌≡◌, drop}
use Rattle.ug_edge.specs.SiteState.{file_texts}
use Rattle.ug_edge.specs.Told.{file_named}
use Rattle.ug_edge.proofs.places.place_of.Given as goal

abbrev pub invariant-loop-place : goal.invariant-loop-place
invariant-loop-place l = file_named l.name (file_texts (drop l.place l.files.items)) ≡ file_named l.name (file_texts l.files.items)
