-- Where a worker is.
use Rattle.ug_sender.specs.declared.worker.Place.{Place}
use Rattle.ug_sender.specs.declared.worker.Place.TheVariants.{Here, Apart}

-- what is told of a worker, by what is told of its lane where it is here, and of its thread where it is apart
abbrev pub at_place : {L H P : Type 0} → (L → P) → (H → P) → Place L H → P
at_place here apart (Here lane) = here lane
at_place here apart (Apart child) = apart child
