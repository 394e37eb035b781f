-- Where a member's cursor stands, found once.
use Rattle.std.specs.Prelude.{◌≡◌, slice_get, Some}
use Rattle.ug_queue.specs.Queues.{Queued}
use Rattle.ug_queue.specs.declared.stand.Stand.{Stand}

module _ {P : Type 0} where
  -- at that index stands the entry of that member, with that place
  abbrev pub IsStand : Queued P → Stand → Type 0
  IsStand q stand = slice_get q.places stand.index ≡ Some (stand.member, stand.place)
