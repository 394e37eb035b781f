-- Who stands at the front of a queue.
use Rattle.std.specs.Prelude.{◌≡◌, ℕ, ◌<◌, ◌==◌, Bool, true, false, List, Option, Some, None}
use Rattle.ug_speaker.specs.Counts.{has}
use Rattle.ug_queue.specs.Queues.{Queued, place_of}
use Rattle.ug_group_rules.specs.Packets.{Packet}
use Rattle.ug_groups.specs.Subgroups.{AreFront}

abbrev pub is_first : Option ℕ → Bool
is_first None = false
is_first (Some place) = place == 0

-- These are all of those below this number who stand there, by rising number.
pub record AreCollected (q : Queued Packet) (up : ℕ) (ms : List ℕ) : Type 0 where
  pub front : AreFront q up ms
  pub whole : (p : ℕ) → p < up → is_first (place_of q p) ≡ true → has ms p ≡ true
