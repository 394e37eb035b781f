-- What an event asks of the outbound rules, and what it makes of the tables of subgroups.
use Rattle.std.specs.Prelude.{◌≡◌, ℕ, Some, if◌then◌else◌}
use Rattle.std.specs.List.{sum_by}
use Rattle.ug_outbound.specs.declared.key.GroupKey.{GroupKey}
use Rattle.ug_events.specs.Events.{Happening}
use Rattle.ug_world.specs.World.{World}
use Rattle.ug_world.specs.After.{after}
use Rattle.ug_queue.specs.Queues.{empty_queue}
use Rattle.ug_group_rules.specs.Machine.{retabled, rekeyed, fresh_subgroup}
use Rattle.ug_group_rules.specs.Touched.{IsKeptIn}
use Rattle.ug_group_rules.specs.Evaluations.{has_key, paths_touched, all_heeded}
use Rattle.ug_groups.specs.Rows.{Row, Rows, row_at, keys_in, with_sub}

-- each subgroup desires what its key should have in this world
abbrev pub AreKept : World → Rows → Type 0
AreKept w rows = (g : ℕ) (r : Row) → row_at g rows ≡ Some r → IsKeptIn w r.sub

-- how often the event asks: each key of theirs with the paths that it touches for it
abbrev pub entering : Happening → World → Rows → ℕ
entering e w rows = sum_by (λ (key : GroupKey). paths_touched e key (after w e)) (keys_in rows)

-- a key that none of them has is asked with all paths
abbrev pub asking : World → Rows → GroupKey → ℕ
asking w rows key = if has_key (keys_in rows) key then 0 else all_heeded key.add_path w.routes

abbrev pub retabled_row : World → Row → Row
retabled_row w r = with_sub (retabled w) r

abbrev pub rekeyed_to : GroupKey → World → Row → Row
rekeyed_to key w r = with_sub (rekeyed key w) r

abbrev pub fresh_row : GroupKey → World → Row
fresh_row key w = record { sub = fresh_subgroup key w; queue = empty_queue w.local.queue_limit }
