use Rattle.std.proofs.Common.{◌≡◌, take}
use Rattle.std.specs.Prelude.{◌&&◌}
use Rattle.ug_types.specs.declared.key.Key.{Key}
use Rattle.ug_message.specs.Tables.{among}
use Rattle.ug_hearing.specs.Heard.{is_stale_in}
use Rattle.ug_hearing.proofs.standings.Standings.stale_among.Given as goal

abbrev pub invariant-loop-key : goal.invariant-loop-key
invariant-loop-key l = (q : Key) → among l.stale.items q ≡ (among (take l.key-index l.keys) q && is_stale_in l.self.refreshes l.course.changes l.self.rows q)
