use Rattle.std.specs.Prelude.{length}
use Rattle.std.proofs.Common.{sym, ap, ◌∙◌}
use Rattle.ug_queue.proofs.Spreading.{spread-length}
use Rattle.ug_queue.proofs.live.Live.next.Goals as goal

pub returns : goal.returns
returns g c = sym (spread-length 0 c.self.inside.next c.self.inside.entries.items) ∙ ap length c.self.view_is
