use Rattle.std.proofs.Common.{sym, ap, ◌∙◌}
use Rattle.ug_queue.specs.Spread.{numbered}
use Rattle.ug_queue.proofs.Spreading.{spread-numbered, end_is}
use Rattle.ug_queue.proofs.live.Live.entries.Goals as goal

pub returns : goal.returns
returns g c =
    let rows = c.self.inside.entries.items in let end = c.self.inside.next in
    c.deref.ensures.value ∙ sym (spread-numbered 0 end rows (end_is end rows c.self.invariant)) ∙ ap (numbered 0) c.self.view_is
