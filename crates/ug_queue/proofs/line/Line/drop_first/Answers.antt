use Rattle.std.proofs.Common.{◌+◌, ◌-◌, ◌<◌, ◌%◌, ◌^◌, length, sym, ap, ◌∙◌, subst, length-drop}
use Rattle.ug_queue.specs.Queues.{passed, without_first}
use Rattle.ug_queue.specs.Lines.{IsLine}
use Rattle.ug_queue.proofs.Kept.{dropped, popped, queued_same}
use Rattle.ug_queue.proofs.line.Line.drop_first.Goals as goal

pub invariant_of-self : goal.invariant_of-self
invariant_of-self g c =
    let packets = popped c.pop_front-packet.result c.self.inside.packets.items c.pop_front-packet.new.self.items c.pop_front-packet.ensures.none c.pop_front-packet.ensures.some in
    let keeps = dropped _ _ _ _ c.self.invariant (subst (λ v. 0 < passed v) (sym c.self.view_is) c.requires) in
    let next = (c.self.inside.start + 1) % 2 ^ 64 in
    subst (λ k. IsLine k c.pop_front-count.new.self.items next c.self.inside.cursors) (sym (ap length packets ∙ length-drop 1 c.self.inside.packets.items))
    (subst (λ u. IsLine (length c.self.inside.packets.items - 1) u next c.self.inside.cursors) (sym c.pop_front-count.ensures.rest) keeps.line)

pub returns : goal.returns
returns g c =
    let packets = popped c.pop_front-packet.result c.self.inside.packets.items c.pop_front-packet.new.self.items c.pop_front-packet.ensures.none c.pop_front-packet.ensures.some in
    let keeps = dropped _ _ _ _ c.self.invariant (subst (λ v. 0 < passed v) (sym c.self.view_is) c.requires) in
    queued_same _ _ _ _ c.self.inside.limit packets keeps.places ∙ ap (without_first 1) c.self.view_is
