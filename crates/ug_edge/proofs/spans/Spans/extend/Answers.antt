use Rattle.std.proofs.Common.{◌≡◌, ◌+◌, length, ap, arith, ◌∙◌}
use Rattle.std.proofs.lemmas.List.{length-append}
use Rattle.ug_edge.proofs.RoomLemmas.{starts_grown}
use Rattle.ug_edge.proofs.spans.Spans.extend.Goals as goal

pub invariant_of-self : goal.invariant_of-self
invariant_of-self c =
    let long : length c.extend_from_slice.new.self.items ≡ length c.self.inside.bytes.items + length c.args.piece.now
    = ap length c.in-Ok.ensures.ok ∙ length-append c.self.inside.bytes.items c.args.piece.now in (
      starts_grown c.self.inside.starts.items _ _ (omega (arith, long)) c.self.invariant.0,
      omega (arith, c.in-Ok.ensures.spare, c.self.invariant.1),
      c.self.invariant.2,
    )
