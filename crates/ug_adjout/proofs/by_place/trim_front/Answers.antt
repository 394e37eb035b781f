use Rattle.std.proofs.Common.{◌<◌, length, sym, refl, ◌∙◌, arith, length-drop}
use Rattle.ug_adjout.proofs.Placed.{front_gone}
use Rattle.ug_adjout.proofs.by_place.trim_front.Goals as goal

pub loop-preserved : goal.loop-preserved
loop-preserved c =
    let some : 0 < length c.loop.values.items = omega (arith, c.loop.values.ok.0, c.in-Some.ensures.variant.0 refl) in
    record {
      same = rw c.pop_front.ensures.rest (front_gone c.loop.now c.loop.values.items c.in-Some.first.now some c.in-Some.ensures.lookup (sym c.is_some.ensures ∙ c.if-is_some.false) ∙ c.loop.invariant.same);
      fits = rw c.pop_front.ensures.rest (omega (arith, some, length-drop 1 c.loop.values.items, c.loop.invariant.fits));
    }
