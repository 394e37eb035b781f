use Rattle.std.proofs.Common.{◌-◌, sym, refl, ◌∙◌, arith, length-take}
use Rattle.ug_adjout.proofs.Placed.{back_gone}
use Rattle.ug_adjout.proofs.by_place.trim_back.Goals as goal

pub loop-preserved : goal.loop-preserved
loop-preserved c =
    let row = c.loop.values in
    record {
      same = rw c.pop_back.ensures.rest (back_gone c.args.start row.len row.items c.in-Some.last.now row.ok.0 (c.in-Some.ensures.variant.0 refl) c.in-Some.ensures.lookup (sym c.is_some.ensures ∙ c.if-is_some.false) ∙ c.loop.invariant.same);
      len = rw c.pop_back.ensures.rest (omega (arith, length-take (row.len - 1) row.items, c.loop.invariant.len));
    }
