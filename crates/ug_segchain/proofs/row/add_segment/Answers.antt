use Rattle.std.proofs.Common.{◌≡◌, ◌++◌, length, Option, None, sym, ap, ◌∙◌, subst, arith}
use Rattle.std.proofs.Math.ListN.{replicate}
use Rattle.std.proofs.lemmas.List.{length-replicate}
use Rattle.ug_segchain.specs.Slots.{joined, AreWhole}
use Rattle.ug_segchain.proofs.Segments.{AreWhole-push, joined-push}
use Rattle.ug_segchain.proofs.row.add_segment.Goals as goal

pub returns-in-Ok-clause-whole : goal.returns-in-Ok-clause-whole
returns-in-Ok-clause-whole g c =
    let segment : c.in_ok-segment.segment ≡ replicate 64 None = c.in_ok-segment.ensures in
    subst AreWhole (sym c.in-Ok.ensures.items) (AreWhole-push c.args.segments.now.items _ c.requires.whole (omega (arith, ap length segment, length-replicate {A = Option g.row.T.Denot} 64 None)))

pub returns-in-Ok-clause-ok : goal.returns-in-Ok-clause-ok
returns-in-Ok-clause-ok g c =
    ap joined c.in-Ok.ensures.items ∙ joined-push c.args.segments.now.items _ ∙ ap (λ l. joined c.args.segments.now.items ++ l) c.in_ok-segment.ensures
