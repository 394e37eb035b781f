use Rattle.std.proofs.Common.{take, drop, sym, ap, ◌∙◌, subst}
use Rattle.ug_segchain.specs.Slots.{joined, AreWhole}
use Rattle.ug_segchain.proofs.Segments.{cut_at}
use Rattle.ug_segchain.proofs.row.free_first.Goals as goal

pub release-requires : goal.release-requires
release-requires g c =
    let whole = subst AreWhole c.in-Some.ensures.items c.requires.whole in
    sym (cut_at c.in-Some.segment (joined c.pop_front.new.self.items) 64 whole.0).0 ∙ sym (ap (λ l. take 64 (joined l)) c.in-Some.ensures.items) ∙ c.requires.empty

pub returns-in-Some-clause-joined : goal.returns-in-Some-clause-joined
returns-in-Some-clause-joined g c =
    let whole = subst AreWhole c.in-Some.ensures.items c.requires.whole in
    sym (ap (λ l. drop 64 (joined l)) c.in-Some.ensures.items ∙ (cut_at c.in-Some.segment (joined c.pop_front.new.self.items) 64 whole.0).1)
