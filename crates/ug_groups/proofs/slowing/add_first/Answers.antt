use Rattle.std.proofs.Common.{◌+◌, sym, subst, ◌∙◌, List, ℕ}
use Rattle.ug_groups.specs.Fronts.{AreCollected}
use Rattle.ug_groups.proofs.Slowed.{other-collected, first-collected}
use Rattle.ug_groups.proofs.slowing.add_first.Goals as goal

pub returns-then-not-is_first : goal.returns-then-not-is_first
returns-then-not-is_first c = λ r row so. other-collected r.queue c.args.id c.args.front.now.items (sym (c.is_first.ensures r row) ∙ c.if-not-is_first.true) so

pub returns : goal.returns
returns c = λ r row so.
    subst (λ (l : List ℕ). AreCollected r.queue (c.args.id + 1) l) (sym c.in-Ok.ensures.ok)
    (first-collected r.queue c.args.id c.args.front.now.items (sym (c.is_first.ensures r row) ∙ c.if-not-is_first.false) so)
