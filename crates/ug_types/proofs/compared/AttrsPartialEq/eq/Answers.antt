use Rattle.std.proofs.Common.{sym, ◌∙◌}
use Rattle.ug_types.proofs.BareLemmas.{parts_eq_bare}
use Rattle.ug_types.proofs.compared.AttrsPartialEq.eq.Goals as goal

pub returns : goal.returns
returns c = rw (← c.parts.ensures.parts, ← c.parts-2.ensures.parts) (c.eq.ensures ∙ sym (parts_eq_bare c.parts.result.now c.parts-2.result.now))
