use Rattle.std.proofs.Common.{IsTrue, subst}
use Rattle.ug_types.specs.Attributes.{Attributes}
use Rattle.ug_types.specs.Bare.{bare_parts}
use Rattle.ug_types.specs.declared.route.OutAttrs.{OutAttrs}
use Rattle.ug_types.specs.contracts.attrs.AttrPartsPartialEq.TheImpl as parts_eq
use Rattle.ug_types.specs.contracts.attrs.AttrPartsEq.TheImpl.Laws as parts
use Rattle.ug_types.specs.contracts.route.OutAttrsPartialEq.TheImpl as out_eq
use Rattle.ug_types.specs.contracts.route.OutAttrsEq.TheImpl.Laws as out
use Rattle.ug_types.proofs.Same.{attributes_same, outs_same}
use Rattle.ug_types.proofs.laws.value_laws.Goals as goal

pub returns-clause-attributes : goal.returns-clause-attributes
returns-clause-attributes c a b = (
  attributes_same a b,
  λ e. subst (λ (x : Attributes). IsTrue (parts_eq.ghosts.eq (bare_parts a) (bare_parts x))) e (parts.lawful.laws.refl (bare_parts a)),
)

pub returns-clause-outs : goal.returns-clause-outs
returns-clause-outs c a b = (
  outs_same a b,
  λ e. subst (λ (x : OutAttrs). IsTrue (out_eq.ghosts.eq a x)) e (out.lawful.laws.refl a),
)
