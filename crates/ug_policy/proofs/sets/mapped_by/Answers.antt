use Rattle.std.proofs.Common.{◌≡◌, true, ap, ◌∙◌}
use Rattle.ug_types.specs.Attributes.{Attributes, attributes_of, is_well_formed}
use Rattle.ug_policy.specs.Rules.{rule_of}
use Rattle.ug_policy.specs.Maps.{with_sets}
use Rattle.ug_policy.proofs.KeptMaps.{with_sets_kept}
use Rattle.ug_policy.proofs.sets.mapped_by.Goals as goal

-- what is set is well formed, so it is received
pub unreachable-requires : goal.unreachable-requires
unreachable-requires c =
    let good : is_well_formed (attributes_of c.in_ok-parts.parts) ≡ true =
    ap (λ (a : Attributes). is_well_formed a) c.in_ok-parts.ensures
    ∙ ap (λ (a : Attributes). is_well_formed (with_sets (rule_of c.args.entry.now) a)) c.into_parts.ensures.parts
    ∙ with_sets_kept (rule_of c.args.entry.now) c.args.mapped.attrs c.requires c.into_parts.ensures.well_formed in
    let bad = c.in_default.ensures.0 in
    absurd cc
