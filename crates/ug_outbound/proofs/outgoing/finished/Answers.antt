use Rattle.std.proofs.Common.{◌≡◌, true, ap, ◌∙◌}
use Rattle.ug_types.specs.Attributes.{Attributes, attributes_of, is_well_formed}
use Rattle.ug_outbound.specs.Outbound.{reflected}
use Rattle.ug_outbound.proofs.Kept.{out_kept, reflected_formed}
use Rattle.ug_outbound.proofs.outgoing.finished.Goals as goal

-- what goes out is well formed, so it is received
pub unreachable-requires : goal.unreachable-requires
unreachable-requires c =
    let formed : is_well_formed (attributes_of c.in_ok-parts.parts) ≡ true =
    ap (λ (a : Attributes). is_well_formed a) (c.in_ok-parts.ensures ∙ ap (reflected c.args.local.now c.args.key.now.kind c.args.from.now) c.into_parts.ensures.parts)
    ∙ reflected_formed c.args.local.now c.args.key.now.kind c.args.from.now c.args.mapped.attrs c.into_parts.ensures.well_formed in
    let good : is_well_formed (attributes_of c.in_ok-parts-2.parts) ≡ true =
    ap (λ (a : Attributes). is_well_formed a) c.in_ok-parts-2.ensures ∙ out_kept c.args.key.now c.args.local.now c.args.from.now c.args.mapped.set_med (attributes_of c.in_ok-parts.parts) formed in
    let bad = c.in_default.ensures.0 in
    absurd cc
