use Rattle.std.proofs.Common.{Some, ap, sym, ◌∙◌}
use Rattle.ug_types.specs.declared.route.OutAttrs.{OutAttrs}
use Rattle.ug_policy.specs.declared.mapped.Mapped.{Mapped}
use Rattle.ug_outbound.specs.Outbound.{heeded, finished}
use Rattle.ug_outbound.proofs.Mapping.{out_is_after, reflect}
use Rattle.ug_outbound.proofs.Bounds.{kept_back, not_mapped, let_out, out_bytes, out_bytes_but_next_hop}
use Rattle.ug_outbound.proofs.outgoing.outbound.Goals as goal

pub returns-then-not-is_let_out-clause-exact : goal.returns-then-not-is_let_out-clause-exact
returns-then-not-is_let_out-clause-exact g c =
    kept_back _ _ _ (sym c.is_let_out.ensures ∙ c.if-not-is_let_out.true) ∙ sym (out_is_after c.args.key.now c.args.policies.now c.args.local.now c.args.prefix.now c.args.path.now)

pub returns-in_default-clause-exact : goal.returns-in_default-clause-exact
returns-in_default-clause-exact g c =
    not_mapped _ _ _ (sym c.in_ok-mapped.ensures.exact ∙ c.in_default.is) ∙ sym (out_is_after c.args.key.now c.args.policies.now c.args.local.now c.args.prefix.now c.args.path.now)

pub returns-clause-exact : goal.returns-clause-exact
returns-clause-exact g c =
    let key = c.args.key.now in
    let path = c.args.path.now in
    ap (λ (o : OutAttrs). Some o) (c.in_ok-finished.ensures ∙ ap (λ (m : Mapped). finished key c.args.local.now path.learned (reflect c.args.local.now key.kind path.learned m)) (c.heeded-mapped.ensures ∙ ap (λ raw. heeded key.family raw c.in-Some.mapped) (ap (λ a. a.next_hop) (c.parts.ensures.parts ∙ c.get.ensures))))
    ∙ let_out _ _ (λ (m : Mapped). finished key c.args.local.now path.learned (reflect c.args.local.now key.kind path.learned (heeded key.family path.attrs.next_hop m))) _ (sym c.is_let_out.ensures ∙ c.if-not-is_let_out.false) (sym c.in_ok-mapped.ensures.exact ∙ c.in-Some.is)
    ∙ sym (out_is_after key c.args.policies.now c.args.local.now c.args.prefix.now c.args.path.now)

pub returns-clause-short : goal.returns-clause-short
returns-clause-short g c =
    λ refused. out_bytes c.args.key.now c.args.policies.now c.args.local.now c.args.prefix.now c.args.path.now c.in_ok-finished.field-0 (sym (returns-clause-exact g c)) refused c.in_ok-mapped.ensures.few

pub returns-clause-short_but_next_hop : goal.returns-clause-short_but_next_hop
returns-clause-short_but_next_hop g c =
    λ refused. out_bytes_but_next_hop c.args.key.now c.args.policies.now c.args.local.now c.args.prefix.now c.args.path.now c.in_ok-finished.field-0 (sym (returns-clause-exact g c)) refused c.in_ok-mapped.ensures.few
