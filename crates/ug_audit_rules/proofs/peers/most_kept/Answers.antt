use Rattle.std.proofs.Common.{◌≡◌, ◌∙◌, ◌<◌, ◌≤◌, inl, inr, ℕ, List, length, slice_get, Some, sym, ap, subst, arith}
use Rattle.std.proofs.lemmas.Bool.{cases_lt}
use Rattle.std.proofs.lemmas.Grind.{common_steps}
use Rattle.ug_audit_rules.specs.Reports.{peer_names_in}
use Rattle.ug_audit_rules.proofs.Places.{own_name, name_within, name_short}
use Rattle.ug_audit_rules.proofs.peers.most_kept.Goals as goal

pub loop-id-preserved : goal.loop-id-preserved
loop-id-preserved c =
    let names = peer_names_in c.args.world.now in
    let inv = c.loop-id.invariant in
    let up : c.loop-id.longest ≤ c.max-longest.result = grind (arith, common_steps, c.max-longest.ensures) in
    let own : length c.text.result.now ≤ c.max-longest.result = grind (arith, common_steps, c.max-longest.ensures) in
    let few : length c.text.result.now ≤ 32 = name_short c.text.result.now c.peer.result.now.name c.text.ensures.value c.text.ensures.name in
    record {
      names = λ p name is less. elim (cases_lt p c.loop-id.id) [
        | inl sooner ↦ (let l = inv.names p name is sooner in omega (arith, l, up))
        | inr far ↦
            (let at : p ≡ c.loop-id.id = omega (arith, far, less) in
            let same : name ≡ c.text.result.now = own_name c.args.world.now.peers c.loop-id.id c.peer.result.now name c.peer.ensures (subst (λ k. slice_get names k ≡ Some name) at is) ∙ sym c.text.ensures.value in
            subst (λ (n : List ℕ). length n ≤ c.max-longest.result) (sym same) own)
      ];
      small = (let small = inv.small in grind (arith, common_steps, c.max-longest.ensures, small, few));
    }

pub returns : goal.returns
returns c =
    let inv = c.loop-id.invariant in
    let small = inv.small in
    let sum = c.saturating_add.ensures in (
      omega arith,
      λ p name is.
          let inside = name_within c.args.world.now.peers p name is in
          let end = c.loop-id-test.false in
          let all = c.peers-id-end.ensures in
          let l = inv.names p name is (omega arith) in
          omega arith,
    )
