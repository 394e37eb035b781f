use Rattle.std.proofs.Common.{ℕ, List, Option, refl, sym, ◌∙◌, ap, subst}
use Rattle.std.specs.Prelude.{option_copied, false, None}
use Rattle.ug_types.specs.declared.route.PeerEnds.{PeerEnds}
use Rattle.ug_hearing.specs.declared.change.Change.{Change}
use Rattle.ug_hearing.specs.Pasts.{Value}
use Rattle.ug_hearing.specs.Logs.{AddsChange}
use Rattle.ug_audit_rules.specs.Merges.{told_if, IsLeast}
use Rattle.ug_audit_rules.proofs.MergedChanges.{IsMergedTo, merge-begins, merge-goes-on, merge-ends, merge-shrinks}
use Rattle.ug_audit_rules.proofs.merging.merge.Goals as goal

pub loop-at-init : goal.loop-at-init
loop-at-init c = record {
  ends = refl;
  goes = λ past rising_ups rising_outs merged.
      subst (λ (cs : List Change). IsMergedTo c.args.teller.now.ends c.args.ups.now c.args.outs.now false c.args.ups.now None c.args.outs.now cs past) (sym c.clear.ensures.items)
      (merge-begins c.args.teller.now.ends c.args.ups.now c.args.outs.now past rising_ups rising_outs merged);
}

pub loop-at-preserved : goal.loop-at-preserved
loop-at-preserved c =
    let ends = c.args.teller.now.ends in
    let at = c.in-Some.at in
    let up' = c.pass_up.result.0 in
    let out' = option_copied c.pass_out.result.0 in
    let adds =
    subst (λ (v : Value). AddsChange at v c.loop-at.changes.items c.add.new.changes.items) (c.in_ok-value.ensures.value ∙ ap (λ (x : PeerEnds). told_if x up' out') c.loop-at.invariant.ends) c.in_ok-add.ensures
    in
    record {
      ends = c.tell_if.ensures.ends ∙ c.loop-at.invariant.ends;
      goes = λ past rising_ups rising_outs merged.
          merge-goes-on ends c.args.ups.now c.args.outs.now c.loop-at.up up' c.loop-at.ups_left.now c.pass_up.result.1.now (option_copied c.loop-at.out) out' c.loop-at.outs_left.now c.pass_out.result.1.now c.loop-at.changes.items c.add.new.changes.items
          past at merged (c.loop-at.invariant.goes past rising_ups rising_outs merged) c.in-Some.ensures c.pass_up.ensures c.pass_out.ensures adds;
    }

pub loop-at-smaller : goal.loop-at-smaller
loop-at-smaller c =
    merge-shrinks c.in-Some.at c.loop-at.up c.pass_up.result.0 c.loop-at.ups_left.now c.pass_up.result.1.now (option_copied c.loop-at.out) (option_copied c.pass_out.result.0) c.loop-at.outs_left.now c.pass_out.result.1.now c.in-Some.ensures c.pass_up.ensures
    c.pass_out.ensures

pub returns-clause-merged : goal.returns-clause-merged
returns-clause-merged c = λ past rising_ups rising_outs merged.
    let none = subst (λ (o : Option ℕ). IsLeast c.loop-at.ups_left.now c.loop-at.outs_left.now o) c.in_default.is c.least.ensures in
    merge-ends c.args.teller.now.ends c.args.ups.now c.args.outs.now c.loop-at.up c.loop-at.ups_left.now (option_copied c.loop-at.out) c.loop-at.outs_left.now c.loop-at.changes.items past merged (c.loop-at.invariant.goes past rising_ups rising_outs merged) none.0
    none.1
