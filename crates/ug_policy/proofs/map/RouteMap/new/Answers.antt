use Rattle.std.proofs.Common.{◌≡◌, List, map, ap, sym, ◌∙◌}
use Rattle.ug_policy.specs.Order.{ascending}
use Rattle.ug_policy.specs.declared.map_entry.MapEntry.{MapEntry}
use Rattle.ug_policy.specs.Rules.{rule_of, rule_seq}
use Rattle.ug_policy.specs.Refusals.{refusal_in_order}
use Rattle.ug_policy.proofs.Shown.{ascending_shown, refusal_as_given, kept, origins_as_given}
use Rattle.ug_policy.proofs.map.RouteMap.new.Goals as goal

-- ---- what the sorted entries show is the rules in ascending order

pub returns-in-Some : goal.returns-in-Some
returns-in-Some c =
    let rules = map rule_of c.args.entries.items in
    let shown : map rule_of c.as_slice.result.now ≡ ascending rule_seq rules =
    ap (map rule_of) (c.as_slice.ensures.value ∙ c.in-Ok.ensures ∙ ap (ascending (λ (e : MapEntry). e.seq)) c.into_vec.ensures) ∙ ascending_shown c.args.entries.items in
    sym (refusal_as_given c.args.lists.now.items rules) ∙ ap (refusal_in_order c.args.lists.now.items) (sym shown) ∙ sym c.refusal_in_order.ensures ∙ c.in-Some.is

pub invariant_of-result : goal.invariant_of-result
invariant_of-result c =
    let rules = map rule_of c.args.entries.items in
    let shown : map rule_of c.from_vec.result.items ≡ ascending rule_seq rules =
    ap (map rule_of) (c.from_vec.ensures.items ∙ c.in-Ok.ensures ∙ ap (ascending (λ (e : MapEntry). e.seq)) c.into_vec.ensures) ∙ ascending_shown c.args.entries.items in
    let tested =
    ap (λ (es : List MapEntry). refusal_in_order c.args.lists.now.items (map rule_of es)) (c.from_vec.ensures.items ∙ sym c.as_slice.ensures.value) ∙ sym c.refusal_in_order.ensures ∙ c.in_default-refusal_in_order.is in
    kept c.args.lists.now.items (map rule_of c.from_vec.result.items) tested (rw shown (origins_as_given rules c.requires.origins))

pub returns : goal.returns
returns c =
    let rules = map rule_of c.args.entries.items in
    let sorted : map rule_of c.as_slice.result.now ≡ ascending rule_seq rules =
    ap (map rule_of) (c.as_slice.ensures.value ∙ c.in-Ok.ensures ∙ ap (ascending (λ (e : MapEntry). e.seq)) c.into_vec.ensures) ∙ ascending_shown c.args.entries.items in (
      sym (refusal_as_given c.args.lists.now.items rules) ∙ ap (refusal_in_order c.args.lists.now.items) (sym sorted) ∙ sym c.refusal_in_order.ensures ∙ c.in_default-refusal_in_order.is,
      ap (map rule_of) (c.from_vec.ensures.items ∙ sym c.as_slice.ensures.value) ∙ sorted,
    )
