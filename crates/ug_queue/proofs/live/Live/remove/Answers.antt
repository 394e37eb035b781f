use Rattle.std.specs.Prelude.{slice_get, slice_set, Some, None, IsSome}
use Rattle.std.proofs.Common.{◌≡◌, sym, subst, ap, ◌∙◌}
use Rattle.ug_queue.specs.Spread.{spread_from, Rise, value_of, HasNone}
use Rattle.ug_queue.proofs.Spreading.{gone_where, read_there, rise_removed, removed_there}
use Rattle.ug_queue.proofs.live.Live.remove.Goals as goal

pub unreachable-requires : goal.unreachable-requires
unreachable-requires g c =
    let rows = c.self.inside.entries.items in let end = c.self.inside.next in
    let none : value_of c.args.g c.args.self.now ≡ None = ap (value_of c.args.g) (sym c.self.view_is) ∙ gone_where end c.args.g rows (subst (HasNone c.args.g) c.deref.ensures.value c.in_default.ensures.none) in
    let there = subst IsSome none c.requires in cc

pub invariant_of-self : goal.invariant_of-self
invariant_of-self g c =
    let found = c.in-Some.ensures.found in let rows = c.self.inside.entries.items in let end = c.self.inside.next in
    let here : slice_get rows c.in-Some.i ≡ Some (c.args.g, found.0) = ap (λ rs. slice_get rs c.in-Some.i) (sym c.deref.ensures.value) ∙ found.1 in
    subst (Rise 0 end) (sym c.remove-value.ensures.items) (rise_removed rows end c.args.g c.in-Some.i c.self.invariant found.0 here)

pub returns-clause-value : goal.returns-clause-value
returns-clause-value g c =
    let found = c.in-Some.ensures.found in let rows = c.self.inside.entries.items in let end = c.self.inside.next in
    let here : slice_get rows c.in-Some.i ≡ Some (c.args.g, found.0) = ap (λ rs. slice_get rs c.in-Some.i) (sym c.deref.ensures.value) ∙ found.1 in
    ap (value_of c.args.g) (sym c.self.view_is) ∙ read_there rows end c.args.g c.in-Some.i c.self.invariant found.0 here c.remove-value.result c.remove-value.ensures.value

pub returns-clause-gone : goal.returns-clause-gone
returns-clause-gone g c =
    let found = c.in-Some.ensures.found in let rows = c.self.inside.entries.items in let end = c.self.inside.next in
    let here : slice_get rows c.in-Some.i ≡ Some (c.args.g, found.0) = ap (λ rs. slice_get rs c.in-Some.i) (sym c.deref.ensures.value) ∙ found.1 in
    ap (spread_from 0 end) c.remove-value.ensures.items ∙ removed_there rows end c.args.g c.in-Some.i c.self.invariant found.0 here ∙ ap (λ xs. slice_set xs c.args.g None) c.self.view_is
