use Rattle.std.specs.Prelude.{slice_get, slice_set, Some, None, IsSome}
use Rattle.std.proofs.Common.{◌≡◌, sym, subst, ap, ◌∙◌, refl}
use Rattle.ug_queue.specs.Spread.{value_of, HasNone}
use Rattle.ug_queue.proofs.Spreading.{gone_where, read_there, read_rise, read_changed}
use Rattle.ug_queue.proofs.live.Live.at_mut.Goals as goal

pub unreachable-requires : goal.unreachable-requires
unreachable-requires g c =
    let rows = c.self.inside.entries.items in let end = c.self.inside.next in
    let none : value_of c.args.g c.args.self.now ≡ None = ap (value_of c.args.g) (sym c.self.view_is) ∙ gone_where end c.args.g rows (subst (HasNone c.args.g) c.deref.ensures.value c.in_default.ensures.none) in
    let there = subst IsSome none c.requires in cc

pub invariant_of-self-lent : goal.invariant_of-self-lent
invariant_of-self-lent g c w =
    let found = c.in-Some.ensures.found in
    read_rise c.self.inside.entries.items c.self.inside.next c.args.g c.in-Some.i c.self.invariant found.0 (ap (λ rs. slice_get rs c.in-Some.i) (sym c.deref.ensures.value) ∙ found.1) c.index_mut-entry.result.now c.index_mut-entry.ensures.value w

pub returns : goal.returns
returns g c =
    let found = c.in-Some.ensures.found in
    let rows = c.self.inside.entries.items in let end = c.self.inside.next in
    let here : slice_get rows c.in-Some.i ≡ Some (c.args.g, found.0) = ap (λ rs. slice_get rs c.in-Some.i) (sym c.deref.ensures.value) ∙ found.1 in (
      (refl, λ w. read_changed rows end c.args.g c.in-Some.i c.self.invariant found.0 here c.index_mut-entry.result.now c.index_mut-entry.ensures.value w ∙ ap (λ xs. slice_set xs c.args.g (Some w)) c.self.view_is),
      record { writes_back = tt; value = ap (value_of c.args.g) (sym c.self.view_is) ∙ read_there rows end c.args.g c.in-Some.i c.self.invariant found.0 here c.index_mut-entry.result.now c.index_mut-entry.ensures.value },
    )
