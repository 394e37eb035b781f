use Rattle.std.proofs.Common.{◌≡◌, ℕ, List, length, slice_get, slice_range, Some, sym, ◌∙◌, ap, subst, arith}
use Rattle.ug_hearing.specs.Lists.{start_at}
use Rattle.ug_hearing.proofs.Lying.{lists-count, list-at}
use Rattle.ug_hearing.proofs.lists.Lists.at.Goals as goal

pub bounds-from-requires-clause-laid : goal.bounds-from-requires-clause-laid
bounds-from-requires-clause-laid g c = rw (c.deref.ensures.value, c.as_slice-items.ensures.value) c.self.invariant

pub bounds-from-requires-clause-inside : goal.bounds-from-requires-clause-inside
bounds-from-requires-clause-inside g c =
    let count = lists-count 0 c.self.inside.ends.items c.self.inside.items.items in
    let all = ap (λ (ls : List (List _)). length ls) c.self.view_is in
    let less = c.requires in
    rw c.deref.ensures.value (omega (arith, count, all, less))

pub returns : goal.returns
returns g c =
    let items = c.self.inside.items.items in
    let from = c.bounds-from.result.0 in
    let to = c.bounds-from.result.1 in
    ap (λ (ls : List (List _)). slice_get ls c.args.place) (sym c.self.view_is)
    ∙ (list-at 0 c.self.inside.ends.items items c.args.place to (subst (λ (ns : List ℕ). slice_get ns c.args.place ≡ Some to) c.deref.ensures.value c.bounds-from.ensures.end)
    ∙ (ap (λ (n : ℕ). Some (slice_range items n to)) (sym (c.bounds-from.ensures.start ∙ ap (λ (ns : List ℕ). start_at 0 ns c.args.place) c.deref.ensures.value))
    ∙ ap (λ (xs : List _). Some (slice_range xs from to)) (sym c.as_slice-items.ensures.value)))
