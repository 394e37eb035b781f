use Rattle.std.proofs.Common.{sym, refl}
use Rattle.ug_intern.proofs.Seats.{turn_by, turn_set, swapped, kept_gone, gone_view, kept_moved, moved_view, still_seated}
use Rattle.ug_intern.proofs.pool.Pool.remove.Goals as goal

pub invariant_of-self : goal.invariant_of-self
invariant_of-self g c =
    let was = sym c.in-Some.ensures.value in let turn = turn_by c.self.inside.seats c.self.inside.seats c.try_remove.new.self c.args.id c.args.id _ refl refl c.in-Some.ensures.updates in
    let less = swapped g.T.PartialEq.eq _ _ c.self.invariant c.args.id c.in-Some.seat _ _ was c.swap_remove_index.ensures.entry c.swap_remove_index.ensures.entries in
    kept_gone g.T.PartialEq.eq _ _ c.self.invariant c.args.id c.in-Some.seat less.0 _ _ was turn less.1 c.swap_remove_index.ensures.unique (sym c.in_default-get_index.ensures.entry)

pub returns-in_default-get_index : goal.returns-in_default-get_index
returns-in_default-get_index g c =
    let was = sym c.in-Some.ensures.value in let turn = turn_by c.self.inside.seats c.self.inside.seats c.try_remove.new.self c.args.id c.args.id _ refl refl c.in-Some.ensures.updates in
    let less = swapped g.T.PartialEq.eq _ _ c.self.invariant c.args.id c.in-Some.seat _ _ was c.swap_remove_index.ensures.entry c.swap_remove_index.ensures.entries in
    rw (← c.self.view_is) (gone_view g.T.PartialEq.eq _ _ c.self.invariant c.args.id c.in-Some.seat less.0 _ _ was turn less.1 c.swap_remove_index.ensures.unique (sym c.in_default-get_index.ensures.entry))

pub unreachable-requires-in_default-get_mut : goal.unreachable-requires-in_default-get_mut
unreachable-requires-in_default-get_mut g c =
    let was = sym c.in-Some.ensures.value in let turn = turn_by c.self.inside.seats c.self.inside.seats c.try_remove.new.self c.args.id c.args.id _ refl refl c.in-Some.ensures.updates in
    let less = swapped g.T.PartialEq.eq _ _ c.self.invariant c.args.id c.in-Some.seat _ _ was c.swap_remove_index.ensures.entry c.swap_remove_index.ensures.entries in
    let there = still_seated g.T.PartialEq.eq _ _ c.self.invariant c.args.id c.in-Some.seat less.0 _ _ was turn less.1 c.swap_remove_index.ensures.unique _ (sym c.in-Some-get_index.ensures.entry) in
    let none = c.in_default-get_mut.ensures.value in cc (there, none)

pub invariant_of-self-2 : goal.invariant_of-self-2
invariant_of-self-2 g c =
    let was = sym c.in-Some.ensures.value in let turn = turn_by c.self.inside.seats c.self.inside.seats c.try_remove.new.self c.args.id c.args.id _ refl refl c.in-Some.ensures.updates in
    let less = swapped g.T.PartialEq.eq _ _ c.self.invariant c.args.id c.in-Some.seat _ _ was c.swap_remove_index.ensures.entry c.swap_remove_index.ensures.entries in
    let old = sym c.in-Some-get_mut.ensures.value in
    kept_moved g.T.PartialEq.eq _ _ c.self.invariant c.args.id c.in-Some.seat less.0 _ _ was turn less.1 c.swap_remove_index.ensures.unique _ (sym c.in-Some-get_index.ensures.entry)
    c.in-Some-get_mut.other.now _ old (turn_set _ _ _ _ old)

pub returns : goal.returns
returns g c =
    let was = sym c.in-Some.ensures.value in let turn = turn_by c.self.inside.seats c.self.inside.seats c.try_remove.new.self c.args.id c.args.id _ refl refl c.in-Some.ensures.updates in
    let less = swapped g.T.PartialEq.eq _ _ c.self.invariant c.args.id c.in-Some.seat _ _ was c.swap_remove_index.ensures.entry c.swap_remove_index.ensures.entries in
    let old = sym c.in-Some-get_mut.ensures.value in
    rw (← c.self.view_is) (moved_view g.T.PartialEq.eq _ _ c.self.invariant c.args.id c.in-Some.seat less.0 _ _ was turn less.1 c.swap_remove_index.ensures.unique _ (sym c.in-Some-get_index.ensures.entry)
    c.in-Some-get_mut.other.now _ old (turn_set _ _ _ _ old))
