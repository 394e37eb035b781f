use Rattle.std.proofs.Common.{◌+◌, arith, refl, inr, Some}
use Rattle.ug_adjout.specs.Stored.{with_change}
use Rattle.ug_adjout.proofs.Steps.{stored, agree_free, next_free}
use Rattle.ug_adjout.proofs.table.Table.begin.Goals as goal

pub begin-requires-clause-there : goal.begin-requires-clause-there
begin-requires-clause-there g c = rw (← c.self.view_is) at c.requires.there

pub begin-requires-clause-free : goal.begin-requires-clause-free
begin-requires-clause-free g c = next_free _ _ _ c.self.invariant c.args.key

pub invariant_of-self-2 : goal.invariant_of-self-2
invariant_of-self-2 g c =
    let s = c.self.invariant in
    let was = agree_free _ _ _ s c.args.key (rw (← c.self.view_is) at c.requires.free) in
    rw (c.in_ok-begin.ensures.rows, c.in_ok-begin.ensures.waiting)
    (stored g.met.K.Ord.total g.met.K.OutKey.exact _ _ _ s c.args.key c.self.inside.next was (Some (with_change c.args.row c.self.inside.next c.args.desired))
    (Some (record { key = c.args.key; value = c.args.desired })) (refl, refl) c.requires.owed (c.self.inside.next + 1) (inr refl) (λ _. omega arith))
