use Rattle.std.proofs.Common.{refl, inl, Some, subst}
use Rattle.std.specs.BTreeMap.{insert_entry}
use Rattle.std.specs.Cmp.{nat_cmp_total}
use Rattle.std.specs.FinMap.{nat_cmp-IsAntisymmetric}
use Rattle.ug_adjout.specs.TableLaws.{with_value-same}
use Rattle.ug_adjout.specs.Stored.{IsStored, with_change}
use Rattle.ug_adjout.proofs.Steps.{stored, agree_listed, place_before, waits_there}
use Rattle.ug_adjout.proofs.table.Table.keep.Goals as goal

pub put-requires : goal.put-requires
put-requires g c = rw (← c.self.view_is) at c.requires.there

pub invariant_of-self : goal.invariant_of-self
invariant_of-self g c =
    let s = c.self.invariant in
    let there = rw (← c.self.view_is) at c.requires.there in
    let waits = rw (← c.self.view_is) at c.requires.waits in
    let row = with_change c.args.row c.args.change.place c.args.change.desired in
    rw (c.put.ensures.rows, c.put.ensures.waiting)
    (subst (λ l. IsStored g.K.Ord.cmp (insert_entry g.K.Ord.cmp c.self.inside.queue.rows c.args.key row) l c.self.inside.next)
    (with_value-same nat_cmp_total nat_cmp-IsAntisymmetric c.self.inside.queue.waiting c.args.change.place (Some (record { key = c.args.key; value = c.args.change.desired })) s.in_line (waits_there _ _ _ s c.args.key c.args.change there waits))
    (stored g.met.K.Ord.total g.met.K.OutKey.exact _ _ _ s c.args.key c.args.change.place (agree_listed _ _ _ s c.args.key c.args.change there waits) (Some row) (Some (record { key = c.args.key; value = c.args.change.desired })) (refl, refl) c.requires.owed _ (inl refl)
    (λ _. place_before _ _ _ s c.args.key c.args.change there waits)))
