use Rattle.std.proofs.Common.{sym, ap, ◌∙◌, subst}
use Rattle.std.specs.Map.{keys_of}
use Rattle.std.specs.List.Sorted.{IsStrictlySortedBy}
use Rattle.std.specs.BTreeMap.{insert_entry}
use Rattle.std.specs.Ordering.{nat_cmp}
use Rattle.ug_queue.proofs.Searches.{put_at, inserted_sorted}
use Rattle.ug_queue.proofs.cursors.Cursors.insert.Goals as goal

pub invariant_of-self-2 : goal.invariant_of-self-2
invariant_of-self-2 c =
    let put = c.in_ok-insert.ensures.items ∙ put_at c.args.member c.place-i.result c.self.inside.entries.items _ _ c.self.invariant c.deref.ensures.value c.self.view_is c.place-i.ensures.place c.args.cursor c.requires in
    subst (λ l. IsStrictlySortedBy nat_cmp (keys_of l)) (sym put) (inserted_sorted c.args.member c.args.cursor c.self.inside.entries.items c.self.invariant)

pub returns-clause-entries : goal.returns-clause-entries
returns-clause-entries c =
    let put = c.in_ok-insert.ensures.items ∙ put_at c.args.member c.place-i.result c.self.inside.entries.items _ _ c.self.invariant c.deref.ensures.value c.self.view_is c.place-i.ensures.place c.args.cursor c.requires in
    put ∙ ap (λ l. insert_entry nat_cmp l c.args.member c.args.cursor) c.self.view_is

pub returns-clause-ordered : goal.returns-clause-ordered
returns-clause-ordered c =
    let put = c.in_ok-insert.ensures.items ∙ put_at c.args.member c.place-i.result c.self.inside.entries.items _ _ c.self.invariant c.deref.ensures.value c.self.view_is c.place-i.ensures.place c.args.cursor c.requires in
    subst (λ l. IsStrictlySortedBy nat_cmp (keys_of l)) (sym put) (inserted_sorted c.args.member c.args.cursor c.self.inside.entries.items c.self.invariant)
