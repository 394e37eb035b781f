use Rattle.std.proofs.Common.{sym, ap, ◌∙◌, subst, arith}
use Rattle.std.specs.Map.{keys_of, remove_entry}
use Rattle.std.specs.List.Sorted.{IsStrictlySortedBy}
use Rattle.std.specs.Ordering.{nat_cmp}
use Rattle.ug_queue.specs.Queues.{is_member}
use Rattle.ug_queue.proofs.Searches.{found, removed_sorted}
use Rattle.ug_queue.proofs.cursors.Cursors.remove.Goals as goal

pub remove-entry-requires : goal.remove-entry-requires
remove-entry-requires c = omega (arith, (found c.args.member c.place-i.result c.self.inside.entries.items _ _ c.self.invariant c.deref.ensures.value c.self.view_is c.place-i.ensures.place c.requires).within, c.self.inside.entries.ok.0)

pub invariant_of-self : goal.invariant_of-self
invariant_of-self c =
    let gone = c.remove-entry.ensures.items ∙ (found c.args.member c.place-i.result c.self.inside.entries.items _ _ c.self.invariant c.deref.ensures.value c.self.view_is c.place-i.ensures.place c.requires).removed in
    subst (λ l. IsStrictlySortedBy nat_cmp (keys_of l)) (sym gone) (removed_sorted (is_member c.args.member) c.self.inside.entries.items c.self.invariant)

pub returns-clause-entries : goal.returns-clause-entries
returns-clause-entries c =
    let gone = c.remove-entry.ensures.items ∙ (found c.args.member c.place-i.result c.self.inside.entries.items _ _ c.self.invariant c.deref.ensures.value c.self.view_is c.place-i.ensures.place c.requires).removed in
    gone ∙ ap (remove_entry (is_member c.args.member)) c.self.view_is

pub returns-clause-ordered : goal.returns-clause-ordered
returns-clause-ordered c =
    let gone = c.remove-entry.ensures.items ∙ (found c.args.member c.place-i.result c.self.inside.entries.items _ _ c.self.invariant c.deref.ensures.value c.self.view_is c.place-i.ensures.place c.requires).removed in
    subst (λ l. IsStrictlySortedBy nat_cmp (keys_of l)) (sym gone) (removed_sorted (is_member c.args.member) c.self.inside.entries.items c.self.invariant)
