use Rattle.std.proofs.Common.{◌≡◌, ◌∷◌, ◌++◌, [], Some, sym, ap, ◌∙◌, subst, length}
use Rattle.indexmap.proofs.CallerLemmas.{insert_entry-new}
use Rattle.ug_intern.proofs.Seats.{Turns, seat, turn_by, none_of_new, kept_added, added_view}
use Rattle.ug_intern.proofs.pool.Pool.add.Goals as goal

turned : (g : _) (c : goal.After-insert_reserved g) → Turns c.self.inside.seats.slots c.insert_reserved.new.self.slots c.vacant_key-id.result (Some (seat (length c.self.inside.values.entries) 1))
turned g c =
    subst (λ n. Turns c.self.inside.seats.slots c.insert_reserved.new.self.slots c.vacant_key-id.result (Some (seat n 1))) c.len-place.ensures.len
    (turn_by c.self.inside.seats c.reserve.new.self c.insert_reserved.new.self c.vacant_key-id.result c.insert_reserved.result (Some (seat c.len-place.result 1))
    (ap (λ s. s.slots) c.reserve.ensures.rest_kept) (c.insert_reserved.ensures.key ∙ ap (λ s. s.vacant_key) c.reserve.ensures.rest_kept ∙ sym c.vacant_key-id.ensures.value) c.insert_reserved.ensures.updates)

added : (g : _) (c : goal.After-insert_reserved g) → c.insert.new.self.entries ≡ c.self.inside.values.entries ++ (c.args.value, c.vacant_key-id.result) ∷ []
added g c =
    c.in-Ok.ensures.entries
    ∙ insert_entry-new g.T.PartialEq.eq c.self.inside.values c.args.value c.vacant_key-id.result (none_of_new g.T.PartialEq.eq _ _ c.self.invariant c.args.value (rw (← c.self.view_is) at c.requires))

pub invariant_of-self-2 : goal.invariant_of-self-2
invariant_of-self-2 g c =
    kept_added g.T.PartialEq.eq _ _ c.self.invariant _ _ c.vacant_key-id.result c.args.value c.vacant_key-id.ensures.vacant (turned g c) (added g c) c.in-Ok.ensures.unique

pub returns-clause-ok : goal.returns-clause-ok
returns-clause-ok g c = rw (← c.self.view_is) (added_view g.T.PartialEq.eq _ _ c.self.invariant _ _ c.vacant_key-id.result c.args.value (turned g c) (added g c))
