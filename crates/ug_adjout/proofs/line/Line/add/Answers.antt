use Rattle.std.proofs.Common.{◌≡◌, None, Some, refl, sym, ap, ◌∙◌}
use Rattle.std.specs.Ordering.{nat_cmp}
use Rattle.ug_adjout.specs.Tables.{with_value}
use Rattle.ug_adjout.specs.Places.{slot_total}
use Rattle.ug_adjout.proofs.Steps.{put_back}
use Rattle.ug_adjout.proofs.Slots.{slot, slot_exact, indexed_added, free_slot}
use Rattle.ug_adjout.proofs.ByPlace.{placed_is}
use Rattle.ug_adjout.proofs.Values.{line, none_there}
use Rattle.ug_adjout.proofs.line.Line.add.Goals as goal

pub invariant_of-self-in_default : goal.invariant_of-self-in_default
invariant_of-self-in_default g c =
    let none = rw (← c.self.view_is) at c.requires in
    rw (c.in_ok-insert.ensures.entries, c.of-slot.ensures)
    (line _ _ c.self.invariant c.args.place (Some c.args.waiting) _ _ (indexed_added _ _ c.self.invariant.indexed c.args.place c.args.waiting none)
    (none_there _ _ c.self.invariant c.args.place None none refl ∙ sym (ap (with_value nat_cmp c.self.inside.announced c.args.place) c.in_default.is)))

pub returns-in_default-clause-ok : goal.returns-in_default-clause-ok
returns-in_default-clause-ok g c =
    let none = rw (← c.self.view_is) at c.requires in
    rw (c.in_ok-insert.ensures.entries, c.of-slot.ensures, ← c.self.view_is) (placed_is _ _ (indexed_added _ _ c.self.invariant.indexed c.args.place c.args.waiting none))

pub invariant_of-self-in-Ok : goal.invariant_of-self-in-Ok
invariant_of-self-in-Ok g c =
    let none = rw (← c.self.view_is) at c.requires in
    rw (c.in_ok-insert.ensures.entries, c.in-Ok.ensures.ok, c.of-slot.ensures)
    (line _ _ c.self.invariant c.args.place (Some c.args.waiting) _ _ (indexed_added _ _ c.self.invariant.indexed c.args.place c.args.waiting none)
    (sym (ap (with_value nat_cmp c.self.inside.announced c.args.place) c.in-Some.is)))

pub returns-clause-ok : goal.returns-clause-ok
returns-clause-ok g c =
    let none = rw (← c.self.view_is) at c.requires in
    rw (c.in_ok-insert.ensures.entries, c.of-slot.ensures, ← c.self.view_is) (placed_is _ _ (indexed_added _ _ c.self.invariant.indexed c.args.place c.args.waiting none))

back : (g : _) (c : goal.After-remove g) → c.remove.new.self.entries ≡ c.self.inside.keys.entries
back g c =
    let none = rw (← c.self.view_is) at c.requires in
    rw (c.remove.ensures.entries, c.in_ok-insert.ensures.entries, c.of-slot.ensures)
    (put_back slot_total slot_exact (slot c.args.waiting.value c.args.place) c.args.waiting.key c.self.inside.keys.entries (free_slot _ _ c.self.invariant.indexed c.args.place c.args.waiting.value None none refl))

pub invariant_of-self-in_default-insert : goal.invariant_of-self-in_default-insert
invariant_of-self-in_default-insert g c = rw (c.in_default-insert.ensures.err, back g c) c.self.invariant

pub returns-in_default-insert-clause-err : goal.returns-in_default-insert-clause-err
returns-in_default-insert-clause-err g c = rw (back g c) c.self.view_is
