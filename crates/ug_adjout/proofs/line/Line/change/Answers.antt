use Rattle.std.proofs.Common.{◌≡◌, None, Some, refl, sym, ap, subst, ◌∙◌}
use Rattle.std.specs.Ordering.{nat_cmp}
use Rattle.std.specs.Cmp.{nat_cmp_total}
use Rattle.std.specs.FinMap.{nat_cmp-IsAntisymmetric}
use Rattle.std.proofs.lemmas.Bool.{cond-false}
use Rattle.ug_adjout.specs.Tables.{IsTable}
use Rattle.ug_adjout.specs.TableLaws.{with_value-same}
use Rattle.ug_adjout.specs.Places.{slot_total}
use Rattle.ug_adjout.proofs.Steps.{put_back}
use Rattle.ug_adjout.proofs.Slots.{slot, slot_exact, same_value, indexed_moved, free_slot}
use Rattle.ug_adjout.proofs.ByPlace.{placed_is}
use Rattle.ug_adjout.proofs.Values.{line}
use Rattle.ug_adjout.proofs.line.Line.change.Goals as goal

pub returns-then-eq-clause-ok : goal.returns-then-eq-clause-ok
returns-then-eq-clause-ok g c =
    sym (with_value-same nat_cmp_total nat_cmp-IsAntisymmetric c.args.self.now c.args.place _ (subst (IsTable nat_cmp) c.self.view_is c.self.invariant.indexed.in_line)
    (c.requires ∙ ap (λ v. Some (record { key = c.args.was.key; value = v })) (same_value c.args.was.value c.args.value (sym c.if-eq.ensures))))

back : (g : _) (c : goal.After-remove g) → c.remove.new.self.entries ≡ c.self.inside.keys.entries
back g c =
    let is = rw (← c.self.view_is) at c.requires in
    rw (c.remove.ensures.entries, c.in_ok-insert.ensures.entries, c.of-slot.ensures)
    (put_back slot_total slot_exact (slot c.args.value c.args.place) c.args.was.key c.self.inside.keys.entries
    (free_slot _ _ c.self.invariant.indexed c.args.place c.args.value (Some c.args.was) is (cond-false _ (Some c.args.was.key) None (sym c.if-eq.ensures))))

pub invariant_of-self-in_default : goal.invariant_of-self-in_default
invariant_of-self-in_default g c = rw (c.in_default.ensures.err, back g c) c.self.invariant

pub returns-in_default-clause-err : goal.returns-in_default-clause-err
returns-in_default-clause-err g c = rw (back g c) c.self.view_is

pub invariant_of-self-2 : goal.invariant_of-self-2
invariant_of-self-2 g c =
    let is = rw (← c.self.view_is) at c.requires in
    rw (c.remove-2.ensures.entries, c.in_ok-insert.ensures.entries, c.in-Ok.ensures.ok, c.of-slot.ensures, c.of-left.ensures)
    (line _ _ c.self.invariant c.args.place (Some (record { key = c.args.was.key; value = c.args.value })) _ _
    (indexed_moved _ _ c.self.invariant.indexed c.args.place c.args.was is c.args.value (sym c.if-eq.ensures)) refl)

pub returns-clause-ok : goal.returns-clause-ok
returns-clause-ok g c =
    let is = rw (← c.self.view_is) at c.requires in
    rw (c.remove-2.ensures.entries, c.in_ok-insert.ensures.entries, c.of-slot.ensures, c.of-left.ensures, ← c.self.view_is)
    (placed_is _ _ (indexed_moved _ _ c.self.invariant.indexed c.args.place c.args.was is c.args.value (sym c.if-eq.ensures)))
