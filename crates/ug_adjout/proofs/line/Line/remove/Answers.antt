use Rattle.std.proofs.Common.{◌≡◌, ℕ, Option, None, Some, false, refl, sym, ◌∙◌}
use Rattle.std.specs.Prelude.{is_some}
use Rattle.ug_adjout.proofs.Slots.{indexed_gone}
use Rattle.ug_adjout.proofs.ByPlace.{placed_is}
use Rattle.ug_adjout.proofs.Values.{line, none_there}
use Rattle.ug_adjout.proofs.line.Line.remove.Goals as goal

none_is : (v : Option ℕ) → is_some v ≡ false → v ≡ None
none_is None e = refl
none_is (Some x) e = absurd cc

pub invariant_of-self : goal.invariant_of-self
invariant_of-self g c =
    let is = rw (← c.self.view_is) at c.requires in
    rw (c.remove.ensures.entries, c.remove-then-is_some.ensures, c.of-slot.ensures)
    (line _ _ c.self.invariant c.args.place None _ _ (indexed_gone _ _ c.self.invariant.indexed c.args.place c.args.was is) refl)

pub invariant_of-self-else-is_some : goal.invariant_of-self-else-is_some
invariant_of-self-else-is_some g c =
    let is = rw (← c.self.view_is) at c.requires in
    rw (c.remove.ensures.entries, c.of-slot.ensures)
    (line _ _ c.self.invariant c.args.place None _ _ (indexed_gone _ _ c.self.invariant.indexed c.args.place c.args.was is)
    (none_there _ _ c.self.invariant c.args.place (Some c.args.was) is (none_is c.args.was.value (sym c.is_some.ensures ∙ c.if-is_some.false))))

pub returns-then-is_some : goal.returns-then-is_some
returns-then-is_some g c =
    let is = rw (← c.self.view_is) at c.requires in
    rw (c.remove.ensures.entries, c.of-slot.ensures, ← c.self.view_is) (placed_is _ _ (indexed_gone _ _ c.self.invariant.indexed c.args.place c.args.was is))

pub returns-else-is_some : goal.returns-else-is_some
returns-else-is_some g c =
    let is = rw (← c.self.view_is) at c.requires in
    rw (c.remove.ensures.entries, c.of-slot.ensures, ← c.self.view_is) (placed_is _ _ (indexed_gone _ _ c.self.invariant.indexed c.args.place c.args.was is))
