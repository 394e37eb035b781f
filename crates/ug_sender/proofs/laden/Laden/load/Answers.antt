use Rattle.std.proofs.Common.{◌≡◌, ◌+◌, inl, inr, length, take, refl, sym, subst, ◌∙◌, ap, arith}
use Rattle.std.specs.Prelude.{IsSome}
use Rattle.ug_sender.specs.Lanes.{pass_deeds}
use Rattle.ug_sender.proofs.Loads.{nothing-told, load-told, turn-adds, load-joined}
use Rattle.ug_sender.proofs.laden.Laden.load.Goals.{then-is_begun-via-then-is_begun, then-is_begun-via-else-is_begun+then-len-self-lt-LONGEST_MESSAGE}
use Rattle.ug_sender.proofs.laden.Laden.load.Goals as goal

pub returns-then-is_begun-clause-told : goal.returns-then-is_begun-clause-told
returns-then-is_begun-clause-told g c = nothing-told g.M.Machine.rules _

pub returns-then-is_begun-clause-fill : goal.returns-then-is_begun-clause-fill
returns-then-is_begun-clause-fill g c =
    elim c.then-is_begun.branch [
      | then-is_begun-via-then-is_begun w ↦ inl (subst (λ v. IsSome v.waiting) c.self.view_is (c.is_begun.ensures.yes w.if-is_begun.true))
      | then-is_begun-via-else-is_begun+then-len-self-lt-LONGEST_MESSAGE w ↦ inr (let filled = ap (λ v. v.filled) c.self.view_is in let many = c.self.invariant.1 in omega (arith, filled, w.len.ensures, w.if-len-self-lt-LONGEST_MESSAGE.true, many))
    ]

pub invariant_of-self : goal.invariant_of-self
invariant_of-self g c =
    let lane = c.self.invariant.0 in
    let taken = c.take_behind-taken in
    let whole : length taken.new.buf ≡ c.self.inside.buf.len = omega (arith, taken.auto.buf, c.as_mut_slice.ensures.len) in (
      record {
        free = taken.ensures.free;
        own = taken.ensures.own;
        before = lane.before;
        courses = lane.courses;
        kept = lane.kept;
        count = lane.count + taken.result.packets;
        load = load-joined c.self.inside.latest (record { packets = lane.count; filled = c.self.inside.filled; ending = c.self.inside.ending }) taken.result
            c.self.inside.buf.items taken.new.buf _ c.self.inside.buf.len _ _ _
            lane.load (c.is_begun.ensures.no c.if-is_begun.false) whole (sym c.self.inside.buf.ok.0)
            (taken.ensures.front ∙ ap (take c.self.inside.filled) c.as_mut_slice.ensures.value) taken.ensures.told;
      },
      c.self.invariant.1,
    )

pub returns-clause-told : goal.returns-clause-told
returns-clause-told g c =
    load-told g.M.Machine.rules _ _ _ c.take_behind-taken.result _ c.self.view_is c.take_behind-taken.ensures.told (c.is_begun.ensures.no c.if-is_begun.false) refl refl

pub returns-clause-come : goal.returns-clause-come
returns-clause-come g c has same =
    turn-adds _ c.take_behind-taken.result _ _ _ c.take_behind-taken.ensures.told (c.load_of.ensures.come has)
    (same ∙ sym (ap (λ l. pass_deeds g.M.Machine.rules l.lane.pass) c.self.view_is))
