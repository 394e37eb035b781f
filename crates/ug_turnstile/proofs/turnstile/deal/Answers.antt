use Rattle.std.proofs.Common.{◌+◌, ◌-◌, ◌<◌, ◌≤◌, false, [], ap, sym, ◌∙◌, refl, arith}
use Rattle.std.proofs.lemmas.List.FromFn.{map-range_with_len_more}
use Rattle.ug_turnstile.specs.Passes.{fresh_pass}
use Rattle.ug_turnstile.specs.Rule.{view, part, fresh_parts, first_part, later_parts}
use Rattle.ug_turnstile.proofs.Steps.{splits, fresh_next, fresh_apart}
use Rattle.ug_turnstile.proofs.turnstile.deal.Goals as goal

pub split_seat-seat-requires : goal.split_seat-seat-requires
split_seat-seat-requires g c =
    let root = g.S.Logged.root c.args.shared.now.key.state.value in
    let i = c.loop-number.number in
    let me = c.loop-number.invariant.2 ∙ ap (λ ps. (view false ps, [])) (fresh_next g.row.S-Entry.Denot root i c.args.n c.loop-number-test.true) in (
      c.loop-number.invariant.1,
      c.requires.words,
      rw me (splits g.S.Logged.owner g.S.Logged.root g.S.Logged.entries g.S.Logged.spent root c.args.shared.now.key.count (part i root [] false) (fresh_parts root (i + 1) (c.args.n - (i + 1))) c.loop-number.base.id (fresh_apart g.row.S-Entry.Denot root i (i + 1) (c.args.n - (i + 1)) (omega arith))),
    )

pub invariant_of-push : goal.invariant_of-push
invariant_of-push g c =
    let root = g.S.Logged.root c.args.shared.now.key.state.value in
    let i = c.loop-number.number in
    let me = c.loop-number.invariant.2 ∙ ap (λ ps. (view false ps, [])) (fresh_next g.row.S-Entry.Denot root i c.args.n c.loop-number-test.true) in
    let new = c.split_seat-seat.ensures.4 ∙ ap (λ m. (view false (first_part m.0.parts), [])) me in
    (part i root [] false, refl, rw new refl)

pub loop-number-preserved : goal.loop-number-preserved
loop-number-preserved g c =
    let root = g.S.Logged.root c.args.shared.now.key.state.value in
    let id = c.args.shared.now.table_id in
    let i = c.loop-number.number in
    let lt : i < c.args.n = c.loop-number-test.true in
    let room : c.args.n - i ≤ c.loop-number.passes.spare = c.loop-number.invariant.4 in
    let spare : c.loop-number.passes.spare ≤ c.push.new.self.spare + 1 = c.push.ensures.spare in
    let me = c.loop-number.invariant.2 ∙ ap (λ ps. (view false ps, [])) (fresh_next g.row.S-Entry.Denot root i c.args.n lt) in
    let new = c.split_seat-seat.ensures.4 ∙ ap (λ m. (view false (first_part m.0.parts), [])) me in (
      omega arith,
      c.split_seat-seat.ensures.0 ∙ c.loop-number.invariant.1,
      c.split_seat-seat.ensures.2 ∙ ap (λ m. (view m.0.holds (later_parts m.0.parts), m.1)) me,
      c.in-Ok.ensures.ok ∙ (rw (new, c.split_seat-seat.ensures.3, c.loop-number.invariant.1, c.loop-number.invariant.3) refl ∙ sym (map-range_with_len_more (fresh_pass id root) 0 i i (omega arith))),
      omega arith,
    )
