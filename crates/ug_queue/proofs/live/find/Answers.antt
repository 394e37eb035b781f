use Rattle.std.proofs.Common.{arith, sym, ap, ◌∙◌, Some}
use Rattle.std.specs.Prelude.{ℕ}
use Rattle.ug_queue.proofs.Spreading.{none_past, none_other, read}
use Rattle.ug_queue.proofs.live.find.Goals as goal

pub returns-then-i-entries-clause-none : goal.returns-then-i-entries-clause-none
returns-then-i-entries-clause-none g c = none_past c.args.entries.now c.requires.0 c.args.g c.place-i.result c.requires.1 c.place-i.ensures.place c.if-i-entries.true c.args.g (omega arith)

pub returns-then-number-g-clause-none : goal.returns-then-number-g-clause-none
returns-then-number-g-clause-none g c =
    let rows = c.args.entries.now in let row = c.index-entries-i.result in
    none_other rows c.requires.0 c.args.g c.place-i.result c.requires.1 c.place-i.ensures.place row (read rows c.place-i.result row c.if-i-entries.false c.index-entries-i.is)
    (λ same. c.if-number-g.true (ap (λ (r : ℕ × _). r.0) (sym c.index-entries-i.is) ∙ same))

pub returns-clause-found : goal.returns-clause-found
returns-clause-found g c =
    let rows = c.args.entries.now in let row = c.index-entries-i.result in
    (row.1, read rows c.place-i.result row c.if-i-entries.false c.index-entries-i.is ∙ ap (λ (k : ℕ). Some (k, row.1)) (ap (λ (r : ℕ × _). r.0) c.index-entries-i.is ∙ c.if-number-g.false))
