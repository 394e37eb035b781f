use Rattle.std.specs.Prelude.{ℕ}
use Rattle.std.proofs.Common.{◌≡◌, sym, subst, ap, ◌∙◌, arith, inl, inr, slice_get}
use Rattle.std.proofs.lemmas.Bool.{cases_lt}
use Rattle.std.proofs.lemmas.Option.{slice_get_within, get_or_from_slice_get}
use Rattle.ug_groups.specs.declared.entry.Entry.{Entry}
use Rattle.ug_groups.specs.Rows.{IsRow}
use Rattle.ug_groups.specs.Entries.{row_in}
use Rattle.ug_groups.proofs.known.know_entries.Goals as goal

pub loop-entry-preserved : goal.loop-entry-preserved
loop-entry-preserved c i r less at = elim (cases_lt i c.loop-entry.entry-index) [
  | inl before ↦ c.loop-entry.invariant i r before at
  | inr here ↦
      let same : i ≡ c.loop-entry.entry-index = omega (arith, less, here) in
      let d = c.entry-item.result in
      let row : d ≡ r = c.entry-item.is ∙ get_or_from_slice_get c.args.all.now c.loop-entry.entry-index r d (ap (slice_get c.args.all.now) (sym same) ∙ at) in
      subst (λ (x : ℕ × Entry). IsRow (row_in c.args.pool.now x.1)) row c.know_entry.ensures
]

pub returns : goal.returns
returns c i r at = let within = slice_get_within c.args.all.now i r at in c.loop-entry.invariant i r (omega (arith, within, c.loop-entry-test.false)) at
