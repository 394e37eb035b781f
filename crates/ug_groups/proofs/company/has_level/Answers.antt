use Rattle.std.proofs.Common.{ℕ, sym, ap, ◌∙◌}
use Rattle.std.proofs.lemmas.Option.{get_or_from_slice_get}
use Rattle.ug_groups.specs.declared.entry.Entry.{Entry}
use Rattle.ug_groups.specs.Company.{is_level_of}
use Rattle.ug_groups.proofs.Alike.{unlike_more}
use Rattle.ug_groups.proofs.company.has_level.Goals as goal

pub loop-i-preserved : goal.loop-i-preserved
loop-i-preserved c =
    unlike_more c.loop-i.i c.args.entries.now c.args.class c.loop-i.invariant
    (λ r at. ap (λ (x : ℕ × Entry). is_level_of c.args.class x.1) (sym (get_or_from_slice_get c.args.entries.now c.loop-i.i r c.index-entries-i.result at))
    ∙ sym c.is_level_of.ensures ∙ c.if-is_level_of.false)
