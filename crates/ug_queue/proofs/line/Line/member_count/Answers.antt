use Rattle.std.proofs.Common.{length, sym, ap, ◌∙◌, subst}
use Rattle.std.specs.Map.{keys_of}
use Rattle.std.specs.List.Sorted.{IsStrictlySortedBy}
use Rattle.std.specs.Ordering.{nat_cmp}
use Rattle.ug_queue.specs.Lines.{place_from}
use Rattle.ug_queue.proofs.Placed.{keys_of-mapped}
use Rattle.ug_queue.proofs.Kept.{length-mapped}
use Rattle.ug_queue.proofs.line.Line.member_count.Goals as goal

pub returns-clause-count : goal.returns-clause-count
returns-clause-count g c = c.len.ensures.len ∙ sym (length-mapped (place_from c.self.inside.start) c.self.inside.cursors) ∙ ap (λ v. length v.places) c.self.view_is

pub returns-clause-sorted : goal.returns-clause-sorted
returns-clause-sorted g c =
    subst (λ v. IsStrictlySortedBy nat_cmp (keys_of v.places)) c.self.view_is
    (subst (IsStrictlySortedBy nat_cmp) (sym (keys_of-mapped (place_from c.self.inside.start) c.self.inside.cursors)) c.len.ensures.ordered)
