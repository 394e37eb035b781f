-- Entries are refused by what holds of them in ascending order.
use Rattle.std.proofs.Common.{◌≡◌, Bool, true, false, not, List, refl, ap, ◌∙◌}
use Rattle.ug_policy.specs.declared.list_entry.ListEntry.{ListEntry}
use Rattle.ug_policy.specs.Order.{ascending, repeats}
use Rattle.ug_policy.specs.Lists.{seq_of, is_good, list_refusal, refusal_in_order}
use Rattle.ug_policy.proofs.Sorting.{ascending_rises, ascending_all, ascending_length}

pub not_not : (b : Bool) → not (not b) ≡ b
not_not true = refl
not_not false = refl

pub refusal_as_given : (entries : List ListEntry) → refusal_in_order (ascending seq_of entries) ≡ list_refusal entries
refusal_as_given entries =
    rw (ap not (ascending_rises seq_of entries) ∙ not_not (repeats seq_of entries), ascending_all seq_of is_good entries, ascending_length seq_of entries) refl
