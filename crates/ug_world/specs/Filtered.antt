-- Which sequences a filter has as it is changed.
use Rattle.std.specs.Prelude.{ℕ, ◌+◌, ◌-◌, ◌==◌, Bool, true, false, ◌&&◌, ◌||◌, not, List, Option, Some, None}
use Rattle.std.specs.List.{list_any}
use Rattle.ug_policy.specs.declared.list_entry.ListEntry.{ListEntry}
use Rattle.ug_policy.specs.declared.orf_action.Action.{Action}
use Rattle.ug_policy.specs.declared.orf_action.Action.TheVariants.{Add, Remove, RemoveAll}
use Rattle.ug_policy.specs.OrfChanges.{OrfChange}

-- an entry of that sequence is there
abbrev pub has_seq : ℕ → List ListEntry → Bool
has_seq seq entries = list_any (λ (e : ListEntry). e.seq == seq) entries

-- whether it is there after one change, where it was or wasn't before
abbrev pub has_then : Bool → Action → Option ListEntry → ℕ → Bool
has_then there RemoveAll entry seq = false
has_then there Add (Some e) seq = (e.seq == seq) || there
has_then there Remove (Some e) seq = there && not (e.seq == seq)
has_then there Add None seq = there
has_then there Remove None seq = there

abbrev pub has_seq_then : Bool → OrfChange → ℕ → Bool
has_seq_then there c seq = has_then there c.action c.entry seq

-- how many entries there are after one change, where there were so many, and one of its sequence or not
abbrev pub count_then : ℕ → Bool → Action → Option ListEntry → ℕ
count_then count there RemoveAll entry = 0
count_then count true Add (Some e) = count
count_then count false Add (Some e) = count + 1
count_then count true Remove (Some e) = count - 1
count_then count false Remove (Some e) = count
count_then count there Add None = count
count_then count there Remove None = count
