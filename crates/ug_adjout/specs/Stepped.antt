-- What becomes of a key's row, and of the list of waiting keys, where the key is desired anew or is formatted. A key without
-- a row is one of which the row says nothing.
use Rattle.std.specs.Prelude.{◌≡◌, ℕ, nat_eq, Bool, false, is_some, List, Option, Some, None, if◌then◌else◌}
use Rattle.std.specs.Option.{option_eq}
use Rattle.std.specs.Ordering.{nat_cmp}
use Rattle.std.specs.Map.{remove_entry}
use Rattle.std.specs.BTreeMap.{insert_entry, is_at}
use Rattle.ug_adjout.specs.Tables.{value_at}
use Rattle.ug_adjout.specs.declared.row.Row.{Row}
use Rattle.ug_adjout.specs.declared.row.Change.{Change}
use Rattle.ug_adjout.specs.declared.waiting.Waiting.{Waiting}
use Rattle.ug_adjout.specs.declared.step.Step.{Step}
use Rattle.ug_adjout.specs.declared.step.Step.TheVariants.{Want, Format}
use Rattle.ug_adjout.specs.Stored.{is_owed, with_change, quiet}

abbrev pub known : Option Row → Row
known None = record { formatted = None; forced = false; change = None }
known (Some row) = row

-- a row whose key waits keeps its place, and one whose key waits for nothing becomes quiet
abbrev pub wanted_by : Row → Change → Option Change → Option Row
wanted_by row want None = if option_eq nat_eq row.formatted want.desired then quiet row.formatted else Some (with_change row want.place want.desired)
wanted_by row want (Some change) = if is_owed row.formatted want.desired row.forced then Some (with_change row change.place want.desired) else quiet row.formatted

abbrev pub formatted_by : Row → Option Change → Option Row
formatted_by row None = quiet row.formatted
formatted_by row (Some change) = quiet change.desired

abbrev pub stepped : Step → Row → Option Row
stepped (Want want) row = wanted_by row want row.change
stepped Format row = formatted_by row row.change

-- a key without a row gets one where it is desired
abbrev pub makes_row : Step → Bool
makes_row (Want want) = is_some want.desired
makes_row Format = false

module _ {K : Type 0} where
  abbrev pub wanted_in : K → Row → Change → Option Change → List (ℕ × Waiting K) → List (ℕ × Waiting K)
  wanted_in key row want None line = if option_eq nat_eq row.formatted want.desired then line else insert_entry nat_cmp line want.place (record { key = key; value = want.desired })
  wanted_in key row want (Some change) line =
      if is_owed row.formatted want.desired row.forced then insert_entry nat_cmp line change.place (record { key = key; value = want.desired }) else remove_entry (is_at (nat_cmp change.place)) line

  abbrev pub formatted_in : Option Change → List (ℕ × Waiting K) → List (ℕ × Waiting K)
  formatted_in None line = line
  formatted_in (Some change) line = remove_entry (is_at (nat_cmp change.place)) line

  abbrev pub lined : Step → K → Row → List (ℕ × Waiting K) → List (ℕ × Waiting K)
  lined (Want want) key row line = wanted_in key row want row.change line
  lined Format key row line = formatted_in row.change line

  -- a row that waits has its place in the list, and nothing waits at the place that another gets
  abbrev pub IsReadyBy : Step → K → Option Change → List (ℕ × Waiting K) → Type 0
  IsReadyBy (Want want) key None line = value_at nat_cmp line want.place ≡ None
  IsReadyBy (Want want) key (Some change) line = value_at nat_cmp line change.place ≡ Some (record { key = key; value = change.desired })
  IsReadyBy Format key None line = Unit {0}
  IsReadyBy Format key (Some change) line = value_at nat_cmp line change.place ≡ Some (record { key = key; value = change.desired })

  abbrev pub IsReady : Step → K → Row → List (ℕ × Waiting K) → Type 0
  IsReady step key row line = IsReadyBy step key row.change line
