-- What a table was, version by version, told by changes.
use Rattle.std.specs.Prelude.{◌≡◌, ℕ, ◌⊎◌, false, List, [], ◌∷◌, ◌++◌, length, None, ◌≢◌, map, Option}
use Rattle.ug_types.specs.declared.key.Key.{Key}
use Rattle.ug_types.specs.Keys.{same_key}
use Rattle.ug_types.specs.Attributes.{Attributes}
use Rattle.ug_message.specs.Tables.{Table, among}
use Rattle.ug_message.specs.Climbing.{values_at}
use Rattle.ug_hearing.specs.declared.change.Change.{Change}
use Rattle.ug_hearing.specs.Pasts.{Value, value_before, IsToldBy}
use Rattle.ug_hearing.specs.Keyed.{value_for}
use Rattle.ug_hearing.specs.Courses.{changes_of}

-- The changes tell what each key had in these tables.
abbrev pub IsLog : List (Key × List Change) → List Table → Type 0
IsLog entries tables = (key : Key) → IsToldBy (values_at key tables) 0 None (changes_of entries key)

-- A change is added where the value is another than the last.
abbrev pub AddsChange : ℕ → Value → List Change → List Change → Type 0
AddsChange version v old new =
    ((new ≡ old) × (value_before (length old) old ≡ v)) ⊎ ((c : Change) × (new ≡ old ++ c ∷ []) × (c.place ≡ version) × (c.value ≡ v) × (value_before (length old) old ≢ v))

-- So it is of one key, and every other is as it was.
pub record IsNoted (version : ℕ) (key : Key) (v : Value) (old new : List (Key × List Change)) : Type 0 where
  pub adds : AddsChange version v (changes_of old key) (changes_of new key)
  pub others : (q : Key) → same_key key q ≡ false → value_for new q ≡ value_for old q

-- A table was noted under these keys: behind it the changes tell one table more, where each other key has what it had last.
abbrev pub AreNoted : ℕ → List Key → List (Option Attributes) → List (Key × List Change) → List (Key × List Change) → Type 0
AreNoted version keys values old new =
    (tables : List Table) (table : Table) → IsLog old tables → length tables ≡ version → values ≡ map table keys
    → ((q : Key) → among keys q ≡ false → value_before (length (changes_of old q)) (changes_of old q) ≡ table q) → IsLog new (tables ++ table ∷ [])
