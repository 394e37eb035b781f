-- What is known of all keys at one version, and how the next is met.
use Rattle.std.specs.Prelude.{◌≡◌, ℕ, ◌+◌, ◌<◌, ◌≤◌, false, true, List, [], ◌∷◌, ◌++◌, map, slice_get, Some}
use Rattle.std.specs.List.Sorted.{IsNonDecreasingBy}
use Rattle.std.specs.Map.{keys_of}
use Rattle.ug_types.specs.declared.key.Key.{Key}
use Rattle.ug_types.specs.declared.mark.Mark.{Mark}
use Rattle.ug_message.specs.Tables.{among}
use Rattle.ug_hearing.specs.declared.change.Change.{Change}
use Rattle.ug_hearing.specs.declared.row.Row.{Row}
use Rattle.ug_hearing.specs.Keyed.{IsPlaceOf}
use Rattle.ug_hearing.specs.Courses.{changes_of}
use Rattle.ug_hearing.specs.declared.dated.Dated.{Dated}
use Rattle.ug_hearing.specs.declared.watch.Watch.{Watch}
use Rattle.ug_hearing.specs.Differences.{IsSame}
use Rattle.ug_hearing.specs.Marked.{IsMarkIn}

abbrev pub dated_at : ℕ → Change → Dated
dated_at place c = record { version = c.place; place = place }

-- the changes of all keys, each with its version and the place of its key, which are counted from a number on
abbrev pub dates_from : ℕ → List (Key × List Change) → List Dated
dates_from n [] = []
dates_from n (e ∷ entries) = map (dated_at n) e.1 ++ dates_from (n + 1) entries

-- It tells this change of this key.
pub record IsDateOf (entries : List (Key × List Change)) (q : Key) (c : Change) (d : Dated) : Type 0 where
  pub version : d.version ≡ c.place
  pub place : IsPlaceOf q (keys_of entries) d.place

-- Each change of each key is among these, and their versions do not fall.
pub record AreDates (entries : List (Key × List Change)) (dates : List Dated) : Type 0 where
  pub listed : (q : Key) (i : ℕ) (c : Change) → slice_get (changes_of entries q) i ≡ Some c → (j : ℕ) × (d : Dated) × (slice_get dates j ≡ Some d) × IsDateOf entries q c d
  pub rise : IsNonDecreasingBy (λ (d : Dated). d.version) dates

-- The first of these are of versions up to this.
abbrev pub AreUpTo : List Dated → ℕ → ℕ → Type 0
AreUpTo dates passed version = (j : ℕ) (d : Dated) → slice_get dates j ≡ Some d → j < passed → d.version ≤ version

-- Where it isn't lost each key has what it has in the table of a version, but for those that were named since.
pub record IsWatched (rows : List (Key × Row)) (entries : List (Key × List Change)) (from : ℕ) (w : Watch) : Type 0 where
  pub same : w.is_lost ≡ false → (q : Key) → among w.named.items q ≡ false → IsSame rows entries from w.version q
  pub dates : w.is_dated ≡ true → AreDates entries w.dates.items
  pub passed : AreUpTo w.dates.items w.passed w.version

-- All keys are as in the table of a version.
abbrev pub AllSame : List (Key × Row) → List (Key × List Change) → ℕ → ℕ → Type 0
AllSame rows entries from version = (q : Key) → IsSame rows entries from version q

-- Of the changes from one on those up to the version were looked at, and their keys are as in its table.
pub record AreMet (rows : List (Key × Row)) (entries : List (Key × List Change)) (from version : ℕ) (dates : List Dated) (passed to : ℕ) : Type 0 where
  pub same : (j : ℕ) (d : Dated) → slice_get dates j ≡ Some d → passed ≤ j → j < to → (q : Key) → IsPlaceOf q (keys_of entries) d.place → IsSame rows entries from version q
  pub up_to : (j : ℕ) (d : Dated) → slice_get dates j ≡ Some d → passed ≤ j → j < to → d.version ≤ version
  pub behind : (d : Dated) → slice_get dates to ≡ Some d → version < d.version

-- It is watched as before, and where it says so all keys are as in the table of the version.
pub record IsMet (rows : List (Key × Row)) (entries : List (Key × List Change)) (from : ℕ) (old new : Watch) (version : ℕ) (met : Type 0) : Type 0 where
  pub watched : IsWatched rows entries from old → IsWatched rows entries from new
  pub same : met → IsWatched rows entries from old → AllSame rows entries from version

-- The same of all of these marks.
pub record AreAllMet (rows : List (Key × Row)) (entries : List (Key × List Change)) (begin : ℕ) (old new : Watch) (syncs : List Mark) (from to : ℕ) (met : Type 0) : Type 0 where
  pub watched : IsWatched rows entries begin old → IsWatched rows entries begin new
  pub same : met → IsWatched rows entries begin old → (m : Mark) → IsMarkIn syncs from to m → AllSame rows entries begin m.version
