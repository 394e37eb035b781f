-- The first change to a value.
use Rattle.std.specs.Prelude.{◌≡◌, ◌≢◌, ℕ, suc, ◌<◌, ◌≤◌, List, length, slice_get, Option, Some, None}
use Rattle.ug_hearing.specs.declared.change.Change.{Change}
use Rattle.ug_hearing.specs.declared.change.Standing.{Standing}
use Rattle.ug_hearing.specs.Pasts.{Value}

-- No change from the one number up to the other is to this value.
abbrev pub NoneTo : ℕ → ℕ → List Change → Value → Type 0
NoneTo from to changes v = (n : ℕ) (c : Change) → from ≤ n → n < to → slice_get changes n ≡ Some c → c.value ≢ v

-- The standing at the change of this number.
pub record IsAt (changes : List Change) (n : ℕ) (v : Value) (s : Standing) : Type 0 where
  pub change : Change
  pub there : slice_get changes n ≡ Some change
  pub value : change.value ≡ v
  pub place : s.place ≡ change.place
  pub next : s.next ≡ suc n

-- The first change to a value, from a number on, or that there is none.
abbrev pub IsSearched : ℕ → List Change → Value → Option Standing → Type 0
IsSearched from changes v None = NoneTo from (length changes) changes v
IsSearched from changes v (Some s) = (n : ℕ) × (from ≤ n) × IsAt changes n v s × NoneTo from n changes v
