-- A table with announcements that wait to be taken in.
use Rattle.std.specs.Prelude.{◌≡◌, ℕ, not, List, [], ◌∷◌}
use Rattle.std.specs.List.{filter, AllByRecursion}
use Rattle.std.proofs.Props.{props}
use Rattle.ug_types.specs.declared.family.Family.TheVariants.{V4}
use Rattle.ug_types.specs.declared.key.Key.{Key}
use Rattle.ug_types.specs.Keys.{same_key}
use Rattle.ug_check.specs.declared.waiting.Change.{Change}
use Rattle.ug_check.specs.Rows.{Rows}

-- what a table is with one more announcement
abbrev pub with_change : Change → Rows → Rows
with_change c t = record { rows = (c.key, c.row.shared.value.attrs) ∷ t.rows; stale = filter (λ k. not (same_key k c.key)) t.stale; refreshes = t.refreshes }

-- the table once it has these announcements, the first of them first
abbrev pub with_waiting : Rows → List Change → Rows
with_waiting t [] = t
with_waiting t (c ∷ cs) = with_waiting (with_change c t) cs

-- of IPv4, and announced when so many refreshes had begun
abbrev pub IsWaiting : ℕ → Change → Type 0
IsWaiting seen c = (c.key.prefix.family ≡ V4) × (c.row.shared.value.seen ≡ seen)

abbrev pub AreWaiting : ℕ → List Change → Type 0
AreWaiting seen changes = AllByRecursion (IsWaiting seen) changes

IsWaiting-prop : (seen : ℕ) (c : Change) → IsProp (IsWaiting seen c)
IsWaiting-prop seen c = Prim.hlevel props

-- that they are is a fact, which has one proof at most
pub AreWaiting-prop : (seen : ℕ) (changes : List Change) → IsProp (AreWaiting seen changes)
AreWaiting-prop seen [] = Prim.hlevel props
AreWaiting-prop seen (c ∷ changes) = λ x y i. (IsWaiting-prop seen c x.0 y.0 i, AreWaiting-prop seen changes x.1 y.1 i)

-- the announcements of a key
abbrev pub of_key : Key → List Change → List Change
of_key q changes = filter (λ (c : Change). same_key q c.key) changes

abbrev pub AreV4 : List Key → Type 0
AreV4 keys = AllByRecursion (λ (k : Key). k.prefix.family ≡ V4) keys
