-- What contracts see of a turnstile and of its passes.
use Rattle.std.specs.Prelude.{◌≡◌, ℕ, ◌++◌, ◌==◌, Bool, true, false, List, [], All, Any, Option, Some, filter}
use Rattle.atomic_table.specs.Seated.{TableId}

-- A turnstile: which one it is, and how many passes it has
pub record Gate : Type 0 where
  pub id : TableId
  pub count : ℕ

-- A pass: the turnstile that it was made with, its number, whether it holds the turn, the root of the state, the entries that it has seen, and whether the state was spent then
pub record Held (E R : Type 0) : Type 0 where
  pub turnstile : TableId
  pub number : ℕ
  pub holds : Bool
  pub root : Option R
  pub seen : List E
  pub spent : Bool

-- the entries that a number owns, in order
abbrev pub owned_by : {E : Type 0} → (E → ℕ) → ℕ → List E → List E
owned_by owner number entries = filter (λ e. owner e == number) entries

-- the entries of the pass: those that it owns of what it has seen
abbrev pub mine : {E R : Type 0} → (E → ℕ) → Held E R → List E
mine owner pass = owned_by owner pass.number pass.seen

-- a pass that has seen nothing
abbrev pub fresh_pass : {E R : Type 0} → TableId → R → ℕ → Held E R
fresh_pass id root number = record { turnstile = id; number = number; holds = false; root = Some root; seen = []; spent = false }

-- the entries begin with those that were seen
abbrev pub StartsWith : {E : Type 0} → List E → List E → Type 0
StartsWith {E} entries seen = (rest : List E) × (entries ≡ seen ++ rest)

-- the entries are those that were seen, and then some that the number owns
abbrev pub Adds : {E : Type 0} → (E → ℕ) → ℕ → List E → List E → Type 0
Adds {E} owner number seen entries = (added : List E) × (entries ≡ seen ++ added) × All (λ e. owner e ≡ number) added

-- it is the same pass, whatever it holds and has seen
abbrev pub IsSamePass : {E R : Type 0} → Held E R → Held E R → Type 0
IsSamePass old new = (new.turnstile ≡ old.turnstile) × (new.number ≡ old.number) × (new.root ≡ old.root)

-- a state of this root and with these entries is what the pass says: its root, all that it has seen at the front, and of its own just those that it knows
abbrev pub Agrees : {E R : Type 0} → (E → ℕ) → R → List E → Held E R → Type 0
Agrees owner root entries pass = (pass.root ≡ Some root) × StartsWith entries pass.seen × (owned_by owner pass.number entries ≡ mine owner pass)

-- These are the entries that passes tell: a state of this root with them is what each of the passes says, and each entry is of one of them.
abbrev pub IsToldBy : {E R : Type 0} → (E → ℕ) → R → List E → List (Held E R) → Type 0
IsToldBy owner root entries passes = All (Agrees owner root entries) passes × All (λ e. Any (λ p. p.number ≡ owner e) passes) entries

-- the pass took the turn, and the state in it agrees with what the pass knew
abbrev pub Takes : {E R : Type 0} → (E → ℕ) → R → List E → Bool → Held E R → Held E R → Type 0
Takes owner root entries spent old new =
    IsSamePass old new × (new.holds ≡ true) × (new.seen ≡ entries) × Agrees owner root entries old × (new.spent ≡ spent) × (old.spent ≡ true → spent ≡ true)

-- the pass of this number is back from its turns
abbrev pub IsBack : {E R : Type 0} → Gate → ℕ → Held E R → Type 0
IsBack gate number pass = (pass.turnstile ≡ gate.id) × (pass.number ≡ number) × (pass.holds ≡ false)
