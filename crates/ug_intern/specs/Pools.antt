-- A pool of values: for each id that is live the value that it stands for, and how many hold it.
use Rattle.std.specs.Prelude.{◌≡◌, ℕ, ◌+◌, ◌-◌, ◌==◌, Bool, true, false, List, Option, Some, None, slice_index_or, if◌then◌else◌}

pub record Held (T : Type 0) : Type 0 where
  pub value : T
  pub uses : ℕ

-- what each id from 0 on stands for
pub record Pooled (T : Type 0) : Type 0 where
  pub slots : List (Option (Held T))

module _ {T : Type 0} where
  abbrev pub held : Pooled T → ℕ → Option (Held T)
  held pool id = slice_index_or pool.slots id None

  abbrev pub uses_of : Option (Held T) → ℕ
  uses_of None = 0
  uses_of (Some h) = h.uses

  abbrev pub value_of : Option (Held T) → Option T
  value_of None = None
  value_of (Some h) = Some h.value

  -- held by one more
  abbrev pub raised : Option (Held T) → Option (Held T)
  raised None = None
  raised (Some h) = Some (record { value = h.value; uses = h.uses + 1 })

  -- held by one less: without holders the value goes
  abbrev pub lowered : Option (Held T) → Option (Held T)
  lowered None = None
  lowered (Some h) = if h.uses == 1 then None else Some (record { value = h.value; uses = h.uses - 1 })

  -- the id stands for this now, and every other for what it did
  abbrev pub IsChangedAt : Pooled T → Pooled T → ℕ → Option (Held T) → Type 0
  IsChangedAt old new id now = (q : ℕ) → held new q ≡ (if q == id then now else held old q)

  -- equal values have one id
  abbrev pub IsOneId : (T → T → Bool) → Pooled T → Type 0
  IsOneId eq pool = (a b : ℕ) (x y : Held T) → held pool a ≡ Some x → held pool b ≡ Some y → eq x.value y.value ≡ true → a ≡ b

  -- no live value is equal to this
  abbrev pub IsNew : (T → T → Bool) → Pooled T → T → Type 0
  IsNew eq pool value = (id : ℕ) (x : Held T) → held pool id ≡ Some x → eq value x.value ≡ false

  -- every id stands for what it did
  abbrev pub IsSame : Pooled T → Pooled T → Type 0
  IsSame old new = (q : ℕ) → held new q ≡ held old q
