-- The rule of the table: one word, which is 0 while the turn is free and else one more than the number of the pass that holds it, and one slot for the state.
use Rattle.std.specs.Prelude.{◌≡◌, ◌≢◌, ◌⊎◌, ℕ, zero, suc, ◌+◌, ◌<◌, Bool, true, false, List, [], ◌∷◌, Option, Some, None, map}
use mathlib.Core.Option.{some}
use mathlib.Core.Option as maybe
use lib.ListN.{get_elem?}
use Rattle.atomic_table.specs.Table.{State, Me, Step}
use Rattle.atomic_table.specs.Seated.{TableId}
use Rattle.ug_turnstile.specs.declared.view.Part.{Part}
use Rattle.ug_turnstile.specs.declared.view.View.{View}
use Rattle.ug_turnstile.specs.Passes.{Held, owned_by, StartsWith}

abbrev pub part : {E R : Type 0} → ℕ → R → List E → Bool → Part E R
part number root seen spent = record { number = number; root = root; seen = seen; spent = spent }

abbrev pub view : {E R : Type 0} → Bool → List (Part E R) → View E R
view holds parts = record { holds = holds; parts = parts }

-- the parts of count passes that have seen nothing, from this number on
abbrev pub fresh_parts : {E R : Type 0} → R → ℕ → ℕ → List (Part E R)
fresh_parts root number zero = []
fresh_parts root number (suc count) = part number root [] false ∷ fresh_parts root (number + 1) count

-- what the first seat knows of: every pass
abbrev pub opened : {E R : Type 0} → R → ℕ → View E R
opened root count = view false (fresh_parts root 0 count)

-- each part meets P
abbrev pub Each : {A : Type 0} → (A → Type 0) → List A → Type 0
Each P [] = Unit {0}
Each P (x ∷ xs) = P x × Each P xs

module _ {S E R : Type 0} (owner : E → ℕ) (root_of : S → R) (entries_of : S → List E) (spent_of : S → Bool) (root : R) (count : ℕ) where
  -- what a part says is right of this log, and its number's seat is this one
  pub record Fits (log : List E) (spent : Bool) (seat_of : ℕ → ℕ) (seat : ℕ) (p : Part E R) : Type 0 where
    pub below : p.number < count
    pub rooted : p.root ≡ root
    pub begins : StartsWith log p.seen
    pub knows : owned_by owner p.number log ≡ owned_by owner p.number p.seen
    pub spends : p.spent ≡ true → spent ≡ true
    pub sits : seat_of p.number ≡ seat

  -- the turn is free: the state is at home, and no seat holds it
  pub record IsFree (log : List E) (spent : Bool) (s : State (Option S) (View E R)) : Type 0 where
    pub state : S
    pub word : s.words ≡ 0 ∷ []
    pub home : s.homes ≡ some (Some state) ∷ []
    pub rooted : root_of state ≡ root
    pub logged : entries_of state ≡ log
    pub spends : spent_of state ≡ spent
    pub nobody : (seat : ℕ) (v : View E R) → get_elem? s.views seat ≡ some v → v.holds ≡ false

  -- one seat holds the turn, with one part, which has seen the log as it was at the claim, and whether the state was spent
  pub record IsTaken (log : List E) (spent : Bool) (s : State (Option S) (View E R)) : Type 0 where
    pub holder : ℕ
    pub number : ℕ
    pub word : s.words ≡ (number + 1) ∷ []
    pub away : s.homes ≡ maybe.none ∷ []
    pub view_is : get_elem? s.views holder ≡ some (view true (part number root log spent ∷ []))
    pub alone : (seat : ℕ) (v : View E R) → get_elem? s.views seat ≡ some v → v.holds ≡ true → seat ≡ holder

  -- There is one history, which every part knows a beginning of, with all that its number owns, and a state that a part knows to be spent is so. Each number has one seat
  pub record Kept (s : State (Option S) (View E R)) : Type 0 where
    pub log : List E
    pub spent : Bool
    pub seat_of : ℕ → ℕ
    pub turn : IsFree log spent s ⊎ IsTaken log spent s
    pub parts : (seat : ℕ) (v : View E R) → get_elem? s.views seat ≡ some v → Each (Fits log spent seat_of seat) v.parts
    pub owned : Each (λ e. owner e < count) log

-- the part has seen these entries, of a state that was spent or not
abbrev pub saw : {E R : Type 0} → List E → Bool → Part E R → Part E R
saw entries spent p = part p.number p.root entries spent

module _ {S E R : Type 0} (owner : E → ℕ) (root_of : S → R) (entries_of : S → List E) (spent_of : S → Bool) where
  abbrev Sat : Type 0
  Sat = Me (Option S) (View E R)

  -- the state has the part's root, its entries begin with what the part had seen, and of its number's own they are just those; it is spent where the part saw it so
  abbrev pub Meets : S → Part E R → Type 0
  Meets x p = (root_of x ≡ p.root) × StartsWith (entries_of x) p.seen × (owned_by owner p.number (entries_of x) ≡ owned_by owner p.number p.seen) × (p.spent ≡ true → spent_of x ≡ true)

  -- a claim that found 0 took the state, of which all entries are now seen; another one changed nothing
  abbrev pub claimed : Step (Option S) → Sat → ℕ → Sat → Type 0
  claimed step me found after =
      (found ≡ 0 → (x : S) × (after ≡ (view true (map (saw (entries_of x) (spent_of x)) me.0.parts), (0, Some x) ∷ [])) × Each (Meets x) me.0.parts)
      × (found ≢ 0 → after ≡ me)

  -- the entries of the state in hand
  abbrev pub entries_in : List (ℕ × Option S) → List E
  entries_in [] = []
  entries_in (x ∷ xs) = entries_there x.1
    where
      entries_there : Option S → List E
      entries_there None = []
      entries_there (Some state) = entries_of state

  -- and whether it is spent
  abbrev pub spent_in : List (ℕ × Option S) → Bool
  spent_in [] = false
  spent_in (x ∷ xs) = spent_there x.1
    where
      spent_there : Option S → Bool
      spent_there None = false
      spent_there (Some state) = spent_of state

  -- the state went home, and the pass has seen its entries
  abbrev pub released : Step (Option S) → Sat → ℕ → Sat → Type 0
  released step me stored after = after ≡ (view false (map (saw (entries_in me.1) (spent_in me.1)) me.0.parts), [])

-- the first part goes to a new seat
abbrev pub first_part : {E R : Type 0} → List (Part E R) → List (Part E R)
first_part [] = []
first_part (p ∷ ps) = p ∷ []

abbrev pub later_parts : {E R : Type 0} → List (Part E R) → List (Part E R)
later_parts [] = []
later_parts (p ∷ ps) = ps

-- what contracts see of a part that is in no turn
abbrev pub pass_of : {E R : Type 0} → TableId → Part E R → Held E R
pass_of id p = record { turnstile = id; number = p.number; holds = false; root = Some p.root; seen = p.seen; spent = p.spent }
