-- What a message does to the rows of the keys that it names.
use Rattle.std.specs.Prelude.{◌≡◌, ℕ, suc, ◌⊎◌, Bool, true, false, ◌||◌, List, [], ◌∷◌, ◌++◌, length, is_some}
use Rattle.ug_types.specs.declared.key.Key.{Key}
use Rattle.ug_message.specs.Tables.{Table, among}
use Rattle.ug_message.specs.Climbing.{ClimbsFrom, values_at}
use Rattle.ug_hearing.specs.declared.change.Change.{Change}
use Rattle.ug_hearing.specs.Pasts.{Value}
use Rattle.ug_hearing.specs.declared.standings.Standings.{Standings}
use Rattle.ug_hearing.specs.Keyed.{value_for}
use Rattle.ug_hearing.specs.Courses.{changes_of, IsCourse}
use Rattle.ug_hearing.specs.Rows.{IsRow, row_for}

module _ (entries : List (Key × List Change)) (from to : ℕ) (past tables : List Table) where
  -- The key's row is right for these values.
  abbrev pub HasRow : Standings → Key → List Value → Type 0
  HasRow st key values = IsRow (values_at key past) (values_at key tables) (changes_of entries key) from to st.moves.items values (row_for st.rows entries from key)

  -- These values can't be climbed to.
  abbrev pub CantClimb : Key → List Value → Type 0
  CantClimb key values = ClimbsFrom (values_at key past) 0 values → ⊥

  -- A key that is named goes on to the value, where it stood before it or at it; or it is among those that could not. One
  -- that isn't stands as it did.
  abbrev pub Passes : Bool → List Key → Value → Standings → Standings → Key → List Value → Type 0
  Passes true failed v old new key values =
      (HasRow old key values ⊎ HasRow old key (values ++ v ∷ [])) → HasRow new key (values ++ v ∷ []) ⊎ ((among failed key ≡ true) × CantClimb key (values ++ v ∷ []) × HasRow new key values)
  Passes false failed v old new key values = (ws : List Value) → HasRow old key ws → HasRow new key ws

  -- Whoever failed was named, and could not.
  abbrev pub Failed : List Key → List Key → List Key → Value → Standings → Key → List Value → Type 0
  Failed keys before failed v old key values =
      among failed key ≡ true
      → (among before key ≡ true) ⊎ ((among keys key ≡ true) × ((HasRow old key values ⊎ HasRow old key (values ++ v ∷ [])) → CantClimb key (values ++ v ∷ [])))

-- All these keys were visited, with this value.
pub record ArePassed (entries : List (Key × List Change)) (from to message : ℕ) (keys : List Key) (v : Value) (before failed : List Key) (old new : Standings) : Type 0 where
  pub refreshes : new.refreshes ≡ old.refreshes
  pub named : (q : Key) → is_some (value_for new.rows q) ≡ (is_some (value_for old.rows q) || among keys q)
  pub seen : (q : Key) → among keys q ≡ true → (row_for new.rows entries from q).seen ≡ new.refreshes
  pub unseen : (q : Key) → among keys q ≡ false → value_for new.rows q ≡ value_for old.rows q
  pub passes : (past tables : List Table) → IsCourse entries from to past tables → (values : Key → List Value) → ((q : Key) → message ≡ suc (length (values q)))
      → (q : Key) → Passes entries from to past tables (among keys q) failed v old new q (values q) × Failed entries from to past tables keys before failed v old q (values q)
  pub kept : (q : Key) → among before q ≡ true → among failed q ≡ true
