-- The sessions that deeds make.
use Rattle.std.specs.Prelude.{ℕ, ◌==◌, List, [], ◌∷◌, ◌++◌, fold, if◌then◌else◌}
use Rattle.ug_board.specs.Deeds.{Deed, Begins, Hands, Loses}

-- a session: its number, and what was handed out in it, in order
pub record Session (X : Type 0) : Type 0 where
  pub number : ℕ
  pub handed : List X

-- A session with one thing more handed out, where it has this number.
abbrev pub with_item : {X : Type 0} → ℕ → X → Session X → Session X
with_item number item session =
    if session.number == number then record { number = session.number; handed = session.handed ++ item ∷ [] } else session

-- the sessions with one thing more in the last, where it has this number
abbrev pub hand_last : {X : Type 0} → ℕ → X → List (Session X) → List (Session X)
hand_last number item [] = []
hand_last number item (session ∷ []) = with_item number item session ∷ []
hand_last number item (session ∷ next ∷ sessions) = session ∷ hand_last number item (next ∷ sessions)

-- the sessions after a deed
abbrev pub after_deed : {X : Type 0} → List (Session X) → Deed X → List (Session X)
after_deed sessions (Begins number) = sessions ++ record { number = number; handed = [] } ∷ []
after_deed sessions (Hands number item) = hand_last number item sessions
after_deed sessions (Loses number) = sessions

-- the sessions that these deeds make
abbrev pub sessions_of : {X : Type 0} → List (Deed X) → List (Session X)
sessions_of deeds = fold after_deed [] deeds
