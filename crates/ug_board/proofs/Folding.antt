-- Sessions that deeds make, as deeds are added.
use Rattle.std.proofs.Common.{◌≡◌, ℕ, ◌+◌, List, [], ◌∷◌, ◌++◌, length, refl, ap, arith, length-append}
use Rattle.std.specs.Prelude.{fold}
use Rattle.std.proofs.lemmas.List.Sums.{fold-append}
use Rattle.ug_board.specs.Deeds.{Deed, Begins, Hands, Loses, begins, losses}
use Rattle.ug_board.specs.Sessions.{Session, hand_last, after_deed, sessions_of}

module _ {X : Type 0} where
  pub sessions_of-append : (old new : List (Deed X)) → sessions_of (old ++ new) ≡ fold after_deed (sessions_of old) new
  sessions_of-append old new = fold-append after_deed [] old new

  pub length-hand_last : (number : ℕ) (item : X) (sessions : List (Session X)) → length (hand_last number item sessions) ≡ length sessions
  length-hand_last number item [] = refl
  length-hand_last number item (session ∷ []) = refl
  length-hand_last number item (session ∷ next ∷ sessions) = let rest = length-hand_last number item (next ∷ sessions) in omega arith

  length-fold : (deeds : List (Deed X)) (sessions : List (Session X)) → length (fold after_deed sessions deeds) ≡ length sessions + begins deeds
  length-fold [] sessions = omega arith
  length-fold (Begins session ∷ deeds) sessions =
      let rest = length-fold deeds (sessions ++ record { number = session; handed = [] } ∷ []) in
      omega (arith, length-append sessions (record { number = session; handed = [] } ∷ []))
  length-fold (Hands session item ∷ deeds) sessions =
      let rest = length-fold deeds (hand_last session item sessions) in omega (arith, length-hand_last session item sessions)
  length-fold (Loses session ∷ deeds) sessions = length-fold deeds sessions

  -- as many sessions are made as begin
  pub length-sessions_of : (deeds : List (Deed X)) → length (sessions_of deeds) ≡ begins deeds
  length-sessions_of deeds = let all = length-fold deeds [] in omega arith

  pub losses-append : (old new : List (Deed X)) → losses (old ++ new) ≡ losses old ++ losses new
  losses-append [] new = refl
  losses-append (Begins session ∷ old) new = losses-append old new
  losses-append (Hands session item ∷ old) new = losses-append old new
  losses-append (Loses session ∷ old) new = ap (λ ls. session ∷ ls) (losses-append old new)
