-- The sessions of a history are numbered from one on.
use Rattle.std.proofs.Common.{◌≡◌, ℕ, zero, suc, ◌+◌, ◌<◌, Bool, true, false, List, [], ◌∷◌, ◌++◌, length, slice_get, Some, refl, ◌∙◌, ap, subst, arith, length-append}
use Rattle.std.specs.Prelude.{◌==◌, fold, if◌then◌else◌}
use Rattle.std.proofs.lemmas.Bool.{eq-eqb}
use Rattle.std.proofs.lemmas.Bool.Decides.{nat_tests}
use Rattle.ug_types.specs.Messages.{Message}
use Rattle.ug_board.specs.Deeds.{Deed, Begins, Hands, Loses, IsInTurn}
use Rattle.ug_board.specs.Sessions.{Session, hand_last, after_deed, sessions_of}
use Rattle.ug_board.proofs.Folding.{length-hand_last}
use Rattle.ug_speaker.specs.Told.{handed_in}

module _ {X : Type 0} where
  -- They have the numbers from this one on.
  abbrev pub AreNumbered : ℕ → List (Session X) → Type 0
  AreNumbered n [] = Unit {0}
  AreNumbered n (session ∷ sessions) = (session.number ≡ n) × AreNumbered (n + 1) sessions

  numbered_push : (n : ℕ) (sessions : List (Session X)) (session : Session X) → AreNumbered n sessions → session.number ≡ n + length sessions → AreNumbered n (sessions ++ session ∷ [])
  numbered_push n [] session h is = (omega arith, tt)
  numbered_push n (s ∷ sessions) session h is = (h.0, numbered_push (n + 1) sessions session h.1 (omega arith))

  same_number : (item : X) (session : Session X) (b : Bool) → (if b then record { number = session.number; handed = session.handed ++ item ∷ [] } else session).number ≡ session.number
  same_number item session true = refl
  same_number item session false = refl

  numbered_hand : (n k : ℕ) (item : X) (sessions : List (Session X)) → AreNumbered n sessions → AreNumbered n (hand_last k item sessions)
  numbered_hand n k item [] h = tt
  numbered_hand n k item (s ∷ []) h = (same_number item s (s.number == k) ∙ h.0, tt)
  numbered_hand n k item (s ∷ s' ∷ sessions) h = (h.0, numbered_hand (n + 1) k item (s' ∷ sessions) h.1)

  numbered_fold : (begun : ℕ) (deeds : List (Deed X)) (sessions : List (Session X)) → IsInTurn begun deeds → AreNumbered 1 sessions → length sessions ≡ begun → AreNumbered 1 (fold after_deed sessions deeds)
  numbered_fold begun [] sessions turn h count = h
  numbered_fold begun (Begins session ∷ deeds) sessions turn h count =
      let number = turn.0 in
      let next : Session X = record { number = session; handed = [] } in
      let more = length-append sessions (next ∷ []) in
      numbered_fold (begun + 1) deeds (sessions ++ next ∷ []) turn.1 (numbered_push 1 sessions next h (omega arith)) (omega arith)
  numbered_fold begun (Hands session item ∷ deeds) sessions turn h count =
      let same = length-hand_last session item sessions in
      numbered_fold begun deeds (hand_last session item sessions) turn.2 (numbered_hand 1 session item sessions h) (omega arith)
  numbered_fold begun (Loses session ∷ deeds) sessions turn h count = numbered_fold begun deeds sessions turn h count

  pub numbered-all : (deeds : List (Deed X)) → IsInTurn 0 deeds → AreNumbered 1 (sessions_of deeds)
  numbered-all deeds turn = numbered_fold 0 deeds [] turn tt refl

apart_test : (a b : ℕ) → a < b → (a == b) ≡ false
apart_test a b less = grind (arith, nat_tests)

-- what was handed out in the session at a place
pub handed-at : (n : ℕ) (sessions : List (Session Message)) (k : ℕ) (session : Session Message) → AreNumbered n sessions → slice_get sessions k ≡ Some session → handed_in (n + k) sessions ≡ session.handed
handed-at n [] k session h is = absurd cc
handed-at n (s ∷ sessions) zero session h is =
    let number = h.0 in
    let here : (s.number == (n + 0)) ≡ true = eq-eqb s.number (n + 0) (omega arith) in
    let same : s ≡ session = cc in
    rw here (ap (λ (t : Session Message). t.handed) same)
handed-at n (s ∷ sessions) (suc k) session h is =
    let number = h.0 in
    let other : (s.number == (n + suc k)) ≡ false = apart_test s.number (n + suc k) (omega arith) in
    let there : n + 1 + k ≡ n + suc k = omega arith in
    rw other (subst (λ m. handed_in m sessions ≡ session.handed) there (handed-at (n + 1) sessions k session h.1 is))
