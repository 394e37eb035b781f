-- Workers that are pumped one after the other.
use Rattle.std.proofs.Common.{◌≡◌, ◌≢◌, refl, ℕ, ◌+◌, ◌<◌, ◌≤◌, Bool, true, false, eqb, List, [], ◌∷◌, length, map, get_or, set, sym, ◌∙◌, ap, subst, arith}
use Rattle.std.specs.Prelude.{All, IfSome, sum_by}
use Rattle.std.proofs.lemmas.Bool.{eqb-true, eqb-false}
use Rattle.std.proofs.lemmas.List.{get_or-set_other, length-set, length-map}
use Rattle.std.proofs.lemmas.Grind.{get_or-set_at}
use Rattle.std.proofs.lemmas.List.Sums.{sum_by-cons, sum_by-set}
use Rattle.ug_board.specs.Rules.{Rules}
use Rattle.ug_turnstile.specs.Passes.{StartsWith}
use Rattle.ug_sender.specs.Lanes.{IsOver}
use Rattle.ug_sender.specs.Posts.{WorkerView, posts_of, here_deeds}
use Rattle.ug_sender.proofs.Outcomes.{starts-longer, starts-longer-other}

-- It holds of the first so many of a list.
pub record HoldsFrom {X : Type 0} (P : X → Type 0) (count : ℕ) (xs : List X) : Type 0 where
  pub each : (k : ℕ) (d : X) → k < count → k < length xs → P (get_or xs k d)

module _ {X : Type 0} (P : X → Type 0) where
  pub holds_more : (xs : List X) (i : ℕ) (x : X) → HoldsFrom P i xs → P x → HoldsFrom P (i + 1) (set xs i x)
  holds_more xs i x before here = record { each = each }
    where
      by_test : (k : ℕ) (d : X) → k < i + 1 → k < length xs → (t : Bool) → eqb k i ≡ t → P (get_or (set xs i x) k d)
      by_test k d below within true e =
          let same : k ≡ i = eqb-true k i e in
          subst P (sym (get_or-set_at xs i k x d same (omega arith))) here
      by_test k d below within false e =
          let other : k ≢ i = eqb-false k i e in
          subst P (sym (get_or-set_other xs i k x d other)) (before.each k d (omega arith) within)

      each : (k : ℕ) (d : X) → k < i + 1 → k < length (set xs i x) → P (get_or (set xs i x) k d)
      each k d below within = by_test k d below (subst (λ n. k < n) (length-set xs i x) within) (eqb k i) refl

  pub holds_all : (xs : List X) (count : ℕ) → HoldsFrom P count xs → length xs ≤ count → All P xs
  holds_all xs count before le k d below = before.each k d (omega arith) below

module _ {Opening Job Said : Type 0} where
  -- as many workers as before
  pub as_many : (workers old : List (WorkerView Opening Job Said)) → posts_of workers ≡ posts_of old → length workers ≡ length old
  as_many workers old same =
      let post = λ (w : WorkerView Opening Job Said). w.post in
      sym (length-map workers post) ∙ (ap length same ∙ length-map old post)

module _ {Opening State Job Said : Type 0} (rules : Rules Opening State Job Said) where
  -- the lane of a worker, where it works here, is at its end
  abbrev pub IsOverHere : WorkerView Opening Job Said → Type 0
  IsOverHere worker = IfSome worker.here (λ pass. IsOver rules worker.post.peer pass)

  -- how much the lanes that work here were handed, all together
  abbrev pub total_here : List (WorkerView Opening Job Said) → ℕ
  total_here workers = sum_by (λ worker. length (here_deeds rules worker.here)) workers

  total_by : (workers : List (WorkerView Opening Job Said)) → sum_by length (map (λ worker. here_deeds rules worker.here) workers) ≡ total_here workers
  total_by [] = refl
  total_by (worker ∷ workers) =
      sum_by-cons length (here_deeds rules worker.here) (map (λ w. here_deeds rules w.here) workers)
      ∙ (ap (λ n. length (here_deeds rules worker.here) + n) (total_by workers) ∙ sym (sum_by-cons (λ w. length (here_deeds rules w.here)) worker workers))

  pub total_same :
      (one other : List (WorkerView Opening Job Said)) → map (λ worker. here_deeds rules worker.here) one ≡ map (λ worker. here_deeds rules worker.here) other
      → total_here one ≡ total_here other
  total_same one other same = sym (total_by one) ∙ (ap (λ deeds. sum_by length deeds) same ∙ total_by other)

  pub total_kept :
      (workers : List (WorkerView Opening Job Said)) (place : ℕ) (old new : WorkerView Opening Job Said) → place < length workers → old ≡ get_or workers place old
      → StartsWith (here_deeds rules new.here) (here_deeds rules old.here) → total_here workers ≤ total_here (set workers place new)
  total_kept workers place old new below at kept =
      let all = sum_by-set (λ worker. length (here_deeds rules worker.here)) workers place new old below in
      let same = ap (λ worker. length (here_deeds rules worker.here)) at in
      let more = starts-longer (here_deeds rules old.here) (here_deeds rules new.here) kept in
      omega arith

  pub total_done :
      (workers : List (WorkerView Opening Job Said)) (place : ℕ) (old new : WorkerView Opening Job Said) → place < length workers → old ≡ get_or workers place old
      → StartsWith (here_deeds rules new.here) (here_deeds rules old.here) → (here_deeds rules new.here ≡ here_deeds rules old.here → ⊥)
      → total_here workers < total_here (set workers place new)
  total_done workers place old new below at kept other =
      let all = sum_by-set (λ worker. length (here_deeds rules worker.here)) workers place new old below in
      let same = ap (λ worker. length (here_deeds rules worker.here)) at in
      let more = starts-longer-other (here_deeds rules old.here) (here_deeds rules new.here) kept other in
      omega arith
