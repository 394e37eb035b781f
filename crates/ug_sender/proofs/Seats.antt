-- An item out of its place in a list, and back.
use Rattle.std.proofs.Common.{◌≡◌, ℕ, zero, suc, ◌<◌, List, [], ◌∷◌, ◌++◌, length, map, get_or, Some, refl, sym, ◌∙◌, ap, subst, append_assoc}
use Rattle.std.specs.Prelude.{insert, remove, slice_get}
use Rattle.std.specs.Option.{option_map}
use Rattle.std.proofs.lemmas.Option.{get_or_from_slice_get, slice_get-map, slice_get_within}
use Rattle.atomic_table.specs.Seated.{TableId}
use Rattle.std.proofs.lemmas.List.{get_or-map, length-map, map-append}
use Rattle.ug_sender.specs.Lanes.{LaneView}
use Rattle.ug_sender.specs.Posts.{Post, WorkerView, AreHere, IsRosterOf, no_post, post_at, posts_of, post_of, posts}

-- what is told of each item is as it was, where it is so of the one that is put in
pub put_back : {X Y : Type 0} → (f : X → Y) (xs : List X) (i : ℕ) (x y : X) → slice_get xs i ≡ Some x → f y ≡ f x → map f (insert (remove xs i) i y) ≡ map f xs
put_back f [] i x y at same = cc
put_back {X} {Y} f (z ∷ xs) zero x y at same = let is : z ≡ x = cc in ap (λ (w : Y). w ∷ map f xs) (same ∙ sym (ap f is))
put_back {X} {Y} f (z ∷ xs) (suc i) x y at same = ap (λ (ws : List Y). f z ∷ ws) (put_back f xs i x y at same)

-- the worker at a place of a crew that is here is here too
pub here_in : {Opening Job Said : Type 0} → (id : TableId) (workers : List (WorkerView Opening Job Said)) (i : ℕ) (worker : WorkerView Opening Job Said)
    → AreHere id (posts_of workers) → i < length workers → worker ≡ get_or workers i worker → worker.post.turnstile ≡ id
here_in {Opening} {Job} {Said} id workers i worker here below is =
    subst (λ (p : Post Opening). p.turnstile ≡ id)
    (get_or-map (λ (w : WorkerView Opening Job Said). w.post) workers i worker worker.post below ∙ ap (λ (w : WorkerView Opening Job Said). w.post) (sym is))
    (here i worker.post (rw (length-map workers (λ (w : WorkerView Opening Job Said). w.post)) below))

pub here_at : {Opening Job Said : Type 0} → (id : TableId) (workers : List (WorkerView Opening Job Said)) (i : ℕ) (worker : WorkerView Opening Job Said)
    → AreHere id (posts_of workers) → slice_get workers i ≡ Some worker → worker.post.turnstile ≡ id
here_at id workers i worker here at = here_in id workers i worker here (slice_get_within workers i worker at) (sym (get_or_from_slice_get workers i worker worker at))

at_behind : {X : Type 0} → (front : List X) (x : X) (rest : List X) → slice_get (front ++ x ∷ rest) (length front) ≡ Some x
at_behind [] x rest = refl
at_behind (y ∷ front) x rest = at_behind front x rest

-- where the lanes so far and those that are left are these, the next one has the post that is told of its place
pub roster-next : {Opening : Type 0} → (post : ℕ → Post Opening) (all front : List (Post Opening)) (next : Post Opening) (rest : List (Post Opening)) (place : ℕ)
    → IsRosterOf post all → front ++ next ∷ rest ≡ all → place ≡ length front → post place ≡ next
roster-next post all front next rest place roster are is =
    roster place next (subst (λ ps. slice_get ps place ≡ Some next) are (subst (λ k. slice_get (front ++ next ∷ rest) k ≡ Some next) (sym is) (at_behind front next rest)))

-- with one lane more
pub posts-next : {W Opening Job Said : Type 0} → (lanes : List (LaneView W Opening Job Said)) (lane : LaneView W Opening Job Said) (next : Post Opening) (rest all : List (Post Opening))
    → posts lanes ++ next ∷ rest ≡ all → post_of lane ≡ next → posts (lanes ++ lane ∷ []) ++ rest ≡ all
posts-next {W} {Opening} {Job} {Said} lanes lane next rest all are is =
    ap (λ (ps : List (Post Opening)). ps ++ rest) (map-append post_of lanes (lane ∷ []))
    ∙ (append_assoc (posts lanes) (post_of lane ∷ []) rest ∙ (ap (λ (p : Post Opening). posts lanes ++ p ∷ rest) is ∙ are))

pub roster-same : {Opening Job Said : Type 0} → (post : ℕ → Post Opening) (one other : List (WorkerView Opening Job Said)) → one ≡ other → IsRosterOf post (posts_of other) → IsRosterOf post (posts_of one)
roster-same {Opening} {Job} {Said} post one other same roster = subst (λ (ws : List (WorkerView Opening Job Said)). IsRosterOf post (posts_of ws)) (sym same) roster

pub none_by_length : {X : Type 0} → (xs : List X) → length xs ≡ 0 → xs ≡ []
none_by_length [] is = refl
none_by_length (x ∷ xs) is = absurd cc

-- these posts are those at their places
pub roster-at : {Opening : Type 0} → (all : List (Post Opening)) → IsRosterOf (λ place. post_at all place) all
roster-at all place at is = get_or_from_slice_get all place at no_post is

-- where the workers have these posts, the one at a place has the post that is told of it
pub post-in : {Opening Job Said : Type 0} → (post : ℕ → Post Opening) (all : List (Post Opening)) (workers : List (WorkerView Opening Job Said)) (place : ℕ) (worker : WorkerView Opening Job Said)
    → IsRosterOf post all → posts_of workers ≡ all → slice_get workers place ≡ Some worker → post place ≡ worker.post
post-in {Opening} {Job} {Said} post all workers place worker roster same at =
    roster place worker.post
    (ap (λ (ps : List (Post Opening)). slice_get ps place) (sym same)
    ∙ (slice_get-map (λ (w : WorkerView Opening Job Said). w.post) workers place ∙ ap (option_map (λ (w : WorkerView Opening Job Said). w.post)) at))
