-- What a turnstile asks at its close, and what it answers.
use Rattle.std.proofs.Common.{◌≡◌, ℕ, zero, suc, ◌+◌, ◌<◌, ◌≤◌, false, List, [], ◌∷◌, ◌++◌, length, map, get_or, All, Any, Option, Some, arith, refl, sym, ◌∙◌, ap, subst}
use Rattle.std.proofs.lemmas.List.Elements.{All-cons, All-head, All-tail, All-push}
use Rattle.std.proofs.lemmas.List.Quantifiers.{Any-push}
use Rattle.atomic_table.specs.Seated.{TableId}
use Rattle.ug_board.specs.Entry.{Entry}
use Rattle.ug_board.specs.Rules.{Rules}
use Rattle.ug_board.specs.History.{IsLegal}
use Rattle.ug_board.specs.Deeds.{Each}
use Rattle.ug_turnstile.specs.Passes.{Held, Agrees, IsToldBy}
use Rattle.ug_sender.specs.Lanes.{LaneView}
use Rattle.ug_run.specs.Lanes.{AreAtPosts, AreKept}
use Rattle.ug_run.specs.Boards.{IsHistoryOf}

pub some_is : {A : Type 0} (x y : A) → Some x ≡ Some y → x ≡ y
some_is x y e = cc

pub each_of_all : {A : Type 0} (P Q : A → Type 0) → ((a : A) → P a → Q a) → (xs : List A) → All P xs → Each Q xs
each_of_all P Q gives [] h = tt
each_of_all P Q gives (x ∷ xs) h = (gives x (All-head P x xs h), each_of_all P Q gives xs (All-tail P x xs h))

pub last_of_all : {A : Type 0} (P : A → Type 0) (xs : List A) (x : A) → All P (xs ++ x ∷ []) → P x
last_of_all P [] x h = All-head P x [] h
last_of_all P (y ∷ xs) x h = last_of_all P xs x (All-tail P y (xs ++ x ∷ []) h)

-- each pass that ends a list is among it
any_later : {A : Type 0} (P : A → Type 0) (y : A) (xs : List A) → Any P xs → Any P (y ∷ xs)
any_later P y xs some = (suc some.0, some.1, omega arith, some.3, some.4)

module _ {W Opening Job Said : Type 0} where
  pub each_lane : (P : Held (Entry Job Said) Opening → Type 0) (lanes : List (LaneView W Opening Job Said)) (tail : List (Held (Entry Job Said) Opening))
      → All P (map (λ (lane : LaneView W Opening Job Said). lane.pass) lanes ++ tail) → Each (λ (lane : LaneView W Opening Job Said). P lane.pass) lanes
  each_lane P [] tail h = tt
  each_lane P (lane ∷ lanes) tail h = (
    All-head P lane.pass (map (λ (lane : LaneView W Opening Job Said). lane.pass) lanes ++ tail) h,
    each_lane P lanes tail (All-tail P lane.pass (map (λ (lane : LaneView W Opening Job Said). lane.pass) lanes ++ tail) h),
  )

  pub passes_here : (id : TableId) (root : Option Opening) (p : ℕ) (lanes : List (LaneView W Opening Job Said)) → AreAtPosts id root p lanes
      → All (λ (q : Held (Entry Job Said) Opening). q.turnstile ≡ id) (map (λ (lane : LaneView W Opening Job Said). lane.pass) lanes)
  passes_here id root p [] at = λ k d lt. absurd (omega arith)
  passes_here id root p (lane ∷ lanes) at = All-cons (λ (q : Held (Entry Job Said) Opening). q.turnstile ≡ id) lane.pass _ at.0 (passes_here id root (p + 1) lanes at.4)

  pub passes_few : (id : TableId) (root : Option Opening) (p most : ℕ) (lanes : List (LaneView W Opening Job Said)) → AreAtPosts id root p lanes → p + length lanes ≤ most
      → All (λ (q : Held (Entry Job Said) Opening). q.number ≤ most) (map (λ (lane : LaneView W Opening Job Said). lane.pass) lanes)
  passes_few id root p most [] at le = λ k d lt. absurd (omega arith)
  passes_few id root p most (lane ∷ lanes) at le =
      let number : lane.pass.number ≡ p + 1 = at.2 in
      All-cons (λ (q : Held (Entry Job Said) Opening). q.number ≤ most) lane.pass _ (omega arith) (passes_few id root (p + 1) most lanes at.4 (omega arith))

  pub passes_free : {State : Type 0} (rules : Rules Opening State Job Said) (sessions : W → Option (List (List ℕ))) (begun faults : W → ℕ) (lanes : List (LaneView W Opening Job Said))
      → AreKept rules sessions begun faults lanes → All (λ (q : Held (Entry Job Said) Opening). q.holds ≡ false) (map (λ (lane : LaneView W Opening Job Said). lane.pass) lanes)
  passes_free rules sessions begun faults [] kept = λ k d lt. absurd (omega arith)
  passes_free rules sessions begun faults (lane ∷ lanes) kept =
      All-cons (λ (q : Held (Entry Job Said) Opening). q.holds ≡ false) lane.pass _ kept.0.free (passes_free rules sessions begun faults lanes kept.1)

  any_lane : (id : TableId) (root : Option Opening) (p i number : ℕ) (lanes : List (LaneView W Opening Job Said)) (tail : List (Held (Entry Job Said) Opening)) → AreAtPosts id root p lanes
      → i < length lanes → number ≡ p + 1 + i → Any (λ (q : Held (Entry Job Said) Opening). q.number ≡ number) (map (λ (lane : LaneView W Opening Job Said). lane.pass) lanes ++ tail)
  any_lane id root p i number [] tail at lt is = absurd (omega arith)
  any_lane id root p zero number (lane ∷ lanes) tail at lt is =
      let first : lane.pass.number ≡ p + 1 = at.2 in
      (zero, lane.pass, omega arith, refl, omega arith)
  any_lane id root p (suc i) number (lane ∷ lanes) tail at lt is =
      any_later (λ (q : Held (Entry Job Said) Opening). q.number ≡ number) lane.pass _ (any_lane id root (p + 1) i number lanes tail at.4 (omega arith) (omega arith))

  -- Every number below the count is that of a pass.
  pub passes_whole : (id : TableId) (root : Option Opening) (lanes : List (LaneView W Opening Job Said)) (builder : Held (Entry Job Said) Opening) → AreAtPosts id root 0 lanes → builder.number ≡ 0
      → (number : ℕ) → number < length lanes + 1 → Any (λ (q : Held (Entry Job Said) Opening). q.number ≡ number) (map (λ (lane : LaneView W Opening Job Said). lane.pass) lanes ++ builder ∷ [])
  passes_whole id root lanes builder at first zero lt = Any-push (λ (q : Held (Entry Job Said) Opening). q.number ≡ zero) (map (λ (lane : LaneView W Opening Job Said). lane.pass) lanes) builder first
  passes_whole id root lanes builder at first (suc number) lt = any_lane id root 0 number (suc number) lanes (builder ∷ []) at (omega arith) (omega arith)

-- The number of an entry is that of a pass, so it is no greater than theirs.
pub owned_few : {E R : Type 0} (most number : ℕ) (passes : List (Held E R)) → All (λ (q : Held E R). q.number ≤ most) passes
    → Any (λ (q : Held E R). q.number ≡ number) passes → number ≤ most
owned_few {E} {R} most number passes few some =
    let at : (get_or passes some.0 some.1).number ≤ most = few some.0 some.1 some.2 in
    let same : (get_or passes some.0 some.1).number ≡ number = ap (λ (q : Held E R). q.number) some.3 ∙ some.4 in
    omega arith

-- What is known when the turnstile is closed.
pub history_of :
    {W Opening State Job Said : Type 0} (rules : Rules Opening State Job Said) (id : TableId) (builder : Held (Entry Job Said) Opening) (lanes : List (LaneView W Opening Job Said))
    (opening : Opening) (kept history : List (Entry Job Said)) (passes : List (Held (Entry Job Said) Opening))
    → AreAtPosts id builder.root 0 lanes → builder.number ≡ 0
    → passes ≡ map (λ (lane : LaneView W Opening Job Said). lane.pass) lanes ++ builder ∷ [] → history ≡ kept → IsLegal rules opening kept
    → All (Agrees (λ (entry : Entry Job Said). entry.pass) opening kept) passes
    → All (λ (entry : Entry Job Said). Any (λ (q : Held (Entry Job Said) Opening). q.number ≡ entry.pass) passes) kept
    → IsHistoryOf rules builder lanes history
history_of {W} {Opening} {State} {Job} {Said} rules id builder lanes opening kept history passes at first passes_is history_is legal agrees owned =
    let fits : Held (Entry Job Said) Opening → Type 0 = Agrees (λ (entry : Entry Job Said). entry.pass) opening kept in
    let all : All fits (map (λ (lane : LaneView W Opening Job Said). lane.pass) lanes ++ builder ∷ []) = subst (λ (ps : List (Held (Entry Job Said) Opening)). All fits ps) passes_is agrees in
    let builder_agrees : fits builder = last_of_all fits (map (λ (lane : LaneView W Opening Job Said). lane.pass) lanes) builder all in
    let few : All (λ (q : Held (Entry Job Said) Opening). q.number ≤ length lanes) (map (λ (lane : LaneView W Opening Job Said). lane.pass) lanes ++ builder ∷ []) =
    All-push (λ (q : Held (Entry Job Said) Opening). q.number ≤ length lanes) (map (λ (lane : LaneView W Opening Job Said). lane.pass) lanes) builder
    (passes_few id builder.root 0 (length lanes) lanes at (omega arith)) (omega arith) in
    subst (λ (h : List (Entry Job Said)). IsHistoryOf rules builder lanes h) (sym history_is) (record {
      root = opening;
      known = builder_agrees.0;
      legal = legal;
      builder_agrees = builder_agrees;
      lanes_agree = each_lane fits lanes (builder ∷ []) all;
      owned = each_of_all (λ (entry : Entry Job Said). Any (λ (q : Held (Entry Job Said) Opening). q.number ≡ entry.pass) passes) (λ (entry : Entry Job Said). entry.pass ≤ length lanes)
          (λ entry some. owned_few (length lanes) entry.pass passes (subst (λ (ps : List (Held (Entry Job Said) Opening)). All (λ (q : Held (Entry Job Said) Opening). q.number ≤ length lanes) ps) (sym passes_is) few) some) kept owned;
    })

all_of_each : {A : Type 0} (P Q : A → Type 0) → ((a : A) → P a → Q a) → (xs : List A) → Each P xs → All Q xs
all_of_each P Q gives [] h = λ k d lt. absurd (omega arith)
all_of_each P Q gives (x ∷ xs) h = All-cons Q x xs (gives x h.0) (all_of_each P Q gives xs h.1)

all_lanes : {W Opening Job Said : Type 0} (P : Held (Entry Job Said) Opening → Type 0) (lanes : List (LaneView W Opening Job Said)) → Each (λ (lane : LaneView W Opening Job Said). P lane.pass) lanes
    → All P (map (λ (lane : LaneView W Opening Job Said). lane.pass) lanes)
all_lanes P [] h = λ k d lt. absurd (omega arith)
all_lanes P (lane ∷ lanes) h = All-cons P lane.pass _ h.0 (all_lanes P lanes h.1)

-- What a builder and lanes tell, their passes tell.
pub told_by :
    {W Opening State Job Said : Type 0} (rules : Rules Opening State Job Said) (id : TableId) (builder : Held (Entry Job Said) Opening) (lanes : List (LaneView W Opening Job Said))
    (opening : Opening) (history : List (Entry Job Said)) (passes : List (Held (Entry Job Said) Opening))
    → AreAtPosts id builder.root 0 lanes → builder.number ≡ 0
    → passes ≡ map (λ (lane : LaneView W Opening Job Said). lane.pass) lanes ++ builder ∷ [] → builder.root ≡ Some opening → IsHistoryOf rules builder lanes history
    → IsToldBy (λ (entry : Entry Job Said). entry.pass) opening history passes
told_by {W} {Opening} {State} {Job} {Said} rules id builder lanes opening history passes at first passes_is root_is hist =
    let same : hist.root ≡ opening = let found : Some hist.root ≡ Some opening = sym hist.known ∙ root_is in cc in
    let fits : Opening → Held (Entry Job Said) Opening → Type 0 = λ r. Agrees (λ (entry : Entry Job Said). entry.pass) r history in
    let whole : List (Held (Entry Job Said) Opening) = map (λ (lane : LaneView W Opening Job Said). lane.pass) lanes ++ builder ∷ [] in
    let owns : List (Held (Entry Job Said) Opening) → Entry Job Said → Type 0 = λ ps entry. Any (λ (q : Held (Entry Job Said) Opening). q.number ≡ entry.pass) ps in (
      subst (λ (ps : List (Held (Entry Job Said) Opening)). All (fits opening) ps) (sym passes_is)
          (subst (λ (r : Opening). All (fits r) whole) same
          (All-push (fits hist.root) (map (λ (lane : LaneView W Opening Job Said). lane.pass) lanes) builder (all_lanes (fits hist.root) lanes hist.lanes_agree) hist.builder_agrees)),
      subst (λ (ps : List (Held (Entry Job Said) Opening)). All (owns ps) history) (sym passes_is)
          (all_of_each (λ (entry : Entry Job Said). entry.pass ≤ length lanes) (owns whole) (λ entry few. passes_whole id builder.root lanes builder at first entry.pass (omega arith)) history hist.owned),
    )
