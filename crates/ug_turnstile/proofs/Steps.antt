-- Each step on the table keeps the rule.
use Rattle.std.proofs.Common.{◌≡◌, ◌≢◌, ◌⊎◌, ℕ, zero, suc, ◌+◌, ◌-◌, ◌<◌, ◌≤◌, Bool, true, false, eqb, ne_eqb, List, [], ◌∷◌, ◌++◌, map, length, get_or, set, sym, refl, ap, ◌∙◌, subst, inl, inr, ⊎_elim, arith, append-nil, Any, Option, Some}
use Rattle.std.proofs.lemmas.List.Elements.{filter-append}
use Rattle.std.proofs.lemmas.Bool.{false≢true}
use mathlib.Core.Option.{some, some-injective, some-ne-none}
use mathlib.Core.Option as maybe
use native.Mathlib.Decide.{ℕ_discrete}
use prog.Atomic.{either}
use lib.ListN.{get_elem?}
use Rattle.atomic_table.specs.Table.{State, Me, Act, step, keeps, takes, gives, Valid, carried_after, Allows, Splits, Joins, Final, Seen, opening, stepped}
use Rattle.atomic_table.specs.Seated.{TableId}
use Rattle.atomic_table.proofs.Lists.{at_set, set_else, set_again, at_longer, at_snoc}
use Rattle.ug_turnstile.specs.declared.view.Part.{Part}
use Rattle.ug_turnstile.specs.declared.view.View.{View}
use Rattle.ug_turnstile.specs.Passes.{Held, owned_by, StartsWith, Adds, Agrees}
use Rattle.ug_turnstile.specs.Rule.{part, view, fresh_parts, opened, Each, Fits, IsFree, IsTaken, Kept, Meets, claimed, released, pass_of}
use Rattle.ug_turnstile.proofs.Entries.{each_map, each_append, each_both, each_of_all, owned_none, all_of_each, each_over_map, any_under_map, starts_all, starts_longer}

abbrev pick : {P : Type 0} → Dec P → ℕ → ℕ → ℕ
pick (yes _) a b = a
pick (no _) a b = b

-- the numbers that sat in the seat i sit in the seat to
pub moved : (ℕ → ℕ) → ℕ → ℕ → ℕ → ℕ
moved f i to k = pick (ℕ_discrete (f k) i) to (f k)

pub moved_here : (f : ℕ → ℕ) (i to k : ℕ) → f k ≡ i → moved f i to k ≡ to
unfolding moved
moved_here f i to k e = go (ℕ_discrete (f k) i)
  where
    go : (d : Dec (f k ≡ i)) → pick d to (f k) ≡ to
    go (yes _) = refl
    go (no n) = absurd (n e)

pub moved_else : (f : ℕ → ℕ) (i to k : ℕ) → f k ≢ i → moved f i to k ≡ f k
unfolding moved
moved_else f i to k other = go (ℕ_discrete (f k) i)
  where
    go : (d : Dec (f k ≡ i)) → pick d to (f k) ≡ f k
    go (yes e) = absurd (other e)
    go (no _) = refl

-- the number i sits in the seat to
pub put : (ℕ → ℕ) → ℕ → ℕ → ℕ → ℕ
put f i to k = pick (ℕ_discrete k i) to (f k)

pub put_here : (f : ℕ → ℕ) (i to : ℕ) → put f i to i ≡ to
unfolding put
put_here f i to = go (ℕ_discrete i i)
  where
    go : (d : Dec (i ≡ i)) → pick d to (f i) ≡ to
    go (yes _) = refl
    go (no n) = absurd (n refl)

pub put_else : (f : ℕ → ℕ) (i to k : ℕ) → k ≢ i → put f i to k ≡ f k
unfolding put
put_else f i to k other = go (ℕ_discrete k i)
  where
    go : (d : Dec (k ≡ i)) → pick d to (f k) ≡ f k
    go (yes e) = absurd (other e)
    go (no _) = refl

is_false : (b : Bool) → b ≢ true → b ≡ false
is_false true n = absurd (n refl)
is_false false n = refl

-- what is read after one more is either what was there or the new one, in the last place
at_end : {A : Type 0} (l : List A) (a b : A) (j : ℕ) → get_elem? (l ++ a ∷ []) j ≡ some b → (get_elem? l j ≡ some b) ⊎ ((a ≡ b) × (j ≡ length l))
at_end [] a b zero e = inr (some-injective a b e, refl)
at_end [] a b (suc j) e = absurd (some-ne-none b (sym e))
at_end (x ∷ xs) a b zero e = inl e
at_end (x ∷ xs) a b (suc j) e = ⊎_elim inl (λ t. inr (t.0, ap suc t.1)) (at_end xs a b j e)

set_found : {A : Type 0} (l : List A) (i : ℕ) (a b : A) → get_elem? l i ≡ some a → get_elem? (set l i b) i ≡ some b
set_found [] i a b e = absurd (some-ne-none a (sym e))
set_found (x ∷ xs) zero a b e = refl
set_found (x ∷ xs) (suc i) a b e = set_found xs i a b e

module _ {S E R : Type 0} (owner : E → ℕ) (root_of : S → R) (entries_of : S → List E) (spent_of : S → Bool) (root : R) (count : ℕ) where
  abbrev Now : Type 0
  Now = State (Option S) (View E R)

  abbrev Rule : Now → Type 0
  Rule = Kept owner root_of entries_of spent_of root count

  abbrev Right : List E → Bool → (ℕ → ℕ) → ℕ → Part E R → Type 0
  Right = Fits owner root_of entries_of spent_of root count

  fresh_fit : (sp : Bool) (number many : ℕ) → number + many ≤ count → Each (Right [] sp (λ _. 0) 0) (fresh_parts root number many)
  fresh_fit sp number zero le = tt
  fresh_fit sp number (suc many) le = (record { below = omega arith; rooted = refl; begins = ([], refl); knows = refl; spends = λ is. absurd (false≢true is); sits = refl }, fresh_fit sp (number + 1) many (omega arith))

  pub starts : (x : S) → root_of x ≡ root → entries_of x ≡ [] → Rule (opening (0 ∷ []) (Some x ∷ []) (opened root count))
  starts x rooted none = record {
    log = [];
    spent = spent_of x;
    seat_of = λ _. 0;
    turn = inl (record { state = x; word = refl; home = refl; rooted = rooted; logged = none; spends = refl; nobody = nobody });
    parts = parts;
    owned = tt;
  }
    where
      nobody : (seat : ℕ) (v : View E R) → get_elem? (opened root count ∷ []) seat ≡ some v → v.holds ≡ false
      nobody zero v e = ap (λ (w : View E R). w.holds) (sym (some-injective (opened root count) v e))
      nobody (suc seat) v e = absurd (some-ne-none v (sym e))

      parts : (seat : ℕ) (v : View E R) → get_elem? (opened root count ∷ []) seat ≡ some v → Each (Right [] (spent_of x) (λ _. 0) seat) v.parts
      parts zero v e = subst (λ (w : View E R). Each (Right [] (spent_of x) (λ _. 0) 0) w.parts) (some-injective (opened root count) v e) (fresh_fit (spent_of x) 0 count (omega arith))
      parts (suc seat) v e = absurd (some-ne-none v (sym e))

  -- a part that stays in its seat
  stays : (log : List E) (sp : Bool) (f g : ℕ → ℕ) (seat : ℕ) (p : Part E R) → g p.number ≡ f p.number → Right log sp f seat p → Right log sp g seat p
  stays log sp f g seat p same fits = record { below = fits.below; rooted = fits.rooted; begins = fits.begins; knows = fits.knows; spends = fits.spends; sits = same ∙ fits.sits }

  -- a part that goes to another seat
  sits_in : (log : List E) (sp : Bool) (f g : ℕ → ℕ) (seat to : ℕ) (p : Part E R) → g p.number ≡ to → Right log sp f seat p → Right log sp g to p
  sits_in log sp f g seat to p there fits = record { below = fits.below; rooted = fits.rooted; begins = fits.begins; knows = fits.knows; spends = fits.spends; sits = there }

  -- a seat that doesn't hold the turn is not the holder's
  apart : (views : List (View E R)) (id holder : ℕ) (v w : View E R) → get_elem? views id ≡ some v → v.holds ≡ false → get_elem? views holder ≡ some w → w.holds ≡ true → holder ≢ id
  apart views id holder v w at idle there busy same =
      let e : some v ≡ some w = sym at ∙ (ap (get_elem? views) (sym same) ∙ there) in
      false≢true (sym idle ∙ (ap (λ (u : View E R). u.holds) (some-injective v w e) ∙ busy))

  pub splits : (p : Part E R) (ps : List (Part E R)) (id : ℕ) → Each (λ q. q.number ≢ p.number) ps → Splits Rule id (view false (p ∷ ps)) (view false ps) (view false (p ∷ []))
  splits p ps id others s kept at = record {
    log = kept.log;
    spent = kept.spent;
    seat_of = seats;
    turn = ⊎_elim (λ free. inl (still_free free)) (λ taken. inr (still_taken taken)) kept.turn;
    parts = parts;
    owned = kept.owned;
  }
    where
      left : View E R
      left = view false ps

      right : View E R
      right = view false (p ∷ [])

      last : ℕ
      last = length (set s.views id left)

      seats : ℕ → ℕ
      seats = put kept.seat_of p.number last

      mine_fit : Each (Right kept.log kept.spent kept.seat_of id) (p ∷ ps)
      mine_fit = kept.parts id (view false (p ∷ ps)) at

      now : Now
      now = record { words = s.words; homes = s.homes; views = set s.views id left ++ right ∷ [] }

      nobody : IsFree owner root_of entries_of spent_of root count kept.log kept.spent s → (seat : ℕ) (v : View E R) → get_elem? now.views seat ≡ some v → v.holds ≡ false
      nobody free seat v e = ⊎_elim
          (λ t. ⊎_elim (λ u. ap (λ (w : View E R). w.holds) (sym u.1)) (λ u. free.nobody seat v u.1) (at_set s.views id seat left v t))
          (λ t. ap (λ (w : View E R). w.holds) (sym t.0)) (at_end (set s.views id left) right v seat e)

      still_free : IsFree owner root_of entries_of spent_of root count kept.log kept.spent s → IsFree owner root_of entries_of spent_of root count kept.log kept.spent now
      still_free free = record { state = free.state; word = free.word; home = free.home; rooted = free.rooted; logged = free.logged; spends = free.spends; nobody = nobody free }

      alone : (taken : IsTaken owner root_of entries_of spent_of root count kept.log kept.spent s) (seat : ℕ) (v : View E R) → get_elem? now.views seat ≡ some v → v.holds ≡ true → seat ≡ taken.holder
      alone taken seat v e busy = ⊎_elim
          (λ t. ⊎_elim (λ u. absurd (false≢true (ap (λ (w : View E R). w.holds) u.1 ∙ busy))) (λ u. taken.alone seat v u.1 busy) (at_set s.views id seat left v t))
          (λ t. absurd (false≢true (ap (λ (w : View E R). w.holds) t.0 ∙ busy))) (at_end (set s.views id left) right v seat e)

      still_taken : IsTaken owner root_of entries_of spent_of root count kept.log kept.spent s → IsTaken owner root_of entries_of spent_of root count kept.log kept.spent now
      still_taken taken = record {
        holder = taken.holder;
        number = taken.number;
        word = taken.word;
        away = taken.away;
        view_is = at_longer (set s.views id left) (right ∷ []) taken.holder _ (set_else s.views id taken.holder left (apart s.views id taken.holder (view false (p ∷ ps)) _ at refl taken.view_is refl) ∙ taken.view_is);
        alone = alone taken;
      }

      parts : (seat : ℕ) (v : View E R) → get_elem? now.views seat ≡ some v → Each (Right kept.log kept.spent seats seat) v.parts
      parts seat v e = ⊎_elim
          (λ t. ⊎_elim
          (λ u. subst (λ (w : View E R). Each (Right kept.log kept.spent seats seat) w.parts) u.1 (subst (λ (k : ℕ). Each (Right kept.log kept.spent seats k) ps) (sym u.0)
          (each_map (λ q h. stays kept.log kept.spent kept.seat_of seats id q (put_else kept.seat_of p.number last q.number h.1) h.0) ps (each_both (Right kept.log kept.spent kept.seat_of id) (λ q. q.number ≢ p.number) ps mine_fit.1 others))))
          (λ u. each_map (λ q h. stays kept.log kept.spent kept.seat_of seats seat q (put_else kept.seat_of p.number last q.number (λ same. u.0 (sym h.sits ∙ (ap kept.seat_of same ∙ mine_fit.0.sits)))) h) v.parts (kept.parts seat v u.1))
          (at_set s.views id seat left v t))
          (λ t. subst (λ (w : View E R). Each (Right kept.log kept.spent seats seat) w.parts) t.0 (sits_in kept.log kept.spent kept.seat_of seats id seat p (put_here kept.seat_of p.number last ∙ sym t.1) mine_fit.0, tt))
          (at_end (set s.views id left) right v seat e)

  -- a new seat with no part
  pub arrives : (s : Now) → Rule s → Rule (record { words = s.words; homes = s.homes; views = s.views ++ view false [] ∷ [] })
  arrives s kept = record {
    log = kept.log;
    spent = kept.spent;
    seat_of = kept.seat_of;
    turn = ⊎_elim (λ free. inl (still_free free)) (λ taken. inr (still_taken taken)) kept.turn;
    parts = λ seat v e. ⊎_elim (kept.parts seat v) (λ same. subst (λ (w : View E R). Each (Right kept.log kept.spent kept.seat_of seat) w.parts) same tt) (at_snoc s.views (view false []) v seat e);
    owned = kept.owned;
  }
    where
      now : Now
      now = record { words = s.words; homes = s.homes; views = s.views ++ view false [] ∷ [] }

      still_free : IsFree owner root_of entries_of spent_of root count kept.log kept.spent s → IsFree owner root_of entries_of spent_of root count kept.log kept.spent now
      still_free free = record {
        state = free.state;
        word = free.word;
        home = free.home;
        rooted = free.rooted;
        logged = free.logged;
        spends = free.spends;
        nobody = λ seat v e. ⊎_elim (free.nobody seat v) (λ same. ap (λ (w : View E R). w.holds) (sym same)) (at_snoc s.views (view false []) v seat e);
      }

      still_taken : IsTaken owner root_of entries_of spent_of root count kept.log kept.spent s → IsTaken owner root_of entries_of spent_of root count kept.log kept.spent now
      still_taken taken = record {
        holder = taken.holder;
        number = taken.number;
        word = taken.word;
        away = taken.away;
        view_is = at_longer s.views (view false [] ∷ []) taken.holder _ taken.view_is;
        alone = λ seat v e busy. ⊎_elim (λ t. taken.alone seat v t busy) (λ same. absurd (false≢true (ap (λ (w : View E R). w.holds) same ∙ busy))) (at_snoc s.views (view false []) v seat e);
      }

  -- the first of the list is lent out and the seat holds the turn
  pub claims : (p : Part E R) (id : ℕ) → Allows Rule 1 id (view false (p ∷ []), []) 0 (λ n. either (eqb n 0) (p.number + 1) n) (claimed owner root_of entries_of spent_of (step 1 0 0 (p.number + 1) maybe.none) (view false (p ∷ []), []))
  claims p id s kept slots at small = ⊎_elim wins loses kept.turn
    where
      before : View E R
      before = view false (p ∷ [])

      Then : ℕ → Me (Option S) (View E R) → Type 0
      Then = claimed owner root_of entries_of spent_of (step 1 0 0 (p.number + 1) maybe.none) (before, [])

      found : ℕ
      found = get_or s.words 0 0

      fits : Right kept.log kept.spent kept.seat_of id p
      fits = (kept.parts id before at).0

      Goal : Type 0
      Goal = (w : View E R) × (a : Act (Option S)) × Valid s.homes [] a × Rule (stepped s 0 (either (eqb found 0) (p.number + 1) found) id [] w a) × Then found (w, carried_after [] a)

      wins : IsFree owner root_of entries_of spent_of root count kept.log kept.spent s → Goal
      wins free = (after, takes 0 (Some free.state), ap (λ (hs : List (maybe.Option (Option S))). get_elem? hs 0) free.home, ruled, told)
        where
          log : List E
          log = kept.log

          after : View E R
          after = view true (part p.number p.root (entries_of free.state) (spent_of free.state) ∷ [])

          now : Now
          now = stepped s 0 (either (eqb found 0) (p.number + 1) found) id [] after (takes 0 (Some free.state))

          view_is : after ≡ view true (part p.number root log kept.spent ∷ [])
          view_is = ap (λ (r : R). view true (part p.number r (entries_of free.state) (spent_of free.state) ∷ [])) fits.rooted ∙ (ap (λ (es : List E). view true (part p.number root es (spent_of free.state) ∷ [])) free.logged ∙ ap (λ (b : Bool). view true (part p.number root log b ∷ [])) free.spends)

          alone : (seat : ℕ) (v : View E R) → get_elem? now.views seat ≡ some v → v.holds ≡ true → seat ≡ id
          alone seat v e busy = ⊎_elim (λ u. u.0) (λ u. absurd (false≢true (sym (free.nobody seat v u.1) ∙ busy))) (at_set s.views id seat after v e)

          parts : (seat : ℕ) (v : View E R) → get_elem? now.views seat ≡ some v → Each (Right log kept.spent kept.seat_of seat) v.parts
          parts seat v e = ⊎_elim
              (λ u. subst (λ (w : View E R). Each (Right log kept.spent kept.seat_of seat) w.parts) (sym view_is ∙ u.1)
              (record { below = fits.below; rooted = refl; begins = starts_all log; knows = refl; spends = λ is. is; sits = fits.sits ∙ sym u.0 }, tt))
              (λ u. kept.parts seat v u.1)
              (at_set s.views id seat after v e)

          ruled : Rule now
          ruled = record {
            log = log;
            spent = kept.spent;
            seat_of = kept.seat_of;
            turn = inr (record {
              holder = id;
              number = p.number;
              word = ap (λ (ws : List ℕ). set ws 0 (either (eqb (get_or ws 0 0) 0) (p.number + 1) (get_or ws 0 0))) free.word;
              away = ap (λ (hs : List (maybe.Option (Option S))). set hs 0 maybe.none) free.home;
              view_is = set_found s.views id before after at ∙ ap some view_is;
              alone = alone;
            });
            parts = parts;
            owned = kept.owned;
          }

          meets : Meets owner root_of entries_of spent_of free.state p
          meets = (
            free.rooted ∙ sym fits.rooted,
            subst (λ (es : List E). StartsWith es p.seen) (sym free.logged) fits.begins,
            ap (owned_by owner p.number) free.logged ∙ fits.knows,
            λ is. free.spends ∙ fits.spends is,
          )

          told : Then found (after, (0, Some free.state) ∷ [])
          told = (λ zero_found. (free.state, refl, (meets, tt)), λ other. absurd (other (ap (λ (ws : List ℕ). get_or ws 0 0) free.word)))

      loses : IsTaken owner root_of entries_of spent_of root count kept.log kept.spent s → Goal
      loses taken = (before, keeps, tt, subst Rule same kept, (λ zero_found. absurd (busy zero_found), λ other. refl))
        where
          word : found ≡ taken.number + 1
          word = ap (λ (ws : List ℕ). get_or ws 0 0) taken.word

          busy : found ≢ 0
          busy none = let e : taken.number + 1 ≡ 0 = sym word ∙ none in omega arith

          words_same : (ws : List ℕ) → ws ≡ (taken.number + 1) ∷ [] → ws ≡ set ws 0 (either (eqb (get_or ws 0 0) 0) (p.number + 1) (get_or ws 0 0))
          words_same ws e = subst (λ (us : List ℕ). us ≡ set us 0 (either (eqb (get_or us 0 0) 0) (p.number + 1) (get_or us 0 0))) (sym e) (rw (ne_eqb (taken.number + 1) 0 (λ none. omega arith)) refl)

          same : s ≡ stepped s 0 (either (eqb found 0) (p.number + 1) found) id [] before keeps
          same = let views : s.views ≡ set s.views id before = sym (set_again s.views id before at) in
              λ k. record { words = words_same s.words taken.word k; homes = s.homes; views = views k }

  -- the state goes home, with entries that the holder owns behind those that it took
  pub releases : (p : Part E R) (y : S) (id : ℕ) → root_of y ≡ p.root → Adds owner p.number p.seen (entries_of y) → (p.spent ≡ true → spent_of y ≡ true)
      → Allows Rule 1 id (view true (p ∷ []), (0, Some y) ∷ []) 0 (λ _. 0) (λ _. released owner root_of entries_of spent_of (step 1 0 0 0 maybe.none) (view true (p ∷ []), (0, Some y) ∷ []) 0)
  releases p y id rooted adds spends s kept slots at small = ⊎_elim
      (λ free. absurd (false≢true (sym (free.nobody id before at))))
      (λ taken. (after, gives, tt, ruled taken, refl)) kept.turn
    where
      before : View E R
      before = view true (p ∷ [])

      log : List E
      log = entries_of y

      q : Part E R
      q = part p.number p.root log (spent_of y)

      after : View E R
      after = view false (q ∷ [])

      now : Now
      now = stepped s 0 0 id ((0, Some y) ∷ []) after gives

      fits : Right kept.log kept.spent kept.seat_of id p
      fits = (kept.parts id before at).0

      seen_in : View E R → List E
      seen_in v = seen_first v.parts
        where
          seen_first : List (Part E R) → List E
          seen_first [] = []
          seen_first (x ∷ xs) = x.seen

      spent_of_view : View E R → Bool
      spent_of_view v = spent_first v.parts
        where
          spent_first : List (Part E R) → Bool
          spent_first [] = false
          spent_first (x ∷ xs) = x.spent

      ruled : IsTaken owner root_of entries_of spent_of root count kept.log kept.spent s → Rule now
      ruled taken = record {
        log = log;
        spent = spent_of y;
        seat_of = kept.seat_of;
        turn = inl (record {
          state = y;
          word = ap (λ (ws : List ℕ). set ws 0 0) taken.word;
          home = ap (λ (hs : List (maybe.Option (Option S))). set hs 0 (some (Some y))) taken.away;
          rooted = rooted ∙ fits.rooted;
          logged = refl;
          spends = refl;
          nobody = nobody;
        });
        parts = parts;
        owned = subst (Each (λ e. owner e < count)) (sym longer) (each_append (λ e. owner e < count) kept.log adds.0 kept.owned
            (each_map (λ e same. subst (λ (n : ℕ). n < count) (sym same) fits.below) adds.0 (each_of_all (λ e. owner e ≡ p.number) adds.0 adds.2)));
      }
        where
          here : id ≡ taken.holder
          here = taken.alone id before at refl

          seen_is : p.seen ≡ kept.log
          seen_is = ap seen_in (some-injective before (view true (part taken.number root kept.log kept.spent ∷ [])) (sym at ∙ (ap (get_elem? s.views) here ∙ taken.view_is)))

          spent_is : p.spent ≡ kept.spent
          spent_is = ap spent_of_view (some-injective before (view true (part taken.number root kept.log kept.spent ∷ [])) (sym at ∙ (ap (get_elem? s.views) here ∙ taken.view_is)))

          longer : log ≡ kept.log ++ adds.0
          longer = adds.1 ∙ ap (λ (es : List E). es ++ adds.0) seen_is

          nobody : (seat : ℕ) (v : View E R) → get_elem? now.views seat ≡ some v → v.holds ≡ false
          nobody seat v e = ⊎_elim
              (λ u. ap (λ (w : View E R). w.holds) (sym u.1))
              (λ u. is_false v.holds (λ busy. u.0 (taken.alone seat v u.1 busy ∙ sym here)))
              (at_set s.views id seat after v e)

          grows : (seat : ℕ) (r : Part E R) → seat ≢ id → Right kept.log kept.spent kept.seat_of seat r → Right log (spent_of y) kept.seat_of seat r
          grows seat r other h = record {
            below = h.below;
            rooted = h.rooted;
            begins = starts_longer kept.log r.seen adds.0 log h.begins longer;
            knows = ap (owned_by owner r.number) longer ∙ (filter-append (λ e. eqb (owner e) r.number) kept.log adds.0
                ∙ (ap (λ (es : List E). owned_by owner r.number kept.log ++ es) (owned_none owner p.number r.number (λ same. other (sym h.sits ∙ (ap kept.seat_of same ∙ fits.sits))) adds.0 (each_of_all (λ e. owner e ≡ p.number) adds.0 adds.2))
                ∙ (append-nil (owned_by owner r.number kept.log) ∙ h.knows)));
            spends = λ is. spends (spent_is ∙ h.spends is);
            sits = h.sits;
          }

          parts : (seat : ℕ) (v : View E R) → get_elem? now.views seat ≡ some v → Each (Right log (spent_of y) kept.seat_of seat) v.parts
          parts seat v e = ⊎_elim
              (λ u. subst (λ (w : View E R). Each (Right log (spent_of y) kept.seat_of seat) w.parts) u.1
              (record { below = fits.below; rooted = fits.rooted; begins = starts_all log; knows = refl; spends = λ is. is; sits = fits.sits ∙ sym u.0 }, tt))
              (λ u. each_map (λ r h. grows seat r u.0 h) v.parts (kept.parts seat v u.1))
              (at_set s.views id seat after v e)

  -- a seat takes in the parts of another, and neither holds the turn
  pub joins : (vs ws : List (Part E R)) (id other : ℕ) → Joins Rule id (view false vs) other (view false ws) (view false (ws ++ vs)) (view false [])
  joins vs ws id other s kept at ne at_other = record {
    log = kept.log;
    spent = kept.spent;
    seat_of = seats;
    turn = ⊎_elim (λ free. inl (still_free free)) (λ taken. inr (still_taken taken)) kept.turn;
    parts = parts;
    owned = kept.owned;
  }
    where
      both : View E R
      both = view false (ws ++ vs)

      spent : View E R
      spent = view false []

      mid : List (View E R)
      mid = set s.views id both

      now : Now
      now = record { words = s.words; homes = s.homes; views = set mid other spent }

      was_other : get_elem? s.views other ≡ some (view false ws)
      was_other = sym (set_else s.views id other both ne) ∙ at_other

      seats : ℕ → ℕ
      seats = moved kept.seat_of other id

      found : (P : ℕ → View E R → Type 0) → P id both → P other spent → ((seat : ℕ) (v : View E R) → seat ≢ id → seat ≢ other → get_elem? s.views seat ≡ some v → P seat v)
          → (seat : ℕ) (v : View E R) → get_elem? now.views seat ≡ some v → P seat v
      found P p q r seat v e = ⊎_elim
          (λ t. subst (λ (k : ℕ). P k v) (sym t.0) (subst (P other) t.1 q))
          (λ t. ⊎_elim (λ u. subst (λ (k : ℕ). P k v) (sym u.0) (subst (P id) u.1 p)) (λ u. r seat v u.0 t.0 u.1) (at_set s.views id seat both v t.1))
          (at_set mid other seat spent v e)

      still_free : IsFree owner root_of entries_of spent_of root count kept.log kept.spent s → IsFree owner root_of entries_of spent_of root count kept.log kept.spent now
      still_free free = record {
        state = free.state;
        word = free.word;
        home = free.home;
        rooted = free.rooted;
        logged = free.logged;
        spends = free.spends;
        nobody = found (λ seat v. v.holds ≡ false) refl refl (λ seat v a b e. free.nobody seat v e);
      }

      still_taken : IsTaken owner root_of entries_of spent_of root count kept.log kept.spent s → IsTaken owner root_of entries_of spent_of root count kept.log kept.spent now
      still_taken taken = record {
        holder = taken.holder;
        number = taken.number;
        word = taken.word;
        away = taken.away;
        view_is = set_else mid other taken.holder spent (apart s.views other taken.holder (view false ws) _ was_other refl taken.view_is refl)
            ∙ (set_else s.views id taken.holder both (apart s.views id taken.holder (view false vs) _ at refl taken.view_is refl) ∙ taken.view_is);
        alone = found (λ seat v. v.holds ≡ true → seat ≡ taken.holder) (λ busy. absurd (false≢true busy)) (λ busy. absurd (false≢true busy)) (λ seat v a b e. taken.alone seat v e);
      }

      parts : (seat : ℕ) (v : View E R) → get_elem? now.views seat ≡ some v → Each (Right kept.log kept.spent seats seat) v.parts
      parts = found (λ seat v. Each (Right kept.log kept.spent seats seat) v.parts)
          (each_append (Right kept.log kept.spent seats id) ws vs
          (each_map (λ p h. sits_in kept.log kept.spent kept.seat_of seats other id p (moved_here kept.seat_of other id p.number h.sits) h) ws (kept.parts other (view false ws) was_other))
          (each_map (λ p h. stays kept.log kept.spent kept.seat_of seats id p (moved_else kept.seat_of other id p.number (λ same. ne (sym same ∙ h.sits))) h) vs (kept.parts id (view false vs) at)))
          tt
          (λ seat v a b e. each_map (λ p h. stays kept.log kept.spent kept.seat_of seats seat p (moved_else kept.seat_of other id p.number (λ same. b (sym h.sits ∙ same))) h) v.parts (kept.parts seat v e))

  -- what a state at home says of every part in a seat
  pub record Ends (homes : List (maybe.Option (Option S))) (ps : List (Part E R)) : Type 0 where
    pub state : S
    pub home : homes ≡ some (Some state) ∷ []
    pub meets : Each (Meets owner root_of entries_of spent_of state) ps
    pub owned : Each (λ e. owner e < count) (entries_of state)

  -- a seat that has a part of every number finds the turn free
  pub ends : (s : Now) (id : ℕ) (ps : List (Part E R)) → Rule s → get_elem? s.views id ≡ some (view false ps) → ((number : ℕ) → number < count → Any (λ p. p.number ≡ number) ps) → Ends s.homes ps
  ends s id ps kept at whole = ⊎_elim frees (λ taken. absurd (none_away taken)) kept.turn
    where
      mine : Each (Right kept.log kept.spent kept.seat_of id) ps
      mine = kept.parts id (view false ps) at

      meets : (x : S) → root_of x ≡ root → entries_of x ≡ kept.log → spent_of x ≡ kept.spent → (p : Part E R) → Right kept.log kept.spent kept.seat_of id p → Meets owner root_of entries_of spent_of x p
      meets x rooted logged spends p h = (
        rooted ∙ sym h.rooted,
        subst (λ (es : List E). StartsWith es p.seen) (sym logged) h.begins,
        ap (owned_by owner p.number) logged ∙ h.knows,
        λ is. spends ∙ h.spends is,
      )

      frees : IsFree owner root_of entries_of spent_of root count kept.log kept.spent s → Ends s.homes ps
      frees free = record {
        state = free.state;
        home = free.home;
        meets = each_map (meets free.state free.rooted free.logged free.spends) ps mine;
        owned = subst (Each (λ e. owner e < count)) (sym free.logged) kept.owned;
      }

      none_away : IsTaken owner root_of entries_of spent_of root count kept.log kept.spent s → ⊥
      none_away taken =
          let fits = (kept.parts taken.holder _ taken.view_is).0 in
          let found = whole taken.number fits.below in
          let right = subst (Right kept.log kept.spent kept.seat_of id) found.3 (all_of_each (Right kept.log kept.spent kept.seat_of id) ps mine found.0 found.1 found.2) in
          apart s.views id taken.holder (view false ps) _ at refl taken.view_is refl (sym fits.sits ∙ (ap kept.seat_of (sym found.4) ∙ right.sits))

module _ {S E R : Type 0} (owner : E → ℕ) (root_of : S → R) (entries_of : S → List E) (spent_of : S → Bool) (root : R) (count : ℕ) where
  -- the state in the slot is as each pass says, and its entries are of these passes
  pub record Closes (slots : List (Option S)) (passes : List (Held E R)) : Type 0 where
    pub state : S
    pub slot : get_elem? slots 0 ≡ some (Some state)
    pub agrees : Each (Agrees owner (root_of state) (entries_of state)) passes
    pub spends : Each (λ p. p.spent ≡ true → spent_of state ≡ true) passes
    pub owned : Each (λ e. Any (λ p. p.number ≡ owner e) passes) (entries_of state)

  pub closes : (id : ℕ) (v : View E R) (words : List ℕ) (slots : List (Option S)) (table : TableId) (passes : List (Held E R)) → Final (Seen (Kept owner root_of entries_of spent_of root count) id v) words slots
      → v ≡ view false v.parts → map (pass_of table) v.parts ≡ passes → ((number : ℕ) → number < count → Any (λ p. p.number ≡ number) passes) → Closes slots passes
  closes id v words slots table passes final idle same whole =
      let parts : (number : ℕ) → number < count → Any (λ p. p.number ≡ number) v.parts =
      λ number lt. any_under_map (pass_of table) (λ p. p.number ≡ number) v.parts (subst (Any (λ p. p.number ≡ number)) (sym same) (whole number lt)) in
      let ended = ends owner root_of entries_of spent_of root count final.0 id v.parts final.1.0 (final.1.1 ∙ ap some idle) parts in
      record {
        state = ended.state;
        slot = final.4 0 (Some ended.state) (ap (λ (hs : List (maybe.Option (Option S))). get_elem? hs 0) ended.home);
        agrees = subst (Each (Agrees owner (root_of ended.state) (entries_of ended.state))) same
            (each_over_map (pass_of table) (Agrees owner (root_of ended.state) (entries_of ended.state)) v.parts
            (each_map (λ p h. (ap Some (sym h.0), h.1, h.2)) v.parts ended.meets));
        spends = subst (Each (λ p. p.spent ≡ true → spent_of ended.state ≡ true)) same
            (each_over_map (pass_of table) (λ p. p.spent ≡ true → spent_of ended.state ≡ true) v.parts (each_map (λ p h. h.3) v.parts ended.meets));
        owned = each_map (λ e lt. whole (owner e) lt) (entries_of ended.state) ended.owned;
      }

module _ (E : Type 0) {R : Type 0} (root : R) where
  -- the first of the parts that are still to be made, and the others
  pub fresh_next : (number count : ℕ) → number < count → fresh_parts {E = E} root number (count - number) ≡ part number root [] false ∷ fresh_parts root (number + 1) (count - (number + 1))
  fresh_next number count lt = let e : count - number ≡ suc (count - (number + 1)) = omega arith in ap (fresh_parts root number) e

  pub fresh_apart : (low number many : ℕ) → low < number → Each (λ q. q.number ≢ low) (fresh_parts {E = E} root number many)
  fresh_apart low number zero lt = tt
  fresh_apart low number (suc many) lt = ((λ same. omega arith), fresh_apart low (number + 1) many (omega arith))
