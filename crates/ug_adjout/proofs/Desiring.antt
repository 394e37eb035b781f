-- Keys that are desired anew one after the other come to the same as rows that are desired at once.
use Rattle.std.proofs.Common.{◌≡◌, Bool, true, false, cond, not, ◌&&◌, ◌||◌, List, [], ◌∷◌, ◌++◌, Option, Some, None, refl, sym, ◌∙◌, ap, subst}
use Rattle.std.specs.Prelude.{is_some}
use Rattle.std.specs.Option.{option_eq}
use Rattle.std.specs.List.{filter, AllByRecursion}
use Rattle.std.specs.List.Sorted.{IsStrictlySortedBy}
use Rattle.std.specs.Map.{keys_of}
use Rattle.std.specs.BTreeMap.{is_at}
use Rattle.std.specs.FinMap.{IsAntisymmetric}
use Rattle.std.specs.Cmp.{IsTotalOrder}
use Rattle.std.specs.declared.cmp.Ordering.{Ordering}
use Rattle.std.proofs.lemmas.List.{append-nil}
use Rattle.std.proofs.lemmas.List.Elements.{filter-append}
use Rattle.std.proofs.lemmas.List.Kept.{IsStrictlySortedBy-filter}
use Rattle.ug_adjout.specs.Tables.{has, joined, value_at, with_value, IsTable}
use Rattle.ug_adjout.specs.Pending.{AdjRibOut, settled, still_forced, waits, requeue, with_desired, IsExact}
use Rattle.ug_adjout.specs.TableLaws.{one_key, value_at-other, value_at-here, has-filter, has-joined, has-keys_of, sorted-joined, filter_agreeing, all_from_has}
use Rattle.ug_adjout.specs.PendingLaws.{waits-with_desired, exact-with_desired}
use Rattle.ug_adjout.specs.Desiring.{with_each_desired, with_all_desired, AreForcedShown}
use Rattle.ug_adjout.proofs.SameTables.{absent_above, same_list, same_table}

-- ---- tests

both_false : (a : Bool) → (a && false) ≡ false
both_false true = refl
both_false false = refl

-- a test behind one that it implies
narrow : {K : Type 0} (f g : K → Bool) (xs : List K) → AllByRecursion (λ x. f x ≡ true → g x ≡ true) xs → filter f (filter g xs) ≡ filter f xs
narrow f g [] h = refl
narrow f g (x ∷ xs) h = by (f x) (g x) refl refl (narrow f g xs h.1)
  where
    by : (p q : Bool) → f x ≡ p → g x ≡ q → filter f (filter g xs) ≡ filter f xs → filter f (cond q (x ∷ filter g xs) (filter g xs)) ≡ cond p (x ∷ filter f xs) (filter f xs)
    by true true e d rest = ap (λ b. cond b (x ∷ filter f (filter g xs)) (filter f (filter g xs))) e ∙ ap (λ l. x ∷ l) rest
    by true false e d rest = absurd (let z = sym (h.0 e) ∙ d in cc)
    by false true e d rest = ap (λ b. cond b (x ∷ filter f (filter g xs)) (filter f (filter g xs))) e ∙ rest
    by false false e d rest = rest

all_so : {K : Type 0} (P : K → Type 0) (xs : List K) → ((x : K) → P x) → AllByRecursion P xs
all_so P [] h = tt
all_so P (x ∷ xs) h = (h x, all_so P xs h)

filter_one : {K : Type 0} (f : K → Bool) (k : K) (b : Bool) → (b ≡ true → f k ≡ true) → filter f (cond b (k ∷ []) []) ≡ cond b (k ∷ []) []
filter_one f k true h = ap (λ t. cond t (k ∷ []) []) (h refl)
filter_one f k false h = refl

all_kept : {K : Type 0} (f : K → Bool) (xs : List K) → AllByRecursion (λ x. f x ≡ true) xs → filter f xs ≡ xs
all_kept f [] h = refl
all_kept f (x ∷ xs) h = ap (λ b. cond b (x ∷ filter f xs) (filter f xs)) h.0 ∙ ap (λ l. x ∷ l) (all_kept f xs h.1)

cond_append : {K : Type 0} (b : Bool) (k : K) (xs : List K) → cond b (k ∷ []) [] ++ xs ≡ cond b (k ∷ xs) xs
cond_append true k xs = refl
cond_append false k xs = refl

first_test : (a b : Bool) → (a && b) ≡ true → a ≡ true
first_test true b e = refl
first_test false b e = absurd cc

second_test : (a b : Bool) → (a && b) ≡ true → b ≡ true
second_test true b e = e
second_test false b e = absurd cc

three_parts : {K : Type 0} (xs ys zs : List K) → (xs ++ ys) ++ zs ≡ xs ++ (ys ++ zs)
three_parts [] ys zs = refl
three_parts (x ∷ xs) ys zs = ap (λ l. x ∷ l) (three_parts xs ys zs)

module _ {K V : Type 0} {cmp : K → K → Ordering} (total : IsTotalOrder cmp) (exact : IsAntisymmetric cmp) (same : V → V → Bool) where
  -- ---- the list of pending keys

  -- Of keys that change in order, the first changes and then the others: where from then on it waits or not as it does then,
  -- each other key waits as before until it changes, and the list was exact.
  requeued : (last now before : K → Bool) (old : List K) (key : K) (keys : List K)
      → last key ≡ now key → ((q : K) → is_at (cmp q) key ≡ false → now q ≡ before q) → ((q : K) → has cmp old q ≡ before q)
      → ((q : K) → has cmp (requeue cmp now old (key ∷ [])) q ≡ now q) → has cmp keys key ≡ false
      → requeue cmp last (requeue cmp now old (key ∷ [])) keys ≡ requeue cmp last old (key ∷ keys)
  requeued last now before old key keys here others was is apart =
      ap (λ l. l ++ filter (λ q. last q && not (has cmp (requeue cmp now old (key ∷ [])) q)) keys) front
      ∙ ap (λ l. (filter last old ++ cond (last key && not (has cmp old key)) (key ∷ []) []) ++ l) back
      ∙ three_parts (filter last old) (cond (last key && not (has cmp old key)) (key ∷ []) []) _
      ∙ ap (λ l. filter last old ++ l) (cond_append (last key && not (has cmp old key)) key _)
    where
      stays : (q : K) → has cmp old q ≡ true → last q ≡ true → now q ≡ true
      stays q listed waiting = by (is_at (cmp q) key) refl
        where
          by : (b : Bool) → is_at (cmp q) key ≡ b → now q ≡ true
          by true at = let one : q ≡ key = one_key total exact q key at in subst (λ z. now z ≡ true) (sym one) (sym here ∙ subst (λ z. last z ≡ true) one waiting)
          by false at = others q at ∙ sym (was q) ∙ listed

      kept : filter last (filter now old) ≡ filter last old
      kept = narrow last now old (all_from_has total exact (λ q. last q ≡ true → now q ≡ true) old (λ q listed. stays q listed))

      one : filter last (cond (now key && not (has cmp old key)) (key ∷ []) []) ≡ cond (last key && not (has cmp old key)) (key ∷ []) []
      one =
          filter_one last key (now key && not (has cmp old key)) (λ e. here ∙ first_test (now key) (not (has cmp old key)) e)
          ∙ ap (λ b. cond (b && not (has cmp old key)) (key ∷ []) []) (sym here)

      front : filter last (requeue cmp now old (key ∷ [])) ≡ filter last old ++ cond (last key && not (has cmp old key)) (key ∷ []) []
      front =
          filter-append last (filter now old) (cond (now key && not (has cmp old key)) (key ∷ []) [])
          ∙ ap (λ l. l ++ filter last (cond (now key && not (has cmp old key)) (key ∷ []) [])) kept
          ∙ ap (λ l. filter last old ++ l) one

      other : (q : K) → has cmp keys q ≡ true → is_at (cmp q) key ≡ false
      other q there = by (is_at (cmp q) key) refl
        where
          by : (b : Bool) → is_at (cmp q) key ≡ b → b ≡ false
          by true at = absurd (let z = sym there ∙ ap (has cmp keys) (one_key total exact q key at) ∙ apart in cc)
          by false at = refl

      back : filter (λ q. last q && not (has cmp (requeue cmp now old (key ∷ [])) q)) keys ≡ filter (λ q. last q && not (has cmp old q)) keys
      back =
          filter_agreeing total exact (λ q. last q && not (has cmp (requeue cmp now old (key ∷ [])) q)) (λ q. last q && not (has cmp old q)) keys
          (all_from_has total exact (λ q. (last q && not (has cmp (requeue cmp now old (key ∷ [])) q)) ≡ (last q && not (has cmp old q))) keys
          (λ q there. ap (λ b. last q && not b) (is q ∙ others q (other q there) ∙ sym (was q))))

  -- ---- one key

  same_forced : (f d h : Bool) → ((f || d) && ((f || d) && h)) ≡ ((f || d) && h)
  same_forced true d h = refl
  same_forced false true h = refl
  same_forced false false h = refl

  nil_appended : (old : List K) (w : K → Bool) → ((q : K) → has cmp old q ≡ w q) → requeue cmp w old [] ≡ old
  nil_appended old w is = append-nil (filter w old) ∙ all_kept w old (all_from_has total exact (λ q. w q ≡ true) old (λ q listed. sym (is q) ∙ listed))

  module _ (rows : List (K × V)) (sorted : IsTable cmp rows) where
    -- what is left to be changed, where the keys in order are those that differ
    abbrev target : AdjRibOut K V → List K → AdjRibOut K V
    target a keys = settled cmp same a.formatted rows (still_forced cmp a.formatted rows a.forced) a.pending keys

    shown_then : (a : AdjRibOut K V) (key : K) (w : Option V) → AreForcedShown cmp (with_desired cmp same a key w)
    shown_then a key w q forced =
        first_test (is_some (value_at cmp a.formatted q) || is_some (value_at cmp (with_value cmp a.desired key w) q)) (has cmp a.forced q)
        (sym (has-filter total exact (λ k. is_some (value_at cmp a.formatted k) || is_some (value_at cmp (with_value cmp a.desired key w) k)) a.forced q) ∙ forced)

    none_changed : (a : AdjRibOut K V) → IsExact cmp same a → AreForcedShown cmp a → ((q : K) → value_at cmp rows q ≡ value_at cmp a.desired q) → a ≡ target a []
    none_changed a is shown agree =
        let desired : a.desired ≡ rows = same_table total exact a.desired rows is.desired_rows sorted (λ q. sym (agree q)) in
        let forced : still_forced cmp a.formatted a.desired a.forced ≡ a.forced =
        all_kept (λ q. is_some (value_at cmp a.formatted q) || is_some (value_at cmp a.desired q)) a.forced
        (all_from_has total exact (λ q. (is_some (value_at cmp a.formatted q) || is_some (value_at cmp a.desired q)) ≡ true) a.forced shown)
        in
        let listed : requeue cmp (waits cmp same a.formatted a.desired (still_forced cmp a.formatted a.desired a.forced)) a.pending [] ≡ a.pending =
        ap (λ fs. requeue cmp (waits cmp same a.formatted a.desired fs) a.pending []) forced ∙ nil_appended a.pending (waits cmp same a.formatted a.desired a.forced) is.all
        in
        let here : a ≡ settled cmp same a.formatted a.desired (still_forced cmp a.formatted a.desired a.forced) a.pending [] =
        λ i. record { formatted = a.formatted; desired = a.desired; forced = sym forced i; pending = sym listed i }
        in
        here ∙ ap (λ ds. settled cmp same a.formatted ds (still_forced cmp a.formatted ds a.forced) a.pending []) desired

    module _ (a : AdjRibOut K V) (key : K) (is : IsExact cmp same a) (shown : AreForcedShown cmp a) where
      abbrev next : AdjRibOut K V
      next = with_desired cmp same a key (value_at cmp rows key)

      value_here : value_at cmp next.desired key ≡ value_at cmp rows key
      value_here = value_at-here total exact a.desired key (value_at cmp rows key) is.desired_rows

      -- the forced keys are the same, whether they are looked through twice or once
      forced_once : still_forced cmp a.formatted rows next.forced ≡ still_forced cmp a.formatted rows a.forced
      forced_once =
          narrow (λ q. is_some (value_at cmp a.formatted q) || is_some (value_at cmp rows q)) (λ q. is_some (value_at cmp a.formatted q) || is_some (value_at cmp next.desired q)) a.forced
          (all_from_has total exact _ a.forced (λ q there. keeps q there))
        where
          keeps : (q : K) → has cmp a.forced q ≡ true → (is_some (value_at cmp a.formatted q) || is_some (value_at cmp rows q)) ≡ true → (is_some (value_at cmp a.formatted q) || is_some (value_at cmp next.desired q)) ≡ true
          keeps q there stands = by (is_at (cmp q) key) refl
            where
              by : (b : Bool) → is_at (cmp q) key ≡ b → (is_some (value_at cmp a.formatted q) || is_some (value_at cmp next.desired q)) ≡ true
              by true at =
                  let one : q ≡ key = one_key total exact q key at in
                  subst (λ z. (is_some (value_at cmp a.formatted z) || is_some (value_at cmp next.desired z)) ≡ true) (sym one)
                  (ap (λ o. is_some (value_at cmp a.formatted key) || is_some o) value_here ∙ subst (λ z. (is_some (value_at cmp a.formatted z) || is_some (value_at cmp rows z)) ≡ true) one stands)
              by false at = ap (λ o. is_some (value_at cmp a.formatted q) || is_some o) (value_at-other total exact a.desired key q (value_at cmp rows key) at) ∙ shown q there

      waits_here : waits cmp same a.formatted rows (still_forced cmp a.formatted rows next.forced) key ≡ waits cmp same a.formatted next.desired next.forced key
      waits_here =
          let before : has cmp next.forced key ≡ ((is_some (value_at cmp a.formatted key) || is_some (value_at cmp rows key)) && has cmp a.forced key) =
          has-filter total exact (λ k. is_some (value_at cmp a.formatted k) || is_some (value_at cmp next.desired k)) a.forced key
          ∙ ap (λ o. (is_some (value_at cmp a.formatted key) || is_some o) && has cmp a.forced key) value_here
          in
          let then_forced : has cmp (still_forced cmp a.formatted rows next.forced) key ≡ has cmp next.forced key =
          has-filter total exact (λ k. is_some (value_at cmp a.formatted k) || is_some (value_at cmp rows k)) next.forced key
          ∙ ap (λ b. (is_some (value_at cmp a.formatted key) || is_some (value_at cmp rows key)) && b) before
          ∙ same_forced (is_some (value_at cmp a.formatted key)) (is_some (value_at cmp rows key)) (has cmp a.forced key)
          ∙ sym before
          in
          ap (λ b. not (option_eq same (value_at cmp a.formatted key) (value_at cmp rows key)) || (b && is_some (value_at cmp rows key))) then_forced
          ∙ ap (λ o. not (option_eq same (value_at cmp a.formatted key) o) || (has cmp next.forced key && is_some o)) (sym value_here)

      step : (keys : List K) → has cmp keys key ≡ false → target next keys ≡ target a (key ∷ keys)
      step keys apart =
          let list =
          requeued (waits cmp same a.formatted rows (still_forced cmp a.formatted rows next.forced)) (waits cmp same a.formatted next.desired next.forced) (waits cmp same a.formatted a.desired a.forced) a.pending key keys
          waits_here (λ q at. waits-with_desired total exact same a.formatted a.desired a.forced key q (value_at cmp rows key) at) is.all
          (exact-with_desired total exact same a key (value_at cmp rows key) is).all apart
          in
          (λ i. record { formatted = a.formatted; desired = rows; forced = still_forced cmp a.formatted rows next.forced; pending = list i })
          ∙ ap (λ fs. record { formatted = a.formatted; desired = rows; forced = fs; pending = requeue cmp (waits cmp same a.formatted rows fs) a.pending (key ∷ keys) }) forced_once

    each_is : (keys : List K) (a : AdjRibOut K V) → IsExact cmp same a → AreForcedShown cmp a → IsStrictlySortedBy cmp keys → ((q : K) → has cmp keys q ≡ false → value_at cmp rows q ≡ value_at cmp a.desired q)
        → with_each_desired cmp same (value_at cmp rows) a keys ≡ target a keys
    unfolding IsStrictlySortedBy
    each_is [] a is shown order agree = none_changed a is shown (λ q. agree q refl)
    each_is (key ∷ keys) a is shown order agree =
        let apart : has cmp keys key ≡ false = absent_above total exact key keys order.0 in
        each_is keys (with_desired cmp same a key (value_at cmp rows key)) (exact-with_desired total exact same a key (value_at cmp rows key) is) (shown_then a key (value_at cmp rows key)) order.1
        (λ q out. by q out (is_at (cmp q) key) refl)
        ∙ step a key is shown keys apart
      where
        by : (q : K) → has cmp keys q ≡ false → (b : Bool) → is_at (cmp q) key ≡ b → value_at cmp rows q ≡ value_at cmp (with_value cmp a.desired key (value_at cmp rows key)) q
        by q out true at =
            let one : q ≡ key = one_key total exact q key at in
            subst (λ z. value_at cmp rows z ≡ value_at cmp (with_value cmp a.desired key (value_at cmp rows key)) z) (sym one) (sym (value_at-here total exact a.desired key (value_at cmp rows key) is.desired_rows))
        by q out false at = agree q (ap (λ b. b || has cmp keys q) at ∙ out) ∙ sym (value_at-other total exact a.desired key q (value_at cmp rows key) at)

    -- ---- the keys that differ, in place of all keys of the tables

    some_value : (f d : Option V) (h : Bool) → (not (option_eq same f d) || (h && is_some d)) ≡ true → (is_some f || is_some d) ≡ true
    some_value None None h e = absurd (let z = sym e ∙ ap (λ b. false || b) (both_false h) in cc)
    some_value None (Some d) h e = refl
    some_value (Some f) d h e = refl

    module _ (a : AdjRibOut K V) (keys : List K) (is : IsExact cmp same a) (shown : AreForcedShown cmp a) (order : IsStrictlySortedBy cmp keys) (agree : (q : K) → has cmp keys q ≡ false → value_at cmp rows q ≡ value_at cmp a.desired q) where
      abbrev forced_then : List K
      forced_then = still_forced cmp a.formatted rows a.forced

      abbrev test : K → Bool
      test q = waits cmp same a.formatted rows forced_then q && not (has cmp a.pending q)

      abbrev all_keys : List K
      all_keys = joined cmp (keys_of a.formatted) (keys_of rows)

      has_all : (q : K) → waits cmp same a.formatted rows forced_then q ≡ true → has cmp all_keys q ≡ true
      has_all q waiting =
          has-joined total exact (keys_of a.formatted) (keys_of rows) q
          ∙ ap (λ b. b || has cmp (keys_of rows) q) (has-keys_of total exact a.formatted q)
          ∙ ap (λ b. is_some (value_at cmp a.formatted q) || b) (has-keys_of total exact rows q)
          ∙ some_value (value_at cmp a.formatted q) (value_at cmp rows q) (has cmp forced_then q) waiting

      same_here : (f d h : Bool) → (h ≡ true → (f || d) ≡ true) → ((f || d) && h) ≡ h
      same_here f d true s = ap (λ b. b && true) (s refl)
      same_here f d false s = both_false (f || d)

      -- a key that isn't among them waits as before
      waits_as : (q : K) → has cmp keys q ≡ false → waits cmp same a.formatted rows forced_then q ≡ has cmp a.pending q
      waits_as q out =
          let forced : has cmp forced_then q ≡ has cmp a.forced q =
          has-filter total exact (λ k. is_some (value_at cmp a.formatted k) || is_some (value_at cmp rows k)) a.forced q
          ∙ ap (λ o. (is_some (value_at cmp a.formatted q) || is_some o) && has cmp a.forced q) (agree q out)
          ∙ same_here (is_some (value_at cmp a.formatted q)) (is_some (value_at cmp a.desired q)) (has cmp a.forced q) (shown q)
          in
          ap (λ b. not (option_eq same (value_at cmp a.formatted q) (value_at cmp rows q)) || (b && is_some (value_at cmp rows q))) forced
          ∙ ap (λ o. not (option_eq same (value_at cmp a.formatted q) o) || (has cmp a.forced q && is_some o)) (agree q out)
          ∙ sym (is.all q)

      apart_test : (w h : Bool) → w ≡ h → (w && not h) ≡ false
      apart_test true true e = refl
      apart_test true false e = absurd cc
      apart_test false h e = refl

      has_keys : (q : K) → test q ≡ true → has cmp keys q ≡ true
      has_keys q passes = by (has cmp keys q) refl
        where
          by : (b : Bool) → has cmp keys q ≡ b → b ≡ true
          by true e = refl
          by false e = absurd (let z = sym passes ∙ apart_test _ _ (waits_as q e) in cc)

      tested : (t x y : Bool) → (t ≡ true → x ≡ true) → (t ≡ true → y ≡ true) → (t && x) ≡ (t && y)
      tested true x y h g = h refl ∙ sym (g refl)
      tested false x y h g = refl

      same_new : filter test keys ≡ filter test all_keys
      same_new =
          same_list total exact (filter test keys) (filter test all_keys) (IsStrictlySortedBy-filter cmp test keys order)
          (IsStrictlySortedBy-filter cmp test all_keys (sorted-joined total exact (keys_of a.formatted) (keys_of rows) is.formatted_rows))
          (λ q. has-filter total exact test keys q ∙ tested (test q) (has cmp keys q) (has cmp all_keys q) (has_keys q) (λ passes. has_all q (first_test (waits cmp same a.formatted rows forced_then q) (not (has cmp a.pending q)) passes)) ∙ sym (has-filter total exact test all_keys q))

      pub each-at_once : with_each_desired cmp same (value_at cmp rows) a keys ≡ with_all_desired cmp same rows a
      each-at_once =
          each_is keys a is shown order agree
          ∙ ap (λ l. record { formatted = a.formatted; desired = rows; forced = forced_then; pending = filter (waits cmp same a.formatted rows forced_then) a.pending ++ l }) same_new

  by_values : (f g : K → Option V) → ((q : K) → f q ≡ g q) → (keys : List K) (a : AdjRibOut K V) → with_each_desired cmp same f a keys ≡ with_each_desired cmp same g a keys
  by_values f g h [] a = refl
  by_values f g h (key ∷ keys) a = by_values f g h keys (with_desired cmp same a key (f key)) ∙ ap (λ w. with_each_desired cmp same g (with_desired cmp same a key w) keys) (h key)

  pub each-desired : (a : AdjRibOut K V) (rows : List (K × V)) (value : K → Option V) (keys : List K) → IsExact cmp same a → AreForcedShown cmp a → IsTable cmp rows → IsStrictlySortedBy cmp keys
      → ((q : K) → value_at cmp rows q ≡ value q) → ((q : K) → has cmp keys q ≡ false → value q ≡ value_at cmp a.desired q) → with_each_desired cmp same value a keys ≡ with_all_desired cmp same rows a
  each-desired a rows value keys is shown sorted order values agree =
      by_values value (value_at cmp rows) (λ q. sym (values q)) keys a
      ∙ each-at_once rows sorted a keys is shown order (λ q out. values q ∙ agree q out)
