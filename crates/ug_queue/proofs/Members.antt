-- Members that come and go, one after the other.
use Rattle.std.proofs.Common.{◌≡◌, ℕ, ◌<◌, Bool, true, false, cond, List, [], ◌∷◌, ◌++◌, length, Option, Some, None, refl, sym, ap, subst, ◌∙◌, arith, nat_eq}
use Rattle.std.specs.Prelude.{IsSome}
use Rattle.std.specs.Map.{lookup, remove_entry, keys_of}
use Rattle.std.specs.List.{AllByRecursion}
use Rattle.std.specs.List.Sorted.{IsStrictlySortedBy}
use Rattle.std.specs.BTreeMap.{insert_entry}
use Rattle.std.specs.Cmp.{unsigned_tied}
use Rattle.std.specs.Ordering.{nat_cmp, match_ordering, is_eq}
use Rattle.std.specs.declared.cmp.Ordering.{Ordering}
use Rattle.std.specs.declared.cmp.Ordering.TheVariants.{Less, Equal, Greater}
use Rattle.std.proofs.lemmas.Bool.Decides.{nat_tests}
use Rattle.std.proofs.lemmas.Map.Keys.{sorted_head, sorted_tail}
use Rattle.ug_queue.specs.Queues.{Queued, is_member, place_of, IsMember, with_member, without_member, AreNew, AreNewcomers, AreMembers}

abbrev Places : Type 0
Places = List (ℕ × ℕ)

-- ---- one number and another

pub is_same : (m k : ℕ) → is_member m k ≡ nat_eq m k
is_same m k = unsigned_tied m k

pub itself : (m : ℕ) → is_member m m ≡ true
itself m = is_same m m ∙ eq_itself m
  where
    eq_itself : (n : ℕ) → nat_eq n n ≡ true
    eq_itself n = grind (arith, nat_tests)

turned : (m n : ℕ) → is_member m n ≡ false → is_member n m ≡ false
turned m n e = is_same n m ∙ back m n (sym (is_same m n) ∙ e)
  where
    back : (m n : ℕ) → nat_eq m n ≡ false → nat_eq n m ≡ false
    back m n e = grind (arith, nat_tests)

pub is_one : (m n : ℕ) → is_member m n ≡ true → m ≡ n
is_one m n e = one m n (sym (is_same m n) ∙ e)
  where
    one : (m n : ℕ) → nat_eq m n ≡ true → m ≡ n
    one m n e = grind (arith, nat_tests)

-- ---- a member comes

here_cases : (r : Ordering) (m v : ℕ) (x : ℕ × ℕ) (es fs : Places) → is_eq r ≡ is_member m x.0 → lookup (is_member m) fs ≡ Some v
    → lookup (is_member m) (match_ordering r ((m, v) ∷ x ∷ es) ((x.0, v) ∷ es) (x ∷ fs)) ≡ Some v
here_cases Less m v x es fs is h = ap (λ b. cond b (Some v) (lookup (is_member m) (x ∷ es))) (itself m)
here_cases Equal m v x es fs is h = ap (λ b. cond b (Some v) (lookup (is_member m) es)) (sym is)
here_cases Greater m v x es fs is h = ap (λ b. cond b (Some x.1) (lookup (is_member m) fs)) (sym is) ∙ h

pub come_here : (m v : ℕ) (es : Places) → lookup (is_member m) (insert_entry nat_cmp es m v) ≡ Some v
come_here m v [] = ap (λ b. cond b (Some v) None) (itself m)
come_here m v (x ∷ es) = here_cases (nat_cmp m x.0) m v x es (insert_entry nat_cmp es m v) refl (come_here m v es)

other_cases : (r : Ordering) (n m v : ℕ) (x : ℕ × ℕ) (es fs : Places) → is_member n m ≡ false → (is_eq r ≡ true → is_member n x.0 ≡ false) → lookup (is_member n) fs ≡ lookup (is_member n) es
    → lookup (is_member n) (match_ordering r ((m, v) ∷ x ∷ es) ((x.0, v) ∷ es) (x ∷ fs)) ≡ lookup (is_member n) (x ∷ es)
other_cases Less n m v x es fs apart at h = ap (λ b. cond b (Some v) (lookup (is_member n) (x ∷ es))) apart
other_cases Equal n m v x es fs apart at h = ap (λ b. cond b (Some v) (lookup (is_member n) es)) (at refl) ∙ sym (ap (λ b. cond b (Some x.1) (lookup (is_member n) es)) (at refl))
other_cases Greater n m v x es fs apart at h = ap (λ o. cond (is_member n x.0) (Some x.1) o) h

pub come_other : (n m v : ℕ) (es : Places) → is_member n m ≡ false → lookup (is_member n) (insert_entry nat_cmp es m v) ≡ lookup (is_member n) es
come_other n m v [] apart = ap (λ b. cond b (Some v) None) apart
come_other n m v (x ∷ es) apart =
    other_cases (nat_cmp m x.0) n m v x es (insert_entry nat_cmp es m v) apart (λ e. subst (λ k. is_member n k ≡ false) (is_one m x.0 e) apart) (come_other n m v es apart)

-- ---- a member goes

gone_cases : (b c : Bool) (n : ℕ) (x : ℕ × ℕ) (es fs : Places) → is_member n x.0 ≡ c → (b ≡ true → c ≡ false) → lookup (is_member n) fs ≡ lookup (is_member n) es
    → lookup (is_member n) (cond b es (x ∷ fs)) ≡ lookup (is_member n) (x ∷ es)
gone_cases true c n x es fs is apart h = sym (ap (λ b. cond b (Some x.1) (lookup (is_member n) es)) (is ∙ apart refl))
gone_cases false c n x es fs is apart h = ap (λ o. cond (is_member n x.0) (Some x.1) o) h

pub gone_other : (n m : ℕ) (es : Places) → is_member n m ≡ false → lookup (is_member n) (remove_entry (is_member m) es) ≡ lookup (is_member n) es
gone_other n m [] apart = refl
gone_other n m (x ∷ es) apart =
    gone_cases (is_member m x.0) (is_member n x.0) n x es (remove_entry (is_member m) es) refl (λ e. subst (λ k. is_member n k ≡ false) (is_one m x.0 e) apart) (gone_other n m es apart)

-- ---- who comes and goes was never there

back_cases : (r : Ordering) (m v : ℕ) (x : ℕ × ℕ) (es fs : Places) → is_eq r ≡ is_member m x.0 → cond (is_member m x.0) (Some x.1) (lookup (is_member m) es) ≡ None → (lookup (is_member m) es ≡ None → remove_entry (is_member m) fs ≡ es)
    → remove_entry (is_member m) (match_ordering r ((m, v) ∷ x ∷ es) ((x.0, v) ∷ es) (x ∷ fs)) ≡ x ∷ es
back_cases Less m v x es fs is none h = ap (λ b. cond b (x ∷ es) ((m, v) ∷ remove_entry (is_member m) (x ∷ es))) (itself m)
back_cases Equal m v x es fs is none h = absurd (let some = sym (ap (λ b. cond b (Some x.1) (lookup (is_member m) es)) (sym is)) ∙ none in cc)
back_cases Greater m v x es fs is none h =
    ap (λ b. cond b fs (x ∷ remove_entry (is_member m) fs)) (sym is) ∙ ap (λ l. x ∷ l) (h (sym (ap (λ b. cond b (Some x.1) (lookup (is_member m) es)) (sym is)) ∙ none))

come_and_gone : (m v : ℕ) (es : Places) → lookup (is_member m) es ≡ None → remove_entry (is_member m) (insert_entry nat_cmp es m v) ≡ es
come_and_gone m v [] none = ap (λ b. cond b [] ((m, v) ∷ [])) (itself m)
come_and_gone m v (x ∷ es) none = back_cases (nat_cmp m x.0) m v x es (insert_entry nat_cmp es m v) refl none (come_and_gone m v es)

pub left_again : {P : Type 0} (q : Queued P) (m v : ℕ) → place_of q m ≡ None → without_member (with_member q m v) m ≡ q
left_again q m v none = ap (λ (places : Places). record { packets = q.packets; places = places; limit = q.limit }) (come_and_gone m v q.places none)

-- ---- several

none_apart : (n m v : ℕ) (es : Places) → lookup (is_member n) (insert_entry nat_cmp es m v) ≡ None → (is_member n m ≡ false) × (lookup (is_member n) es ≡ None)
none_apart n m v es none = by (is_member n m) refl
  where
    by : (b : Bool) → is_member n m ≡ b → (is_member n m ≡ false) × (lookup (is_member n) es ≡ None)
    by true e = absurd (let some = sym none ∙ subst (λ k. lookup (is_member k) (insert_entry nat_cmp es m v) ≡ Some v) (sym (is_one n m e)) (come_here m v es) in cc)
    by false e = (e, sym (come_other n m v es e) ∙ none)

none_before : (m v : ℕ) (es : Places) (ms : List ℕ) → AllByRecursion (λ n. lookup (is_member n) (insert_entry nat_cmp es m v) ≡ None) ms → AllByRecursion (λ n. lookup (is_member n) es ≡ None) ms
none_before m v es [] all = tt
none_before m v es (n ∷ ms) all = ((none_apart n m v es all.0).1, none_before m v es ms all.1)

all_new : (es : Places) (ms : List ℕ) → AreNew es ms → AllByRecursion (λ n. lookup (is_member n) es ≡ None) ms
all_new es [] new = tt
all_new es (m ∷ ms) new = (new.0, none_before m 0 es ms (all_new (insert_entry nat_cmp es m 0) ms new.1))

module _ {P : Type 0} where
  still : (q : Queued P) (m : ℕ) (es : Places) (ms : List ℕ) → AllByRecursion (λ n. lookup (is_member n) (insert_entry nat_cmp es m 0) ≡ None) ms → AllByRecursion (IsMember q) ms → AllByRecursion (IsMember (without_member q m)) ms
  still q m es [] new all = tt
  still q m es (n ∷ ms) new all = (subst (λ o. IsSome {T = ℕ} o) (sym (gone_other n m q.places (none_apart n m 0 es new.0).0)) all.0, still q m es ms new.1 all.1)

  -- members that are listed once are members until they go
  pub members_listed : (q : Queued P) (es : Places) (ms : List ℕ) → AreNew es ms → AllByRecursion (IsMember q) ms → AreMembers q ms
  members_listed q es [] new all = tt
  members_listed q es (m ∷ ms) new all =
      (all.0, members_listed (without_member q m) (insert_entry nat_cmp es m 0) ms new.1 (still q m es ms (all_new (insert_entry nat_cmp es m 0) ms new.1) all.1))

  still_none : (q : Queued P) (m v : ℕ) (ms : List ℕ) → AllByRecursion (λ n. nat_cmp m n ≡ Less) ms → AllByRecursion (λ n. place_of q n ≡ None) ms → AllByRecursion (λ n. place_of (with_member q m v) n ≡ None) ms
  still_none q m v [] above all = tt
  still_none q m v (n ∷ ms) above all = (come_other n m v q.places (turned m n (ap is_eq above.0)) ∙ all.0, still_none q m v ms above.1 all.1)

  -- who is no member, and is listed by rising number, is new until it comes
  pub newcomers_listed : (q : Queued P) (ms : List ℕ) → IsStrictlySortedBy nat_cmp ms → AllByRecursion (λ n. place_of q n ≡ None) ms → AreNewcomers q ms
  newcomers_listed q [] sorted all = tt
  newcomers_listed q (m ∷ ms) sorted all =
      (all.0, newcomers_listed (with_member q m (length q.packets)) ms (sorted_tail nat_cmp m ms sorted) (still_none q m (length q.packets) ms (sorted_head nat_cmp m ms sorted) all.1))

-- ---- who is a member is listed

first_member : (e : ℕ × ℕ) (es : Places) → IsSome (lookup (is_member e.0) (e ∷ es))
first_member e es = subst (λ o. IsSome {T = ℕ} o) (sym (ap (λ b. cond b (Some e.1) (lookup (is_member e.0) es)) (itself e.0))) refl

later_member : (b : Bool) (x : ℕ) (o : Option ℕ) → IsSome o → IsSome (cond b (Some x) o)
later_member true x o some = refl
later_member false x o some = some

-- what is so of each member is so of those listed
pub each_member : (So : ℕ → Type 0) (es : Places) → ((n : ℕ) → IsSome (lookup (is_member n) es) → So n) → AllByRecursion So (keys_of es)
each_member So [] all = tt
each_member So (e ∷ es) all = (all e.0 (first_member e es), each_member So es (λ n some. all n (later_member (is_member n e.0) e.1 (lookup (is_member n) es) some)))

-- ---- members listed by rising number

below_apart : (a m : ℕ) → a < m → is_member m a ≡ false
below_apart a m lt = is_same m a ∙ apart a m lt
  where
    apart : (a m : ℕ) → a < m → nat_eq m a ≡ false
    apart a m lt = grind (arith, nat_tests)

-- one more behind those that are listed once
pub new_behind : (es : Places) (ms : List ℕ) (m : ℕ) → AreNew es ms → AllByRecursion (λ a. a < m) ms → lookup (is_member m) es ≡ None → AreNew es (ms ++ m ∷ [])
new_behind es [] m new below none = (none, tt)
new_behind es (a ∷ ms) m new below none = (new.0, new_behind (insert_entry nat_cmp es a 0) ms m new.1 below.1 (come_other m a 0 es (below_apart a m below.0) ∙ none))

-- what is so of those listed is so of each member
pub listed_member : (So : ℕ → Type 0) (es : Places) → AllByRecursion So (keys_of es) → (n : ℕ) → IsSome (lookup (is_member n) es) → So n
listed_member So [] all n some = absurd cc
listed_member So (e ∷ es) all n some = by (is_member n e.0) refl (listed_member So es all.1 n) some
  where
    by : (b : Bool) → is_member n e.0 ≡ b → (IsSome (lookup (is_member n) es) → So n) → IsSome (cond b (Some e.1) (lookup (is_member n) es)) → So n
    by true is later some = subst So (sym (is_one n e.0 is)) all.0
    by false is later some = later some
