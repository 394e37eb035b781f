-- Ids and the places of their values, as one changes.
use Rattle.std.proofs.Common.{◌≡◌, ◌≢◌, ◌⊎◌, inl, inr, ℕ, zero, suc, ◌+◌, ◌-◌, ◌<◌, ◌≤◌, Bool, true, false, List, [], ◌∷◌, ◌++◌, length, get_or, set, slice_get, Option, Some, None, refl, sym, ap, subst, ◌∙◌, arith}
use Rattle.std.specs.Prelude.{slice_index_or, ◌==◌, IfSome, if◌then◌else◌}
use Rattle.std.specs.Cmp.{IsEquivalence}
use Rattle.std.specs.List.{IsDistinct, AllByRecursion, swap_remove}
use Rattle.std.specs.Map.{keys_of, lookup}
use Rattle.std.proofs.lemmas.Bool.{cases_eq, cases_lt, cases_order, cond-true, cond-false}
use Rattle.std.proofs.lemmas.Bool.Decides.{nat_tests}
use Rattle.std.proofs.lemmas.List.{get_or-set_same, get_or-set_other, get_or_past, length-take-le, length-set, get_or-take}
use Rattle.std.proofs.lemmas.Option.{slice_get_within, get_or_from_slice_get, slice_get-get_or}
use Rattle.std.proofs.lemmas.Map.{none_passes_from_lookup}
use Rattle.std.proofs.lemmas.Map.Entries.{place_from_lookup}
use Rattle.std.proofs.lemmas.Map.Keys.{apart_from_distinct}
use Rattle.slab.specs.Slab.{Slab, Updates}
use Rattle.ug_intern.specs.declared.seat.Seat.{Seat}
use Rattle.ug_intern.specs.Pools.{Held, held, raised, lowered, uses_of, IsChangedAt, IsOneId, IsNew}
use Rattle.ug_intern.specs.Kept.{held_by, seen, pooled, IsKept}

abbrev pub at : List (Option Seat) → ℕ → Option Seat
at slots id = slice_index_or slots id None

abbrev pub seat : ℕ → ℕ → Seat
seat place uses = record { place = place; uses = uses }

-- one id's seat is this now
pub record Turns (old new : List (Option Seat)) (id : ℕ) (now : Option Seat) : Type 0 where
  pub here : at new id ≡ now
  pub others : (q : ℕ) → q ≢ id → at new q ≡ at old q

within : (slots : List (Option Seat)) (id : ℕ) (s : Seat) → at slots id ≡ Some s → id < length slots
within slots id s was = elim (cases_lt id (length slots)) [
  | inl lt ↦ lt
  | inr ge ↦ absurd (let t = sym (get_or_past slots id None ge) ∙ was in cc)
]

pub turn_set : (slots : List (Option Seat)) (id : ℕ) (s : Seat) (now : Option Seat) → at slots id ≡ Some s → Turns slots (set slots id now) id now
turn_set slots id s now was = record { here = get_or-set_same slots id now None (within slots id s was); others = λ q n. get_or-set_other slots id q now None n }

-- what a call of a slab says of one id
pub turn_by : (old mid new : Slab Seat) (id key : ℕ) (now : Option Seat) → mid.slots ≡ old.slots → key ≡ id → Updates mid new key now → Turns old.slots new.slots id now
turn_by old mid new id key now same is u = record {
  here = sym (ap (at new.slots) is) ∙ u.changed;
  others = λ q n. u.others q (λ e. n (e ∙ is)) ∙ ap (λ l. at l q) same;
}

eq_true : (q id : ℕ) → q ≡ id → (q == id) ≡ true
eq_true q id e = grind (arith, nat_tests)

eq_false : (q id : ℕ) → q ≢ id → (q == id) ≡ false
eq_false q id e = grind (arith, nat_tests)

seat_place : (x y : Seat) → Some x ≡ Some y → x.place ≡ y.place
seat_place x y e = cc

module _ {A : Type 0} where
  pub same_some : (x y : A) → Some x ≡ Some y → x ≡ y
  same_some x y e = cc

  pub changed_at : (q id : ℕ) (new now old : A) → (q ≡ id → new ≡ now) → (q ≢ id → new ≡ old) → new ≡ (if q == id then now else old)
  changed_at q id new now old here there = elim (cases_eq q id) [
    | inl e ↦ here e ∙ sym (cond-true (q == id) now old (eq_true q id e))
    | inr n ↦ there n ∙ sym (cond-false (q == id) now old (eq_false q id n))
  ]

same_seat : (x y : Seat) → Some x ≡ Some y → x ≡ y
same_seat x y e = cc

module _ {T : Type 0} where
  pub at_seen : (entries : List (T × ℕ)) (slots : List (Option Seat)) (id : ℕ) → held (pooled slots entries) id ≡ seen entries (at slots id)
  at_seen entries [] id = refl
  at_seen entries (s ∷ slots) zero = refl
  at_seen entries (s ∷ slots) (suc id) = at_seen entries slots id

  module _ (eq : T → T → Bool) (slots : List (Option Seat)) (entries : List (T × ℕ)) (k : IsKept eq slots entries) where
    -- ---- equal values have one id

    place_of : (o : Option Seat) (x : Held T) → seen entries o ≡ Some x → (s : Seat) × (o ≡ Some s) × (e : T × ℕ) × (slice_get entries s.place ≡ Some e) × (e.0 ≡ x.value)
    place_of None x h = absurd cc
    place_of (Some s) x h = by (slice_get entries s.place) refl h
      where
        by : (o : Option (T × ℕ)) → slice_get entries s.place ≡ o → held_by s.uses o ≡ Some x → (z : Seat) × (Some s ≡ Some z) × (e : T × ℕ) × (slice_get entries z.place ≡ Some e) × (e.0 ≡ x.value)
        by None p g = absurd cc
        by (Some e) p g = (s, refl, e, p, cc)

    -- the id whose value stands at a place
    pub seated_at : (id : ℕ) (s : Seat) (e : T × ℕ) → at slots id ≡ Some s → slice_get entries s.place ≡ Some e → e.1 ≡ id
    seated_at id s e h p = let w = k.seated id s h in let both = sym w.1 ∙ p in cc

    key_at : (es : List (T × ℕ)) (i : ℕ) (e : T × ℕ) → slice_get es i ≡ Some e → slice_get (keys_of es) i ≡ Some e.0
    key_at [] i e p = absurd cc
    key_at (x ∷ es) zero e p = ap (λ o. option_key o) p
      where
        option_key : Option (T × ℕ) → Option T
        option_key None = None
        option_key (Some y) = Some y.0
    key_at (x ∷ es) (suc i) e p = key_at es i e p

    apart_at : (i j : ℕ) (x y : T × ℕ) → i < j → slice_get entries i ≡ Some x → slice_get entries j ≡ Some y → eq x.0 y.0 ≡ false
    apart_at i j x y lt p r =
        let a = apart_from_distinct eq (keys_of entries) i j x.0 k.distinct lt (slice_get_within (keys_of entries) j y.0 (key_at entries j y r)) in
        subst (λ z. eq z y.0 ≡ false) (get_or_from_slice_get (keys_of entries) i x.0 x.0 (key_at entries i x p))
        (subst (λ z. eq (get_or (keys_of entries) i x.0) z ≡ false) (get_or_from_slice_get (keys_of entries) j y.0 x.0 (key_at entries j y r)) a)

    pub one_place : IsEquivalence eq → (i j : ℕ) (x y : T × ℕ) → slice_get entries i ≡ Some x → slice_get entries j ≡ Some y → eq x.0 y.0 ≡ true → i ≡ j
    one_place laws i j x y p r e = elim (cases_order i j) [
      | inl same ↦ same
      | inr (inl lt) ↦ absurd (let z = apart_at i j x y lt p r in cc)
      | inr (inr gt) ↦ absurd (let z = apart_at j i y x gt r p in let t = laws.symm y.0 x.0 in cc)
    ]

    pub one_id : IsEquivalence eq → IsOneId eq (pooled slots entries)
    one_id laws a b x y p r e =
        let u = place_of (at slots a) x (sym (at_seen entries slots a) ∙ p) in let v = place_of (at slots b) y (sym (at_seen entries slots b) ∙ r) in
        let places = one_place laws u.0.place v.0.place u.2 v.2 u.3 v.3 (subst (λ z. eq z v.2.0 ≡ true) (sym u.4) (subst (λ z. eq x.value z ≡ true) (sym v.4) e)) in
        let entry : Some u.2 ≡ Some v.2 = sym u.3 ∙ ap (slice_get entries) places ∙ v.3 in
        sym (seated_at a u.0 u.2 u.1 u.3) ∙ entry_id u.2 v.2 entry ∙ seated_at b v.0 v.2 v.1 v.3
      where
        entry_id : (y z : T × ℕ) → Some y ≡ Some z → y.1 ≡ z.1
        entry_id y z h = cc

    -- ---- one id's number of holders changes

    abbrev Seated : ℕ → Seat → Type 0
    Seated id s = (value : T) × (slice_get entries s.place ≡ Some (value, id)) × (0 < s.uses)

    seated_as : (q id : ℕ) (z y : Seat) → q ≡ id → Some z ≡ Some y → Seated id y → Seated q z
    seated_as q id z y e h w = subst (λ n. Seated n z) (sym e) (subst (λ t. Seated id t) (sym (same_seat z y h)) w)

    pub kept_turn : (new : List (Option Seat)) (id : ℕ) (s : Seat) (uses : ℕ) → at slots id ≡ Some s → 0 < uses → Turns slots new id (Some (seat s.place uses)) → IsKept eq new entries
    kept_turn new id s uses was some turn = record {
      distinct = k.distinct;
      seated = λ q z h. elim (cases_eq q id) [
        | inl e ↦ let w = k.seated id s was in seated_as q id z (seat s.place uses) e (sym h ∙ ap (at new) e ∙ turn.here) (w.0, w.1, some)
        | inr n ↦ k.seated q z (sym (turn.others q n) ∙ h)
      ];
      named = λ place e p. let w = k.named place e p in elim (cases_eq e.1 id) [
        | inl i ↦ (uses, ap (at new) i ∙ turn.here ∙ ap (λ z. Some (seat z uses)) (seat_place s (seat place w.0) (sym was ∙ sym (ap (at slots) i) ∙ w.1)))
        | inr n ↦ (w.0, turn.others e.1 n ∙ w.1)
      ];
    }

    pub changed_view : (new : List (Option Seat)) (id : ℕ) (z : Seat) (now : Option (Held T)) → Turns slots new id (Some z) → held_by z.uses (slice_get entries z.place) ≡ now
        → IsChangedAt (pooled slots entries) (pooled new entries) id now
    changed_view new id z now turn is q =
        changed_at q id _ now _ (λ e. at_seen entries new q ∙ ap (λ n. seen entries (at new n)) e ∙ ap (seen entries) turn.here ∙ is)
        (λ n. at_seen entries new q ∙ ap (seen entries) (turn.others q n) ∙ sym (at_seen entries slots q))

    raised_by : (u : ℕ) (o : Option (T × ℕ)) → held_by (u + 1) o ≡ raised (held_by u o)
    raised_by u None = refl
    raised_by u (Some e) = refl

    lowered_by : (u : ℕ) (o : Option (T × ℕ)) → 1 < u → held_by (u - 1) o ≡ lowered (held_by u o)
    lowered_by u None lt = refl
    lowered_by u (Some e) lt = sym (cond-false (u == 1) None _ (eq_false u 1 (λ e. absurd (omega (arith, lt, e)))))

    pub raised_view : (new : List (Option Seat)) (id : ℕ) (s : Seat) → at slots id ≡ Some s → Turns slots new id (Some (seat s.place (s.uses + 1)))
        → IsChangedAt (pooled slots entries) (pooled new entries) id (raised (held (pooled slots entries) id))
    raised_view new id s was turn =
        changed_view new id _ _ turn (raised_by s.uses (slice_get entries s.place) ∙ sym (ap (λ o. raised (seen entries o)) was) ∙ sym (ap raised (at_seen entries slots id)))

    pub lowered_view : (new : List (Option Seat)) (id : ℕ) (s : Seat) → at slots id ≡ Some s → 1 < s.uses → Turns slots new id (Some (seat s.place (s.uses - 1)))
        → IsChangedAt (pooled slots entries) (pooled new entries) id (lowered (held (pooled slots entries) id))
    lowered_view new id s was lt turn =
        changed_view new id _ _ turn (lowered_by s.uses (slice_get entries s.place) lt ∙ sym (ap (λ o. lowered (seen entries o)) was) ∙ sym (ap lowered (at_seen entries slots id)))

    uses_by : (u : ℕ) (o : Option (T × ℕ)) → uses_of (held_by u o) ≤ u
    uses_by u None = omega arith
    uses_by u (Some e) = omega arith

    -- who has more than one holder has a seat that says so
    pub many : (id : ℕ) (s : Seat) → at slots id ≡ Some s → 1 < uses_of (held (pooled slots entries) id) → 1 < s.uses
    many id s was lt = omega (arith, lt, ap uses_of (at_seen entries slots id), ap (λ o. uses_of (seen entries o)) was, uses_by s.uses (slice_get entries s.place))

    -- ---- a value that is looked up

    all_at : (P : T × ℕ → Type 0) (es : List (T × ℕ)) → AllByRecursion P es → (i : ℕ) (e : T × ℕ) → slice_get es i ≡ Some e → P e
    all_at P [] h i e p = absurd cc
    all_at P (x ∷ es) h zero e p = subst P (same_some x e p) h.0
    all_at P (x ∷ es) h (suc i) e p = all_at P es h.1 i e p

    pub new_of_none : (value : T) → lookup (eq value) entries ≡ None → IsNew eq (pooled slots entries) value
    new_of_none value none id x h =
        let w = place_of (at slots id) x (sym (at_seen entries slots id) ∙ h) in
        subst (λ z. eq value z ≡ false) w.4 (all_at (λ e. eq value e.0 ≡ false) entries (none_passes_from_lookup (eq value) entries none) w.0.place w.2 w.3)

    -- an entry with an equal value
    pub entry_found : (value : T) (place : ℕ) (e : T × ℕ) → slice_get entries place ≡ Some e → eq value e.0 ≡ true → (x : Held T) × (held (pooled slots entries) e.1 ≡ Some x) × (eq value x.value ≡ true)
    entry_found value place e p same =
        let w = k.named place e p in (record { value = e.0; uses = w.0 }, at_seen entries slots e.1 ∙ ap (seen entries) w.1 ∙ ap (held_by w.0) p, same)

    pub found_at : (value : T) (id : ℕ) → lookup (eq value) entries ≡ Some id → (x : Held T) × (held (pooled slots entries) id ≡ Some x) × (eq value x.value ≡ true)
    found_at value id some = let f = place_from_lookup (eq value) entries id some in entry_found value f.0 (f.1, id) f.2 f.3

    pub none_of_new : (value : T) → IsNew eq (pooled slots entries) value → lookup (eq value) entries ≡ None
    none_of_new value fresh = by (lookup (eq value) entries) refl
      where
        by : (o : Option ℕ) → lookup (eq value) entries ≡ o → o ≡ None
        by None p = refl
        by (Some id) p = let f = found_at value id p in absurd (let t = sym f.2 ∙ fresh id f.0 f.1 in cc)

    -- ---- a value more

    get_more : (xs ys : List (T × ℕ)) (i : ℕ) (e : T × ℕ) → slice_get xs i ≡ Some e → slice_get (xs ++ ys) i ≡ Some e
    get_more [] ys i e p = absurd cc
    get_more (x ∷ xs) ys zero e p = p
    get_more (x ∷ xs) ys (suc i) e p = get_more xs ys i e p

    get_last : (xs : List (T × ℕ)) (e : T × ℕ) → slice_get (xs ++ e ∷ []) (length xs) ≡ Some e
    get_last [] e = refl
    get_last (x ∷ xs) e = get_last xs e

    last_cases : (xs : List (T × ℕ)) (l : T × ℕ) (i : ℕ) (e : T × ℕ) → slice_get (xs ++ l ∷ []) i ≡ Some e → (slice_get xs i ≡ Some e) ⊎ ((i ≡ length xs) × (e ≡ l))
    last_cases [] l zero e p = inr (refl, sym (same_some l e p))
    last_cases [] l (suc i) e p = absurd cc
    last_cases (x ∷ xs) l zero e p = inl p
    last_cases (x ∷ xs) l (suc i) e p = elim (last_cases xs l i e p) [ inl h ↦ inl h | inr h ↦ inr (omega (arith, h.0), h.1) ]

    pub kept_added : (new : List (Option Seat)) (more : List (T × ℕ)) (id : ℕ) (value : T) → at slots id ≡ None → Turns slots new id (Some (seat (length entries) 1))
        → more ≡ entries ++ (value, id) ∷ [] → IsDistinct eq (keys_of more) → IsKept eq new more
    kept_added new more id value vacant turn is distinct = record {
      distinct = distinct;
      seated = λ q z h. elim (cases_eq q id) [
        | inl e ↦ let s : z ≡ seat (length entries) 1 = same_seat z _ (sym h ∙ ap (at new) e ∙ turn.here) in
            (value, ap (λ t. slice_get more t.place) s ∙ ap (λ l. slice_get l (length entries)) is ∙ get_last entries (value, id) ∙ ap (λ n. Some (value, n)) (sym e), subst (λ (t : Seat). 0 < t.uses) (sym s) (omega arith))
        | inr n ↦ let w = k.seated q z (sym (turn.others q n) ∙ h) in (w.0, ap (λ l. slice_get l z.place) is ∙ get_more entries ((value, id) ∷ []) z.place (w.0, q) w.1, w.2)
      ];
      named = λ place e p. elim (last_cases entries (value, id) place e (sym (ap (λ l. slice_get l place) is) ∙ p)) [
        | inl h ↦ let w = k.named place e h in (w.0, turn.others e.1 (λ same. absurd (let z = sym vacant ∙ sym (ap (at slots) same) ∙ w.1 in cc)) ∙ w.1)
        | inr h ↦ (1, ap (λ x. at new x.1) h.1 ∙ turn.here ∙ ap (λ n. Some (seat n 1)) (sym h.0))
      ];
    }

    seen_more : (more : List (T × ℕ)) (value : T) (id q : ℕ) (o : Option Seat) → at slots q ≡ o → more ≡ entries ++ (value, id) ∷ [] → seen more o ≡ seen entries o
    seen_more more value id q None p is = refl
    seen_more more value id q (Some s) p is =
        let w = k.seated q s p in ap (held_by s.uses) (ap (λ l. slice_get l s.place) is ∙ get_more entries ((value, id) ∷ []) s.place (w.0, q) w.1 ∙ sym w.1)

    pub added_view : (new : List (Option Seat)) (more : List (T × ℕ)) (id : ℕ) (value : T) → Turns slots new id (Some (seat (length entries) 1))
        → more ≡ entries ++ (value, id) ∷ [] → IsChangedAt (pooled slots entries) (pooled new more) id (Some (record { value = value; uses = 1 }))
    added_view new more id value turn is q =
        changed_at q id _ _ _
        (λ e. at_seen more new q ∙ ap (λ n. seen more (at new n)) e ∙ ap (seen more) turn.here ∙ ap (held_by 1) (ap (λ l. slice_get l (length entries)) is ∙ get_last entries (value, id)))
        (λ n. at_seen more new q ∙ ap (seen more) (turn.others q n) ∙ seen_more more value id q (at slots q) refl is ∙ sym (at_seen entries slots q))

    pub swapped : (id : ℕ) (s : Seat) (less : List (T × ℕ)) (r : Option (T × ℕ)) → at slots id ≡ Some s → r ≡ slice_get entries s.place
        → IfSome r (λ d. less ≡ swap_remove entries s.place d) → (d : T × ℕ) × (less ≡ swap_remove entries s.place d)
    swapped id s less None was e h = absurd (let w = k.seated id s was in let t = e ∙ w.1 in cc)
    swapped id s less (Some d) was e h = (d, h)

    -- ---- a value goes, and the last of the list takes its place

    module _ (id : ℕ) (s : Seat) (d : T × ℕ) (gone : List (Option Seat)) (less : List (T × ℕ)) (was : at slots id ≡ Some s) (turn : Turns slots gone id None)
        (is : less ≡ swap_remove entries s.place d) (distinct : IsDistinct eq (keys_of less)) where
      abbrev pub last : ℕ
      last = length entries - 1

      own_entry : (value : T) × (slice_get entries s.place ≡ Some (value, id)) × (0 < s.uses)
      own_entry = k.seated id s was

      inside : s.place < length entries
      inside = slice_get_within entries s.place _ own_entry.1

      long : length less ≡ last
      long = ap length is ∙ length-take-le last (set entries s.place (get_or entries last d)) (omega (arith, length-set entries s.place (get_or entries last d)))

      get_other : (j : ℕ) (e : T × ℕ) → j < last → j ≢ s.place → get_or less j e ≡ get_or entries j e
      get_other j e lt n = ap (λ l. get_or l j e) is ∙ get_or-take last _ j e lt ∙ get_or-set_other entries s.place j (get_or entries last d) e n

      get_own : (e : T × ℕ) → s.place < last → get_or less s.place e ≡ get_or entries last d
      get_own e lt = ap (λ l. get_or l s.place e) is ∙ get_or-take last _ s.place e lt ∙ get_or-set_same entries s.place (get_or entries last d) e inside

      get_kept : (j : ℕ) (e : T × ℕ) → j < last → j ≢ s.place → slice_get entries j ≡ Some e → slice_get less j ≡ Some e
      get_kept j e lt n p = slice_get-get_or less j e (omega (arith, lt, long)) ∙ ap Some (get_other j e lt n ∙ get_or_from_slice_get entries j e e p)

      get_back : (j : ℕ) (e : T × ℕ) → slice_get less j ≡ Some e → ((j ≢ s.place) × (slice_get entries j ≡ Some e)) ⊎ ((j ≡ s.place) × (slice_get entries last ≡ Some e))
      get_back j e p =
          let lt : j < last = omega (arith, slice_get_within less j e p, long) in let is_e = get_or_from_slice_get less j e e p in
          elim (cases_eq j s.place) [
            | inl same ↦ inr (same, slice_get-get_or entries last d (omega (arith, inside)) ∙ ap Some (sym (get_own e (omega (arith, lt, same))) ∙ sym (ap (λ n. get_or less n e) same) ∙ is_e))
            | inr n ↦ inl (n, slice_get-get_or entries j e (omega (arith, lt)) ∙ ap Some (sym (get_other j e lt n) ∙ is_e))
          ]

      -- who has another id has another place
      other_id : (q : ℕ) (z : Seat) → at gone q ≡ Some z → q ≢ id
      other_id q z h e = let t = sym h ∙ ap (at gone) e ∙ turn.here in cc

      other_place : (q : ℕ) (z : Seat) → q ≢ id → at slots q ≡ Some z → z.place ≢ s.place
      other_place q z n h e =
          let w = k.seated q z h in n (entry_of (w.0, q) (own_entry.0, id) (sym w.1 ∙ ap (slice_get entries) e ∙ own_entry.1))
        where
          entry_of : (x y : T × ℕ) → Some x ≡ Some y → x.1 ≡ y.1
          entry_of x y t = cc

      other_named : (place : ℕ) (e : T × ℕ) → slice_get entries place ≡ Some e → place ≢ s.place → e.1 ≢ id
      other_named place e p n i = let w = k.named place e p in n (sym (seat_place s (seat place w.0) (sym was ∙ sym (ap (at slots) i) ∙ w.1)))

      -- ---- it was the last

      module _ (none : slice_get less s.place ≡ None) where
        is_last : s.place ≡ last
        is_last = elim (cases_eq s.place last) [
          | inl e ↦ e
          | inr n ↦ absurd (let t = sym none ∙ slice_get-get_or less s.place d (omega (arith, long, inside, n)) in cc)
        ]

        before : (q : ℕ) (z : Seat) → q ≢ id → at slots q ≡ Some z → slice_get less z.place ≡ slice_get entries z.place
        before q z n h =
            let w = k.seated q z h in let p = other_place q z n h in
            get_kept z.place (w.0, q) (omega (arith, p, is_last, slice_get_within entries z.place (w.0, q) w.1)) p w.1 ∙ sym w.1

        pub kept_gone : IsKept eq gone less
        kept_gone = record {
          distinct = distinct;
          seated = λ q z h. let n = other_id q z h in let was_q = sym (turn.others q n) ∙ h in let w = k.seated q z was_q in (w.0, before q z n was_q ∙ w.1, w.2);
          named = λ place e p. elim (get_back place e p) [
            | inl h ↦ let w = k.named place e h.1 in (w.0, turn.others e.1 (other_named place e h.1 h.0) ∙ w.1)
            | inr h ↦ absurd (let t = sym none ∙ sym (ap (slice_get less) h.0) ∙ p in cc)
          ];
        }

        seen_gone : (q : ℕ) (o : Option Seat) → q ≢ id → at slots q ≡ o → seen less o ≡ seen entries o
        seen_gone q None n h = refl
        seen_gone q (Some z) n h = ap (held_by z.uses) (before q z n h)

        pub gone_view : IsChangedAt (pooled slots entries) (pooled gone less) id None
        gone_view q =
            changed_at q id _ None _ (λ e. at_seen less gone q ∙ ap (λ n. seen less (at gone n)) e ∙ ap (seen less) turn.here)
            (λ n. at_seen less gone q ∙ ap (seen less) (turn.others q n) ∙ seen_gone q (at slots q) n refl ∙ sym (at_seen entries slots q))

      -- ---- it wasn't

      module _ (m : T × ℕ) (there : slice_get less s.place ≡ Some m) where
        below : s.place < last
        below = omega (arith, slice_get_within less s.place m there, long)

        pub from_last : slice_get entries last ≡ Some m
        from_last = elim (get_back s.place m there) [ inl h ↦ absurd (h.0 refl) | inr h ↦ h.1 ]

        pub was_last : (uses : ℕ) × (at slots m.1 ≡ Some (seat last uses))
        was_last = k.named last m from_last

        other : m.1 ≢ id
        other = other_named last m from_last (omega (arith, below))

        pub still_seated : at gone m.1 ≡ Some (seat last was_last.0)
        still_seated = turn.others m.1 other ∙ was_last.1

        module _ (z : Seat) (new : List (Option Seat)) (old : at gone m.1 ≡ Some z) (next : Turns gone new m.1 (Some (seat s.place z.uses))) where
          some_uses : 0 < z.uses
          some_uses = let w = k.seated m.1 (seat last was_last.0) was_last.1 in subst (λ (t : Seat). 0 < t.uses) (same_seat (seat last was_last.0) z (sym still_seated ∙ old)) w.2

          same_uses : was_last.0 ≡ z.uses
          same_uses = ap (λ (t : Seat). t.uses) (same_seat (seat last was_last.0) z (sym still_seated ∙ old))

          not_last : (q : ℕ) (t : Seat) → q ≢ m.1 → at slots q ≡ Some t → t.place ≢ last
          not_last q t n h e =
              let w = k.seated q t h in n (entry_of (w.0, q) m (sym w.1 ∙ ap (slice_get entries) e ∙ from_last))
            where
              entry_of : (x y : T × ℕ) → Some x ≡ Some y → x.1 ≡ y.1
              entry_of x y u = cc

          stays : (q : ℕ) (t : Seat) → q ≢ id → q ≢ m.1 → at slots q ≡ Some t → slice_get less t.place ≡ slice_get entries t.place
          stays q t n l h =
              let w = k.seated q t h in let p = other_place q t n h in
              get_kept t.place (w.0, q) (omega (arith, not_last q t l h, slice_get_within entries t.place (w.0, q) w.1)) p w.1 ∙ sym w.1

          pub kept_moved : IsKept eq new less
          kept_moved = record {
            distinct = distinct;
            seated = λ q t h. elim (cases_eq q m.1) [
              | inl e ↦ let is_t : t ≡ seat s.place z.uses = same_seat t _ (sym h ∙ ap (at new) e ∙ next.here) in
                  (m.0, ap (λ (u : Seat). slice_get less u.place) is_t ∙ there ∙ ap (λ n. Some (m.0, n)) (sym e), subst (λ (u : Seat). 0 < u.uses) (sym is_t) some_uses)
              | inr l ↦ let was_gone = sym (next.others q l) ∙ h in let n = other_id q t was_gone in let was_q = sym (turn.others q n) ∙ was_gone in
                  let w = k.seated q t was_q in (w.0, stays q t n l was_q ∙ w.1, w.2)
            ];
            named = λ place e p. elim (get_back place e p) [
              | inl h ↦ let w = k.named place e h.1 in
                  (w.0, next.others e.1 (λ same. absurd (omega (arith, slice_get_within less place e p, long, seat_place (seat place w.0) (seat last was_last.0) (sym w.1 ∙ ap (at slots) same ∙ was_last.1)))) ∙ turn.others e.1 (other_named place e h.1 h.0) ∙ w.1)
              | inr h ↦ (z.uses, ap (λ x. at new x.1) (same_some e m (sym p ∙ ap (slice_get less) h.0 ∙ there)) ∙ next.here ∙ ap (λ n. Some (seat n z.uses)) (sym h.0))
            ];
          }

          seen_moved : (q : ℕ) (o : Option Seat) → q ≢ id → q ≢ m.1 → at slots q ≡ o → seen less o ≡ seen entries o
          seen_moved q None n l h = refl
          seen_moved q (Some t) n l h = ap (held_by t.uses) (stays q t n l h)

          pub moved_view : IsChangedAt (pooled slots entries) (pooled new less) id None
          moved_view q =
              changed_at q id _ None _
              (λ e. at_seen less new q ∙ ap (λ n. seen less (at new n)) e ∙ ap (seen less) (next.others id (λ same. other (sym same)) ∙ turn.here))
              (λ n. elim (cases_eq q m.1) [
                | inl e ↦ at_seen less new q ∙ ap (λ n. seen less (at new n)) e ∙ ap (seen less) next.here ∙ ap (held_by z.uses) (there ∙ sym from_last)
                    ∙ ap (λ u. held_by u (slice_get entries last)) (sym same_uses) ∙ sym (ap (seen entries) was_last.1) ∙ sym (ap (λ n. seen entries (at slots n)) e) ∙ sym (at_seen entries slots q)
                | inr l ↦ at_seen less new q ∙ ap (seen less) (next.others q l ∙ turn.others q n) ∙ seen_moved q (at slots q) n l refl ∙ sym (at_seen entries slots q)
              ])
