-- Who stands in a queue, and with what rest, after several came or went together.
use Rattle.std.proofs.Common.{◌≡◌, ℕ, ◌<◌, inl, inr, Bool, true, false, List, [], ◌∷◌, length, drop, Option, Some, None, is_some, refl, sym, ap, subst, ◌∙◌, arith}
use Rattle.std.specs.Prelude.{cond, ◌==◌, ◌||◌}
use Rattle.std.specs.Map.{lookup, remove_entry, keys_of}
use Rattle.std.specs.BTreeMap.{insert_entry}
use Rattle.std.specs.List.Sorted.{IsStrictlySortedBy}
use Rattle.std.specs.Ordering.{nat_cmp}
use Rattle.std.proofs.lemmas.Bool.{cases_eq, eq-eqb, eqb-true}
use Rattle.ug_speaker.specs.Counts.{has}
use Rattle.ug_queue.specs.Queues.{Queued, is_member, place_of, from_place, rest_of, shed, with_member, with_members, without_member, without_members, seat_all, AreNew}
use Rattle.ug_queue.proofs.Members.{is_same, is_one, come_here, come_other, gone_other}
use Rattle.ug_queue.proofs.MemberRests.{members}
use Rattle.ug_groups.proofs.Queued.{apart-test, shed-some, shed-rest, some-places, first-queued}

abbrev Places : Type 0
Places = List (ℕ × ℕ)

some-is : (o : Option ℕ) (v : ℕ) → o ≡ Some v → is_some o ≡ true
some-is o v e = ap is_some e

-- ---- several come, at the end

module _ {P : Type 0} where
  come-packets : (q : Queued P) (ms : List ℕ) → (with_members q ms).packets ≡ q.packets
  come-packets q [] = refl
  come-packets q (m ∷ ms) = come-packets (with_member q m (length q.packets)) ms

  pub come-limit : (q : Queued P) (ms : List ℕ) → (with_members q ms).limit ≡ q.limit
  come-limit q [] = refl
  come-limit q (m ∷ ms) = come-limit (with_member q m (length q.packets)) ms

  -- who is none of them stands where it did
  pub come-others : (q : Queued P) (es : Places) (p : ℕ) → is_some (lookup (is_member p) es) ≡ false → place_of (with_members q (keys_of es)) p ≡ place_of q p
  come-others q [] p none = refl
  come-others q (e ∷ es) p none = by (is_member p e.0) refl none (come-others (with_member q e.0 (length q.packets)) es p)
    where
      by : (b : Bool) → is_member p e.0 ≡ b → is_some (cond b (Some e.1) (lookup (is_member p) es)) ≡ false
          → (is_some (lookup (is_member p) es) ≡ false → place_of (with_members (with_member q e.0 (length q.packets)) (keys_of es)) p ≡ place_of (with_member q e.0 (length q.packets)) p)
          → place_of (with_members q (keys_of (e ∷ es))) p ≡ place_of q p
      by true is none rest = absurd cc
      by false is none rest = rest none ∙ members.beside_joined q e.0 (length q.packets) p (sym (is_same p e.0) ∙ is)

  -- and each of them at the end
  pub come-here : (q : Queued P) (es : Places) (p : ℕ) → is_some (lookup (is_member p) es) ≡ true → place_of (with_members q (keys_of es)) p ≡ Some (length q.packets)
  come-here q [] p some = absurd cc
  come-here q (e ∷ es) p some = by (is_some (lookup (is_member p) es)) refl (come-here (with_member q e.0 (length q.packets)) es p) (come-others (with_member q e.0 (length q.packets)) es p)
    where
      first : is_some (lookup (is_member p) es) ≡ false → (b : Bool) → is_member p e.0 ≡ b → is_some (cond b (Some e.1) (lookup (is_member p) es)) ≡ true → e.0 ≡ p
      first none true is some = sym (is_one p e.0 is)
      first none false is some = absurd cc

      by : (b : Bool) → is_some (lookup (is_member p) es) ≡ b
          → (is_some (lookup (is_member p) es) ≡ true → place_of (with_members (with_member q e.0 (length q.packets)) (keys_of es)) p ≡ Some (length q.packets))
          → (is_some (lookup (is_member p) es) ≡ false → place_of (with_members (with_member q e.0 (length q.packets)) (keys_of es)) p ≡ place_of (with_member q e.0 (length q.packets)) p)
          → place_of (with_members q (keys_of (e ∷ es))) p ≡ Some (length q.packets)
      by true is here there = here is
      by false is here there =
          there is ∙ subst (λ (k : ℕ). place_of (with_member q e.0 (length q.packets)) k ≡ Some (length q.packets)) (first is (is_member p e.0) refl some) (members.joined q e.0 (length q.packets))

  drop-all : (xs : List P) → drop (length xs) xs ≡ []
  drop-all [] = refl
  drop-all (x ∷ xs) = drop-all xs

  pub come-rest : (q : Queued P) (es : Places) (p : ℕ) → is_some (lookup (is_member p) es) ≡ true → rest_of (with_members q (keys_of es)) p ≡ []
  come-rest q es p some =
      ap (λ (l : List P). from_place l (place_of (with_members q (keys_of es)) p)) (come-packets q (keys_of es)) ∙ ap (from_place q.packets) (come-here q es p some) ∙ drop-all q.packets

  pub come-rest-others : (q : Queued P) (es : Places) (p : ℕ) → is_some (lookup (is_member p) es) ≡ false → rest_of (with_members q (keys_of es)) p ≡ rest_of q p
  come-rest-others q es p none =
      ap (λ (l : List P). from_place l (place_of (with_members q (keys_of es)) p)) (come-packets q (keys_of es)) ∙ ap (from_place q.packets) (come-others q es p none)

  -- who stood there stands there
  pub come-stays : (q : Queued P) (es : Places) (p : ℕ) → is_some (place_of q p) ≡ true → is_some (place_of (with_members q (keys_of es)) p) ≡ true
  come-stays q es p some = by (is_some (lookup (is_member p) es)) refl
    where
      by : (b : Bool) → is_some (lookup (is_member p) es) ≡ b → is_some (place_of (with_members q (keys_of es)) p) ≡ true
      by true is = ap is_some (come-here q es p is)
      by false is = ap is_some (come-others q es p is) ∙ some

  pub come-places : (q : Queued P) (es : Places) → 0 < length q.places → 0 < length (with_members q (keys_of es)).places
  come-places q es some = by q.places refl some
    where
      by : (fs : Places) → q.places ≡ fs → 0 < length fs → 0 < length (with_members q (keys_of es)).places
      by [] is none = absurd (omega (arith, none))
      by (x ∷ fs) is some = some-places x.0 (with_members q (keys_of es)).places (come-stays q es x.0 (ap (λ (l : Places). is_some (lookup (is_member x.0) l)) is ∙ first-queued x fs))

-- ---- several go

has-same : (m p : ℕ) (ms : List ℕ) → (m == p) ≡ true → has (m ∷ ms) p ≡ true
has-same m p ms e = ap (λ (b : Bool). b || has ms p) e

-- who stands in the list already is not listed
pub new-apart : (es : Places) (ms : List ℕ) (p : ℕ) → AreNew es ms → is_some (lookup (is_member p) es) ≡ true → has ms p ≡ false
new-apart es [] p new there_is = refl
new-apart es (m ∷ ms) p new there_is =
    elim (cases_eq m p) [
      | inl same ↦ absurd (let none = subst (λ (k : ℕ). is_some (lookup (is_member k) es) ≡ false) same (ap is_some new.0) in cc)
      | inr apart ↦
          ap (λ (b : Bool). b || has ms p) (apart-test m p apart)
          ∙ new-apart (insert_entry nat_cmp es m 0) ms p new.1 (ap is_some (come_other p m 0 es (is_same p m ∙ apart-test p m (λ e. apart (sym e)))) ∙ there_is)
    ]

once-tail : (es : Places) (m : ℕ) (ms : List ℕ) → AreNew es (m ∷ ms) → has ms m ≡ false
once-tail es m ms new = new-apart (insert_entry nat_cmp es m 0) ms m new.1 (ap is_some (come_here m 0 es))

-- taken away before another, or after it
remove-twice : (p m : ℕ) (es : Places) → is_member p m ≡ false → lookup (is_member p) (remove_entry (is_member p) (remove_entry (is_member m) es)) ≡ lookup (is_member p) (remove_entry (is_member p) es)
remove-twice p m [] apart = refl
remove-twice p m (e ∷ es) apart = by (is_member m e.0) (is_member p e.0) refl refl (remove-twice p m es apart)
  where
    differ : is_member m e.0 ≡ true → is_member p e.0 ≡ false
    differ is = subst (λ (k : ℕ). is_member p k ≡ false) (is_one m e.0 is) apart

    skip : is_member p e.0 ≡ false → (l : Places) → lookup (is_member p) (e ∷ l) ≡ lookup (is_member p) l
    skip is l = ap (λ (b : Bool). cond b (Some e.1) (lookup (is_member p) l)) is

    by : (b c : Bool) → is_member m e.0 ≡ b → is_member p e.0 ≡ c → lookup (is_member p) (remove_entry (is_member p) (remove_entry (is_member m) es)) ≡ lookup (is_member p) (remove_entry (is_member p) es)
        → lookup (is_member p) (remove_entry (is_member p) (cond b es (e ∷ remove_entry (is_member m) es))) ≡ lookup (is_member p) (cond c es (e ∷ remove_entry (is_member p) es))
    by true true is at rest = absurd (let none = differ is in cc)
    by true false is at rest = sym (skip at (remove_entry (is_member p) es))
    by false true is at rest = ap (λ (t : Bool). lookup (is_member p) (cond t (remove_entry (is_member m) es) (e ∷ remove_entry (is_member p) (remove_entry (is_member m) es)))) at ∙ gone_other p m es apart
    by false false is at rest =
        ap (λ (t : Bool). lookup (is_member p) (cond t (remove_entry (is_member m) es) (e ∷ remove_entry (is_member p) (remove_entry (is_member m) es)))) at
        ∙ skip at (remove_entry (is_member p) (remove_entry (is_member m) es)) ∙ rest ∙ sym (skip at (remove_entry (is_member p) es))

module _ {P : Type 0} where
  go-packets : (q : Queued P) (ms : List ℕ) → (without_members q ms).packets ≡ q.packets
  go-packets q [] = refl
  go-packets q (m ∷ ms) = go-packets (without_member q m) ms

  go-limit : (q : Queued P) (ms : List ℕ) → (without_members q ms).limit ≡ q.limit
  go-limit q [] = refl
  go-limit q (m ∷ ms) = go-limit (without_member q m) ms

  go-others : (q : Queued P) (ms : List ℕ) (p : ℕ) → has ms p ≡ false → place_of (without_members q ms) p ≡ place_of q p
  go-others q [] p none = refl
  go-others q (m ∷ ms) p none =
      elim (cases_eq m p) [
        | inl same ↦ absurd (let some = has-same m p ms (eq-eqb m p same) in cc)
        | inr apart ↦
            go-others (without_member q m) ms p (sym (ap (λ (b : Bool). b || has ms p) (apart-test m p apart)) ∙ none)
            ∙ members.beside_left q m p (apart-test p m (λ e. apart (sym e)))
      ]

  go-one : (q : Queued P) (es : Places) (ms : List ℕ) (p : ℕ) → AreNew es ms → has ms p ≡ true → place_of (without_members q ms) p ≡ place_of (without_member q p) p
  go-one q es [] p new some = absurd cc
  go-one q es (m ∷ ms) p new some =
      elim (cases_eq m p) [
        | inl same ↦
            go-others (without_member q m) ms p (subst (λ (k : ℕ). has ms k ≡ false) same (once-tail es m ms new))
            ∙ ap (λ (k : ℕ). place_of (without_member q k) p) same
        | inr apart ↦
            go-one (without_member q m) (insert_entry nat_cmp es m 0) ms p new.1 (sym (ap (λ (b : Bool). b || has ms p) (apart-test m p apart)) ∙ some)
            ∙ remove-twice p m q.places (is_same p m ∙ apart-test p m (λ e. apart (sym e)))
      ]

  pub gone-limit : (q : Queued P) (ms : List ℕ) → (shed (without_members q ms)).limit ≡ q.limit
  gone-limit q ms = go-limit q ms

  -- those who went stand there no more, and the others do
  pub gone-none : (q : Queued P) (ms : List ℕ) (p : ℕ) → IsStrictlySortedBy nat_cmp (keys_of q.places) → AreNew [] ms → has ms p ≡ true → is_some (place_of (shed (without_members q ms)) p) ≡ false
  gone-none q ms p sorted new some = shed-some (without_members q ms) p ∙ ap is_some (go-one q [] ms p new some ∙ members.left q p sorted)

  pub gone-others : (q : Queued P) (ms : List ℕ) (p : ℕ) → has ms p ≡ false → is_some (place_of (shed (without_members q ms)) p) ≡ is_some (place_of q p)
  gone-others q ms p none = shed-some (without_members q ms) p ∙ ap is_some (go-others q ms p none)

  pub gone-rest : (q : Queued P) (ms : List ℕ) (p : ℕ) → has ms p ≡ false → rest_of (shed (without_members q ms)) p ≡ rest_of q p
  gone-rest q ms p none =
      shed-rest (without_members q ms) p
      ∙ ap (λ (l : List P). from_place l (place_of (without_members q ms) p)) (go-packets q ms) ∙ ap (from_place q.packets) (go-others q ms p none)

-- ---- those who went have a queue of their own

seated-others : (es : Places) (ms : List ℕ) (p : ℕ) → has ms p ≡ false → lookup (is_member p) (seat_all es ms) ≡ lookup (is_member p) es
seated-others es [] p none = refl
seated-others es (m ∷ ms) p none =
    elim (cases_eq m p) [
      | inl same ↦ absurd (let some = has-same m p ms (eq-eqb m p same) in cc)
      | inr apart ↦
          seated-others (insert_entry nat_cmp es m 0) ms p (sym (ap (λ (b : Bool). b || has ms p) (apart-test m p apart)) ∙ none)
          ∙ come_other p m 0 es (is_same p m ∙ apart-test p m (λ e. apart (sym e)))
    ]

pub seated-none : (ms : List ℕ) (p : ℕ) → has ms p ≡ false → lookup (is_member p) (seat_all [] ms) ≡ None
seated-none ms p none = seated-others [] ms p none

seated-one : (es : Places) (ms : List ℕ) (p : ℕ) → has ms p ≡ true → lookup (is_member p) (seat_all es ms) ≡ Some 0
seated-one es [] p some = absurd cc
seated-one es (m ∷ ms) p some = by (has ms p) refl (seated-one (insert_entry nat_cmp es m 0) ms p) (seated-others (insert_entry nat_cmp es m 0) ms p)
  where
    first : has ms p ≡ false → (m == p) ≡ true
    first none = last (m == p) refl some
      where
        last : (b : Bool) → (m == p) ≡ b → (b || has ms p) ≡ true → (m == p) ≡ true
        last true is e = is
        last false is e = absurd (let z = sym none ∙ e in cc)

    by : (b : Bool) → has ms p ≡ b → (has ms p ≡ true → lookup (is_member p) (seat_all (insert_entry nat_cmp es m 0) ms) ≡ Some 0)
        → (has ms p ≡ false → lookup (is_member p) (seat_all (insert_entry nat_cmp es m 0) ms) ≡ lookup (is_member p) (insert_entry nat_cmp es m 0)) → lookup (is_member p) (seat_all es (m ∷ ms)) ≡ Some 0
    by true is here there = here is
    by false is here there = there is ∙ subst (λ (k : ℕ). lookup (is_member k) (insert_entry nat_cmp es m 0) ≡ Some 0) (eqb-true m p (first is)) (come_here m 0 es)

pub seated-here : (ms : List ℕ) (p : ℕ) → has ms p ≡ true → lookup (is_member p) (seat_all [] ms) ≡ Some 0
seated-here ms p some = seated-one [] ms p some
