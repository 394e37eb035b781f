-- A log after one table more.
use Rattle.std.proofs.Common.{◌≡◌, inl, inr, ℕ, zero, suc, List, [], ◌∷◌, ◌++◌, length, slice_get, Some, None, refl, sym, ◌∙◌, ap, subst, arith, length-append, Bool, true, false}
use Rattle.std.proofs.lemmas.Bool.{cases_lt}
use Rattle.std.proofs.lemmas.List.{map-append, length-map}
use Rattle.ug_types.specs.declared.key.Key.{Key}
use Rattle.ug_types.specs.Keys.{same_key}
use Rattle.ug_message.specs.Tables.{Table, among}
use Rattle.ug_hearing.proofs.Keys.{same_is}
use Rattle.ug_hearing.proofs.Among.{same-sym, either, neither, among-last}
use Rattle.ug_message.specs.Climbing.{values_at}
use Rattle.ug_hearing.specs.declared.change.Change.{Change}
use Rattle.ug_hearing.specs.Pasts.{Value, value_of, value_before, IsToldBy}
use Rattle.ug_hearing.specs.Keyed.{items_or_none}
use Rattle.ug_hearing.specs.Courses.{changes_of}
use Rattle.ug_hearing.specs.Logs.{IsLog, AddsChange, IsNoted}

get-more : (xs : List Value) (v w : Value) (i : ℕ) → slice_get xs i ≡ Some w → slice_get (xs ++ v ∷ []) i ≡ Some w
get-more [] v w i is = absurd cc
get-more (x ∷ xs) v w zero is = is
get-more (x ∷ xs) v w (suc i) is = get-more xs v w i is

get-last : (xs : List Value) (v : Value) → slice_get (xs ++ v ∷ []) (length xs) ≡ Some v
get-last [] v = refl
get-last (x ∷ xs) v = get-last xs v

-- the value behind all changes
abbrev last_of : Value → List Change → Value
last_of v [] = v
last_of v (c ∷ cs) = last_of c.value cs

-- the past goes on with the same value
same-more : (xs : List Value) (from : ℕ) (v w : Value) (cs : List Change) → IsToldBy xs from v cs → last_of v cs ≡ w → IsToldBy (xs ++ w ∷ []) from v cs
same-more xs from v w [] h is =
    let size = length-append xs (w ∷ []) in
    let less = h.0 in (
      omega arith,
      λ n low under. elim (cases_lt n (length xs)) [
        | inl inside ↦ get-more xs w v n (h.1 n low inside)
        | inr last ↦ (let at : n ≡ length xs = omega arith in ap (λ k. slice_get (xs ++ w ∷ []) k) at ∙ (get-last xs w ∙ ap Some (sym is)))
      ],
    )
same-more xs from v w (c ∷ cs) h is = (h.0, λ n low under. get-more xs w v n (h.1 n low under), same-more xs c.place c.value w cs h.2 is)

-- it goes on with another
other-more : (xs : List Value) (from : ℕ) (v w : Value) (cs : List Change) (c : Change) → IsToldBy xs from v cs → c.place ≡ length xs → c.value ≡ w → IsToldBy (xs ++ w ∷ []) from v (cs ++ c ∷ [])
other-more xs from v w [] c h place value =
    let size = length-append xs (w ∷ []) in
    let less = h.0 in (
      omega arith,
      λ n low under. get-more xs w v n (h.1 n low (omega arith)),
      (
        omega arith,
        λ n low under. (let at : n ≡ length xs = omega arith in ap (λ k. slice_get (xs ++ w ∷ []) k) at ∙ (get-last xs w ∙ ap Some (sym value))),
      ),
    )
other-more xs from v w (d ∷ cs) c h place value = (h.0, λ n low under. get-more xs w v n (h.1 n low under), other-more xs d.place d.value w cs c h.2 place value)

behind_all : (c : Change) (cs : List Change) → last_of c.value cs ≡ value_of (slice_get (c ∷ cs) (length cs))
behind_all c [] = refl
behind_all c (d ∷ cs) = behind_all d cs

last_is : (cs : List Change) → last_of None cs ≡ value_before (length cs) cs
last_is [] = refl
last_is (c ∷ cs) = behind_all c cs

-- One table more: this key has a value in it, that was noted.
pub noted-more : (entries entries' : List (Key × List Change)) (tables : List Table) (table : Table) (key : Key) → IsToldBy (values_at key tables) 0 None (changes_of entries key)
    → AddsChange (length tables) (table key) (changes_of entries key) (changes_of entries' key) → IsToldBy (values_at key (tables ++ table ∷ [])) 0 None (changes_of entries' key)
noted-more entries entries' tables table key h adds =
    let all : values_at key (tables ++ table ∷ []) ≡ values_at key tables ++ table key ∷ [] = map-append (λ (t : Table). t key) tables (table ∷ []) in
    let size = length-map tables (λ (t : Table). t key) in
    subst (λ (xs : List Value). IsToldBy xs 0 None (changes_of entries' key)) (sym all)
    (elim adds [
      | inl same ↦
          subst (λ (cs : List Change). IsToldBy (values_at key tables ++ table key ∷ []) 0 None cs) (sym same.0)
          (same-more (values_at key tables) 0 None (table key) (changes_of entries key) h (last_is (changes_of entries key) ∙ same.1))
      | inr more ↦
          subst (λ (cs : List Change). IsToldBy (values_at key tables ++ table key ∷ []) 0 None cs) (sym more.1)
          (other-more (values_at key tables) 0 None (table key) (changes_of entries key) more.0 h (more.2 ∙ sym size) more.3)
    ])

-- and a key that has what it had last needs no note
pub kept-more : (entries : List (Key × List Change)) (tables : List Table) (table : Table) (key : Key) → IsToldBy (values_at key tables) 0 None (changes_of entries key)
    → value_before (length (changes_of entries key)) (changes_of entries key) ≡ table key → IsToldBy (values_at key (tables ++ table ∷ [])) 0 None (changes_of entries key)
kept-more entries tables table key h same = noted-more entries entries tables table key h (inl (refl, same))

told_last : (xs : List Value) (from : ℕ) (v : Value) (cs : List Change) → IsToldBy xs from v cs → (n : ℕ) → suc n ≡ length xs → slice_get xs n ≡ Some (last_of v cs)
told_last xs from v [] h n last = let less = h.0 in h.1 n (omega arith) (omega arith)
told_last xs from v (c ∷ cs) h n last = told_last xs c.place c.value cs h.2 n last

some_same : (a b : Value) → Some a ≡ Some b → a ≡ b
some_same a b e = cc

-- a key that was noted has the table's value last
pub noted-last : (entries : List (Key × List Change)) (tables : List Table) (table : Table) (key : Key) → IsToldBy (values_at key (tables ++ table ∷ [])) 0 None (changes_of entries key)
    → value_before (length (changes_of entries key)) (changes_of entries key) ≡ table key
noted-last entries tables table key h =
    let all : values_at key (tables ++ table ∷ []) ≡ values_at key tables ++ table key ∷ [] = map-append (λ (t : Table). t key) tables (table ∷ []) in
    let told = subst (λ (xs : List Value). IsToldBy xs 0 None (changes_of entries key)) all h in
    let size = length-append (values_at key tables) (table key ∷ []) in
    sym (last_is (changes_of entries key))
    ∙ some_same (last_of None (changes_of entries key)) (table key)
    (sym (told_last (values_at key tables ++ table key ∷ []) 0 None (changes_of entries key) told (length (values_at key tables)) (omega arith)) ∙ get-last (values_at key tables) (table key))

-- how far a table was noted
pub record IsNotedTo (front : List Key) (tables : List Table) (table : Table) (old now : List (Key × List Change)) : Type 0 where
  pub noted : (q : Key) → among front q ≡ true → IsToldBy (values_at q (tables ++ table ∷ [])) 0 None (changes_of now q)
  pub others : (q : Key) → among front q ≡ false → changes_of now q ≡ changes_of old q

pub one-noted : (front : List Key) (k : Key) (tables : List Table) (table : Table) (old now new : List (Key × List Change)) → IsLog old tables → IsNotedTo front tables table old now
    → IsNoted (length tables) k (table k) now new → IsNotedTo (front ++ k ∷ []) tables table old new
one-noted front k tables table old now new log h n = record {
  noted = λ q there. by q (same_key k q) refl there;
  others = λ q isnt.
      let none = neither (among front q) (same_key q k) (sym (among-last front k q) ∙ isnt) in
      ap items_or_none (n.others q (same-sym k q ∙ none.1)) ∙ h.others q none.0;
}
  where
    here : (b : Bool) → among front k ≡ b → IsToldBy (values_at k (tables ++ table ∷ [])) 0 None (changes_of new k)
    here true e = elim n.adds [
      | inl same ↦ subst (λ (cs : List Change). IsToldBy (values_at k (tables ++ table ∷ [])) 0 None cs) (sym same.0) (h.noted k e)
      | inr more ↦ absurd (more.4 (noted-last now tables table k (h.noted k e)))
    ]
    here false e = noted-more now new tables table k (subst (λ (cs : List Change). IsToldBy (values_at k tables) 0 None cs) (sym (h.others k e)) (log k)) n.adds

    by : (q : Key) (b : Bool) → same_key k q ≡ b → among (front ++ k ∷ []) q ≡ true → IsToldBy (values_at q (tables ++ table ∷ [])) 0 None (changes_of new q)
    by q true e there = subst (λ (x : Key). IsToldBy (values_at x (tables ++ table ∷ [])) 0 None (changes_of new x)) (same_is k q e) (here (among front k) refl)
    by q false e there =
        elim (either (among front q) (same_key q k) (sym (among-last front k q) ∙ there)) [
          | inl before ↦ subst (λ (cs : List Change). IsToldBy (values_at q (tables ++ table ∷ [])) 0 None cs) (sym (ap items_or_none (n.others q e))) (h.noted q before)
          | inr it ↦ absurd (let f = sym it ∙ (same-sym q k ∙ e) in cc)
        ]

pub all-noted : (keys : List Key) (tables : List Table) (table : Table) (old new : List (Key × List Change)) → IsLog old tables → IsNotedTo keys tables table old new
    → ((q : Key) → among keys q ≡ false → value_before (length (changes_of old q)) (changes_of old q) ≡ table q) → IsLog new (tables ++ table ∷ [])
all-noted keys tables table old new log h kept key = by (among keys key) refl
  where
    by : (b : Bool) → among keys key ≡ b → IsToldBy (values_at key (tables ++ table ∷ [])) 0 None (changes_of new key)
    by true e = h.noted key e
    by false e = subst (λ (cs : List Change). IsToldBy (values_at key (tables ++ table ∷ [])) 0 None cs) (sym (h.others key e)) (kept-more old tables table key (log key) (kept key e))

pub none-noted : (tables : List Table) (table : Table) (old : List (Key × List Change)) → IsNotedTo [] tables table old old
none-noted tables table old = record { noted = λ q e. absurd (let f : false ≡ true = e in cc); others = λ q e. refl }
