-- The first change to a value stands at the least place of it.
use Rattle.std.proofs.Common.{◌≡◌, ◌≢◌, ℕ, zero, suc, ◌<◌, ◌≤◌, inl, inr, List, [], ◌∷◌, length, drop, slice_get, Option, Some, None, IfSome, IfNone, sym, ◌∙◌, ap, subst, arith}
use Rattle.std.proofs.lemmas.Bool.{cases_lt}
use Rattle.ug_message.specs.Climbing.{IsLeastPlace}
use Rattle.ug_hearing.specs.declared.change.Change.{Change}
use Rattle.ug_hearing.specs.declared.change.Standing.{Standing}
use Rattle.ug_hearing.specs.Pasts.{Value, value_of, value_before, Keeps, IsToldBy, StandsIn, Climbs, NeverHas}
use Rattle.ug_hearing.specs.Searching.{IsAt, IsSearched}

beyond : (past : List Value) (n : ℕ) (v : Value) → length past ≤ n → slice_get past n ≢ Some v
beyond [] n v far is = absurd cc
beyond (x ∷ past) zero v far is = absurd (omega arith)
beyond (x ∷ past) (suc n) v far is = beyond past n v (omega arith) is

-- the value that stands here
pub told-here : (past : List Value) (from : ℕ) (v : Value) (changes : List Change) → IsToldBy past from v changes → slice_get past from ≡ Some v
told-here past from v [] h = h.1 from (omega arith) h.0
told-here past from v (c ∷ changes) h = h.1 from (omega arith) h.0

pub here : (past : List Value) (from : ℕ) (v : Value) (changes : List Change) → IsToldBy past from v changes → IsLeastPlace past from v from
here past from v changes h = record { not_before = omega arith; stands = told-here past from v changes h; least = λ n low less is. absurd (omega arith) }

other_value : (past : List Value) (from to : ℕ) (v w : Value) → Keeps past from to v → v ≢ w → (n : ℕ) → from ≤ n → n < to → slice_get past n ≢ Some w
other_value past from to v w keeps other n low less is = let has = keeps n low less in other cc

further : (past : List Value) (from : ℕ) (v w : Value) (c : Change) (place : ℕ) → from < c.place → Keeps past from c.place v → v ≢ w → IsLeastPlace past c.place w place → IsLeastPlace past from w place
further past from v w c place less keeps other h =
    let low = h.not_before in
    record {
      not_before = omega arith;
      stands = h.stands;
      least = λ n at before is. elim (cases_lt n c.place) [
        | inl sooner ↦ other_value past from c.place v w keeps other n at sooner is
        | inr later ↦ h.least n later before is
      ];
    }

never : (past : List Value) (from : ℕ) (v w : Value) (c : Change) → Keeps past from c.place v → v ≢ w → NeverHas past c.place w → NeverHas past from w
never past from v w c keeps other rest n at is =
    elim (cases_lt n c.place) [ inl sooner ↦ other_value past from c.place v w keeps other n at sooner is | inr later ↦ rest n later is ]

get_drop : (changes : List Change) (i : ℕ) (c : Change) (rest : List Change) → drop i changes ≡ c ∷ rest → slice_get changes i ≡ Some c
get_drop [] zero c rest is = absurd cc
get_drop [] (suc i) c rest is = absurd cc
get_drop (x ∷ changes) zero c rest is = cc
get_drop (x ∷ changes) (suc i) c rest is = get_drop changes i c rest is

drop_next : (changes : List Change) (i : ℕ) (c : Change) (rest : List Change) → drop i changes ≡ c ∷ rest → drop (suc i) changes ≡ rest
drop_next [] zero c rest is = absurd cc
drop_next [] (suc i) c rest is = absurd cc
drop_next (x ∷ changes) zero c rest is = cc
drop_next (x ∷ changes) (suc i) c rest is = drop_next changes i c rest is

drop_none : (changes : List Change) (i : ℕ) → drop i changes ≡ [] → length changes ≤ i
drop_none [] i is = omega arith
drop_none (x ∷ changes) zero is = absurd cc
drop_none (x ∷ changes) (suc i) is = let rest = drop_none changes i is in omega arith

pub there-less : (changes : List Change) (n : ℕ) (c : Change) → slice_get changes n ≡ Some c → n < length changes
there-less [] n c is = absurd cc
there-less (x ∷ changes) zero c is = omega arith
there-less (x ∷ changes) (suc n) c is = let rest = there-less changes n c is in omega arith

-- The climb that was searched for: `v` holds before the change of number `i`, and isn't sought.
module _ (past : List Value) (changes : List Change) (w : Value) where
  abbrev Found : ℕ → Option Standing → Type 0
  Found from None = NeverHas past from w
  Found from (Some t) = IsLeastPlace past from w t.place × (value_before t.next changes ≡ w) × StandsIn past changes t

  stands_at : (i : ℕ) (c : Change) (rest : List Change) (t : Standing) → drop i changes ≡ c ∷ rest → IsToldBy past c.place c.value rest → IsAt changes i w t → Found c.place (Some t)
  stands_at i c rest t is told at =
      let same : at.change ≡ c = (let e = sym at.there ∙ get_drop changes i c rest is in cc) in
      let place : c.place ≡ t.place = sym (at.place ∙ ap (λ (d : Change). d.place) same) in
      let value : c.value ≡ w = ap (λ (d : Change). d.value) (sym same) ∙ at.value in
      let before : value_before t.next changes ≡ c.value = ap (λ k. value_before k changes) at.next ∙ ap value_of (get_drop changes i c rest is) in
      let behind : rest ≡ drop t.next changes = sym (ap (λ k. drop k changes) at.next ∙ drop_next changes i c rest is) in
      let all : IsToldBy past t.place (value_before t.next changes) (drop t.next changes) =
      subst (λ (q : ℕ). IsToldBy past q (value_before t.next changes) (drop t.next changes)) place
      (subst (λ (v : Value). IsToldBy past c.place v (drop t.next changes)) (sym before) (subst (λ (cs : List Change). IsToldBy past c.place c.value cs) behind told))
      in (
        subst (λ (q : ℕ). IsLeastPlace past c.place w q) place (subst (λ (v : Value). IsLeastPlace past c.place v c.place) value (here past c.place c.value rest told)),
        before ∙ value,
        all,
      )

  onward : (from : ℕ) (v : Value) (c : Change) (o : Option Standing) → from < c.place → Keeps past from c.place v → v ≢ w → Found c.place o → Found from o
  onward from v c None less keeps other h = never past from v w c keeps other h
  onward from v c (Some t) less keeps other h = (further past from v w c t.place less keeps other h.0, h.1, h.2)

  -- the change that was found is this one, or one behind it
  first_or : (i : ℕ) (c : Change) (rest : List Change) (o : Option Standing) → drop i changes ≡ c ∷ rest → IsToldBy past c.place c.value rest → IsSearched i changes w o
      → (c.value ≢ w → IsSearched (suc i) changes w o → Found c.place o) → Found c.place o
  first_or i c rest None is told h next =
      let less = there-less changes i c (get_drop changes i c rest is) in
      next (h i c (omega arith) less (get_drop changes i c rest is)) (λ n d low. h n d (omega arith))
  first_or i c rest (Some t) is told h next =
      elim (cases_lt i h.0) [
        | inl later ↦ next (h.3 i c (omega arith) later (get_drop changes i c rest is)) (h.0, later, h.2, λ n d low. h.3 n d (omega arith))
        | inr now ↦
            (let low = h.1 in
            let same : h.0 ≡ i = omega arith in
            stands_at i c rest t is told (subst (λ k. IsAt changes k w t) same h.2))
      ]

  pub searched : (from : ℕ) (v : Value) (i : ℕ) (rest : List Change) (o : Option Standing) → drop i changes ≡ rest → IsToldBy past from v rest → v ≢ w → IsSearched i changes w o → Found from o
  searched from v i [] None is told other h =
      λ n at has. elim (cases_lt n (length past)) [
        | inl less ↦ other_value past from (length past) v w told.1 other n at less has
        | inr far ↦ beyond past n w far has
      ]
  searched from v i [] (Some t) is told other h = let none = drop_none changes i is in let low = h.1 in let less = there-less changes h.0 h.2.change h.2.there in absurd (omega arith)
  searched from v i (c ∷ rest) o is told other h =
      onward from v c o told.0 told.1 other
      (first_or i c rest o is told.2 h (λ differs more. searched c.place c.value (suc i) rest o (drop_next changes i c rest is) told.2 differs more))

-- the two answers of a climb
pub some-climbs : (past : List Value) (changes : List Change) (s : Standing) (w : Value) (o : Option Standing) → Found past changes w s.place o → IfSome o (λ t. Climbs past changes s w t)
some-climbs past changes s w None h = tt
some-climbs past changes s w (Some t) h = record { least = h.0; value = h.1; stands = h.2 }

pub none-climbs : (past : List Value) (changes : List Change) (s : Standing) (w : Value) (o : Option Standing) → Found past changes w s.place o → IfNone o (NeverHas past s.place w)
none-climbs past changes s w None h = h
none-climbs past changes s w (Some t) h = tt

-- a climb to the value that stands here stays
pub stays : (past : List Value) (changes : List Change) (s : Standing) (w : Value) → StandsIn past changes s → value_before s.next changes ≡ w → Climbs past changes s w s
stays past changes s w stands same = record {
  least = subst (λ (v : Value). IsLeastPlace past s.place v s.place) same (here past s.place (value_before s.next changes) (drop s.next changes) stands);
  value = same;
  stands = stands;
}
