-- One key more that was visited.
use Rattle.std.proofs.Common.{◌≡◌, ℕ, suc, ◌⊎◌, inl, inr, Bool, true, false, List, [], ◌∷◌, ◌++◌, length, Option, refl, sym, ◌∙◌, ap, subst}
use Rattle.std.specs.Prelude.{◌||◌, is_some, unwrap_or}
use Rattle.ug_types.specs.declared.key.Key.{Key}
use Rattle.ug_types.specs.Keys.{same_key}
use Rattle.ug_message.specs.Tables.{Table, among}
use Rattle.ug_hearing.specs.declared.change.Change.{Change}
use Rattle.ug_hearing.specs.Pasts.{Value}
use Rattle.ug_hearing.specs.declared.row.Row.{Row}
use Rattle.ug_hearing.specs.declared.standings.Standings.{Standings}
use Rattle.ug_hearing.specs.Keyed.{value_for}
use Rattle.ug_hearing.specs.Courses.{IsCourse}
use Rattle.ug_hearing.specs.Rows.{row_for, first_row}
use Rattle.ug_hearing.specs.Visits.{IsVisit}
use Rattle.ug_hearing.specs.Passes.{HasRow, CantClimb, Passes, Failed, ArePassed}
use Rattle.ug_hearing.proofs.Keys.{same_is}
use Rattle.ug_hearing.proofs.Among.{same-self, same-sym, either, neither, or-first, or-second, among-last}
use Rattle.ug_hearing.proofs.Visited.{row_is, reached, cant, stands_still, again, never_again, other}

abbrev pub IsPushed : Bool → Key → List Key → List Key → Type 0
IsPushed true k failed failed' = failed' ≡ failed
IsPushed false k failed failed' = failed' ≡ failed ++ k ∷ []

module _ (entries : List (Key × List Change)) (from to message : ℕ) (front : List Key) (k : Key) (v : Value) (before failed failed' : List Key) (old st new : Standings) (could : Bool)
    (h : ArePassed entries from to message front v before failed old st) (visit : IsVisit entries from to message k v st new could) (pushed : IsPushed could k failed failed') where
  abbrev keys : List Key
  keys = front ++ k ∷ []

  still_failed : (q : Key) → among failed q ≡ true → among failed' q ≡ true
  still_failed q is = by could pushed
    where
      by : (b : Bool) → IsPushed b k failed failed' → among failed' q ≡ true
      by true same = ap (λ (ks : List Key). among ks q) same ∙ is
      by false more = ap (λ (ks : List Key). among ks q) more ∙ (among-last failed k q ∙ or-first (among failed q) (same_key q k) is)

  was_failed : (q : Key) → same_key q k ≡ false → among failed' q ≡ true → among failed q ≡ true
  was_failed q differs is = by could pushed
    where
      by : (b : Bool) → IsPushed b k failed failed' → among failed q ≡ true
      by true same = ap (λ (ks : List Key). among ks q) (sym same) ∙ is
      by false more = elim (either (among failed q) (same_key q k) (sym (among-last failed k q) ∙ (ap (λ (ks : List Key). among ks q) (sym more) ∙ is))) [ inl was ↦ was | inr it ↦ absurd (let e = sym it ∙ differs in cc) ]

  new_failed : could ≡ false → among failed' k ≡ true
  new_failed is = by could is pushed
    where
      by : (b : Bool) → b ≡ false → IsPushed b k failed failed' → among failed' k ≡ true
      by true e p = absurd cc
      by false e more = ap (λ (ks : List Key). among ks k) more ∙ (among-last failed k k ∙ or-second (among failed k) (same_key k k) (same-self k))

  same_row : (q : Key) → same_key k q ≡ false → row_for new.rows entries from q ≡ row_for st.rows entries from q
  same_row q differs = ap (λ (o : Option Row). unwrap_or o (first_row entries from q)) (visit.others q differs)

  named_by : (q : Key) (b : Bool) → same_key k q ≡ b → is_some (value_for new.rows q) ≡ (is_some (value_for old.rows q) || among keys q)
  named_by q true same =
      let is = same_is k q same in
      let all : among keys q ≡ true = among-last front k q ∙ or-second (among front q) (same_key q k) (same-sym q k ∙ same) in
      ap (λ (p : Key). is_some (value_for new.rows p)) (sym is) ∙ (ap is_some visit.there ∙ sym (or-second (is_some (value_for old.rows q)) (among keys q) all))
  named_by q false differs =
      let none : same_key q k ≡ false = same-sym q k ∙ differs in
      let all : among keys q ≡ among front q = among-last front k q ∙ (ap (λ (b : Bool). among front q || b) none ∙ or_none (among front q)) in
      ap is_some (visit.others q differs) ∙ (h.named q ∙ ap (λ (b : Bool). is_some (value_for old.rows q) || b) (sym all))
    where
      or_none : (b : Bool) → (b || false) ≡ b
      or_none true = refl
      or_none false = refl

  seen_by : (q : Key) (b : Bool) → same_key k q ≡ b → among keys q ≡ true → (row_for new.rows entries from q).seen ≡ new.refreshes
  seen_by q true same is = let q_is = same_is k q same in subst (λ (p : Key). (row_for new.rows entries from p).seen ≡ new.refreshes) q_is (ap (λ (r : Row). r.seen) (row_is entries from to message k v st new could visit) ∙ visit.seen)
  seen_by q false differs is =
      elim (either (among front q) (same_key q k) (sym (among-last front k q) ∙ is)) [
        | inl before_it ↦ ap (λ (r : Row). r.seen) (same_row q differs) ∙ (h.seen q before_it ∙ sym visit.refreshes)
        | inr it ↦ absurd (let e = sym it ∙ (same-sym q k ∙ differs) in cc)
      ]

  unseen_by : (q : Key) → among keys q ≡ false → value_for new.rows q ≡ value_for old.rows q
  unseen_by q is =
      let none = neither (among front q) (same_key q k) (sym (among-last front k q) ∙ is) in
      visit.others q (same-sym k q ∙ none.1) ∙ h.unseen q none.0

  module _ (past tables : List Table) (course : IsCourse entries from to past tables) (values : Key → List Value) (number : (q : Key) → message ≡ suc (length (values q))) where
    abbrev Waits : Standings → Key → Type 0
    Waits s q = HasRow entries from to past tables s q (values q)

    abbrev Has : Standings → Key → Type 0
    Has s q = HasRow entries from to past tables s q (values q ++ v ∷ [])

    abbrev Cant : Key → Type 0
    Cant q = CantClimb entries from to past tables q (values q ++ v ∷ [])

    abbrev Stood : Key → Type 0
    Stood q = Has st q ⊎ Waits st q

    -- how the key stood before the visit
    stood : (b : Bool) → Passes entries from to past tables b failed v old st k (values k) → (Waits old k ⊎ Has old k) → Stood k
    stood true p right = elim (p right) [ inl has ↦ inl has | inr fails ↦ inr fails.2 ]
    stood false p right = elim right [ inl waits ↦ inr (p (values k) waits) | inr has ↦ inl (p (values k ++ v ∷ []) has) ]

    passed : (Waits old k ⊎ Has old k) → Stood k
    passed right = stood (among front k) (h.passes past tables course values number k).0 right

    visited : (b : Bool) → could ≡ b → Stood k → Has new k ⊎ ((among failed' k ≡ true) × Cant k × Waits new k)
    visited true is (inl has) = inl (again entries from to message k v st new past tables course (values k) (number k) (subst (λ (c : Bool). IsVisit entries from to message k v st new c) is visit) has)
    visited true is (inr waits) = inl (reached entries from to message k v st new past tables course (values k) (number k) (subst (λ (c : Bool). IsVisit entries from to message k v st new c) is visit) waits)
    visited false is (inl has) = absurd (never_again entries from to message k v st new past tables course (values k) (number k) (subst (λ (c : Bool). IsVisit entries from to message k v st new c) is visit) has)
    visited false is (inr waits) =
        let it = subst (λ (c : Bool). IsVisit entries from to message k v st new c) is visit in
        inr (new_failed is, cant entries from to message k v st new past tables course (values k) (number k) it waits, stands_still entries from to message k v st new past tables course (values k) (number k) it waits)

    not_there : could ≡ false → Stood k → Cant k
    not_there is (inl has) = absurd (never_again entries from to message k v st new past tables course (values k) (number k) (subst (λ (c : Bool). IsVisit entries from to message k v st new c) is visit) has)
    not_there is (inr waits) = cant entries from to message k v st new past tables course (values k) (number k) (subst (λ (c : Bool). IsVisit entries from to message k v st new c) is visit) waits

    it_failed : (b : Bool) → could ≡ b → among failed' k ≡ true → (among before k ≡ true) ⊎ ((among keys k ≡ true) × ((Waits old k ⊎ Has old k) → Cant k))
    it_failed true is fails =
        let same : failed' ≡ failed = subst (λ (c : Bool). IsPushed c k failed failed') is pushed in
        elim ((h.passes past tables course values number k).1 (ap (λ (ks : List Key). among ks k) (sym same) ∙ fails)) [
          | inl sooner ↦ inl sooner
          | inr now ↦ inr (among-last front k k ∙ or-first (among front k) (same_key k k) now.0, now.1)
        ]
    it_failed false is fails =
        inr (among-last front k k ∙ or-second (among front k) (same_key k k) (same-self k), λ right. not_there is (passed right))

    pass_other : (q : Key) (b : Bool) → same_key k q ≡ false → Passes entries from to past tables b failed v old st q (values q) → Passes entries from to past tables b failed' v old new q (values q)
    pass_other q true differs p = λ right. elim (p right) [
      | inl has ↦ inl (other entries from to message k v st new could visit past tables q (values q ++ v ∷ []) differs has)
      | inr fails ↦ inr (still_failed q fails.0, fails.1, other entries from to message k v st new could visit past tables q (values q) differs fails.2)
    ]
    pass_other q false differs p = λ ws is. other entries from to message k v st new could visit past tables q ws differs (p ws is)

    other_failed : (q : Key) → same_key k q ≡ false → Failed entries from to past tables front before failed v old q (values q) → Failed entries from to past tables keys before failed' v old q (values q)
    other_failed q differs f = λ fails. elim (f (was_failed q (same-sym q k ∙ differs) fails)) [
      | inl sooner ↦ inl sooner
      | inr now ↦ inr (among-last front k q ∙ or-first (among front q) (same_key q k) now.0, now.1)
    ]

    passes_by : (q : Key) (b : Bool) → same_key k q ≡ b → Passes entries from to past tables (among keys q) failed' v old new q (values q) × Failed entries from to past tables keys before failed' v old q (values q)
    passes_by q true same =
        let all : true ≡ among keys k = sym (among-last front k k ∙ or-second (among front k) (same_key k k) (same-self k)) in
        subst (λ (p : Key). Passes entries from to past tables (among keys p) failed' v old new p (values p) × Failed entries from to past tables keys before failed' v old p (values p)) (same_is k q same)
        (subst (λ (c : Bool). Passes entries from to past tables c failed' v old new k (values k)) all (λ right. visited could refl (passed right)), it_failed could refl)
    passes_by q false differs =
        let none : same_key q k ≡ false = same-sym q k ∙ differs in
        let all : among front q ≡ among keys q = sym (among-last front k q ∙ (ap (λ (c : Bool). among front q || c) none ∙ or_none (among front q))) in (
          subst (λ (c : Bool). Passes entries from to past tables c failed' v old new q (values q)) all (pass_other q (among front q) differs (h.passes past tables course values number q).0),
          other_failed q differs (h.passes past tables course values number q).1,
        )
      where
        or_none : (b : Bool) → (b || false) ≡ b
        or_none true = refl
        or_none false = refl

  pub one-more : ArePassed entries from to message keys v before failed' old new
  one-more = record {
    refreshes = visit.refreshes ∙ h.refreshes;
    named = λ q. named_by q (same_key k q) refl;
    seen = λ q. seen_by q (same_key k q) refl;
    unseen = unseen_by;
    passes = λ past tables course values number q. passes_by past tables course values number q (same_key k q) refl;
    kept = λ q is. still_failed q (h.kept q is);
  }

-- before the first key
pub none-passed : (entries : List (Key × List Change)) (from to message : ℕ) (v : Value) (before : List Key) (old : Standings) → ArePassed entries from to message [] v before before old old
none-passed entries from to message v before old = record {
  refreshes = refl;
  named = λ q. sym (or_none (is_some (value_for old.rows q)));
  seen = λ q is. absurd cc;
  unseen = λ q is. refl;
  passes = λ past tables course values number q. (λ ws is. is, λ is. inl is);
  kept = λ q is. is;
}
  where
    or_none : (b : Bool) → (b || false) ≡ b
    or_none true = refl
    or_none false = refl
