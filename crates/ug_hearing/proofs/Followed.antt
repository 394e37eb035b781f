-- What is watched, as it goes on.
use Rattle.std.proofs.Common.{◌≡◌, ◌⊎◌, inl, inr, ℕ, ◌<◌, ◌≤◌, Bool, true, false, List, slice_get, Option, Some, refl, sym, ◌∙◌, ap, subst, arith}
use Rattle.std.specs.Prelude.{◌||◌, unwrap_or, Result, Ok, Err, OnOk}
use Rattle.std.specs.Global.{Vec}
use Rattle.std.proofs.lemmas.Bool.{cases_lt}
use Rattle.ug_types.specs.declared.key.Key.{Key}
use Rattle.ug_message.specs.Tables.{among}
use Rattle.ug_hearing.specs.declared.change.Change.{Change}
use Rattle.ug_hearing.specs.Pasts.{value_before}
use Rattle.ug_hearing.specs.declared.row.Row.{Row}
use Rattle.ug_hearing.specs.Keyed.{value_for}
use Rattle.ug_hearing.specs.Courses.{changes_of, value_in}
use Rattle.ug_hearing.specs.Rows.{first_row}
use Rattle.ug_hearing.specs.declared.dated.Dated.{Dated}
use Rattle.ug_hearing.specs.declared.watch.Watch.{Watch}
use Rattle.ug_hearing.specs.Differences.{IsSame}
use Rattle.ug_hearing.specs.Watched.{IsDateOf, AreDates, AreUpTo, IsWatched, AllSame, AreMet}
use Rattle.ug_hearing.specs.Naming.{KeepsDates, Loses, Names, Moves}
use Rattle.ug_hearing.proofs.Dating.{not-beyond}
use Rattle.ug_hearing.proofs.Versions.{between, same-version}

or_false : (a b : Bool) → (a || b) ≡ false → (a ≡ false) × (b ≡ false)
or_false true b e = absurd cc
or_false false b e = (refl, e)

true_false : (b : Bool) → b ≡ true → b ≡ false → ⊥
true_false b e f = absurd cc

is_either : (b : Bool) → (b ≡ true) ⊎ (b ≡ false)
is_either true = inl refl
is_either false = inr refl

module _ (entries : List (Key × List Change)) (from : ℕ) where
  -- a row that stays
  stays : (rows rows' : List (Key × Row)) (version : ℕ) (q : Key) → value_for rows' q ≡ value_for rows q → IsSame rows entries from version q → IsSame rows' entries from version q
  stays rows rows' version q same is =
      subst (λ (o : Option Row). value_before (unwrap_or o (first_row entries from q)).standing.next (changes_of entries q) ≡ value_in version (changes_of entries q)) (sym same) is

  kept_dates : (rows rows' : List (Key × Row)) (old new : Watch) → KeepsDates old new → IsWatched rows entries from old → (new.is_lost ≡ false → (q : Key) → among new.named.items q ≡ false → IsSame rows' entries from old.version q)
      → IsWatched rows' entries from new
  kept_dates rows rows' old new kept w same = record {
    same = λ known q unnamed. subst (λ n. IsSame rows' entries from n q) (sym kept.version) (same known q unnamed);
    dates = λ dated. subst (λ (ds : Vec Dated). AreDates entries ds.items) (sym kept.dates) (w.dates (sym kept.is_dated ∙ dated));
    passed = subst (λ (ds : Vec Dated). AreUpTo ds.items new.passed new.version) (sym kept.dates) (subst (λ n. AreUpTo old.dates.items n new.version) (sym kept.passed) (subst (λ n. AreUpTo old.dates.items old.passed n) (sym kept.version) w.passed));
  }

  pub lost : (rows rows' : List (Key × Row)) (old new : Watch) → Loses old new → IsWatched rows entries from old → IsWatched rows' entries from new
  lost rows rows' old new h w = kept_dates rows rows' old new h.kept w (λ known. absurd (true_false new.is_lost h.lost known))

  pub unmoved : (rows rows' : List (Key × Row)) (w : Watch) → ((q : Key) → value_for rows' q ≡ value_for rows q) → IsWatched rows entries from w → IsWatched rows' entries from w
  unmoved rows rows' w all h =
      kept_dates rows rows' w w (record { version = refl; is_dated = refl; dates = refl; passed = refl }) h (λ known q unnamed. stays rows rows' w.version q (all q) (h.same known q unnamed))

  -- keys were named, first some and then others
  pub both-named : (rows rows' : List (Key × Row)) (old mid new : Watch) (some others : List Key) → Names old mid some → Names mid new others
      → ((q : Key) → (among some q || among others q) ≡ false → value_for rows' q ≡ value_for rows q) → IsWatched rows entries from old → IsWatched rows' entries from new
  both-named rows rows' old mid new some others one two all w =
      kept_dates rows rows' old new (record {
        version = two.kept.version ∙ one.kept.version;
        is_dated = two.kept.is_dated ∙ one.kept.is_dated;
        dates = two.kept.dates ∙ one.kept.dates;
        passed = two.kept.passed ∙ one.kept.passed;
      }) w
      (λ known q unnamed.
      let known_mid = two.known known in
      let last = or_false (among mid.named.items q) (among others q) (sym (two.named known q) ∙ unnamed) in
      let first = or_false (among old.named.items q) (among some q) (sym (one.named known_mid q) ∙ last.0) in
      let silent : (among some q || among others q) ≡ false = ap (λ (b : Bool). b || among others q) first.1 ∙ last.1 in
      stays rows rows' old.version q (all q silent) (w.same (one.known known_mid) q first.0))

  module _ (rows : List (Key × Row)) (old : Watch) where
    -- the changes are put in order
    pub put-in-order : (dates : Vec Dated) (passed' : ℕ) → AreDates entries dates.items → AreUpTo dates.items passed' old.version → IsWatched rows entries from old
        → IsWatched rows entries from (record old { dates = dates; is_dated = true; passed = passed' })
    put-in-order dates passed' all up_to w = record { same = w.same; dates = λ dated. all; passed = up_to }

    -- all keys were looked at
    pub moved : (new : Watch) (version passed' : ℕ) → Moves old new version passed' → AllSame rows entries from version → AreUpTo old.dates.items passed' version → IsWatched rows entries from old → IsWatched rows entries from new
    moved new version passed' m all up_to w = record {
      same = λ known q unnamed. subst (λ n. IsSame rows entries from n q) (sym m.version_is) (all q);
      dates = λ dated. subst (λ (ds : Vec Dated). AreDates entries ds.items) (sym m.dates) (w.dates (sym m.is_dated ∙ dated));
      passed = subst (λ (ds : Vec Dated). AreUpTo ds.items new.passed new.version) (sym m.dates) (subst (λ n. AreUpTo old.dates.items n new.version) (sym m.passed_is) (subst (λ n. AreUpTo old.dates.items passed' n) (sym m.version_is) up_to));
    }

    -- those that were named were looked at, and those that changed
    module _ (version to : ℕ) (known : old.is_lost ≡ false) (dated : old.is_dated ≡ true) (low : old.version ≤ version)
        (named : (q : Key) → among old.named.items q ≡ true → IsSame rows entries from version q) (met : AreMet rows entries from version old.dates.items old.passed to) where
      pub all-met : IsWatched rows entries from old → AllSame rows entries from version
      all-met w q = elim (is_either (among old.named.items q)) [
        | inl was ↦ named q was
        | inr never ↦ elim (between old.version version (changes_of entries q) low) [
          | inl level ↦ same-version rows entries from old.version version q level (w.same known q never)
          | inr there ↦
              (let listed = (w.dates dated).listed q there.0 there.1 there.2 in
              at listed.0 there.1 listed.1 listed.2 listed.3 there.3 there.4)
        ]
      ]
        where
          at : (j : ℕ) (c : Change) (d : Dated) → slice_get old.dates.items j ≡ Some d → IsDateOf entries q c d → old.version < c.place → c.place ≤ version → IsSame rows entries from version q
          at j c d is date after up = elim (cases_lt j to) [
            | inl sooner ↦ elim (cases_lt j old.passed) [
              | inl before ↦ (let few = w.passed j d is before in let same = date.version in absurd (omega (arith, few, same, after)))
              | inr behind ↦ met.same j d is behind sooner q date.place
            ]
            | inr far ↦ absurd (not-beyond old.dates.items version to j d (w.dates dated).rise is far met.behind (subst (λ n. n ≤ version) (sym date.version) up))
          ]

      pub up-to-met : IsWatched rows entries from old → AreUpTo old.dates.items to version
      up-to-met w j d is less = elim (cases_lt j old.passed) [
        | inl before ↦ (let few = w.passed j d is before in omega arith)
        | inr behind ↦ met.up_to j d is behind less
      ]

pub on-ok : {A E : Type 0} (r : Result A E) (P Q : Type 0) → (P → Q) → OnOk r P → OnOk r Q
on-ok (Ok a) P Q f h = f h
on-ok (Err e) P Q f h = h
