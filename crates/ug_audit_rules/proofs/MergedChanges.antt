-- The changes of what a peer should have, as far as they are merged.
use Rattle.std.proofs.Common.{◌≡◌, ℕ, suc, ◌+◌, ◌<◌, ◌≤◌, inl, inr, Bool, false, List, [], ◌∷◌, ◌++◌, length, slice_get, Option, Some, None, refl, sym, ◌∙◌, ap, subst, arith}
use Rattle.std.specs.Prelude.{if◌then◌else◌}
use Rattle.std.proofs.lemmas.Bool.{le-ltb, cases_lt}
use Rattle.ug_types.specs.declared.route.OutAttrs.{OutAttrs}
use Rattle.ug_types.specs.declared.route.PeerEnds.{PeerEnds}
use Rattle.ug_hearing.specs.declared.change.Change.{Change}
use Rattle.ug_hearing.specs.Pasts.{Value, value_of, value_before, Keeps, IsToldBy, IsToldUntil}
use Rattle.ug_hearing.specs.Logs.{AddsChange}
use Rattle.ug_audit_rules.specs.declared.since.Since.{Since}
use Rattle.ug_audit_rules.specs.Held.{held, IsRising}
use Rattle.ug_audit_rules.specs.GroupLogs.{Outs}
use Rattle.ug_audit_rules.specs.Merges.{told_if, IsMerged, IsUndue, IsPassed, IsNotBefore, IsFirstAt, IsLeast}
use Rattle.ug_audit_rules.proofs.Holding.{rising-within, held-early}

-- ---- a past, told up to a place

-- the value behind all changes
abbrev pub last_value : Value → List Change → Value
last_value v [] = v
last_value v (c ∷ cs) = last_value c.value cs

behind_all : (c : Change) (cs : List Change) → last_value c.value cs ≡ value_of (slice_get (c ∷ cs) (length cs))
behind_all c [] = refl
behind_all c (d ∷ cs) = behind_all d cs

pub last-is : (cs : List Change) → last_value None cs ≡ value_before (length cs) cs
last-is [] = refl
last-is (c ∷ cs) = behind_all c cs

last_added : (v : Value) (cs : List Change) (c : Change) → last_value v (cs ++ c ∷ []) ≡ c.value
last_added v [] c = refl
last_added v (d ∷ cs) c = last_added d.value cs c

told_on : (past : List Value) (from : ℕ) (v : Value) (cs : List Change) (a b : ℕ) → IsToldUntil past from v cs a → a ≤ b → Keeps past a b (last_value v cs) → IsToldUntil past from v cs b
told_on past from v [] a b h more keeps =
    let less = h.0 in (omega arith, λ n low under. elim (cases_lt n a) [ inl sooner ↦ h.1 n low sooner | inr later ↦ keeps n later under ])
told_on past from v (c ∷ cs) a b h more keeps = (h.0, h.1, told_on past c.place c.value cs a b h.2 more keeps)

told_change : (past : List Value) (from : ℕ) (v : Value) (cs : List Change) (c : Change) (a : ℕ) → IsToldUntil past from v cs a → c.place ≡ a → slice_get past a ≡ Some c.value → IsToldUntil past from v (cs ++ c ∷ []) (suc a)
told_change past from v [] c a h place value =
    let less = h.0 in (
      omega arith,
      λ n low under. h.1 n low (omega arith),
      (omega arith, λ n low under. (let at : n ≡ a = omega arith in ap (λ (k : ℕ). slice_get past k) at ∙ value)),
    )
told_change past from v (d ∷ cs) c a h place value = (h.0, h.1, told_change past d.place d.value cs c a h.2 place value)

told_whole : (past : List Value) (from : ℕ) (v : Value) (cs : List Change) → IsToldUntil past from v cs (length past) → IsToldBy past from v cs
told_whole past from v [] h = h
told_whole past from v (c ∷ cs) h = (h.0, h.1, told_whole past c.place c.value cs h.2)

-- ---- changes that are left

-- From a version on these changes that are left tell as much as all.
pub record IsRest {T : Type 0} (b : T) (all : List (Since T)) (at n : ℕ) (now : T) (left : List (Since T)) : Type 0 where
  pub same : (v : ℕ) → at ≤ v → held v b all ≡ held v now left
  pub rising : IsRising (suc at) left n

-- none is before the version at which they go on
rising_from : {T : Type 0} (at at' n : ℕ) (left : List (Since T)) → at < at' → at' < n → IsNotBefore at' left → IsRising (suc at) left n → IsRising at' left n
rising_from at at' n [] more under none h = omega arith
rising_from at at' n (x ∷ left) more under none h = (none, h.1)

passed_on : {T : Type 0} (b : T) (all : List (Since T)) (at at' n : ℕ) (now now' : T) (left left' : List (Since T)) → at < at' → at' < n → IsNotBefore at' left → IsPassed at' now left now' left' → IsRest b all at n now left → IsRest b all at' n now' left'
passed_on {T} b all at at' n now now' left left' more under none (inl due) h = record {
  same = λ v low. h.same v (omega arith) ∙ ap (λ (xs : List (Since T)). held v now xs) due ∙ ap (λ (t : Bool). if t then now else held v now' left') (le-ltb v at' low);
  rising = (subst (λ (xs : List (Since T)). IsRising (suc at) xs n) due h.rising).1;
}
passed_on {T} b all at at' n now now' left left' more under none (inr undue) h = record {
  same = λ v low. h.same v (omega arith) ∙ ap (λ (x : T). held v x left) (sym undue.1) ∙ ap (λ (xs : List (Since T)). held v now' xs) (sym undue.2);
  rising = subst (λ (xs : List (Since T)). IsRising (suc at') xs n) (sym undue.2) (later left none undue.0 h.rising);
}
  where
    later : (xs : List (Since T)) → IsNotBefore at' xs → IsUndue at' xs → IsRising (suc at) xs n → IsRising (suc at') xs n
    later [] none other h = omega arith
    later (x ∷ xs) none other h = (omega (arith, none, other), h.1)

-- ---- both

-- They are merged up to a version.
pub record IsMergedTo (ends : PeerEnds) (all_ups : List (Since Bool)) (all_outs : Outs) (up : Bool) (ups : List (Since Bool)) (out : Option OutAttrs) (outs : Outs) (changes : List Change) (past : List Value) : Type 0 where
  pub at : ℕ
  pub inside : at < length past
  pub ups_left : IsRest false all_ups at (length past) up ups
  pub outs_left : IsRest None all_outs at (length past) out outs
  pub told : IsToldUntil past 0 None changes (suc at)
  pub last : last_value None changes ≡ told_if ends up out

pub merge-begins : (ends : PeerEnds) (ups : List (Since Bool)) (outs : Outs) (past : List Value) → IsRising 1 ups (length past) → IsRising 1 outs (length past) → IsMerged ends ups outs past → IsMergedTo ends ups outs false ups None outs [] past
merge-begins ends ups outs past rising_ups rising_outs merged = record {
  at = 0;
  inside = merged.0;
  ups_left = record { same = λ v low. refl; rising = rising_ups };
  outs_left = record { same = λ v low. refl; rising = rising_outs };
  told = (
    omega arith,
    λ n low under. (
        let zero_is : n ≡ 0 = omega arith in
        ap (λ (k : ℕ). slice_get past k) zero_is ∙ merged.1 0 merged.0
        ∙ ap (λ (u : Bool). Some (told_if ends u (held 0 None outs))) (held-early 0 1 false ups (length past) rising_ups (omega arith))),
  );
  last = refl;
}

-- a change is at a version below that which all are below
first_inside : {T : Type 0} (at at' n : ℕ) (left : List (Since T)) → IsFirstAt at' left → IsRising (suc at) left n → (at < at') × (at' < n)
first_inside at at' n [] is h = absurd is
first_inside at at' n (x ∷ left) is h = let rest = rising-within (suc x.version) left n h.1 in let low = h.0 in (omega (arith, is, low), omega (arith, is, rest))

pub merge-goes-on :
    (ends : PeerEnds) (all_ups : List (Since Bool)) (all_outs : Outs) (up up' : Bool) (ups ups' : List (Since Bool)) (out out' : Option OutAttrs) (outs outs' : Outs) (changes changes' : List Change) (past : List Value) (at' : ℕ)
    → IsMerged ends all_ups all_outs past → IsMergedTo ends all_ups all_outs up ups out outs changes past → IsLeast ups outs (Some at') → IsPassed at' up ups up' ups' → IsPassed at' out outs out' outs'
    → AddsChange at' (told_if ends up' out') changes changes' → IsMergedTo ends all_ups all_outs up' ups' out' outs' changes' past
merge-goes-on ends all_ups all_outs up up' ups ups' out out' outs outs' changes changes' past at' merged h least pass_ups pass_outs adds = record {
  at = at';
  inside = within.1;
  ups_left = ups_now;
  outs_left = outs_now;
  told = tells adds;
  last = lasts adds;
}
  where
    within : (h.at < at') × (at' < length past)
    within = elim least.2 [ inl of_ups ↦ first_inside h.at at' (length past) ups of_ups h.ups_left.rising | inr of_outs ↦ first_inside h.at at' (length past) outs of_outs h.outs_left.rising ]

    ups_now : IsRest false all_ups at' (length past) up' ups'
    ups_now = passed_on false all_ups h.at at' (length past) up up' ups ups' within.0 within.1 least.0 pass_ups h.ups_left

    outs_now : IsRest None all_outs at' (length past) out' outs'
    outs_now = passed_on None all_outs h.at at' (length past) out out' outs outs' within.0 within.1 least.1 pass_outs h.outs_left

    between : (v : ℕ) → h.at < v → v < at' → slice_get past v ≡ Some (last_value None changes)
    between v more under =
        let w = within.1 in
        let first = rising_from h.at at' (length past) ups within.0 within.1 least.0 h.ups_left.rising in
        let second = rising_from h.at at' (length past) outs within.0 within.1 least.1 h.outs_left.rising in
        merged.1 v (omega arith)
        ∙ ap (λ (u : Bool). Some (told_if ends u (held v None all_outs))) (h.ups_left.same v (omega arith) ∙ held-early v at' up ups (length past) first under)
        ∙ ap (λ (o : Option OutAttrs). Some (told_if ends up o)) (h.outs_left.same v (omega arith) ∙ held-early v at' out outs (length past) second under)
        ∙ ap (λ (x : Value). Some x) (sym h.last)

    before : IsToldUntil past 0 None changes at'
    before = let w = within.0 in told_on past 0 None changes (suc h.at) at' h.told (omega arith) (λ v low under. between v (omega arith) under)

    here : slice_get past at' ≡ Some (told_if ends up' out')
    here =
        merged.1 at' within.1
        ∙ ap (λ (u : Bool). Some (told_if ends u (held at' None all_outs))) (ups_now.same at' (omega arith) ∙ held-early at' (suc at') up' ups' (length past) ups_now.rising (omega arith))
        ∙ ap (λ (o : Option OutAttrs). Some (told_if ends up' o)) (outs_now.same at' (omega arith) ∙ held-early at' (suc at') out' outs' (length past) outs_now.rising (omega arith))

    tells : AddsChange at' (told_if ends up' out') changes changes' → IsToldUntil past 0 None changes' (suc at')
    tells (inl same) =
        subst (λ (cs : List Change). IsToldUntil past 0 None cs (suc at')) (sym same.0)
        (told_on past 0 None changes at' (suc at') before (omega arith)
        (λ v low under. (let at : v ≡ at' = omega arith in ap (λ (k : ℕ). slice_get past k) at ∙ here ∙ ap (λ (x : Value). Some x) (sym (last-is changes ∙ same.1)))))
    tells (inr more) =
        subst (λ (cs : List Change). IsToldUntil past 0 None cs (suc at')) (sym more.1)
        (told_change past 0 None changes more.0 at' before more.2 (here ∙ ap (λ (x : Value). Some x) (sym more.3)))

    lasts : AddsChange at' (told_if ends up' out') changes changes' → last_value None changes' ≡ told_if ends up' out'
    lasts (inl same) = ap (λ (cs : List Change). last_value None cs) same.0 ∙ (last-is changes ∙ same.1)
    lasts (inr more) = ap (λ (cs : List Change). last_value None cs) more.1 ∙ (last_added None changes more.0 ∙ more.3)

pub merge-ends : (ends : PeerEnds) (all_ups : List (Since Bool)) (all_outs : Outs) (up : Bool) (ups : List (Since Bool)) (out : Option OutAttrs) (outs : Outs) (changes : List Change) (past : List Value)
    → IsMerged ends all_ups all_outs past → IsMergedTo ends all_ups all_outs up ups out outs changes past → ups ≡ [] → outs ≡ [] → IsToldBy past 0 None changes
merge-ends ends all_ups all_outs up ups out outs changes past merged h no_ups no_outs =
    let inside = h.inside in
    told_whole past 0 None changes
    (told_on past 0 None changes (suc h.at) (length past) h.told (omega arith)
    (λ v low under.
    merged.1 v under ∙ ap (λ (u : Bool). Some (told_if ends u (held v None all_outs))) (h.ups_left.same v (omega arith) ∙ ap (λ (xs : List (Since Bool)). held v up xs) no_ups)
    ∙ ap (λ (o : Option OutAttrs). Some (told_if ends up o)) (h.outs_left.same v (omega arith) ∙ ap (λ (xs : Outs). held v out xs) no_outs)
    ∙ ap (λ (x : Value). Some x) (sym h.last)))

-- ---- the changes that are left get fewer

passed_due : {T : Type 0} (at : ℕ) (before now : T) (all left : List (Since T)) → IsFirstAt at all → IsPassed at before all now left → length all ≡ suc (length left)
passed_due at before now [] left first passed = absurd first
passed_due at before now (x ∷ all) left first (inl due) = ap (λ (xs : List (Since _)). length xs) due
passed_due at before now (x ∷ all) left first (inr undue) = absurd (undue.0 first)

passed_few : {T : Type 0} (at : ℕ) (before now : T) (all left : List (Since T)) → IsPassed at before all now left → length left ≤ length all
passed_few at before now all left (inl due) = let size = ap (λ (xs : List (Since _)). length xs) due in omega arith
passed_few at before now all left (inr undue) = let size = ap (λ (xs : List (Since _)). length xs) undue.2 in omega arith

pub merge-shrinks : (at : ℕ) (up up' : Bool) (ups ups' : List (Since Bool)) (out out' : Option OutAttrs) (outs outs' : Outs) → IsLeast ups outs (Some at) → IsPassed at up ups up' ups' → IsPassed at out outs out' outs' → length ups' + length outs' < length ups + length outs
merge-shrinks at up up' ups ups' out out' outs outs' least pass_ups pass_outs =
    let few_ups = passed_few at up up' ups ups' pass_ups in
    let few_outs = passed_few at out out' outs outs' pass_outs in
    elim least.2 [
      | inl of_ups ↦ let one = passed_due at up up' ups ups' of_ups pass_ups in omega arith
      | inr of_outs ↦ let one = passed_due at out out' outs outs' of_outs pass_outs in omega arith
    ]
