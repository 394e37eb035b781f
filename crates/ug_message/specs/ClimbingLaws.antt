-- Laws of climbing.
use Rattle.std.specs.Prelude.{◌≡◌, ◌≢◌, ℕ, ◌+◌, ◌-◌, ◌<◌, ◌≤◌, List, [], ◌∷◌, ◌++◌, length, drop, slice_get, Option, Some}
use Rattle.std.proofs.Common.{inl, inr, zero, suc, zero-le, suc-le-suc, refl, sym, subst}
use Rattle.std.proofs.Math.Nat.{zero-add, suc-add, not-suc-le-zero, le_of_suc-le-suc, add-sub_of_le}
use Rattle.std.proofs.lemmas.Bool.{cases_order}
use Rattle.std.proofs.lemmas.List.{drop-drop, map-append}
use Rattle.ug_types.specs.Attributes.{Attributes}
use Rattle.ug_message.specs.Tables.{Table}
use Rattle.ug_message.specs.Climbing.{Climbs, IsLeastPlace, ClimbsFrom, ClimbsTo, NeverBack, Follows, values_at}
use Rattle.ug_message.specs.Decisions.{Decided, decided_option, decided_attributes}

get-append : {V : Type 0} (past more : List V) (n : ℕ) (v : V) → slice_get past n ≡ Some v → slice_get (past ++ more) n ≡ Some v
get-append [] more n v e = absurd cc
get-append (x ∷ past) more zero v e = e
get-append (x ∷ past) more (suc n) v e = get-append past more n v e

drop-append : {V : Type 0} (past more : List V) (n : ℕ) (v : V) → slice_get past n ≡ Some v → drop n (past ++ more) ≡ drop n past ++ more
drop-append [] more n v e = absurd cc
drop-append (x ∷ past) more zero v e = refl
drop-append (x ∷ past) more (suc n) v e = drop-append past more n v e

get-last : {V : Type 0} (past : List V) (v : V) → slice_get (past ++ v ∷ []) (length past) ≡ Some v
get-last [] v = refl
get-last (x ∷ past) v = get-last past v

-- what stands in the longer past before a place of the past stands there in the past too
get-before : {V : Type 0} (past more : List V) (place n : ℕ) (v w : V) → slice_get past place ≡ Some v → n < place → slice_get (past ++ more) n ≡ Some w → slice_get past n ≡ Some w
get-before [] more place n v w there before e = absurd cc
get-before (x ∷ past) more place zero v w there before e = e
get-before (x ∷ past) more zero (suc n) v w there before e = absurd (not-suc-le-zero before)
get-before (x ∷ past) more (suc place) (suc n) v w there before e = get-before past more place n v w there (le_of_suc-le-suc before) e

get-drop : {V : Type 0} (past : List V) (m n : ℕ) → slice_get (drop m past) n ≡ slice_get past (m + n)
get-drop past zero n = subst (λ k. slice_get past n ≡ slice_get past k) (sym (zero-add n)) refl
get-drop [] (suc m) n = refl
get-drop (x ∷ past) (suc m) n = subst (λ k. slice_get (drop m past) n ≡ slice_get (x ∷ past) k) (sym (suc-add m n)) (get-drop past m n)

-- a climb over a past is a climb over a longer one
pub Climbs-longer : {V : Type 0} (vs past more : List V) → Climbs past vs → Climbs (past ++ more) vs
Climbs-longer [] past more h = tt
Climbs-longer {V} (v ∷ vs) past more h =
    (h.0, get-append past more h.0 v h.1, subst (λ (p : List V). Climbs p vs) (sym (drop-append past more h.0 v h.1)) (Climbs-longer vs (drop h.0 past) more h.2))

-- and goes on by the newest value
pub Climbs-push : {V : Type 0} (vs past : List V) (v : V) → Climbs past vs → Climbs (past ++ v ∷ []) (vs ++ v ∷ [])
Climbs-push [] past v h = (length past, get-last past v, tt)
Climbs-push {V} (w ∷ vs) past v h =
    (h.0, get-append past (v ∷ []) h.0 w h.1, subst (λ (p : List V). Climbs p (vs ++ v ∷ [])) (sym (drop-append past (v ∷ []) h.0 w h.1)) (Climbs-push vs (drop h.0 past) v h.2))

-- A climb that may begin later may begin here.
pub Climbs-earlier : {V : Type 0} (vs past : List V) (n : ℕ) → Climbs (drop n past) vs → Climbs past vs
Climbs-earlier [] past n h = tt
Climbs-earlier {V} (v ∷ vs) past n h =
    (n + h.0, subst (λ (o : Option V). o ≡ Some v) (get-drop past n h.0) h.1, subst (λ (p : List V). Climbs p vs) (drop-drop h.0 n past) h.2)

-- a least place, where the value is known to stand `n` places on
record Found {V : Type 0} (past : List V) (from n : ℕ) (v : V) : Type 0 where
  place : ℕ
  is_least : IsLeastPlace past from v place
  before : place ≤ from + n

least-further : {V : Type 0} (x : V) (past : List V) (from place : ℕ) (v : V) → IsLeastPlace past from v place → (n : ℕ) → suc from ≤ n → n < suc place → slice_get (x ∷ past) n ≢ Some v
least-further x past from place v found zero low less e = absurd (not-suc-le-zero low)
least-further x past from place v found (suc n) low less e = found.least n (le_of_suc-le-suc low) (le_of_suc-le-suc less) e

found-further : {V : Type 0} (x : V) (past : List V) (from n : ℕ) (v : V) → Found past from n v → Found (x ∷ past) (suc from) n v
found-further x past from n v found = record {
  place = suc found.place;
  is_least = record {
    not_before = suc-le-suc found.is_least.not_before;
    stands = found.is_least.stands;
    least = least-further x past from found.place v found.is_least;
  };
  before = subst (λ k. suc found.place ≤ k) (sym (suc-add from n)) (suc-le-suc found.before);
}

found-here : {V : Type 0} (past : List V) (n : ℕ) (v : V) → Found (v ∷ past) 0 n v
found-here past n v = record { place = 0; is_least = record { not_before = zero-le; stands = refl; least = λ m _ less _. not-suc-le-zero less }; before = zero-le }

least-next : {V : Type 0} (x : V) (past : List V) (place : ℕ) (v : V) → x ≢ v → IsLeastPlace past 0 v place → (n : ℕ) → 0 ≤ n → n < suc place → slice_get (x ∷ past) n ≢ Some v
least-next x past place v other found zero low less e = other cc
least-next x past place v other found (suc n) low less e = found.least n zero-le (le_of_suc-le-suc less) e

found-next : {V : Type 0} (x : V) (past : List V) (n : ℕ) (v : V) → x ≢ v → ((m : ℕ) → slice_get past m ≡ Some v → Found past 0 m v) → slice_get (x ∷ past) n ≡ Some v → Found (x ∷ past) 0 n v
found-next x past zero v other found e = absurd (other cc)
found-next x past (suc n) v other found e =
    let f = found n e
    in record {
      place = suc f.place;
      is_least = record { not_before = zero-le; stands = f.is_least.stands; least = least-next x past f.place v other f.is_least };
      before = subst (λ k. suc f.place ≤ k) (sym (zero-add (suc n))) (suc-le-suc (subst (λ k. f.place ≤ k) (zero-add n) f.before));
    }

-- A value that stands at some place from here on has a least such place, and that one is no later.
find : {V : Type 0} → Decided V → (past : List V) (from n : ℕ) (v : V) → slice_get (drop from past) n ≡ Some v → Found past from n v
find decided [] zero n v e = absurd cc
find decided [] (suc from) n v e = absurd cc
find decided (x ∷ past) (suc from) n v e = found-further x past from n v (find decided past from n v e)
find {V} decided (x ∷ past) zero n v e =
    elim (decided x v) [
      | inl same ↦ subst (λ (w : V). Found (w ∷ past) 0 n v) (sym same) (found-here past n v)
      | inr other ↦ found-next x past n v other (λ m. find decided past zero m v) e
    ]

-- what can still be climbed from a place can be climbed from an earlier one
from-earlier : {V : Type 0} (vs past : List V) (place later : ℕ) → place ≤ later → Climbs (drop later past) vs → Climbs (drop place past) vs
from-earlier {V} vs past place later low h =
    Climbs-earlier vs (drop place past) (later - place)
    (subst (λ (p : List V). Climbs p vs) (sym (drop-drop (later - place) place past)) (subst (λ k. Climbs (drop k past) vs) (sym (add-sub_of_le low)) h))

-- A climb to some places is a climb to the least places, where values can be told apart,
pub ClimbsFrom-climbs : {V : Type 0} → Decided V → (vs past : List V) (from : ℕ) → Climbs (drop from past) vs → ClimbsFrom past from vs
ClimbsFrom-climbs decided [] past from h = tt
ClimbsFrom-climbs {V} decided (v ∷ vs) past from h =
    let found = find decided past from h.0 v h.1
    in (found.place, found.is_least, ClimbsFrom-climbs decided vs past found.place (from-earlier vs past found.place (from + h.0) found.before (subst (λ (p : List V). Climbs p vs) (drop-drop h.0 from past) h.2)))

-- and the other way round.
pub Climbs-climbs_from : {V : Type 0} (vs past : List V) (from : ℕ) → ClimbsFrom past from vs → Climbs (drop from past) vs
Climbs-climbs_from [] past from h = tt
Climbs-climbs_from {V} (v ∷ vs) past from h =
    let whole : from + (h.0 - from) ≡ h.0 = add-sub_of_le h.1.not_before
    in (
      h.0 - from,
      subst (λ (o : Option V). o ≡ Some v) (sym (get-drop past from (h.0 - from))) (subst (λ k. slice_get past k ≡ Some v) (sym whole) h.1.stands),
      subst (λ (p : List V). Climbs p vs) (sym (drop-drop (h.0 - from) from past)) (subst (λ k. Climbs (drop k past) vs) (sym whole) (Climbs-climbs_from vs past h.0 h.2)),
    )

-- Tables that follow a past never go back in it,
pub NeverBack-from : (past tables : List Table) → Follows past tables → NeverBack past tables
NeverBack-from past tables h key = ClimbsFrom-climbs (decided_option decided_attributes) (values_at key tables) (values_at key past) 0 (h key)

-- and the other way round.
pub Follows-from : (past tables : List Table) → NeverBack past tables → Follows past tables
Follows-from past tables h key = Climbs-climbs_from (values_at key tables) (values_at key past) 0 (h key)

-- a least place in a past is the least place in a longer one
pub IsLeastPlace-longer : {V : Type 0} (past more : List V) (from : ℕ) (v : V) (place : ℕ) → IsLeastPlace past from v place → IsLeastPlace (past ++ more) from v place
IsLeastPlace-longer past more from v place h = record {
  not_before = h.not_before;
  stands = get-append past more place v h.stands;
  least = λ n low less e. h.least n low less (get-before past more place n v v h.stands less e);
}

pub ClimbsFrom-longer : {V : Type 0} (vs past more : List V) (from : ℕ) → ClimbsFrom past from vs → ClimbsFrom (past ++ more) from vs
ClimbsFrom-longer [] past more from h = tt
ClimbsFrom-longer (v ∷ vs) past more from h = (h.0, IsLeastPlace-longer past more from v h.0 h.1, ClimbsFrom-longer vs past more h.0 h.2)

-- Tables that never go back in a past never go back in a longer one.
pub NeverBack-longer : (past more tables : List Table) → NeverBack past tables → NeverBack (past ++ more) tables
NeverBack-longer past more tables h key =
    subst (λ (p : List (Option Attributes)). ClimbsFrom p 0 (values_at key tables)) (sym (map-append (λ (table : Table). table key) past more))
    (ClimbsFrom-longer (values_at key tables) (values_at key past) (values_at key more) 0 (h key))

-- A climb over a past is a climb over a longer one, to the same places.
pub ClimbsTo-longer : {V : Type 0} (vs past more : List V) (from : ℕ) (places : List ℕ) → ClimbsTo past from places vs → ClimbsTo (past ++ more) from places vs
ClimbsTo-longer [] past more from [] h = tt
ClimbsTo-longer [] past more from (place ∷ places) h = absurd h
ClimbsTo-longer (v ∷ vs) past more from [] h = absurd h
ClimbsTo-longer (v ∷ vs) past more from (place ∷ places) h = (IsLeastPlace-longer past more from v place h.0, ClimbsTo-longer vs past more place places h.1)

-- Values that climb the same past to the same places are the same.
pub same_places : {V : Type 0} (vs ws past : List V) (from : ℕ) (places : List ℕ) → ClimbsTo past from places vs → ClimbsTo past from places ws → vs ≡ ws
same_places [] [] past from places h k = refl
same_places [] (w ∷ ws) past from [] h k = absurd k
same_places [] (w ∷ ws) past from (place ∷ places) h k = absurd h
same_places (v ∷ vs) [] past from [] h k = absurd h
same_places (v ∷ vs) [] past from (place ∷ places) h k = absurd k
same_places (v ∷ vs) (w ∷ ws) past from [] h k = absurd h
same_places (v ∷ vs) (w ∷ ws) past from (place ∷ places) h k =
    let first = h.0.stands
    in let second = k.0.stands in let rest = same_places vs ws past place places h.1 k.1 in cc

one_least : {V : Type 0} (past : List V) (from : ℕ) (v : V) (one other : ℕ) → IsLeastPlace past from v one → IsLeastPlace past from v other → one ≡ other
one_least past from v one other h k =
    elim (cases_order one other) [
      | inl same ↦ same
      | inr ordered ↦ elim ordered [ inl less ↦ absurd (k.least one h.not_before less h.stands) | inr more ↦ absurd (h.least other k.not_before more k.stands) ]
    ]

-- The places of a climb are determined by its values.
pub same_values : {V : Type 0} (vs past : List V) (from : ℕ) (ones others : List ℕ) → ClimbsTo past from ones vs → ClimbsTo past from others vs → ones ≡ others
same_values [] past from [] [] h k = refl
same_values [] past from (p ∷ ones) others h k = absurd h
same_values [] past from [] (q ∷ others) h k = absurd k
same_values (v ∷ vs) past from [] others h k = absurd h
same_values (v ∷ vs) past from (p ∷ ones) [] h k = absurd k
same_values {V} (v ∷ vs) past from (p ∷ ones) (q ∷ others) h k =
    let first = one_least past from v p q h.0 k.0
    in let rest = same_values vs past q ones others (subst (λ place. ClimbsTo past place ones vs) first h.1) k.1 in cc

-- A climb is a climb to some places, told one by one,
pub ClimbsTo-climbs : {V : Type 0} (vs past : List V) (from : ℕ) → ClimbsFrom past from vs → (places : List ℕ) × ClimbsTo past from places vs
ClimbsTo-climbs [] past from h = ([], tt)
ClimbsTo-climbs (v ∷ vs) past from h =
    let rest = ClimbsTo-climbs vs past h.0 h.2
    in (h.0 ∷ rest.0, (h.1, rest.1))

-- and the other way round.
pub ClimbsFrom-places : {V : Type 0} (vs past : List V) (from : ℕ) (places : List ℕ) → ClimbsTo past from places vs → ClimbsFrom past from vs
ClimbsFrom-places [] past from places h = tt
ClimbsFrom-places (v ∷ vs) past from [] h = absurd h
ClimbsFrom-places (v ∷ vs) past from (place ∷ places) h = (place, h.0, ClimbsFrom-places vs past place places h.1)
