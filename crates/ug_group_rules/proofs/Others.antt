-- What a change at one peer leaves of the others.
use Rattle.std.proofs.Common.{◌≡◌, ℕ, zero, suc, inl, inr, Bool, true, false, List, [], ◌∷◌, slice_get, Option, Some, None, refl, ◌∙◌, ap}
use Rattle.std.specs.Prelude.{◌||◌, if◌then◌else◌}
use Rattle.std.specs.Option.{option_map}
use Rattle.std.proofs.lemmas.Bool.{cases_eq, eq-eqb}
use Rattle.ug_types.specs.Messages.{Message}
use Rattle.ug_board.specs.Deeds.{Deed}
use Rattle.ug_outbound.specs.declared.key.GroupKey.{GroupKey}
use Rattle.ug_world.specs.declared.peer_state.PeerState.{PeerState}
use Rattle.ug_world.specs.World.{World}
use Rattle.ug_speaker.specs.Places.{change_at}
use Rattle.ug_speaker.proofs.Places.{changed-here, changed-there}
use Rattle.ug_group_rules.specs.Machine.{Subgroup, Seat, Member, System, sits, sits_in, has_members, with_seat, seated, without_subgroup, leave}
use Rattle.ug_group_rules.proofs.Seated.{IsPlaced}

-- who sits in a subgroup is found there
pub has-member : (g : ℕ) (members : List Member) (p : ℕ) (m : Member) (t : Seat) → slice_get members p ≡ Some m → m.seat ≡ Some t → t.sub ≡ g → has_members g members ≡ true
has-member g [] p m t is at sub = absurd cc
has-member g (x ∷ members) zero m t is at sub =
    let same : x ≡ m = cc in
    let here : sits g x ≡ true = ap (sits g) same ∙ ap (sits_in g) at ∙ eq-eqb t.sub g sub in rw here refl
has-member g (x ∷ members) (suc p) m t is at sub = by (sits g x) (has-member g members p m t is at sub)
  where
    by : (b : Bool) → has_members g members ≡ true → (b || has_members g members) ≡ true
    by true e = refl
    by false e = e

-- the world stays, and so do the other members
pub leave-world : (q : ℕ) (o : Option Seat) (state : System) → (leave q o state).world ≡ state.world
leave-world q None state = refl
leave-world q (Some u) state = by (has_members u.sub (seated q None state).members)
  where
    by : (b : Bool) → (if b then seated q None state else without_subgroup u.sub (seated q None state)).world ≡ state.world
    by true = refl
    by false = refl

pub leave-members : (q p : ℕ) → (p ≡ q → ⊥) → (o : Option Seat) (state : System) → slice_get (leave q o state).members p ≡ slice_get state.members p
leave-members q p apart None state = refl
leave-members q p apart (Some u) state = by (has_members u.sub (seated q None state).members)
  where
    by : (b : Bool) → slice_get (if b then seated q None state else without_subgroup u.sub (seated q None state)).members p ≡ slice_get state.members p
    by true = changed-there (with_seat None) q p state.members apart
    by false = changed-there (with_seat None) q p state.members apart

module _ (q p : ℕ) (apart : p ≡ q → ⊥) (state : System) (m : Member) (is : slice_get state.members p ≡ Some m) where
  pub leave-there : (o : Option Seat) (t : Seat) → m.seat ≡ Some t → slice_get (leave q o state).subgroups t.sub ≡ slice_get state.subgroups t.sub
  leave-there None t at = refl
  leave-there (Some u) t at = by (has_members u.sub (seated q None state).members) refl
    where
      still : slice_get (seated q None state).members p ≡ Some m
      still = changed-there (with_seat None) q p state.members apart ∙ is

      by : (b : Bool) → has_members u.sub (seated q None state).members ≡ b → slice_get (if b then seated q None state else without_subgroup u.sub (seated q None state)).subgroups t.sub ≡ slice_get state.subgroups t.sub
      by true e = refl
      by false e =
          elim (cases_eq t.sub u.sub) [
            | inl same ↦ let some = has-member u.sub (seated q None state).members p m t still at same in absurd cc
            | inr other ↦ changed-there (λ (x : Option Subgroup). None) u.sub t.sub state.subgroups other
          ]

-- a subgroup that is still there was there
pub leave-kept : (q : ℕ) (o : Option Seat) (state : System) (g : ℕ) (x : Subgroup) → slice_get (leave q o state).subgroups g ≡ Some (Some x) → slice_get state.subgroups g ≡ Some (Some x)
leave-kept q None state g x is = is
leave-kept q (Some u) state g x is = by (has_members u.sub (seated q None state).members) is
  where
    gone : (g h : ℕ) (xs : List (Option Subgroup)) → slice_get (change_at (λ (y : Option Subgroup). None) g xs) h ≡ Some (Some x) → slice_get xs h ≡ Some (Some x)
    gone g h [] e = e
    gone zero zero (y ∷ xs) e = absurd cc
    gone zero (suc h) (y ∷ xs) e = e
    gone (suc g) zero (y ∷ xs) e = e
    gone (suc g) (suc h) (y ∷ xs) e = gone g h xs e

    by : (b : Bool) → slice_get (if b then seated q None state else without_subgroup u.sub (seated q None state)).subgroups g ≡ Some (Some x) → slice_get state.subgroups g ≡ Some (Some x)
    by true e = e
    by false e = gone u.sub g state.subgroups e

-- who leaves sits nowhere
pub leave-here : (q : ℕ) (o : Option Seat) (state : System) (m : Member) → slice_get state.members q ≡ Some m → m.seat ≡ o → slice_get (leave q o state).members q ≡ Some (with_seat None m)
leave-here q None state m is at = is ∙ ap (λ (o : Option Seat). Some (record m { seat = o })) at
leave-here q (Some u) state m is at = by (has_members u.sub (seated q None state).members)
  where
    here : slice_get (seated q None state).members q ≡ Some (with_seat None m)
    here = changed-here (with_seat None) q state.members ∙ ap (option_map (with_seat None)) is

    by : (b : Bool) → slice_get (if b then seated q None state else without_subgroup u.sub (seated q None state)).members q ≡ Some (with_seat None m)
    by true = here
    by false = here

-- with the same subgroup at its seat a peer is placed as it was
pub placed-elsewhere : (p : ℕ) (worlds : List World) (deeds : List (Deed Message)) (s : PeerState) (m : Member) (xs ys : List (Option Subgroup)) (key : GroupKey)
    → ((t : Seat) → m.seat ≡ Some t → slice_get ys t.sub ≡ slice_get xs t.sub) → IsPlaced p worlds deeds s m xs key → IsPlaced p worlds deeds s m ys key
placed-elsewhere p worlds deeds s m xs ys key same placed = record {
  counted = placed.counted;
  told = placed.told;
  sat = λ t at. let sat = placed.sat t at in record {
    live = sat.live;
    subgroup = sat.subgroup;
    there = same t at ∙ sat.there;
    key_is = sat.key_is;
    stream = sat.stream;
    tellable = sat.tellable;
    fitting = sat.fitting;
    untold = sat.untold;
  };
  empty = placed.empty;
}
