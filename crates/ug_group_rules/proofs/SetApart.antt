-- A peer that is set apart.
use Rattle.std.proofs.Common.{◌≡◌, ℕ, inl, inr, Bool, true, false, [], ◌∷◌, length, slice_get, Option, Some, refl, sym, ◌∙◌, ap, subst, arith}
use Rattle.std.specs.Option.{option_map}
use Rattle.ug_speaker.proofs.Places.{changed-here, changed-there}
use Rattle.ug_group_rules.specs.Machine.{Subgroup, Seat, Member, System, has_company, seat_of, with_seat, seated, unstuck, there, subgroup_at, with_new, split_by, split, apart}
use Rattle.ug_group_rules.proofs.Parting.{get-front, get-end, get-new}
use Rattle.ug_group_rules.proofs.Company.{alone, before-end, IsApart}

module _ (q : ℕ) (state : System) (m : Member) (t : Seat) (x : Subgroup) (is : slice_get state.members q ≡ Some m) (at : m.seat ≡ Some t) (here : slice_get state.subgroups t.sub ≡ Some (Some x)) where
  alone_apart : has_company t.sub state.members ≡ false → IsApart q state state t x m
  alone_apart none = record {
    seat = t;
    rest = refl;
    member = is ∙ ap (λ (o : Option Seat). Some (record m { seat = o })) at;
    count = x.stuck;
    there = here;
    world = refl;
    members = λ p apart. refl;
    kept = λ k y e. e;
    from = λ k y e. (y, y.stuck, k, e, refl);
    others = λ p n u y apart member sits there same. alone t.sub state.members p q n m u t none apart member is sits at refl same;
  }

  abbrev moved_seat : Seat
  moved_seat = record t { sub = length state.subgroups }

  abbrev copied : System
  copied = with_new (option_map unstuck (subgroup_at t.sub state)) (seated q (Some moved_seat) state)

  copy_is : option_map unstuck (subgroup_at t.sub state) ≡ Some (unstuck x)
  copy_is = ap (λ (o : Option (Option Subgroup)). option_map unstuck (there o)) here

  copy_there : slice_get copied.subgroups (length state.subgroups) ≡ Some (Some (unstuck x))
  copy_there = get-end state.subgroups (option_map unstuck (subgroup_at t.sub state)) ∙ ap Some copy_is

  copied_apart : IsApart q state copied t x m
  copied_apart = record {
    seat = moved_seat;
    rest = refl;
    member = changed-here (with_seat (Some moved_seat)) q state.members ∙ ap (option_map (with_seat (Some moved_seat))) is;
    count = 0;
    there = copy_there;
    world = refl;
    members = λ p apart. changed-there (with_seat (Some moved_seat)) q p state.members apart;
    kept = λ k y e. get-front state.subgroups (option_map unstuck (subgroup_at t.sub state) ∷ []) k (Some y) e;
    from = λ k y e. elim (get-new state.subgroups (option_map unstuck (subgroup_at t.sub state)) (Some y) k e) [
      | inl old ↦ (y, y.stuck, k, old, refl)
      | inr new ↦ (x, 0, t.sub, here, (let both : Some (unstuck x) ≡ Some y = sym copy_is ∙ new in cc))
    ];
    others = λ p n u y apart member sits there same. let less = before-end state.subgroups u.sub (Some y) there in absurd (omega arith);
  }

  split_apart : (b : Bool) → has_company t.sub state.members ≡ b → IsApart q state (split_by b q t state) t x m
  split_apart true e = copied_apart
  split_apart false e = alone_apart e

  pub set-apart : IsApart q state (apart q state) t x m
  set-apart = subst (λ (o : Option Seat). IsApart q state (split q o state) t x m) (sym (ap seat_of is ∙ at)) (split_apart (has_company t.sub state.members) refl)
