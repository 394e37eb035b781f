-- The subgroup of a peer that sits alone changes, and nobody else is touched.
use Rattle.std.proofs.Common.{◌≡◌, ℕ, List, slice_get, Option, Some, sym, ◌∙◌, ap, subst}
use Rattle.std.specs.Option.{option_map}
use Rattle.ug_world.specs.World.{World}
use Rattle.ug_speaker.proofs.Places.{changed-here, changed-there}
use Rattle.ug_group_rules.specs.Packets.{Packet}
use Rattle.ug_group_rules.specs.Machine.{Subgroup, Seat, Member, System, seat_of, seat_at, with_seat, with_subgroup, with_own}
use Rattle.ug_group_rules.proofs.MemberStreams.{IsKept}
use Rattle.ug_group_rules.proofs.Parting.{kept-count}
use Rattle.ug_group_rules.proofs.Company.{IsApart}

-- the peer sits alone in this subgroup, with this rest
pub record IsOwn (w : World) (q : ℕ) (old new : System) (rest : List Packet) (y : Subgroup) (m : Member) : Type 0 where
  pub seat : Seat
  pub rest_is : seat.rest ≡ rest
  pub member : slice_get new.members q ≡ Some (with_seat (Some seat) m)
  pub there : slice_get new.subgroups seat.sub ≡ Some (Some y)
  pub world : new.world ≡ old.world
  pub members : (p : ℕ) → (p ≡ q → ⊥) → slice_get new.members p ≡ slice_get old.members p
  pub others : (p : ℕ) (n : Member) (u : Seat) (z : Subgroup) → (p ≡ q → ⊥) → slice_get old.members p ≡ Some n → n.seat ≡ Some u → slice_get old.subgroups u.sub ≡ Some (Some z)
      → (slice_get new.subgroups u.sub ≡ Some (Some z)) × (u.sub ≡ seat.sub → ⊥)
  pub kept : (k : ℕ) (z : Subgroup) → slice_get new.subgroups k ≡ Some (Some z) → (k ≡ seat.sub → ⊥) → IsKept w z

-- who is set apart sits alone
pub own-apart : (w : World) (q : ℕ) (old new : System) (t : Seat) (x : Subgroup) (m : Member) → ((k : ℕ) (z : Subgroup) → slice_get old.subgroups k ≡ Some (Some z) → IsKept w z)
    → (a : IsApart q old new t x m) → IsOwn w q old new t.rest (record x { stuck = a.count }) m
own-apart w q old new t x m kept a = record {
  seat = a.seat;
  rest_is = a.rest;
  member = a.member;
  there = a.there;
  world = a.world;
  members = a.members;
  others = λ p n u z apart member sits there. (a.kept u.sub z there, a.others p n u z apart member sits there);
  kept = λ k z is other. let found = a.from k z is in subst (λ (y : Subgroup). IsKept w y) found.4 (kept-count w found.0 found.1 (kept found.2 found.0 found.3));
}

module _ (w : World) (q : ℕ) (old new : System) (rest : List Packet) (y : Subgroup) (m : Member) (own : IsOwn w q old new rest y m) (change : Subgroup → Subgroup) where
  abbrev next : System
  next = with_subgroup own.seat.sub change new

  at_next : (k : ℕ) (z : Subgroup) → slice_get next.subgroups k ≡ Some (Some z) → (k ≡ own.seat.sub → ⊥) → slice_get new.subgroups k ≡ Some (Some z)
  at_next k z is other = sym (changed-there (option_map change) own.seat.sub k new.subgroups other) ∙ is

  own_next : IsOwn w q old next rest (change y) m
  own_next = record {
    seat = own.seat;
    rest_is = own.rest_is;
    member = own.member;
    there = changed-here (option_map change) own.seat.sub new.subgroups ∙ ap (option_map (option_map change)) own.there;
    world = own.world;
    members = own.members;
    others = λ p n u z apart member sits there. let found = own.others p n u z apart member sits there in (changed-there (option_map change) own.seat.sub u.sub new.subgroups found.1 ∙ found.0, found.1);
    kept = λ k z is other. own.kept k z (at_next k z is other) other;
  }

  pub own-changed : IsOwn w q old (with_own change (seat_at q new) new) rest (change y) m
  own-changed = subst (λ (o : Option Seat). IsOwn w q old (with_own change o new) rest (change y) m) (sym (ap seat_of own.member)) own_next
