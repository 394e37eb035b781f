-- What is due where one member changes, and where each member of a subgroup is given a packet.
use Rattle.std.proofs.Common.{◌≡◌, ℕ, ◌+◌, zero, suc, Bool, true, false, List, [], ◌∷◌, ◌++◌, length, map, slice_get, Option, Some, None, refl, sym, ◌∙◌, ap, arith, length-append}
use Rattle.std.specs.Prelude.{◌==◌, count_by, if◌then◌else◌}
use Rattle.std.specs.Option.{option_map}
use Rattle.ug_world.specs.declared.peer_state.PeerState.{PeerState}
use Rattle.ug_speaker.specs.Places.{change_at}
use Rattle.ug_speaker.specs.Counts.{sessions_had}
use Rattle.ug_group_rules.specs.Packets.{Packet}
use Rattle.ug_group_rules.specs.Machine.{Seat, Member, sits, given, reseated}
use Rattle.ug_group_rules.specs.Rules.{rest_due, member_due, due}
use Rattle.ug_group_rules.proofs.Company.{one_if, count-cons}

pub due-changed : (f : Member → Member) (p : ℕ) (peers : List PeerState) (members : List Member) (m : Member) → slice_get members p ≡ Some m
    → due peers (change_at f p members) + member_due (sessions_had (slice_get peers p)) m ≡ due peers members + member_due (sessions_had (slice_get peers p)) (f m)
due-changed f p peers [] m is = absurd cc
due-changed f zero [] (x ∷ members) m is = let one : x ≡ m = cc in rw (sym one) (omega arith)
due-changed f zero (s ∷ peers) (x ∷ members) m is = let one : x ≡ m = cc in rw (sym one) (omega arith)
due-changed f (suc p) [] (x ∷ members) m is = let rest = due-changed f p [] members m is in omega (arith, rest)
due-changed f (suc p) (s ∷ peers) (x ∷ members) m is = let rest = due-changed f p peers members m is in omega (arith, rest)

-- one more for each member of the subgroup
seat_given : (g : ℕ) (packet : Packet) (seat : Option Seat) → rest_due (option_map (given g packet) seat) ≡ rest_due seat + (if sits g (record { begun = 0; unlost = []; handed = 0; seat = seat }) then 1 else 0)
seat_given g packet None = omega arith
seat_given g packet (Some t) = by (t.sub == g)
  where
    by : (b : Bool) → length (if b then record t { rest = t.rest ++ packet ∷ [] } else t).rest ≡ length t.rest + (if b then 1 else 0)
    by true = length-append t.rest (packet ∷ [])
    by false = omega arith

one_given : (g n : ℕ) (packet : Packet) (m : Member) → member_due n (reseated (given g packet) m) ≡ member_due n m + (if sits g m then 1 else 0)
one_given g n packet m = let seat = seat_given g packet m.seat in omega (arith, seat)

counted : (g : ℕ) (m : Member) (members : List Member) → count_by (sits g) (m ∷ members) ≡ (if sits g m then 1 else 0) + count_by (sits g) members
counted g m members = count-cons (sits g) m members ∙ ap (λ (n : ℕ). n + count_by (sits g) members) (by (sits g m))
  where
    by : (b : Bool) → one_if b ≡ (if b then 1 else 0)
    by true = refl
    by false = refl

pub due-given : (g : ℕ) (packet : Packet) (peers : List PeerState) (members : List Member) → due peers (map (reseated (given g packet)) members) ≡ due peers members + count_by (sits g) members
due-given g packet peers [] = refl
due-given g packet [] (m ∷ members) =
    let here = one_given g 0 packet m in let rest = due-given g packet [] members in let count = counted g m members in omega (arith, here, rest, count)
due-given g packet (s ∷ peers) (m ∷ members) =
    let here = one_given g s.sessions packet m in let rest = due-given g packet peers members in let count = counted g m members in omega (arith, here, rest, count)
