-- The rules are those of a machine.
use Rattle.std.proofs.Common.{◌≡◌, ℕ, ◌+◌, ◌<◌, ◌≤◌, suc, zero, Bool, true, false, List, [], ◌∷◌, length, take, slice_get, Option, Some, None, refl, sym, ◌∙◌, ap, arith, length-append}
use Rattle.std.specs.Prelude.{◌==◌, not, nat_lt, filter, if◌then◌else◌}
use Rattle.std.specs.Option.{option_map}
use Rattle.std.proofs.lemmas.Bool.Decides.{nat_tests}
use Rattle.std.proofs.lemmas.List.{length-take}
use Rattle.ug_board.specs.declared.steps.LaneStep.{LaneStep}
use Rattle.ug_board.specs.declared.steps.LaneStep.TheVariants.{Next, Lost}
use Rattle.ug_board.specs.declared.steps.LaneSaid.TheVariants.{Begun}
use Rattle.ug_board.specs.Rules.{buffer_size, says_more, counts, IsNext, IsMachine}
use Rattle.ug_world.specs.declared.peer_state.PeerState.{PeerState}
use Rattle.ug_speaker.specs.Places.{change_at}
use Rattle.ug_speaker.specs.Counts.{sessions_at, sessions_had, has}
use Rattle.ug_speaker.proofs.Places.{changed-here, changed-there, changed-keeps}
use Rattle.ug_group_rules.specs.Packets.{Packet}
use Rattle.ug_group_rules.specs.Machine.{Seat, Member, System, seat_at, seat_of, first_left, Upshot, Begins, Hands, Rests, upshot_of, with_session, with_handed, rest_behind, after_upshot, with_loss, after_loss, leave, has_unlost, has_members, without_subgroup, seated, with_seat}
use Rattle.ug_group_rules.specs.Rules.{text_for, at_rest, said_of, lane_reply, after_lane, rest_due, member_due, due, begun_of, group_rules}
use Rattle.ug_group_rules.proofs.Begun.{Alike, alike-then, jobs-alike, start-begun, loss-leave}

abbrev changed : Upshot → ℕ → System → System
changed u p s = record s { members = change_at (after_upshot u) p s.members }

rests_keep : (members : List Member) (p : ℕ) → change_at (after_upshot Rests) p members ≡ members
rests_keep [] p = refl
rests_keep (m ∷ members) zero = refl
rests_keep (m ∷ members) (suc p) = ap (λ (ms : List Member). m ∷ ms) (rests_keep members p)

rest_is : (closed : Bool) (p : ℕ) (s : System) → IsNext group_rules p s (at_rest closed) (changed Rests p s)
rest_is true p s = ap (λ (ms : List Member). record s { members = ms }) (rests_keep s.members p)
rest_is false p s = ap (λ (ms : List Member). record s { members = ms }) (rests_keep s.members p)

at_most : (text : List ℕ) → length (take buffer_size text) ≤ buffer_size
at_most text = omega (arith, length-take buffer_size text)

short : (o : Option PeerState) (packet : Option Packet) → length (text_for o packet) ≤ buffer_size
short (Some peer) (Some packet) = at_most _
short (Some peer) None = omega arith
short None packet = omega arith

module _ (p n : ℕ) (s : System) (m : Member) (is : slice_get s.members p ≡ Some m) where
  begun_here : (u : Upshot) → begun_of (slice_get (change_at (after_upshot u) p s.members) p) ≡ (after_upshot u m).begun
  begun_here u = ap begun_of (changed-here (after_upshot u) p s.members ∙ ap (option_map (after_upshot u)) is)

  same : begun_of (slice_get s.members p) ≡ m.begun
  same = ap begun_of is

  begins : (k : ℕ) → k ≡ m.begun + 1 → IsNext group_rules p s (Begun k) (changed (Begins k) p s)
  begins k number = record {
    number = number ∙ ap (λ j. j + 1) (sym same);
    rises = begun_here (Begins k) ∙ ap (λ j. j + 1) (sym same);
    others = λ other apart. ap begun_of (changed-there (after_upshot (Begins k)) p other s.members apart);
  }

  handed_is : (packet : Packet) → first_left m.seat ≡ Some packet → group_rules.handed p s ≡ text_for (slice_get s.world.peers p) (Some packet)
  handed_is packet first = ap (λ (o : Option Member). text_for (slice_get s.world.peers p) (first_left (seat_of o))) is ∙ ap (text_for (slice_get s.world.peers p)) first

  hands_alike : (k : ℕ) (packet : Packet) → Alike s (changed (Hands k packet) p s)
  hands_alike k packet q = changed-keeps begun_of (after_upshot (Hands k packet)) p q s.members (λ m. refl)

  hands : (packet : Packet) → first_left m.seat ≡ Some packet → 0 < m.begun → IsNext group_rules p s (said_of s.closed (slice_get s.world.peers p) (Hands m.begun packet)) (changed (Hands m.begun packet) p s)
  hands packet first some = record {
    some = some;
    last = sym same;
    size = ap length (sym (handed_is packet first));
    fits = short (slice_get s.world.peers p) (Some packet);
    alike = hands_alike m.begun packet;
  }

  by : (now may : Bool) (first : Option Packet) → nat_lt m.begun n ≡ now → nat_lt 0 m.begun ≡ may → first_left m.seat ≡ first
      → IsNext group_rules p s (said_of s.closed (slice_get s.world.peers p) (upshot_of n (Some m))) (changed (upshot_of n (Some m)) p s)
  by true may first is_now is_may is_first = rw is_now (begins (m.begun + 1) refl)
  by false may None is_now is_may is_first = rw (is_now, is_first) (rest_is s.closed p s)
  by false false (Some packet) is_now is_may is_first = rw (is_now, is_first, is_may) (rest_is s.closed p s)
  by false true (Some packet) is_now is_may is_first =
      let some : 0 < m.begun = grind (arith, nat_tests) in
      rw (is_now, is_first, is_may) (hands packet is_first some)

next_by : (p n : ℕ) (s : System) (o : Option Member) → slice_get s.members p ≡ o
    → IsNext group_rules p s (said_of s.closed (slice_get s.world.peers p) (upshot_of n o)) (changed (upshot_of n o) p s)
next_by p n s None is = rest_is s.closed p s
next_by p n s (Some m) is = by p n s m is (nat_lt m.begun n) (nat_lt 0 m.begun) (first_left m.seat) refl refl refl

pub next : (p : ℕ) (s : System) → IsNext group_rules p s (lane_reply (Next p) s) (after_lane (Next p) s)
next p s = next_by p (sessions_at p s.world) s (slice_get s.members p) refl

-- ---- losses

noted_alike : (p n : ℕ) (s : System) → Alike s (record s { members = change_at (with_loss n) p s.members })
noted_alike p n s q = changed-keeps begun_of (with_loss n) p q s.members (λ m. refl)

pub loss_alike : (p n : ℕ) (s : System) → Alike s (after_loss p n s)
loss_alike p n s = by (n == sessions_at p s.world)
  where
    noted : System
    noted = record s { members = change_at (with_loss n) p s.members }

    by : (b : Bool) → Alike s (if b then leave p (seat_at p noted) noted else noted)
    by true = alike-then s noted (leave p (seat_at p noted) noted) (noted_alike p n s) (loss-leave p noted)
    by false = noted_alike p n s

-- ---- what is due

due_changed :
    (change : Member → Member) (p : ℕ) (peers : List PeerState) (members : List Member) (m : Member) → slice_get members p ≡ Some m
    → member_due (sessions_had (slice_get peers p)) (change m) < member_due (sessions_had (slice_get peers p)) m
    → due peers (change_at change p members) < due peers members
due_changed change p peers [] m is falls = absurd cc
due_changed change zero [] (u ∷ members) m is falls =
    let same : u ≡ m = cc in
    let less : member_due 0 (change u) < member_due 0 u = rw same falls in omega arith
due_changed change zero (s ∷ peers) (u ∷ members) m is falls =
    let same : u ≡ m = cc in
    let less : member_due s.sessions (change u) < member_due s.sessions u = rw same falls in omega arith
due_changed change (suc p) [] (u ∷ members) m is falls = let rest = due_changed change p [] members m is falls in omega arith
due_changed change (suc p) (s ∷ peers) (u ∷ members) m is falls = let rest = due_changed change p peers members m is falls in omega arith

due_no_more : (change : Member → Member) (p : ℕ) (peers : List PeerState) (members : List Member) → ((n : ℕ) (m : Member) → member_due n (change m) ≤ member_due n m)
    → due peers (change_at change p members) ≤ due peers members
due_no_more change p peers [] few = omega arith
due_no_more change zero [] (u ∷ members) few = let here = few 0 u in omega arith
due_no_more change zero (s ∷ peers) (u ∷ members) few = let here = few s.sessions u in omega arith
due_no_more change (suc p) [] (u ∷ members) few = let rest = due_no_more change p [] members few in omega arith
due_no_more change (suc p) (s ∷ peers) (u ∷ members) few = let rest = due_no_more change p peers members few in omega arith

begun_due : (n : ℕ) (m : Member) → nat_lt m.begun n ≡ true → member_due n (with_session m) < member_due n m
begun_due n m may =
    let below : m.begun < n = grind (arith, nat_tests) in
    let one = length-append m.unlost ((m.begun + 1) ∷ []) in omega arith

rest_falls : (o : Option Seat) (packet : Packet) → first_left o ≡ Some packet → rest_due (option_map (λ (t : Seat). record t { rest = rest_behind t.rest }) o) < rest_due o
rest_falls None packet is = absurd cc
rest_falls (Some t) packet is = by t.rest is
  where
    by : (rest : List Packet) → slice_get rest 0 ≡ Some packet → length (rest_behind rest) < length rest
    by [] is = absurd cc
    by (x ∷ rest) is = omega arith

handed_due : (n : ℕ) (m : Member) (packet : Packet) → first_left m.seat ≡ Some packet → member_due n (with_handed m) < member_due n m
handed_due n m packet is = let falls = rest_falls m.seat packet is in omega arith

-- the numbers but this one
abbrev others_than : ℕ → List ℕ → List ℕ
others_than n numbers = filter (λ (k : ℕ). not (k == n)) numbers

few_by : (b : Bool) (m : ℕ) (less numbers : List ℕ) → length less ≤ length numbers → length (if not b then m ∷ less else less) ≤ length (m ∷ numbers)
few_by true m less numbers few = omega arith
few_by false m less numbers few = omega arith

fewer : (n : ℕ) (numbers : List ℕ) → length (others_than n numbers) ≤ length numbers
fewer n [] = omega arith
fewer n (m ∷ numbers) = few_by (m == n) m (others_than n numbers) numbers (fewer n numbers)

one_fewer_by :
    (b : Bool) (m n : ℕ) (numbers : List ℕ) → (m == n) ≡ b → length (others_than n numbers) ≤ length numbers
    → (has numbers n ≡ true → length (others_than n numbers) < length numbers) → has (m ∷ numbers) n ≡ true → length (others_than n (m ∷ numbers)) < length (m ∷ numbers)
one_fewer_by true m n numbers e few less some = rw e (omega arith)
one_fewer_by false m n numbers e few less some =
    let more : has numbers n ≡ true = rw e at some in
    let fall = less more in rw e (omega arith)

one_fewer : (n : ℕ) (numbers : List ℕ) → has numbers n ≡ true → length (others_than n numbers) < length numbers
one_fewer n [] some = absurd cc
one_fewer n (m ∷ numbers) some = one_fewer_by (m == n) m n numbers refl (fewer n numbers) (one_fewer n numbers) some

lost_due : (sessions n : ℕ) (m : Member) → has m.unlost n ≡ true → member_due sessions (with_loss n m) < member_due sessions m
lost_due sessions n m some = let less = one_fewer n m.unlost some in omega arith

unseated_due : (n : ℕ) (m : Member) → member_due n (record m { seat = None }) ≤ member_due n m
unseated_due n m = omega arith

leave_due : (p : ℕ) (o : Option Seat) (s : System) → due (leave p o s).world.peers (leave p o s).members ≤ due s.world.peers s.members
leave_due p None s = omega arith
leave_due p (Some t) s = by (has_members t.sub gone.members)
  where
    gone : System
    gone = seated p None s

    by : (b : Bool) → due (if b then gone else without_subgroup t.sub gone).world.peers (if b then gone else without_subgroup t.sub gone).members ≤ due s.world.peers s.members
    by true = due_no_more (with_seat None) p s.world.peers s.members unseated_due
    by false = due_no_more (with_seat None) p s.world.peers s.members unseated_due

pub rest_says : (closed : Bool) → says_more (at_rest closed) ≡ false
rest_says true = refl
rest_says false = refl

next_due :
    (n : ℕ) (closed : Bool) (peer : Option PeerState) (m : Member) (now may : Bool) (first : Option Packet) → nat_lt m.begun n ≡ now → nat_lt 0 m.begun ≡ may → first_left m.seat ≡ first
    → says_more (said_of closed peer (upshot_of n (Some m))) ≡ true → member_due n (after_upshot (upshot_of n (Some m)) m) < member_due n m
next_due n closed peer m true may first is_now is_may is_first more = rw is_now (begun_due n m is_now)
next_due n closed peer m false may None is_now is_may is_first more =
    let none = rest_says closed in
    let some : says_more (at_rest closed) ≡ true = rw (is_now, is_first) at more in absurd cc
next_due n closed peer m false false (Some packet) is_now is_may is_first more =
    let none = rest_says closed in
    let some : says_more (at_rest closed) ≡ true = rw (is_now, is_first, is_may) at more in absurd cc
next_due n closed peer m false true (Some packet) is_now is_may is_first more = rw (is_now, is_first, is_may) (handed_due n m packet is_first)

due_falls : (step : LaneStep) (s : System) → counts group_rules step s ≡ true → group_rules.due (after_lane step s) < group_rules.due s
due_falls (Next p) s more = by_member (slice_get s.members p) refl more
  where
    n : ℕ
    n = sessions_at p s.world

    by_member : (o : Option Member) → slice_get s.members p ≡ o → says_more (said_of s.closed (slice_get s.world.peers p) (upshot_of n o)) ≡ true
        → due s.world.peers (change_at (after_upshot (upshot_of n o)) p s.members) < due s.world.peers s.members
    by_member None is some = let none = rest_says s.closed in absurd cc
    by_member (Some m) is some =
        due_changed (after_upshot (upshot_of n (Some m))) p s.world.peers s.members m is
        (next_due n s.closed (slice_get s.world.peers p) m (nat_lt m.begun n) (nat_lt 0 m.begun) (first_left m.seat) refl refl refl some)
due_falls (Lost p n) s may = by_member (slice_get s.members p) refl may
  where
    noted : System
    noted = record s { members = change_at (with_loss n) p s.members }

    less_then : due noted.world.peers noted.members < due s.world.peers s.members → (b : Bool)
        → due (if b then leave p (seat_at p noted) noted else noted).world.peers (if b then leave p (seat_at p noted) noted else noted).members < due s.world.peers s.members
    less_then less true = let few = leave_due p (seat_at p noted) noted in omega arith
    less_then less false = less

    by_member : (o : Option Member) → slice_get s.members p ≡ o → has_unlost n o ≡ true → due (after_loss p n s).world.peers (after_loss p n s).members < due s.world.peers s.members
    by_member None is some = absurd cc
    by_member (Some m) is some = less_then (due_changed (with_loss n) p s.world.peers s.members m is (lost_due (sessions_had (slice_get s.world.peers p)) n m some)) (n == sessions_at p s.world)

pub group_lawful : IsMachine group_rules
group_lawful = record {
  none_begun = start-begun;
  jobs_begin_none = λ job s legal. jobs-alike job s;
  next = next;
  noted = λ peer session s may. refl;
  losses_begin_none = λ peer session s may. loss_alike peer session s;
  due_falls = due_falls;
}
