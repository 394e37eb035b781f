-- What is due at each peer, one after another.
use Rattle.std.proofs.Common.{◌≡◌, ℕ, zero, suc, ◌+◌, ◌*◌, ◌-◌, ◌<◌, ◌≤◌, Bool, true, false, List, [], ◌∷◌, length, map, drop, slice_get, Option, Some, None, refl, sym, ap, ◌∙◌, arith}
use Rattle.ug_queue.specs.Queues.{rest_of, place_of, from_place}
use Rattle.std.specs.Prelude.{◌&&◌, ◌==◌, not, nat_lt, nat_le}
use Rattle.std.specs.Option.{option_map}
use Rattle.std.proofs.lemmas.Bool.Decides.{nat_tests}
use Rattle.ug_types.specs.Bytes.{is_empty}
use Rattle.ug_world.specs.declared.peer_state.PeerState.{PeerState}
use Rattle.ug_world.specs.World.{World}
use Rattle.ug_world.specs.Kept.{ArePeers, peer_name}
use Rattle.ug_world.specs.Names.{are_distinct}
use Rattle.ug_speaker.specs.Counts.{sessions_had}
use Rattle.ug_group_rules.specs.Packets.{Packet}
use Rattle.ug_group_rules.specs.Machine as machine
use Rattle.ug_group_rules.specs.Machine.{Seat, is_seat_quiet, is_member_quiet, are_quiet}
use Rattle.ug_group_rules.specs.Rules.{rest_due, member_due, due}
use Rattle.ug_groups.specs.Rows.{Row, Rows, row_at, any_at, some_row, has_packets}
use Rattle.ug_groups.specs.declared.member.Member.{Member}
use Rattle.ug_groups.specs.Members.{rest_in, seat_in, member_of, members_from, sub_at}
use Rattle.ug_groups.specs.Kept.{AreRows}
use Rattle.ug_groups.specs.Steps.{WereKept}
use Rattle.ug_groups.proofs.Seats.{second-of, sits-sub}
use Rattle.ug_groups.proofs.Queued.{apart-test}
use Rattle.ug_groups.proofs.MemberViews.{sub-is}
use Rattle.ug_groups.proofs.RowTests.{rest-most}
use Rattle.ug_groups.proofs.WorkDue.{some_row_is}

-- the member at a place, and those behind it
drop-at : {T : Type 0} (xs : List T) (p : ℕ) (x : T) → slice_get xs p ≡ Some x → drop p xs ≡ x ∷ drop (p + 1) xs
drop-at [] p x is = absurd cc
drop-at {T} (y ∷ xs) zero x is = let same : y ≡ x = cc in ap (λ (z : T). z ∷ xs) same
drop-at (y ∷ xs) (suc p) x is = let e : suc p + 1 ≡ suc (p + 1) = omega arith in rw e (drop-at xs p x is)

sessions-drop : (peers : List PeerState) (p n : ℕ) (m : machine.Member) (ms : List machine.Member) → sessions_had (slice_get peers p) ≡ n → due (drop p peers) (m ∷ ms) ≡ member_due n m + due (drop (p + 1) peers) ms
sessions-drop [] zero n m ms e = ap (λ (k : ℕ). member_due k m + due [] ms) e
sessions-drop [] (suc p) n m ms e = let f : suc p + 1 ≡ suc (p + 1) = omega arith in rw f (ap (λ (k : ℕ). member_due k m + due [] ms) e)
sessions-drop (s ∷ peers) zero n m ms e = ap (λ (k : ℕ). member_due k m + due peers ms) e
sessions-drop (s ∷ peers) (suc p) n m ms e = let f : suc p + 1 ≡ suc (p + 1) = omega arith in rw f (sessions-drop peers p n m ms e)

quiet-drop : (peers : List PeerState) (p n : ℕ) (m : machine.Member) (ms : List machine.Member) → sessions_had (slice_get peers p) ≡ n → are_quiet (drop p peers) (m ∷ ms) ≡ (is_member_quiet n m && are_quiet (drop (p + 1) peers) ms)
quiet-drop [] zero n m ms e = ap (λ (k : ℕ). is_member_quiet k m && are_quiet [] ms) e
quiet-drop [] (suc p) n m ms e = let f : suc p + 1 ≡ suc (p + 1) = omega arith in rw f (ap (λ (k : ℕ). is_member_quiet k m && are_quiet [] ms) e)
quiet-drop (s ∷ peers) zero n m ms e = ap (λ (k : ℕ). is_member_quiet k m && are_quiet peers ms) e
quiet-drop (s ∷ peers) (suc p) n m ms e = let f : suc p + 1 ≡ suc (p + 1) = omega arith in rw f (quiet-drop peers p n m ms e)

empty-length : (l : List Packet) → is_empty l ≡ (length l == 0)
empty-length [] = refl
empty-length (x ∷ l) = sym (apart-test (suc (length l)) 0 (λ e. absurd (omega (arith, e))))

seat-empty : (o : Option Seat) → is_seat_quiet o ≡ (rest_due o == 0)
seat-empty None = refl
seat-empty (Some t) = empty-length t.rest

none-behind : {T : Type 0} (xs : List T) (p : ℕ) → length xs ≤ p → drop p xs ≡ []
none-behind [] zero past = refl
none-behind [] (suc p) past = refl
none-behind (x ∷ xs) zero past = absurd (omega arith)
none-behind (x ∷ xs) (suc p) past = none-behind xs p (omega arith)

module _ (peers : List PeerState) (rows : Rows) (members : List Member) (p : ℕ) (m : Member) (n left : ℕ) (at : slice_get members p ≡ Some m) (had : sessions_had (slice_get peers p) ≡ n) (left_is : left ≡ rest_due (option_map (seat_in rows p) (sub_at p members))) where
  left_here : left ≡ rest_due (member_of rows p m).seat
  left_here = left_is ∙ ap (λ (o : Option ℕ). rest_due (option_map (seat_in rows p) o)) (sub-is p members m at)

  pub due-step : (here : ℕ) → here ≡ 2 * (n - m.begun) + left + length m.unlost.items
      → due (drop p peers) (members_from rows p (drop p members)) ≡ here + due (drop (p + 1) peers) (members_from rows (p + 1) (drop (p + 1) members))
  due-step here is =
      ap (λ (l : List Member). due (drop p peers) (members_from rows p l)) (drop-at members p m at)
      ∙ sessions-drop peers p n (member_of rows p m) (members_from rows (p + 1) (drop (p + 1) members)) had
      ∙ ap (λ (k : ℕ). k + due (drop (p + 1) peers) (members_from rows (p + 1) (drop (p + 1) members))) (sym (is ∙ ap (λ (k : ℕ). 2 * (n - m.begun) + k + length m.unlost.items) left_here))

  pub quiet-step : (b : Bool) → b ≡ (not (nat_lt m.begun n) && (left == 0))
      → are_quiet (drop p peers) (members_from rows p (drop p members)) ≡ (b && are_quiet (drop (p + 1) peers) (members_from rows (p + 1) (drop (p + 1) members)))
  quiet-step b is =
      ap (λ (l : List Member). are_quiet (drop p peers) (members_from rows p l)) (drop-at members p m at)
      ∙ quiet-drop peers p n (member_of rows p m) (members_from rows (p + 1) (drop (p + 1) members)) had
      ∙ ap (λ (k : Bool). k && are_quiet (drop (p + 1) peers) (members_from rows (p + 1) (drop (p + 1) members)))
      (ap (λ (k : Bool). not (nat_lt m.begun n) && k) (seat-empty (member_of rows p m).seat ∙ ap (λ (k : ℕ). k == 0) (sym left_here)) ∙ sym is)

pub due-end : (peers : List PeerState) (rows : Rows) (members : List Member) (p : ℕ) → length members ≤ p → due (drop p peers) (members_from rows p (drop p members)) ≡ 0
due-end peers rows members p past = ap (λ (l : List Member). due (drop p peers) (members_from rows p l)) (none-behind members p past) ∙ none (drop p peers)
  where
    none : (l : List PeerState) → due l [] ≡ 0
    none l = refl

pub quiet-end : (peers : List PeerState) (rows : Rows) (members : List Member) (p : ℕ) → length members ≤ p → are_quiet (drop p peers) (members_from rows p (drop p members)) ≡ true
quiet-end peers rows members p past = ap (λ (l : List Member). are_quiet (drop p peers) (members_from rows p l)) (none-behind members p past) ∙ none (drop p peers)
  where
    none : (l : List PeerState) → are_quiet l [] ≡ true
    none l = refl

-- ---- bounds

pub few-peers : (w : World) → ArePeers w.peers → length w.peers ≤ 64
few-peers w e = by (second-of (are_distinct (map peer_name w.peers)) (nat_le (length w.peers) 64) e)
  where
    by : nat_le (length w.peers) 64 ≡ true → length w.peers ≤ 64
    by e = grind (arith, nat_tests)

-- as few packets as a queue holds
pub left-few : (w : World) (rows : Rows) (members : List Member) (p limit : ℕ) → WereKept w rows members → AreRows rows → limit ≡ w.local.queue_limit → rest_due (option_map (seat_in rows p) (sub_at p members)) ≤ limit
left-few w rows members p limit kept each is = by (sub_at p members) refl
  where
    le : (a b : ℕ) → nat_le a b ≡ true → a ≤ b
    le a b e = grind (arith, nat_tests)

    by : (o : Option ℕ) → sub_at p members ≡ o → rest_due (option_map (seat_in rows p) o) ≤ limit
    by None e = omega arith
    by (Some g) e =
        let row = sits-sub rows members p g e kept.2.seated in
        let most = rest-most row.0.queue p in
        let bound = le (length row.0.queue.packets) row.0.queue.limit (each g row.0 row.1).bounded in
        let same = (kept.2.tabled g row.0 row.1).limit in
        let here : length (rest_in p (row_at g rows)) ≡ length (rest_of row.0.queue p) = ap (λ (o : Option Row). length (rest_in p o)) row.1 in
        omega (arith, most, bound, same, here, is)

-- where no queue holds a packet, nobody has one to take
pub nothing-left : (rows : Rows) (p : ℕ) (o : Option ℕ) → some_row has_packets rows ≡ false → 0 ≡ rest_due (option_map (seat_in rows p) o)
nothing-left rows p None none = refl
nothing-left rows p (Some g) none = by (row_at g rows) refl
  where
    no_packet : (packets : List Packet) (place : Option ℕ) → length packets ≡ 0 → 0 ≡ length (from_place packets place)
    no_packet packets None e = refl
    no_packet [] (Some place) e = sym (ap (λ (l : List Packet). length l) (none-behind [] place (omega arith)))
    no_packet (x ∷ packets) (Some place) e = absurd (omega (arith, e))

    empty : (r : Row) → row_at g rows ≡ Some r → (b : Bool) → has_packets r ≡ b → length r.queue.packets ≡ 0
    empty r at true e = let no : true ≡ false = sym (some_row_is has_packets rows g (ap (any_at has_packets) at ∙ e)) ∙ none in absurd cc
    empty r at false e = grind (arith, nat_tests)

    by : (o : Option Row) → row_at g rows ≡ o → 0 ≡ length (rest_in p (row_at g rows))
    by None at = ap (λ (o : Option Row). length (rest_in p o)) (sym at)
    by (Some r) at = no_packet r.queue.packets (place_of r.queue p) (empty r at (has_packets r) refl) ∙ ap (λ (o : Option Row). length (rest_in p o)) (sym at)

pub is-inside : (w : World) (rows : Rows) (members : List Member) (p : ℕ) → WereKept w rows members → p < length members → p < length w.peers
is-inside w rows members p kept less = let le = kept.2.within in omega arith
