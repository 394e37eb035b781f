use Rattle.std.proofs.Common.{◌≡◌, ℕ, ◌+◌, ◌<◌, List, Some, slice_get, sym, ap, subst, length, arith, slice_index_or, slice_set}
use Rattle.ug_groups.specs.Rows.{Rows, with_row}
use Rattle.ug_groups.specs.declared.member.Member.{Member}
use Rattle.ug_groups.proofs.ListFacts.{get_none, get-inside, get-alike, set-inside}
use Rattle.ug_groups.proofs.Stepping.{had, peer-is, rests-none, rests-unbegun, rests-unseated, rests-taken, begins-by, taken, handed-room, hands-by}
use Rattle.ug_board.specs.declared.steps.LaneSaid.TheVariants.{Begun, Hand}
use Rattle.ug_groups.specs.Kept.{HasRoom}
use Rattle.ug_groups.specs.Members.{system}
use Rattle.ug_groups.specs.Steps.{IsStepped}
use Rattle.ug_groups.proofs.Seats.{sits-there, own-address, own-ends}
use Rattle.ug_groups.proofs.lanes.next.Goals as goal

pub returns-then-place-members : goal.returns-then-place-members
returns-then-place-members c =
    rests-none c.args.world.now c.args.closed c.args.made c.args.peer c.args.subgroups.now c.args.members.now c.at_rest.result c.args.buf.now c.requires.kept
    (get_none c.args.members.now c.args.peer (omega arith)) c.at_rest.ensures

pub begin-requires-clause-room : goal.begin-requires-clause-room
begin-requires-clause-room c =
    let inside : c.args.peer < length c.args.members.now = omega arith in
    let m = slice_index_or c.args.members.now c.args.peer c.index-members-place-then-begun-sessions.result in
    subst (λ (n : ℕ). HasRoom n m) (had (slice_get c.args.world.now.peers c.args.peer) c.session-sessions.result c.session-sessions.ensures)
    (c.requires.kept.room c.args.peer m (get-inside c.args.members.now c.args.peer c.index-members-place-then-begun-sessions.result inside))

pub returns-then-begun-sessions : goal.returns-then-begun-sessions
returns-then-begun-sessions c =
    let inside : c.args.peer < length c.args.members.now = omega arith in
    let d = c.index-members-place-then-begun-sessions.result in
    let m = slice_index_or c.args.members.now c.args.peer d in
    let alike : slice_index_or c.args.members.now c.args.peer c.index-members-place.result ≡ m = get-alike c.args.members.now c.args.peer c.index-members-place.result d inside in
    let less : m.begun < c.session-sessions.result = subst (λ (x : Member). x.begun < c.session-sessions.result) alike c.if-begun-sessions.true in
    let e = c.begin.ensures in
    subst (λ (l : List Member). IsStepped c.args.world.now c.args.closed c.args.made c.args.peer (system c.args.world.now c.args.closed c.args.made c.args.subgroups.now c.args.members.now) (Begun c.begin.new.member.begun) c.args.subgroups.now l c.args.buf.now)
    (sym (set-inside c.args.members.now c.args.peer c.begin.new.member inside))
    (begins-by c.args.world.now c.args.closed c.args.made c.args.peer c.args.subgroups.now c.args.members.now m (get-inside c.args.members.now c.args.peer d inside) c.args.buf.now c.session-sessions.result c.begin.new.member
    c.requires.kept (had (slice_get c.args.world.now.peers c.args.peer) c.session-sessions.result c.session-sessions.ensures) less e.begun e.unlost e.handed e.sub e.room)

pub returns-then-begun-eq0 : goal.returns-then-begun-eq0
returns-then-begun-eq0 c =
    let inside : c.args.peer < length c.args.members.now = omega arith in
    let d = c.index-members-place.result in
    rests-unbegun c.args.world.now c.args.closed c.args.made c.args.peer c.args.subgroups.now c.args.members.now (slice_index_or c.args.members.now c.args.peer d) (get-inside c.args.members.now c.args.peer d inside)
    c.at_rest-then-begun-eq0.result c.args.buf.now c.session-sessions.result c.requires.kept (had (slice_get c.args.world.now.peers c.args.peer) c.session-sessions.result c.session-sessions.ensures)
    (omega arith) (omega arith) c.at_rest-then-begun-eq0.ensures

pub returns-in_default : goal.returns-in_default
returns-in_default c =
    let inside : c.args.peer < length c.args.members.now = omega arith in
    let d = c.index-members-place.result in
    rests-unseated c.args.world.now c.args.closed c.args.made c.args.peer c.args.subgroups.now c.args.members.now (slice_index_or c.args.members.now c.args.peer d) (get-inside c.args.members.now c.args.peer d inside)
    c.at_rest-in_default.result c.args.buf.now c.session-sessions.result c.requires.kept (had (slice_get c.args.world.now.peers c.args.peer) c.session-sessions.result c.session-sessions.ensures)
    (omega arith) (cc (c.in_default.is)) c.at_rest-in_default.ensures

pub take-requires-clause-member : goal.take-requires-clause-member
take-requires-clause-member c =
    let inside : c.args.peer < length c.args.members.now = omega arith in
    let d = c.index-members-place.result in
    sits-there c.args.subgroups.now c.args.members.now c.args.peer c.in-Some.sub (slice_index_or c.args.members.now c.args.peer d) (get-inside c.args.members.now c.args.peer d inside) (cc (c.in-Some.is)) c.requires.kept.seated

pub take-requires-clause-own : goal.take-requires-clause-own
take-requires-clause-own c =
    let inside : c.args.peer < length c.args.members.now = omega arith in
    let d = c.index-members-place.result in
    own-address c.args.world.now c.args.closed c.args.made c.args.peer c.args.subgroups.now c.args.members.now c.requires.kept c.in-Some.sub (slice_index_or c.args.members.now c.args.peer d)
    (get-inside c.args.members.now c.args.peer d inside) (cc (c.in-Some.is)) c.peer.result.now c.peer.ensures c.ends-ends.result c.ends-ends.ensures

pub returns-in_default-take : goal.returns-in_default-take
returns-in_default-take c =
    let inside : c.args.peer < length c.args.members.now = omega arith in
    let d = c.index-members-place.result in
    let m = slice_index_or c.args.members.now c.args.peer d in
    let at = get-inside c.args.members.now c.args.peer d inside in
    let sits : m.sub ≡ Some c.in-Some.sub = cc (c.in-Some.is) in
    let row = sits-there c.args.subgroups.now c.args.members.now c.args.peer c.in-Some.sub m at sits c.requires.kept.seated in
    subst (λ (l : Rows). IsStepped c.args.world.now c.args.closed c.args.made c.args.peer (system c.args.world.now c.args.closed c.args.made c.args.subgroups.now c.args.members.now) c.at_rest-in_default-take.result l c.args.members.now c.take.new.buf)
    (sym c.in_default-take.ensures.same)
    (rests-taken c.args.world.now c.args.closed c.args.made c.args.peer c.args.subgroups.now c.args.members.now m at c.at_rest-in_default-take.result c.take.new.buf c.session-sessions.result c.in-Some.sub row.0
    c.requires.kept (had (slice_get c.args.world.now.peers c.args.peer) c.session-sessions.result c.session-sessions.ensures) (omega arith) sits row.1 (c.in_default-take.ensures.none row.0 row.1) c.at_rest-in_default-take.ensures)

pub overflow_add-member : goal.overflow_add-member
overflow_add-member c =
    let inside : c.args.peer < length c.args.members.now = omega arith in
    let d = c.index-members-place.result in
    let m = slice_index_or c.args.members.now c.args.peer d in
    let at = get-inside c.args.members.now c.args.peer d inside in
    let sits : m.sub ≡ Some c.in-Some.sub = cc (c.in-Some.is) in
    let row = sits-there c.args.subgroups.now c.args.members.now c.args.peer c.in-Some.sub m at sits c.requires.kept.seated in
    let peer = peer-is (slice_get c.args.world.now.peers c.args.peer) c.session-sessions.result c.session-sessions.ensures in
    let ends = own-ends c.args.world.now c.args.peer c.peer.result.now c.peer.ensures c.ends-ends.result c.ends-ends.ensures peer.0 peer.1 in
    let room = handed-room c.args.world.now c.args.closed c.args.made c.args.peer c.args.subgroups.now c.args.members.now c.requires.kept m at c.in-Some.sub row.0 sits row.1 peer.0 peer.1 c.in-Some-take.handed c.take.new.buf c.ends-ends.result ends (c.in-Some-take.ensures.some row.0 row.1) in
    let alike : slice_index_or c.args.members.now c.args.peer c.index-members-place-2.result ≡ m = get-alike c.args.members.now c.args.peer c.index-members-place-2.result d inside in
    let same : (slice_index_or c.args.members.now c.args.peer c.index-members-place-2.result).handed ≡ m.handed = ap (λ (x : Member). x.handed) alike in
    let most = c.ranges.made.fits in
    omega (arith, room, same, most)

pub returns : goal.returns
returns c =
    let inside : c.args.peer < length c.args.members.now = omega arith in
    let d = c.index-members-place.result in
    let m = slice_index_or c.args.members.now c.args.peer d in
    let at = get-inside c.args.members.now c.args.peer d inside in
    let sits : m.sub ≡ Some c.in-Some.sub = cc (c.in-Some.is) in
    let row = sits-there c.args.subgroups.now c.args.members.now c.args.peer c.in-Some.sub m at sits c.requires.kept.seated in
    let peer = peer-is (slice_get c.args.world.now.peers c.args.peer) c.session-sessions.result c.session-sessions.ensures in
    let ends = own-ends c.args.world.now c.args.peer c.peer.result.now c.peer.ensures c.ends-ends.result c.ends-ends.ensures peer.0 peer.1 in
    let alike = get-alike c.args.members.now c.args.peer c.index-members-place-2.result d inside in
    let member : Member = record m { handed = m.handed + 1 } in
    let old = system c.args.world.now c.args.closed c.args.made c.args.subgroups.now c.args.members.now in
    let one = hands-by c.args.world.now c.args.closed c.args.made c.args.peer c.args.subgroups.now c.args.members.now c.requires.kept m at c.in-Some.sub row.0 sits row.1 peer.0 peer.1 c.in-Some-take.handed c.take.new.buf c.ends-ends.result ends (c.in-Some-take.ensures.some row.0 row.1)
    c.session-sessions.result (had (slice_get c.args.world.now.peers c.args.peer) c.session-sessions.result c.session-sessions.ensures) (omega arith) (let no = c.if-begun-eq0.false in omega (arith, no)) in
    let two = subst (λ (l : List Member). IsStepped c.args.world.now c.args.closed c.args.made c.args.peer old (Hand m.begun c.in-Some-take.handed.made c.in-Some-take.handed.len) (with_row c.in-Some.sub (taken c.args.peer) c.args.subgroups.now) l c.take.new.buf) (sym (set-inside c.args.members.now c.args.peer member inside)) one in
    let three = subst (λ (l : Rows). IsStepped c.args.world.now c.args.closed c.args.made c.args.peer old (Hand m.begun c.in-Some-take.handed.made c.in-Some-take.handed.len) l (slice_set c.args.members.now c.args.peer member) c.take.new.buf) (sym c.in-Some-take.ensures.rows) two in
    subst (λ (x : Member). IsStepped c.args.world.now c.args.closed c.args.made c.args.peer old (Hand m.begun c.in-Some-take.handed.made c.in-Some-take.handed.len) c.take.new.self (slice_set c.args.members.now c.args.peer (record x { handed = x.handed + 1 })) c.take.new.buf) (sym alike) three
