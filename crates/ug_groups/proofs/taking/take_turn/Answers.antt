use Rattle.std.proofs.Common.{arith}
use Rattle.ug_events.specs.Views.{event_of}
use Rattle.ug_groups.proofs.TurnKept.{kept-of}
use Rattle.ug_groups.proofs.TakeEntered.{entering-none}
use Rattle.ug_groups.proofs.TakeDone.{open-kept, turn-inside, turn-kept, turn-free, turn-session, turn-steps, turn-most, turn-state, turn-keeps}
use Rattle.ug_groups.proofs.taking.take_turn.Goals as goal

pub enter-requires-clause-kept : goal.enter-requires-clause-kept
enter-requires-clause-kept g c = kept-of c.args.world.now c.args.subgroups.now c.know_rows.ensures (open-kept c.args.world.now c.args.subgroups.now c.args.members.now c.requires.kept).tabled

pub returns-in_err-enter-clause-most : goal.returns-in_err-enter-clause-most
returns-in_err-enter-clause-most g c = λ closed made.
    let none = entering-none (event_of c.args.event.now) c.requires.named.0 c.args.world.now c.args.subgroups.now c.requires.named.1 in
    let most = c.enter.ensures.most in
    omega (arith, none, most)

pub turn-requires-clause-inside : goal.turn-requires-clause-inside
turn-requires-clause-inside g c =
    turn-inside (event_of c.args.event.now) c.requires.named.0 c.args.world.now c.args.peer c.args.subgroups.now c.args.members.now c.make_room.new.members c.requires.kept.1
    (open-kept c.args.world.now c.args.subgroups.now c.args.members.now c.requires.kept) c.requires.form c.requires.accepted c.requires.named.1 c.requires.named.2 c.in_ok-make_room.ensures
    c.enter.new.world c.enter.new.subgroups c.in_ok-enter.ensures.world c.in_ok-enter.ensures.rows

pub turn-requires-clause-kept : goal.turn-requires-clause-kept
turn-requires-clause-kept g c =
    turn-kept (event_of c.args.event.now) c.requires.named.0 c.args.world.now c.args.peer c.args.subgroups.now c.args.members.now c.make_room.new.members c.requires.kept.1
    (open-kept c.args.world.now c.args.subgroups.now c.args.members.now c.requires.kept) c.requires.form c.requires.accepted c.requires.named.1 c.requires.named.2 c.in_ok-make_room.ensures
    c.enter.new.world c.enter.new.subgroups c.in_ok-enter.ensures.world c.in_ok-enter.ensures.rows

pub turn-requires-clause-free : goal.turn-requires-clause-free
turn-requires-clause-free g c =
    turn-free (event_of c.args.event.now) c.requires.named.0 c.args.world.now c.args.peer c.args.subgroups.now c.args.members.now c.make_room.new.members c.requires.kept.1
    (open-kept c.args.world.now c.args.subgroups.now c.args.members.now c.requires.kept) c.requires.form c.requires.accepted c.requires.named.1 c.requires.named.2 c.in_ok-make_room.ensures
    c.enter.new.world c.enter.new.subgroups c.in_ok-enter.ensures.world c.in_ok-enter.ensures.rows

pub turn-requires-clause-session : goal.turn-requires-clause-session
turn-requires-clause-session g c =
    turn-session (event_of c.args.event.now) c.requires.named.0 c.args.world.now c.args.peer c.args.subgroups.now c.args.members.now c.make_room.new.members c.requires.kept.1
    (open-kept c.args.world.now c.args.subgroups.now c.args.members.now c.requires.kept) c.requires.form c.requires.accepted c.requires.named.1 c.requires.named.2 c.in_ok-make_room.ensures
    c.enter.new.world c.enter.new.subgroups c.in_ok-enter.ensures.world c.in_ok-enter.ensures.rows

pub returns-in_err-turn-clause-most : goal.returns-in_err-turn-clause-most
returns-in_err-turn-clause-most g c = λ closed made.
    let none = entering-none (event_of c.args.event.now) c.requires.named.0 c.args.world.now c.args.subgroups.now c.requires.named.1 in
    let entered = c.enter.ensures.most in
    let most = turn-most (event_of c.args.event.now) c.requires.named.0 c.args.world.now c.args.peer c.args.subgroups.now c.args.members.now c.make_room.new.members c.requires.kept.1
    (open-kept c.args.world.now c.args.subgroups.now c.args.members.now c.requires.kept) c.requires.form c.requires.accepted c.requires.named.1 c.requires.named.2 c.in_ok-make_room.ensures
    c.enter.new.world c.enter.new.subgroups c.in_ok-enter.ensures.world c.in_ok-enter.ensures.rows
    c.enter.new.steps c.turn.new.steps c.turn.ensures.most closed made in
    omega (arith, none, entered, most)

pub returns-in_err-count-clause-most : goal.returns-in_err-count-clause-most
returns-in_err-count-clause-most g c = λ closed made.
    let none = entering-none (event_of c.args.event.now) c.requires.named.0 c.args.world.now c.args.subgroups.now c.requires.named.1 in
    let entered = c.enter.ensures.most in
    let most = turn-most (event_of c.args.event.now) c.requires.named.0 c.args.world.now c.args.peer c.args.subgroups.now c.args.members.now c.make_room.new.members c.requires.kept.1
    (open-kept c.args.world.now c.args.subgroups.now c.args.members.now c.requires.kept) c.requires.form c.requires.accepted c.requires.named.1 c.requires.named.2 c.in_ok-make_room.ensures
    c.enter.new.world c.enter.new.subgroups c.in_ok-enter.ensures.world c.in_ok-enter.ensures.rows
    c.enter.new.steps c.turn.new.steps c.turn.ensures.most closed made in
    omega (arith, none, entered, most)

pub returns-clause-most : goal.returns-clause-most
returns-clause-most g c = λ closed made.
    let none = entering-none (event_of c.args.event.now) c.requires.named.0 c.args.world.now c.args.subgroups.now c.requires.named.1 in
    let entered = c.enter.ensures.most in
    let most = turn-most (event_of c.args.event.now) c.requires.named.0 c.args.world.now c.args.peer c.args.subgroups.now c.args.members.now c.make_room.new.members c.requires.kept.1
    (open-kept c.args.world.now c.args.subgroups.now c.args.members.now c.requires.kept) c.requires.form c.requires.accepted c.requires.named.1 c.requires.named.2 c.in_ok-make_room.ensures
    c.enter.new.world c.enter.new.subgroups c.in_ok-enter.ensures.world c.in_ok-enter.ensures.rows
    c.enter.new.steps c.turn.new.steps c.turn.ensures.most closed made in
    omega (arith, none, entered, most)

pub returns-clause-state : goal.returns-clause-state
returns-clause-state g c =
    turn-state (event_of c.args.event.now) c.requires.named.0 c.args.world.now c.args.peer c.args.subgroups.now c.args.members.now c.make_room.new.members c.requires.kept.1
    (open-kept c.args.world.now c.args.subgroups.now c.args.members.now c.requires.kept) c.requires.form c.requires.accepted c.requires.named.1 c.requires.named.2 c.in_ok-make_room.ensures
    c.enter.new.world c.enter.new.subgroups c.in_ok-enter.ensures.world c.in_ok-enter.ensures.rows
    c.turn.new.subgroups c.count.new.self c.turn.new.members c.in_ok-turn.ensures.turned c.know_rows-2.ensures c.in_ok-count.ensures

pub returns-clause-kept : goal.returns-clause-kept
returns-clause-kept g c =
    turn-keeps (event_of c.args.event.now) c.requires.named.0 c.args.world.now c.args.peer c.args.subgroups.now c.args.members.now c.make_room.new.members c.requires.kept.1
    (open-kept c.args.world.now c.args.subgroups.now c.args.members.now c.requires.kept) c.requires.form c.requires.accepted c.requires.named.1 c.requires.named.2 c.in_ok-make_room.ensures
    c.enter.new.world c.enter.new.subgroups c.in_ok-enter.ensures.world c.in_ok-enter.ensures.rows
    c.turn.new.subgroups c.count.new.self c.turn.new.members c.in_ok-turn.ensures.turned c.know_rows-2.ensures c.in_ok-count.ensures

pub returns-clause-steps : goal.returns-clause-steps
returns-clause-steps g c = λ closed made.
    let none = entering-none (event_of c.args.event.now) c.requires.named.0 c.args.world.now c.args.subgroups.now c.requires.named.1 in
    let entered = c.in_ok-enter.ensures.steps in
    let steps = turn-steps (event_of c.args.event.now) c.requires.named.0 c.args.world.now c.args.peer c.args.subgroups.now c.args.members.now c.make_room.new.members c.requires.kept.1
    (open-kept c.args.world.now c.args.subgroups.now c.args.members.now c.requires.kept) c.requires.form c.requires.accepted c.requires.named.1 c.requires.named.2 c.in_ok-make_room.ensures
    c.enter.new.world c.enter.new.subgroups c.in_ok-enter.ensures.world c.in_ok-enter.ensures.rows
    c.enter.new.steps c.turn.new.steps c.in_ok-turn.ensures.steps closed made in
    omega (arith, none, entered, steps)
