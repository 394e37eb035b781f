use Rattle.std.proofs.Common.{arith}
use Rattle.ug_events.specs.Views.{event_of}
use Rattle.ug_groups.proofs.TurnKept.{kept-of}
use Rattle.ug_groups.proofs.TakeDone.{open-kept, routes-state, routes-kept, routes-steps}
use Rattle.ug_groups.proofs.taking.take_routes.Goals as goal

pub enter-requires-clause-kept : goal.enter-requires-clause-kept
enter-requires-clause-kept g c = kept-of c.args.world.now c.args.subgroups.now c.know_rows.ensures (open-kept c.args.world.now c.args.subgroups.now c.args.members.now c.requires.kept).tabled

pub returns-in_err-enter-clause-most : goal.returns-in_err-enter-clause-most
returns-in_err-enter-clause-most g c = λ closed made.
    let kept = open-kept c.args.world.now c.args.subgroups.now c.args.members.now c.requires.kept in
    let same = routes-steps (event_of c.args.event.now) c.args.world.now c.args.subgroups.now c.args.members.now c.requires.kept.1 kept c.requires.routes c.requires.form closed made in
    let most = c.enter.ensures.most in
    omega (arith, same, most)

pub returns-in_err-count-clause-most : goal.returns-in_err-count-clause-most
returns-in_err-count-clause-most g c = λ closed made.
    let kept = open-kept c.args.world.now c.args.subgroups.now c.args.members.now c.requires.kept in
    let same = routes-steps (event_of c.args.event.now) c.args.world.now c.args.subgroups.now c.args.members.now c.requires.kept.1 kept c.requires.routes c.requires.form closed made in
    let most = c.enter.ensures.most in
    omega (arith, same, most)

pub returns-clause-state : goal.returns-clause-state
returns-clause-state g c =
    routes-state (event_of c.args.event.now) c.args.world.now c.args.subgroups.now c.args.members.now c.requires.kept.1 (open-kept c.args.world.now c.args.subgroups.now c.args.members.now c.requires.kept) c.requires.routes c.requires.form
    c.enter.new.world c.enter.new.subgroups c.count.new.self c.in_ok-enter.ensures.world c.in_ok-enter.ensures.rows c.know_rows-2.ensures c.in_ok-count.ensures

pub returns-clause-kept : goal.returns-clause-kept
returns-clause-kept g c =
    routes-kept (event_of c.args.event.now) c.args.world.now c.args.subgroups.now c.args.members.now c.requires.kept.1 (open-kept c.args.world.now c.args.subgroups.now c.args.members.now c.requires.kept) c.requires.routes c.requires.form
    c.enter.new.world c.enter.new.subgroups c.count.new.self c.in_ok-enter.ensures.world c.in_ok-enter.ensures.rows c.know_rows-2.ensures c.in_ok-count.ensures

pub returns-clause-steps : goal.returns-clause-steps
returns-clause-steps g c = λ closed made.
    let kept = open-kept c.args.world.now c.args.subgroups.now c.args.members.now c.requires.kept in
    let same = routes-steps (event_of c.args.event.now) c.args.world.now c.args.subgroups.now c.args.members.now c.requires.kept.1 kept c.requires.routes c.requires.form closed made in
    let steps = c.in_ok-enter.ensures.steps in
    omega (arith, same, steps)

pub returns-clause-most : goal.returns-clause-most
returns-clause-most g c = λ closed made.
    let kept = open-kept c.args.world.now c.args.subgroups.now c.args.members.now c.requires.kept in
    let same = routes-steps (event_of c.args.event.now) c.args.world.now c.args.subgroups.now c.args.members.now c.requires.kept.1 kept c.requires.routes c.requires.form closed made in
    let most = c.enter.ensures.most in
    omega (arith, same, most)
