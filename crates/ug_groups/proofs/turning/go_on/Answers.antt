use Rattle.std.proofs.Common.{sym, arith}
use Rattle.std.proofs.lemmas.Result.{on_ok_weaker}
use Rattle.ug_world.specs.World.{key_in}
use Rattle.ug_groups.proofs.TurnGoes.{go-nowhere, go-asks, go-stays, stays-steps, go-rekeys, rekeys-steps, go-session, go-there}
use Rattle.ug_groups.proofs.turning.go_on.Goals as goal

pub returns-in_default-clause-turned : goal.returns-in_default-clause-turned
returns-in_default-clause-turned g c = λ s at.
    go-nowhere c.args.peer c.args.asks (key_in c.args.world.now s) c.args.world.now c.args.subgroups.now c.args.members.now c.requires.kept (sym c.in_default.ensures)

pub ask-requires-clause-session : goal.ask-requires-clause-session
ask-requires-clause-session g c =
    go-session c.args.peer c.in-Some.sub c.in_ok-key.key c.args.world.now c.args.subgroups.now c.args.members.now c.requires.inside c.requires.kept (sym c.in-Some.ensures) c.requires.session c.in_ok-key.ensures

pub returns-then-asks-clause-turned : goal.returns-then-asks-clause-turned
returns-then-asks-clause-turned g c =
    on_ok_weaker c.ask.result
    (λ turned s at. go-asks c.args.peer c.in-Some.sub c.args.asks c.in_ok-key.key (key_in c.args.world.now s) c.args.world.now c.args.subgroups.now c.args.members.now (sym c.in-Some.ensures) (c.in_ok-key.ensures s at)
    c.if-asks.true c.ask.new.subgroups c.ask.new.members turned)
    c.ask.ensures.turned

pub key-requires : goal.key-requires
key-requires g c = go-there c.args.peer c.in-Some.sub c.args.world.now c.args.subgroups.now c.args.members.now c.requires.kept (sym c.in-Some.ensures)

pub returns-then-eq-clause-turned : goal.returns-then-eq-clause-turned
returns-then-eq-clause-turned g c = λ s at.
    go-stays c.args.peer c.in-Some.sub c.args.asks c.in_ok-key.key (key_in c.args.world.now s) c.args.world.now c.args.subgroups.now c.args.members.now (sym c.in-Some.ensures) (c.in_ok-key.ensures s at)
    c.key.result.now c.key.ensures c.if-asks.false (sym c.if-eq.ensures) c.requires.kept

pub returns-then-eq-clause-steps : goal.returns-then-eq-clause-steps
returns-then-eq-clause-steps g c = λ s at.
    let none = stays-steps c.args.peer c.in-Some.sub c.args.asks c.in_ok-key.key (key_in c.args.world.now s) c.args.world.now c.args.subgroups.now c.args.members.now (sym c.in-Some.ensures) (c.in_ok-key.ensures s at)
    c.key.result.now c.key.ensures c.if-asks.false (sym c.if-eq.ensures) in
    omega (arith, none)

pub rekey-requires-clause-session : goal.rekey-requires-clause-session
rekey-requires-clause-session g c =
    go-session c.args.peer c.in-Some.sub c.in_ok-key.key c.args.world.now c.args.subgroups.now c.args.members.now c.requires.inside c.requires.kept (sym c.in-Some.ensures) c.requires.session c.in_ok-key.ensures

pub returns-in_err-rekey-clause-most : goal.returns-in_err-rekey-clause-most
returns-in_err-rekey-clause-most g c = λ s at.
    let all = rekeys-steps c.args.peer c.in-Some.sub c.args.asks c.in_ok-key.key (key_in c.args.world.now s) c.args.world.now c.args.subgroups.now c.args.members.now (sym c.in-Some.ensures) (c.in_ok-key.ensures s at)
    c.key.result.now c.key.ensures c.if-asks.false (sym c.if-eq.ensures) in
    let most = c.rekey.ensures.most in
    omega (arith, all, most)

pub returns-clause-turned : goal.returns-clause-turned
returns-clause-turned g c = λ s at.
    go-rekeys c.args.peer c.in-Some.sub c.args.asks c.in_ok-key.key (key_in c.args.world.now s) c.args.world.now c.args.subgroups.now c.args.members.now (sym c.in-Some.ensures) (c.in_ok-key.ensures s at)
    c.key.result.now c.key.ensures c.if-asks.false (sym c.if-eq.ensures) c.rekey.new.subgroups c.rekey.new.members c.in_ok-rekey.ensures.turned

pub returns-clause-steps : goal.returns-clause-steps
returns-clause-steps g c = λ s at.
    let all = rekeys-steps c.args.peer c.in-Some.sub c.args.asks c.in_ok-key.key (key_in c.args.world.now s) c.args.world.now c.args.subgroups.now c.args.members.now (sym c.in-Some.ensures) (c.in_ok-key.ensures s at)
    c.key.result.now c.key.ensures c.if-asks.false (sym c.if-eq.ensures) in
    let steps = c.in_ok-rekey.ensures.steps in
    omega (arith, all, steps)

pub returns-clause-most : goal.returns-clause-most
returns-clause-most g c = λ s at.
    let all = rekeys-steps c.args.peer c.in-Some.sub c.args.asks c.in_ok-key.key (key_in c.args.world.now s) c.args.world.now c.args.subgroups.now c.args.members.now (sym c.in-Some.ensures) (c.in_ok-key.ensures s at)
    c.key.result.now c.key.ensures c.if-asks.false (sym c.if-eq.ensures) in
    let most = c.rekey.ensures.most in
    omega (arith, all, most)
