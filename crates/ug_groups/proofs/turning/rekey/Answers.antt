use Rattle.std.proofs.Common.{sym, arith}
use Rattle.ug_groups.proofs.TurnKept.{kept-of}
use Rattle.ug_groups.proofs.TurnRekeys.{rekeyed-done, rekey-same, rekey-none, rekey-there, own-there}
use Rattle.ug_groups.proofs.turning.rekey.Goals as goal

pub key-requires : goal.key-requires
key-requires g c =
    own-there c.args.peer c.args.sub c.in_ok-own.own c.args.key c.args.world.now c.args.subgroups.now c.args.members.now c.split_off.new.subgroups c.split_off.new.members (c.in_ok-own.ensures c.args.world.now c.requires.kept)

pub returns-then-eq-clause-turned : goal.returns-then-eq-clause-turned
returns-then-eq-clause-turned g c =
    rekey-same c.args.peer c.args.sub c.in_ok-own.own c.args.key c.args.world.now c.args.subgroups.now c.args.members.now c.split_off.new.subgroups c.split_off.new.members (c.in_ok-own.ensures c.args.world.now c.requires.kept)
    c.know_rows.ensures c.key.result.now c.key.ensures (sym c.if-eq.ensures)

pub returns-then-eq-clause-steps : goal.returns-then-eq-clause-steps
returns-then-eq-clause-steps g c =
    let none = rekey-none c.args.peer c.args.sub c.in_ok-own.own c.args.key c.args.world.now c.args.subgroups.now c.args.members.now c.split_off.new.subgroups c.split_off.new.members (c.in_ok-own.ensures c.args.world.now c.requires.kept)
    c.key.result.now c.key.ensures (sym c.if-eq.ensures) in
    omega (arith, none)

pub rekey_to-requires-clause-there : goal.rekey_to-requires-clause-there
rekey_to-requires-clause-there g c =
    rekey-there c.args.peer c.args.sub c.in_ok-own.own c.args.key c.args.world.now c.args.subgroups.now c.args.members.now c.split_off.new.subgroups c.split_off.new.members (c.in_ok-own.ensures c.args.world.now c.requires.kept)
    c.requires.session

pub rekey_to-requires-clause-kept : goal.rekey_to-requires-clause-kept
rekey_to-requires-clause-kept g c =
    let split = c.in_ok-own.ensures c.args.world.now c.requires.kept in
    kept-of c.args.world.now c.split_off.new.subgroups c.know_rows.ensures split.beside.tabled

pub returns-clause-turned : goal.returns-clause-turned
returns-clause-turned g c =
    rekeyed-done c.args.peer c.args.sub c.in_ok-own.own c.args.key c.args.world.now c.args.subgroups.now c.args.members.now c.split_off.new.subgroups c.split_off.new.members c.rekey_to.new.subgroups
    (c.in_ok-own.ensures c.args.world.now c.requires.kept) c.in_ok-rekey_to.ensures.rows
