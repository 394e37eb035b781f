use Rattle.std.proofs.Common.{ap, is_some}
use Rattle.std.proofs.lemmas.Result.{on_ok_weaker}
use Rattle.ug_groups.proofs.Seats.{sits-sub}
use Rattle.ug_groups.proofs.TurnRekeys.{asked-done}
use Rattle.ug_groups.proofs.turning.ask.Goals as goal

pub refresh-requires : goal.refresh-requires
refresh-requires g c =
    let own = c.in_ok-own.ensures.own in
    let turned = c.in_ok-own.ensures.turned in
    let found = sits-sub c.rekey.new.subgroups c.rekey.new.members c.args.peer c.in_ok-own.own own.sits turned.beside.seated in
    ap is_some found.1

pub returns-clause-turned : goal.returns-clause-turned
returns-clause-turned g c =
    on_ok_weaker c.refresh.result
    (λ is. asked-done c.args.peer c.in_ok-own.own c.args.key c.args.world.now c.args.subgroups.now c.args.members.now c.rekey.new.subgroups c.rekey.new.members c.refresh.new.self
    c.in_ok-own.ensures.turned c.in_ok-own.ensures.own is)
    c.refresh.ensures
