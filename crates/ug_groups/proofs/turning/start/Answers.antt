use Rattle.std.proofs.Common.{subst}
use Rattle.ug_outbound.specs.declared.key.GroupKey.{GroupKey}
use Rattle.ug_group_rules.specs.Machine.{Starts}
use Rattle.ug_groups.specs.Turns.{IsTurned}
use Rattle.ug_groups.proofs.TurnKept.{kept-of}
use Rattle.ug_groups.proofs.TurnStarts.{start-room, start-done}
use Rattle.ug_groups.proofs.turning.start.Goals as goal

pub open_for-requires-clause-kept : goal.open_for-requires-clause-kept
open_for-requires-clause-kept g c = kept-of c.args.world.now c.args.subgroups.now c.know_rows.ensures c.requires.kept.tabled

pub join-requires : goal.join-requires
join-requires g c =
    start-room c.args.peer c.in_ok-key.key c.args.world.now c.args.subgroups.now c.args.members.now c.requires.kept c.requires.inside c.requires.free
    c.in_ok-sub.sub c.open_for.new.subgroups c.in_ok-sub.ensures.number c.in_ok-sub.ensures.rows

pub returns-clause-turned : goal.returns-clause-turned
returns-clause-turned g c = λ s at.
    subst (λ (k : GroupKey). IsTurned Starts c.args.peer k c.args.world.now c.args.subgroups.now c.args.members.now c.join.new.self c.seat_at.new.members) (c.in_ok-key.ensures s at)
    (start-done c.args.peer c.in_ok-key.key c.args.world.now c.args.subgroups.now c.args.members.now c.requires.kept c.requires.inside c.requires.free
    c.in_ok-sub.sub c.open_for.new.subgroups c.join.new.self c.seat_at.new.members c.in_ok-sub.ensures.number c.in_ok-sub.ensures.rows c.in_ok-join.ensures.ok c.seat_at.ensures)
