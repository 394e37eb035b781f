use Rattle.ug_groups.proofs.TurnSplits.{split-there, split-alone, split-together, split-done}
use Rattle.ug_groups.proofs.turning.split_off.Goals as goal

pub member_count-requires : goal.member_count-requires
member_count-requires c = split-there c.args.peer c.args.sub c.args.subgroups.now c.args.members.now c.requires.seated c.requires.sits

pub returns-then-member_count-le1 : goal.returns-then-member_count-le1
returns-then-member_count-le1 c =
    split-alone c.args.peer c.args.sub c.args.subgroups.now c.args.members.now c.requires.seated c.requires.sits c.member_count.result c.member_count.ensures c.if-member_count-le1.true

pub split-requires : goal.split-requires
split-requires c =
    split-together c.args.peer c.args.sub c.args.subgroups.now c.args.members.now c.requires.seated c.requires.sits c.push.new.self.items c.new-leaving.result.items c.new-leaving.ensures c.in-Ok.ensures.ok

pub returns : goal.returns
returns c =
    split-done c.args.peer c.args.sub c.args.subgroups.now c.args.members.now c.requires.seated c.requires.sits c.know_rows.ensures c.member_count.result c.member_count.ensures c.if-member_count-le1.false
    c.push.new.self.items c.new-leaving.result.items c.new-leaving.ensures c.in-Ok.ensures.ok c.in_ok-own.own c.split.new.self c.seat_at.new.members c.in_ok-own.ensures.number c.in_ok-own.ensures.rows c.seat_at.ensures
