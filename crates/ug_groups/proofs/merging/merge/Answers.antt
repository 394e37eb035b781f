use Rattle.std.proofs.Common.{sym, subst, false, List}
use Rattle.ug_group_rules.specs.Machine.{merge}
use Rattle.ug_groups.specs.Rows.{Rows, with_row, without_row, absorbing_row}
use Rattle.ug_groups.specs.declared.member.Member.{Member}
use Rattle.ug_groups.specs.Members.{system}
use Rattle.ug_groups.specs.Done.{IsAt}
use Rattle.ug_groups.proofs.Merged.{merging, apart_members, merged-done}
use Rattle.ug_groups.proofs.RowsAt.{there-some}
use Rattle.ug_groups.proofs.merging.merge.Goals as goal

pub merge-requires : goal.merge-requires
merge-requires c =
    let them = merging c.args.sub c.args.other c.args.subgroups.now c.requires.may in
    let apart = apart_members c.args.world.now c.args.made c.args.sub c.args.other c.args.subgroups.now c.args.members.now c.requires.kept c.know_rows.ensures c.requires.other them in
    record { other = c.requires.other; there = there-some _ them.one them.one_is; apart = (them.other, them.other_is, apart) }

pub returns : goal.returns
returns c =
    let them = merging c.args.sub c.args.other c.args.subgroups.now c.requires.may in
    let s = system c.args.world.now false c.args.made c.args.subgroups.now c.args.members.now in
    let done = merged-done c.args.world.now c.args.made c.args.sub c.args.other c.args.subgroups.now c.args.members.now c.requires.kept c.know_rows.ensures c.requires.other them in
    subst (λ (rows : Rows). IsAt (merge c.args.sub c.args.other s) c.args.world.now false c.args.made rows c.move_all.new.members) (sym (c.in_ok-merge.ensures.rows them.other them.other_is))
    (subst (λ (l : List Member). IsAt (merge c.args.sub c.args.other s) c.args.world.now false c.args.made (without_row c.args.other (with_row c.args.sub (absorbing_row them.other) c.args.subgroups.now)) l) (sym c.move_all.ensures) done)
