use Rattle.std.proofs.Common.{◌≡◌, sym, subst, Some}
use Rattle.ug_groups.specs.Rows.{Rows, row_at}
use Rattle.ug_groups.proofs.Slowed.{parting, together, calm_row, calm-is, slowed-number, slowed-by}
use Rattle.ug_groups.proofs.slowing.slow.Goals as goal

pub split-requires : goal.split-requires
split-requires c =
    let w = c.args.world.now in let rows = c.args.subgroups.now in let members = c.args.members.now in
    let them = parting w.local.slow_after c.args.sub rows c.requires.may in
    let ms = c.in_ok-front.front.items in
    let collected = c.in_ok-front.ensures them.row them.row_is in (
      calm_row w c.args.made c.args.sub rows members c.requires.kept c.know_rows.ensures them ms collected,
      subst (λ (l : Rows). row_at c.args.sub l ≡ Some (calm_row w c.args.made c.args.sub rows members c.requires.kept c.know_rows.ensures them ms collected)) (sym c.unstick.ensures) (calm-is w c.args.made c.args.sub rows members c.requires.kept c.know_rows.ensures them ms collected),
      together w c.args.made c.args.sub rows members c.requires.kept c.know_rows.ensures them ms collected,
    )

pub returns-clause-number : goal.returns-clause-number
returns-clause-number c =
    let w = c.args.world.now in let rows = c.args.subgroups.now in let members = c.args.members.now in
    let them = parting w.local.slow_after c.args.sub rows c.requires.may in
    let ms = c.in_ok-front.front.items in
    let collected = c.in_ok-front.ensures them.row them.row_is in
    slowed-number w c.args.made c.args.sub rows members c.requires.kept c.know_rows.ensures them ms collected c.unstick.new.self c.in_ok-new.new c.unstick.ensures c.in_ok-new.ensures.number

pub returns-clause-done : goal.returns-clause-done
returns-clause-done c =
    let w = c.args.world.now in let rows = c.args.subgroups.now in let members = c.args.members.now in
    let them = parting w.local.slow_after c.args.sub rows c.requires.may in
    let ms = c.in_ok-front.front.items in
    let collected = c.in_ok-front.ensures them.row them.row_is in
    let at = subst (λ (l : Rows). row_at c.args.sub l ≡ Some (calm_row w c.args.made c.args.sub rows members c.requires.kept c.know_rows.ensures them ms collected)) (sym c.unstick.ensures) (calm-is w c.args.made c.args.sub rows members c.requires.kept c.know_rows.ensures them ms collected) in
    slowed-by w c.args.made c.args.sub rows members c.requires.kept c.know_rows.ensures them ms collected c.unstick.new.self c.split.new.self c.in_ok-new.new c.seat_all.new.members c.as_slice.result.now
    c.unstick.ensures (c.in_ok-new.ensures.rows (calm_row w c.args.made c.args.sub rows members c.requires.kept c.know_rows.ensures them ms collected) at) c.in_ok-new.ensures.number c.as_slice.ensures c.seat_all.ensures
