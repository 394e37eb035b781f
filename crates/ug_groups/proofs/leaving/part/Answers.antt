use Rattle.std.proofs.Common.{sym, subst, is_some, ◌≡◌, true}
use Rattle.ug_groups.specs.Rows.{Rows, row_at, left_row}
use Rattle.ug_groups.proofs.RowsAt.{row-stays}
use Rattle.ug_groups.proofs.leaving.part.Goals as goal

pub member_count-requires : goal.member_count-requires
member_count-requires c =
    subst (λ (rows : Rows). is_some (row_at c.args.sub rows) ≡ true) (sym c.leave.ensures) (row-stays c.args.sub (left_row c.args.peer) c.args.subgroups.now c.requires.0 c.requires.1)
