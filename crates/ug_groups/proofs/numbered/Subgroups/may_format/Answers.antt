use Rattle.std.proofs.Common.{sym, ap, ◌∙◌}
use Rattle.ug_groups.specs.Rows.{any_at, may_format_row}
use Rattle.ug_groups.proofs.Accounts.{row_there, row_gone}
use Rattle.ug_groups.proofs.numbered.Subgroups.may_format.Goals as goal

pub returns-in-Some : goal.returns-in-Some
returns-in-Some c =
    let i = c.self.inside in
    c.may_format.ensures ∙ ap (any_at may_format_row) (sym (row_there i.pool i.live c.args.g c.args.self.now c.in-Some.entry.now c.self.view_is (sym c.in-Some.ensures)))

pub returns-in-None : goal.returns-in-None
returns-in-None c = let i = c.self.inside in ap (any_at may_format_row) (sym (row_gone i.pool i.live c.args.g c.args.self.now c.self.view_is (sym c.in-None.ensures)))
