use Rattle.std.proofs.Common.{Some, None, sym, ap, ◌∙◌}
use Rattle.std.specs.Borrow.{Bor}
use Rattle.std.specs.Prelude.{option_copied}
use Rattle.ug_types.specs.declared.key.Key.{Key}
use Rattle.ug_check.specs.declared.row.Announced.{Announced}
use Rattle.ug_check.specs.declared.row.Row.{Row}
use Rattle.ug_check.proofs.After.{seen_row, seen_least, seen_none}
use Rattle.ug_check.proofs.table.Table.row_after.Goals as goal

pub returns-in-Some-clause-row : goal.returns-in-Some-clause-row
returns-in-Some-clause-row c =
    let t = c.self.inside in
    seen_row t.refreshes t.v4.entries t.v6.entries t.refreshing c.args.self.now (option_copied c.args.key)
    (λ (a : Key × Bor Row). a.0) (λ (a : Key × Bor Row). a.1.now) (Some (c.in-Some.key, c.in-Some.row)) c.self.view_is c.in-Some.ensures ∙ sym (ap (λ (a : Announced). Some a.attrs) c.as_ref.ensures)

pub returns-in-Some-clause-least : goal.returns-in-Some-clause-least
returns-in-Some-clause-least c =
    let t = c.self.inside in
    seen_least t.refreshes t.v4.entries t.v6.entries t.refreshing c.args.self.now (option_copied c.args.key)
    (λ (a : Key × Bor Row). a.0) (λ (a : Key × Bor Row). a.1.now) (Some (c.in-Some.key, c.in-Some.row)) c.self.view_is c.in-Some.ensures

pub returns-in-None-clause-none : goal.returns-in-None-clause-none
returns-in-None-clause-none c =
    let t = c.self.inside in
    seen_none t.refreshes t.v4.entries t.v6.entries t.refreshing c.args.self.now (option_copied c.args.key)
    (λ (a : Key × Bor Row). a.0) (λ (a : Key × Bor Row). a.1.now) None c.self.view_is c.in-None.ensures
