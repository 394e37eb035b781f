use Rattle.std.proofs.Common.{◌≡◌, drop}
use Rattle.ug_config.specs.Tables.{is_row}
use Rattle.ug_config.proofs.table.is_row.Given as goal

-- the rows that are left decide
abbrev pub invariant-loop-row : goal.invariant-loop-row
invariant-loop-row l = is_row (drop l.row-index l.rows) l.name ≡ is_row l.rows l.name
