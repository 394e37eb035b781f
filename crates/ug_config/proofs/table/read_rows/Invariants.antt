use Rattle.std.proofs.Common.{◌≡◌, drop}
use Rattle.toml.specs.View.{view}
use Rattle.ug_config.specs.Reads.{each_read, behind_read}
use Rattle.ug_config.specs.Tables.{entry}
use Rattle.ug_config.proofs.table.read_rows.Given as goal

-- the fields so far and those of the rows that are left are all
abbrev pub invariant-loop-row : goal.invariant-loop-row
invariant-loop-row l = behind_read l.fields.items (each_read (entry l.own l.way (view l.table)) (drop l.row-index l.rows)) ≡ each_read (entry l.own l.way (view l.table)) l.rows
