use Rattle.std.proofs.Common.{◌≡◌}
use Rattle.toml.specs.View.{members_view, table_view}
use Rattle.ug_config.specs.Tables.{unknown_in}
use Rattle.ug_config.proofs.table.unknown_in.Given as goal

-- the fields that are left decide
abbrev pub invariant-loop-name : goal.invariant-loop-name
invariant-loop-name l = unknown_in l.rows (members_view l.name-iterator) ≡ unknown_in l.rows (table_view l.table)
