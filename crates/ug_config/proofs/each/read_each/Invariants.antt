use Rattle.std.proofs.Common.{◌≡◌, map, drop}
use Rattle.toml.specs.View.{view}
use Rattle.ug_config.specs.Reads.{each_table, behind_read}
use Rattle.ug_config.proofs.each.read_each.Given as goal

-- those so far and those of the tables that are left are all
abbrev pub invariant-loop-table : goal.invariant-loop-table
invariant-loop-table g l = record {
  read : behind_read l.read.items (each_table g.T.TableReader.reading l.array l.place (map view (drop l.table-index l.tables))) ≡ each_table g.T.TableReader.reading l.array 0 (map view l.tables);
  place : l.place ≡ l.table-index;
}
