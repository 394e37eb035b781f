use Rattle.ug_group_rules.proofs.NewTables.{new-table, same-rekeyed}
use Rattle.ug_group_rules.proofs.by_key.table_laws.Goals as goal

pub returns-clause-fresh : goal.returns-clause-fresh
returns-clause-fresh g group w = new-table group w

pub returns-clause-same : goal.returns-clause-same
returns-clause-same g w x kept = same-rekeyed w x kept
