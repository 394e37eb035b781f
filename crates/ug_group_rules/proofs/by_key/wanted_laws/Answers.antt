use Rattle.ug_group_rules.proofs.WantedTables.{rows-value}
use Rattle.ug_group_rules.proofs.WantedValues.{wants-kept}
use Rattle.ug_group_rules.proofs.by_key.wanted_laws.Goals as goal

pub returns-clause-rows : goal.returns-clause-rows
returns-clause-rows g group w q = rows-value group w q

pub returns-clause-kept : goal.returns-clause-kept
returns-clause-kept g e w group q absent = wants-kept e w group q absent
