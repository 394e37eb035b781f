use Rattle.ug_message.proofs.Spelled.{written_spells, written_only}
use Rattle.ug_message.proofs.laws.written_again.Goals as goal

pub returns-clause-spells : goal.returns-clause-spells
returns-clause-spells c = written_spells

pub returns-clause-only : goal.returns-clause-only
returns-clause-only c = written_only
