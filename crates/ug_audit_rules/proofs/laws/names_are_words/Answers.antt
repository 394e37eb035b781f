use Rattle.ug_audit_rules.proofs.Named.{name-word}
use Rattle.ug_audit_rules.proofs.laws.names_are_words.Goals as goal

pub returns : goal.returns
returns c = record { word = λ name is. name-word name is }
