use Rattle.ug_group_rules.proofs.Keys.{live-distinct}
use Rattle.ug_group_rules.proofs.Evaluated.{keys-told, keys-of-live, evaluates, evaluates-few, evaluates-none}
use Rattle.ug_group_rules.proofs.InAll.{evaluated-few}
use Rattle.ug_group_rules.proofs.evaluations.group_evaluations.Goals as goal

pub returns-clause-keys : goal.returns-clause-keys
returns-clause-keys c = λ opening h p s course is live. keys-told opening h course p s is live

pub returns-clause-no_others : goal.returns-clause-no_others
returns-clause-no_others c = λ opening h key course is. keys-of-live opening h course key is

pub returns-clause-once : goal.returns-clause-once
returns-clause-once c = λ s. live-distinct s

pub returns-clause-counted : goal.returns-clause-counted
returns-clause-counted c = λ opening h pass e course legal. evaluates opening h course pass e legal

pub returns-clause-at_most : goal.returns-clause-at_most
returns-clause-at_most c = λ opening h e course legal. evaluates-few opening h course 0 e legal

pub returns-clause-unfiltered : goal.returns-clause-unfiltered
returns-clause-unfiltered c = λ opening h e course legal sets same. evaluates-none opening h course 0 e legal sets same

pub returns-clause-in_all : goal.returns-clause-in_all
returns-clause-in_all c = λ opening h course. evaluated-few opening h course
