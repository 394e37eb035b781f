use Rattle.ug_world.proofs.GoodWorlds.{good-after}
use Rattle.ug_world.proofs.Sendable.{wanted-sendable, wanted-key, told-sendable, told-key}
use Rattle.ug_world.proofs.laws.sendable_laws.Goals as goal

pub returns-clause-kept : goal.returns-clause-kept
returns-clause-kept c = good-after

pub returns-clause-wanted : goal.returns-clause-wanted
returns-clause-wanted c = wanted-sendable

pub returns-clause-wanted_key : goal.returns-clause-wanted_key
returns-clause-wanted_key c = wanted-key

pub returns-clause-told : goal.returns-clause-told
returns-clause-told c = told-sendable

pub returns-clause-told_key : goal.returns-clause-told_key
returns-clause-told_key c = told-key
