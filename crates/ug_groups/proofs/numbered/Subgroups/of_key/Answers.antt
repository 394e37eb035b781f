use Rattle.ug_groups.proofs.Found.{key_found, key_some, key_none}
use Rattle.ug_groups.proofs.numbered.Subgroups.of_key.Goals as goal

pub returns-clause-there : goal.returns-clause-there
returns-clause-there c =
    let i = c.self.inside in
    key_found c.args.key.now i.pool i.live c.args.self.now c.self.view_is c.entries-entries.result.now c.entries-entries.ensures c.place_of_key.result c.place_of_key.ensures c.number_of.result c.number_of.ensures

pub returns-clause-none : goal.returns-clause-none
returns-clause-none c =
    let i = c.self.inside in
    key_none c.args.key.now i.pool i.live c.args.self.now c.self.view_is c.entries-entries.result.now c.entries-entries.ensures c.place_of_key.result c.place_of_key.ensures c.number_of.result c.number_of.ensures

pub returns-clause-some : goal.returns-clause-some
returns-clause-some c =
    let i = c.self.inside in
    key_some c.args.key.now i.pool i.live c.args.self.now c.self.view_is c.entries-entries.result.now c.entries-entries.ensures c.place_of_key.result c.place_of_key.ensures c.number_of.result c.number_of.ensures
