use Rattle.std.proofs.Common.{◌∙◌}
use Rattle.ug_hearing.proofs.Mapped.{list-found}
use Rattle.ug_hearing.proofs.list_map.ListMap.of.Goals as goal

pub returns-in-Some : goal.returns-in-Some
returns-in-Some g c = c.as_slice.ensures.value ∙ list-found c.self.inside.lists c.args.self.now c.args.key.now _ c.self.view_is c.in-Some.ensures

pub returns-in-None : goal.returns-in-None
returns-in-None g c = list-found c.self.inside.lists c.args.self.now c.args.key.now _ c.self.view_is c.in-None.ensures
