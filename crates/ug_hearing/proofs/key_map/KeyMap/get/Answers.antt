use Rattle.std.proofs.Common.{◌∙◌, List, ap}
use Rattle.ug_hearing.specs.Keyed.{value_for}
use Rattle.ug_hearing.proofs.Maps.{found-by}
use Rattle.ug_hearing.proofs.key_map.KeyMap.get.Goals as goal

pub returns : goal.returns
returns g c =
    c.get.ensures.value
    ∙ (found-by _ c.comparison_laws.ensures.key_order c.self.inside.entries.entries c.args.key.now ∙ ap (λ (es : List _). value_for es c.args.key.now) (c.self.view_is))
