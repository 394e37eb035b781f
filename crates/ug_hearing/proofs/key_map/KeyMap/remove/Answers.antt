use Rattle.std.proofs.Common.{◌∙◌, List, None, ap}
use Rattle.std.specs.Prelude.{if◌then◌else◌}
use Rattle.ug_types.specs.Keys.{same_key}
use Rattle.ug_hearing.specs.Keyed.{value_for}
use Rattle.ug_hearing.proofs.Maps.{found-by, removed-by}
use Rattle.ug_hearing.proofs.key_map.KeyMap.remove.Goals as goal

pub returns-clause-value : goal.returns-clause-value
returns-clause-value g c =
    c.remove.ensures.value
    ∙ (found-by _ c.comparison_laws.ensures.key_order c.self.inside.entries.entries c.args.key.now ∙ ap (λ (es : List _). value_for es c.args.key.now) c.self.view_is)

pub returns-clause-others : goal.returns-clause-others
returns-clause-others g c = λ q.
    removed-by _ c.comparison_laws.ensures.key_order c.self.inside.entries.entries c.remove.new.self.entries c.args.key.now c.remove.ensures.updates.0 q
    ∙ ap (λ (es : List _). if same_key c.args.key.now q then None else value_for es q) c.self.view_is
