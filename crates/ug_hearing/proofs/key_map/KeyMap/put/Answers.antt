use Rattle.std.proofs.Common.{◌∙◌, List, Some, ap}
use Rattle.std.specs.Prelude.{if◌then◌else◌}
use Rattle.ug_types.specs.Keys.{same_key}
use Rattle.ug_hearing.specs.Keyed.{value_for}
use Rattle.ug_hearing.proofs.Maps.{put-by}
use Rattle.ug_hearing.proofs.key_map.KeyMap.put.Goals as goal

pub returns-in-Ok-clause-ok : goal.returns-in-Ok-clause-ok
returns-in-Ok-clause-ok g c = λ q.
    put-by _ c.comparison_laws.ensures.key_order c.self.inside.entries.entries c.insert.new.self.entries c.args.key c.args.value c.in-Ok.ensures.updates.0 q
    ∙ ap (λ (es : List _). if same_key c.args.key q then Some c.args.value else value_for es q) c.self.view_is
