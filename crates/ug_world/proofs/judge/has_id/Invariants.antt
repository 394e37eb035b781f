use Rattle.std.proofs.Common.{◌≡◌, drop}
use Rattle.std.specs.Prelude.{◌==◌}
use Rattle.std.specs.List.{list_any}
use Rattle.ug_events.specs.Events.{GivenPath}
use Rattle.ug_world.specs.Verdicts.{given_id}
use Rattle.ug_world.proofs.judge.has_id.Given as goal

-- the paths that are left decide
abbrev pub invariant-loop-path : goal.invariant-loop-path
invariant-loop-path l = list_any (λ (g : GivenPath). given_id g == l.id) (drop l.path-index l.given) ≡ list_any (λ (g : GivenPath). given_id g == l.id) l.given
