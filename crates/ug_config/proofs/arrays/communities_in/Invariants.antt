use Rattle.std.proofs.Common.{◌≡◌, map, drop}
use Rattle.toml.specs.View.{view}
use Rattle.ug_config.specs.Kinds.{community_in, each}
use Rattle.ug_config.proofs.Elements.{behind}
use Rattle.ug_config.proofs.arrays.communities_in.Given as goal

-- those so far and those that are left are all
abbrev pub invariant-loop-value : goal.invariant-loop-value
invariant-loop-value l = behind l.numbers.items (each community_in (map view (drop l.value-index l.values))) ≡ each community_in (map view l.values)
