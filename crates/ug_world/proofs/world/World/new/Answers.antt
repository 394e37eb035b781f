use Rattle.std.proofs.Common.{Bool, ◌&&◌, map, ap, ◌∙◌}
use Rattle.ug_world.specs.Names.{are_distinct}
use Rattle.ug_world.specs.Kept.{name_of, are_sessions_within}
use Rattle.ug_world.specs.Parts.{fresh}
use Rattle.ug_world.proofs.Starting.{lists_differ, fresh_peers_good, fresh_sessions}
use Rattle.ug_world.proofs.world.World.new.Goals as goal

pub new-requires : goal.new-requires
new-requires c = record { named = fresh_peers_good c.args.parts c.requires.good c.in_ok-peers.peers.items (c.in_ok-peers.ensures ∙ ap (map fresh) c.into_vec.ensures) }

pub invariant_of-result : goal.invariant_of-result
invariant_of-result c =
    ap (λ (b : Bool). b && are_distinct (map name_of c.args.parts.lists.items))
    (ap (are_sessions_within 0) (c.new.ensures ∙ c.in_ok-peers.ensures ∙ ap (map fresh) c.into_vec.ensures) ∙ fresh_sessions c.args.parts.peers.items)
    ∙ lists_differ c.args.parts c.requires.good
