use Rattle.std.proofs.Common.{map, refl, ap, ◌∙◌}
use Rattle.ug_policy.specs.Named.{NamedList}
use Rattle.ug_outbound.specs.Tables.{Tables}
use Rattle.ug_world.specs.Kept.{name_of, with_value}
use Rattle.ug_world.proofs.Changing.{names_kept}
use Rattle.ug_world.proofs.Staying.{world_with_lists}
use Rattle.ug_world.proofs.world.World.relist.Goals as goal

pub invariant_of-self : goal.invariant_of-self
invariant_of-self c =
    world_with_lists c.self.inside.none c.self.inside.version c.self.inside.peers c.self.inside.policies.lists c.self.invariant c.relist.new.policies.lists
    (ap (λ (t : Tables). map name_of t.lists) c.relist.ensures
    ∙ names_kept name_of c.args.name.now (with_value c.in_ok-list.list) c.self.inside.policies.lists (λ (l : NamedList). refl))
