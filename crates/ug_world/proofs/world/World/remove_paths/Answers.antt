use Rattle.ug_world.proofs.Staying.{world_later}
use Rattle.ug_world.proofs.world.World.remove_paths.Goals as goal

pub invariant_of-self : goal.invariant_of-self
invariant_of-self c = world_later c.self.inside.none c.self.inside.version c.self.inside.peers c.self.inside.policies.lists c.self.invariant
