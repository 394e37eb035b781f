use Rattle.ug_world.proofs.Staying.{world_later}
use Rattle.ug_world.proofs.world.World.set_row.Goals as goal

pub invariant_of-self-2 : goal.invariant_of-self-2
invariant_of-self-2 c = world_later c.self.inside.none c.self.inside.version c.self.inside.peers c.self.inside.policies.lists c.self.invariant
