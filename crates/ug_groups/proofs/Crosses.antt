-- That the machine of update groups may go to any thread. What stands in it is sent part by part, since a search through all of it at once
-- comes to its limit.
use denote.Param.Send.{IsSend, sendable}
use Rattle.std.proofs.Crossing.{crosses}
use Rattle.ug_types.proofs.route.OutAttrs.TheSendSync as out_attrs
use Rattle.ug_world.proofs.world.World.TheSendSync as world
use Rattle.ug_intern.proofs.pool.Pool.TheSendSync as pool
use Rattle.ug_queue.proofs.live.Live.TheSendSync as live
use Rattle.ug_queue.proofs.queue.Queue.TheSendSync as queue
use Rattle.ug_groups.proofs.point.Point.TheSendSync as point
use Rattle.ug_groups.specs.contracts.told.Told as Told
use Rattle.ug_groups.specs.contracts.packet.Packet as Packet
use Rattle.ug_groups.specs.contracts.subgroup.Subgroup as Subgroup
use Rattle.ug_groups.specs.contracts.entry.Entry as Entry
use Rattle.ug_groups.specs.contracts.numbered.Subgroups as Subgroups
use Rattle.ug_groups.proofs.member.Member.TheSendSync as member
use Rattle.ug_groups.specs.contracts.state.GroupState as GroupState
use Rattle.ug_groups.specs.contracts.groups.Groups as Groups

told : IsSend Told.the_row
told = search (sendable, crosses) depth 40

packet : IsSend Packet.the_row
packet = search (told, sendable, crosses) depth 40

subgroup : IsSend Subgroup.the_row
subgroup = search (packet, queue.the_send, point.the_send, sendable, crosses) depth 40

entry : IsSend Entry.the_row
entry = search (subgroup, sendable, crosses) depth 40

subgroups : IsSend Subgroups.the_row
subgroups = search (entry, live.the_send, pool.the_send, out_attrs.the_send, sendable, crosses) depth 40 fits 100000

state : IsSend GroupState.the_row
state = search (world.the_send, subgroups, member.the_send, sendable, crosses) depth 40

pub groups_send : IsSend Groups.the_row
groups_send = search (state, sendable, crosses) depth 40
