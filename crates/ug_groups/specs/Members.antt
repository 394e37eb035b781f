-- Peers beside the subgroups in which they sit, and the system that they are.
use Rattle.std.specs.Prelude.{ℕ, ◌+◌, ◌==◌, Bool, false, List, [], ◌∷◌, slice_get, Option, Some, None, is_some}
use Rattle.std.specs.Option.{option_map}
use Rattle.ug_world.specs.World.{World}
use Rattle.ug_queue.specs.Queues.{place_of, rest_of}
use Rattle.ug_group_rules.specs.Packets.{Packet}
use Rattle.ug_group_rules.specs.Machine as machine
use Rattle.ug_group_rules.specs.Machine.{Seat, System}
use Rattle.ug_groups.specs.Rows.{Row, Rows, row_at, any_at, subs_of}
use Rattle.ug_groups.specs.declared.member.Member.{Member}

-- what a peer has still to take of the queue of a subgroup
abbrev pub rest_in : ℕ → Option Row → List Packet
rest_in p None = []
rest_in p (Some r) = rest_of r.queue p

abbrev pub seat_in : Rows → ℕ → ℕ → Seat
seat_in rows p g = record { sub = g; rest = rest_in p (row_at g rows) }

-- the member of the machine that a peer is
abbrev pub member_of : Rows → ℕ → Member → machine.Member
member_of rows p m = record { begun = m.begun; unlost = m.unlost.items; handed = m.handed; seat = option_map (seat_in rows p) m.sub }

-- those of these peers, the first of which stands at place `p`
abbrev pub members_from : Rows → ℕ → List Member → List machine.Member
members_from rows p [] = []
members_from rows p (m ∷ members) = member_of rows p m ∷ members_from rows (p + 1) members

abbrev pub system : World → Bool → ℕ → Rows → List Member → System
system w closed made rows members = record { world = w; closed = closed; made = made; subgroups = subs_of rows; members = members_from rows 0 members }

-- ---- who sits where

abbrev pub sub_in : Option Member → Option ℕ
sub_in None = None
sub_in (Some m) = m.sub

-- the subgroup of the peer at a place
abbrev pub sub_at : ℕ → List Member → Option ℕ
sub_at p members = sub_in (slice_get members p)

abbrev pub is_sub : ℕ → Option ℕ → Bool
is_sub g None = false
is_sub g (Some h) = h == g

-- the peer is a member of the queue of that subgroup
abbrev pub is_queued : ℕ → Row → Bool
is_queued p r = is_some (place_of r.queue p)

abbrev pub stands : ℕ → ℕ → Rows → Bool
stands p g rows = any_at (is_queued p) (row_at g rows)
