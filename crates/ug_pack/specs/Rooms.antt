-- How much room a message has for routes.
use Rattle.std.specs.Prelude.{ℕ, ◌+◌, ◌-◌, ◌≤◌, length}
use Rattle.ug_types.specs.declared.family.Family.{Family}
use Rattle.ug_types.specs.declared.family.Family.TheVariants.{V4, V6}
use Rattle.ug_types.specs.Attributes.{Attributes}
use Rattle.ug_message.specs.Spelling.{attributes, attributes_but_next_hop}
use Rattle.ug_message.specs.Heads.{size_around}

-- how long the message is that withdraws routes of so many bytes: those of IPv4 have a field of their own (RFC 4271
-- section 4.3), those of IPv6 an attribute (RFC 4760 section 4)
abbrev pub withdrawal_bytes : Family → ℕ → ℕ
withdrawal_bytes V4 n = 23 + n
withdrawal_bytes V6 n = 23 + size_around (3 + n)

-- how long the message is that announces them: the attribute of IPv6 routes has their next hop too (RFC 4760 section 3)
abbrev pub announcement_bytes : Family → Attributes → ℕ → ℕ
announcement_bytes V4 a n = 23 + (length (attributes a) + n)
announcement_bytes V6 a n = 23 + (length (attributes_but_next_hop a) + size_around (21 + n))

-- how many bytes of routes a message within the limit may withdraw
abbrev pub room : Family → ℕ → ℕ
room V4 limit = limit - 23
room V6 limit = limit - 30

-- and how many it may announce with these attributes
abbrev pub room_beside : Family → ℕ → Attributes → ℕ
room_beside V4 limit a = limit - (23 + length (attributes a))
room_beside V6 limit a = limit - (48 + length (attributes_but_next_hop a))

-- Attributes beside which there is room for a route in each message. Those from within have 2,067 bytes at most.
abbrev pub IsShort : Attributes → Type 0
IsShort a = length (attributes a) ≤ 2067
