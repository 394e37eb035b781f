-- How long an UPDATE of IPv6 routes is, and where its next hop stands (RFC 4760).
use Rattle.std.specs.Prelude.{ℕ, ◌+◌, List, length}
use Rattle.ug_types.specs.declared.key.Key.{Key}
use Rattle.ug_types.specs.Attributes.{Attributes}
use Rattle.ug_message.specs.Spelling.{attributes_but_next_hop}
use Rattle.ug_message.specs.Heads.{size_around, reach_place}
use Rattle.ug_message.specs.Texts.{attributes_place}
use Rattle.ug_update.specs.Updates.{weight_of_all}

-- marker, length and type, two lengths, and MP_UNREACH_NLRI: the family in three bytes, and the routes
abbrev pub withdrawal_size : List Key → ℕ
withdrawal_size keys = 23 + size_around (3 + weight_of_all keys)

-- the same, the attributes, and MP_REACH_NLRI: the family, the next hop behind its length, a reserved byte, and the routes
abbrev pub announcement_size : Attributes → List Key → ℕ
announcement_size attrs keys = 23 + (length (attributes_but_next_hop attrs) + size_around (21 + weight_of_all keys))

-- where the sixteen bytes of the next hop stand
abbrev pub next_hop_place : Attributes → List Key → ℕ
next_hop_place attrs keys = attributes_place + (length (attributes_but_next_hop attrs) + reach_place (weight_of_all keys))
