-- Which attributes can be sent to a peer.
use Rattle.std.specs.Prelude.{◌≡◌, ◌≤◌, true, length}
use Rattle.ug_types.specs.declared.family.Family.{Family}
use Rattle.ug_types.specs.Attributes.{Attributes}
use Rattle.ug_message.specs.Spelling.{attributes}
use Rattle.ug_message.specs.Spellable.{has_ipv4_addresses, can_be_spelled}

-- Attributes that a peer of that family can be sent. A message can tell them: their numbers have 32 bits, and no address
-- has a bit past its family's width. Their next hop is of the peer's family, and AGGREGATOR and ORIGINATOR_ID are IPv4
-- addresses (RFC 4271 section 4.3, RFC 4456 section 8). They leave room for a route in each message, which has 4,096
-- bytes at least (RFC 4271 section 4.1).
pub record IsSendable (family : Family) (a : Attributes) : Type 0 where
  pub spelled : can_be_spelled family a ≡ true
  pub next_hop : a.next_hop.family ≡ family
  pub addresses : has_ipv4_addresses a ≡ true
  pub short : length (attributes a) ≤ 2067
