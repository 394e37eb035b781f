-- A packet that many peers share, and the bytes that each of them is sent.
use Rattle.std.specs.Prelude.{ℕ, ◌+◌, ◌≤◌, List, length, take, Option, Some, None, IfSome}
use Rattle.std.specs.List.{splice}
use Rattle.std.specs.Int.{w128, to_be_bytes}
use Rattle.ug_types.specs.Ip.{IpAddress}
use Rattle.ug_types.specs.declared.family.Family.{Family}
use Rattle.ug_types.specs.declared.family.Family.TheVariants.{V4, V6}
use Rattle.ug_types.specs.declared.route.NhKind.{NhKind}
use Rattle.ug_types.specs.declared.route.PeerEnds.{PeerEnds}
use Rattle.ug_message.specs.NextHops.{next_hop}

-- A message; where the value of its next hop stands in it, where it announces routes; and the next hop and its kind with
-- which these go out.
pub record Shared : Type 0 where
  pub bytes : List ℕ
  pub place : Option ℕ
  pub raw : IpAddress
  pub kind : NhKind

-- how many bytes an address has
abbrev pub address_size : Family → ℕ
address_size V4 = 4
address_size V6 = 16

abbrev pub address_bytes : IpAddress → List ℕ
address_bytes a = take (address_size a.family) (to_be_bytes w128 a.bits)

-- the next hop lies in the message
abbrev pub HasPlace : Shared → Type 0
HasPlace p = IfSome p.place (λ place. place + address_size p.raw.family ≤ length p.bytes)

-- an address in place of the one that stands there
abbrev pub with_address : Option ℕ → IpAddress → List ℕ → List ℕ
with_address None a bytes = bytes
with_address (Some place) a bytes = splice bytes place (place + address_size a.family) (address_bytes a)

-- the message with the next hop that the peer at these ends is told
abbrev pub sent_to : PeerEnds → Shared → List ℕ
sent_to ends p = with_address p.place (next_hop p.kind p.raw ends) p.bytes
