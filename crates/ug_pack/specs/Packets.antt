-- What a packet says, and which packet is built.
use Rattle.std.specs.Prelude.{◌≡◌, ℕ, ◌+◌, ◌≤◌, nat_eq, true, List, [], length, Option, Some, None, IfSome}
use Rattle.ug_types.specs.declared.family.Family.{Family}
use Rattle.ug_types.specs.declared.family.Family.TheVariants.{V4}
use Rattle.ug_types.specs.declared.key.Key.{Key}
use Rattle.ug_types.specs.declared.capabilities.Capabilities.{Capabilities}
use Rattle.ug_types.specs.declared.route.OutAttrs.{OutAttrs}
use Rattle.ug_types.specs.Keys.{weight_of}
use Rattle.ug_types.specs.Ip.{IpAddress}
use Rattle.ug_types.specs.Attributes.{Attributes}
use Rattle.ug_types.specs.Messages.{Message, Changes, Updates}
use Rattle.ug_types.specs.Sessions.{message_limit}
use Rattle.ug_message.specs.Spellable.{is_address}
use Rattle.ug_message.specs.Texts.{written}
use Rattle.ug_update.specs.Updates.{IsSessionOf, withdrawing, announcing}
use Rattle.ug_message.specs.Packets.{Shared, address_size, with_address}
use Rattle.ug_adjout.specs.Formatting.{Due, due}
use Rattle.ug_adjout.specs.Formatting.Due.{Nothing, Withdraws, Announces}
use Rattle.ug_adjout.specs.Pending.{AdjRibOut}
use Rattle.ug_intern.specs.Pools.{Held, Pooled, held, value_of}
use Rattle.ug_pack.specs.declared.built.Built.{Built}
use Rattle.ug_pack.specs.Rooms.{room, room_beside}
use Rattle.ug_pack.specs.Ready.{key_order}

-- In each session that has these routes, and messages of so many bytes, it is the text.
abbrev pub IsTextOf : Family → ℕ → List Key → Changes → List ℕ → Type 0
IsTextOf family limit keys u text = (c : Capabilities) → IsSessionOf family keys c → limit ≤ message_limit c → written c (Updates u) ≡ Some text

-- The text withdraws the routes.
abbrev pub IsWithdrawalText : Family → ℕ → List Key → List ℕ → Type 0
IsWithdrawalText family limit keys text = IsTextOf family limit keys (withdrawing keys) text

-- The text announces the routes with the attributes, and with whatever next hop is put at the place.
pub record IsAnnouncementText (family : Family) (limit : ℕ) (keys : List Key) (a : Attributes) (text : List ℕ) (place : ℕ) : Type 0 where
  pub own : IsTextOf family limit keys (announcing a keys) text
  pub any : (hop : IpAddress) → is_address family hop ≡ true → IsTextOf family limit keys (announcing (record a { next_hop = hop }) keys) (with_address (Some place) hop text)
  pub inside : place + address_size family ≤ length text

-- a packet without next hop
pub record IsPlain (family : Family) (p : Shared) : Type 0 where
  pub place : p.place ≡ None
  pub family_is : p.raw.family ≡ family

-- The packet withdraws the routes.
pub record IsWithdrawal (family : Family) (limit : ℕ) (keys : List Key) (p : Shared) : Type 0 where
  pub plain : IsPlain family p
  pub text : IsWithdrawalText family limit keys p.bytes

-- The packet announces the routes with these attributes, and tells each peer the next hop of its own.
pub record IsAnnouncement (family : Family) (limit : ℕ) (keys : List Key) (o : OutAttrs) (p : Shared) : Type 0 where
  pub raw : p.raw ≡ o.attrs.next_hop
  pub kind : p.kind ≡ o.nh_kind
  pub place : ℕ
  pub place_is : p.place ≡ Some place
  pub text : IsAnnouncementText family limit keys o.attrs p.bytes place

module _ (pool : Pooled OutAttrs) (limit : ℕ) where
  abbrev pub room_by : Family → Option OutAttrs → ℕ
  room_by family None = 0
  room_by family (Some o) = room_beside family limit o.attrs

  -- the packet that is owed next, where all routes are of the family
  abbrev pub next_due : Family → AdjRibOut Key ℕ → Due Key ℕ
  next_due family a = due key_order nat_eq weight_of (room family limit) (λ id. room_by family (value_of (held pool id))) a

  -- what was built is that packet and exactly its keys
  abbrev pub IsBuilt : Family → Due Key ℕ → Option Built → Type 0
  IsBuilt family Nothing None = Unit {0}
  IsBuilt family Nothing (Some b) = ⊥
  IsBuilt family (Withdraws keys) None = ⊥
  IsBuilt family (Withdraws keys) (Some b) = (b.keys.items ≡ keys) × IsWithdrawal family limit keys b.packet
  IsBuilt family (Announces id keys) None = ⊥
  IsBuilt family (Announces id keys) (Some b) = (b.keys.items ≡ keys) × IfSome (value_of (held pool id)) (λ o. IsAnnouncement family limit keys o b.packet)
