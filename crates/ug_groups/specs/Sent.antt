-- What the members of a subgroup are sent by its packets.
use Rattle.std.specs.Prelude.{◌≡◌, ℕ, ◌≤◌, true, List, length, Option, Some, None}
use Rattle.ug_types.specs.declared.capabilities.Capabilities.{Capabilities}
use Rattle.ug_types.specs.declared.key.Key.{Key}
use Rattle.ug_types.specs.declared.route.OutAttrs.{OutAttrs}
use Rattle.ug_types.specs.declared.route.PeerEnds.{PeerEnds}
use Rattle.ug_message.specs.Spellable.{is_address}
use Rattle.ug_message.specs.Texts.{written}
use Rattle.ug_outbound.specs.declared.key.GroupKey.{GroupKey}
use Rattle.ug_adjout.specs.Formatting.{Due}
use Rattle.ug_adjout.specs.Formatting.Due.{Nothing, Withdraws, Announces}
use Rattle.ug_message.specs.Packets.{sent_to}
use Rattle.ug_group_rules.specs.Packets.{Says, Withdrawn, Announced, message_to}
use Rattle.ug_groups.specs.declared.routed.Routed.{Routed}
use Rattle.ug_groups.specs.declared.saying.Saying.{Saying}
use Rattle.ug_groups.specs.declared.saying.Saying.TheVariants as sayings
use Rattle.ug_groups.specs.Packets.{Packed}
use Rattle.ug_groups.specs.FamilyRibs.{FamilyRib, AreDue}

-- what a session of the group key's peers is opened with
abbrev pub session_of : GroupKey → Capabilities
session_of key = record { family = key.family; add_path = key.add_path; extended = key.extended }

-- Each peer in such a session whose own address is of its family is sent the text of the message that it is to have.
pub record IsSent (c : Capabilities) (p : Packed) : Type 0 where
  pub raw : p.shared.raw.family ≡ c.family
  pub short : length p.shared.bytes ≤ 65535
  pub text : (ends : PeerEnds) → is_address c.family ends.local ≡ true → written c (message_to ends p.says) ≡ Some (sent_to ends p.shared)

-- the packet that says this of these keys, which wait
pub record IsRoutedAs (key : GroupKey) (made : ℕ) (o : FamilyRib) (says : Says) (keys : List Key) (r : Routed) : Type 0 where
  pub made_is : r.packet.made ≡ made
  pub says_is : r.packet.says ≡ says
  pub keys_are : r.keys.items ≡ keys
  pub sent : IsSent (session_of key) r.packet
  pub told : AreDue o r.keys.items

-- it is the packet that is due, where one is
abbrev pub IsRouted : GroupKey → ℕ → FamilyRib → Due Key OutAttrs → Option Routed → Type 0
IsRouted key made o Nothing None = Unit {0}
IsRouted key made o Nothing (Some r) = ⊥
IsRouted key made o (Withdraws keys) None = ⊥
IsRouted key made o (Withdraws keys) (Some r) = IsRoutedAs key made o (Withdrawn keys) keys r
IsRouted key made o (Announces out keys) None = ⊥
IsRouted key made o (Announces out keys) (Some r) = IsRoutedAs key made o (Announced out keys) keys r

-- the packet with the keys of what is said
abbrev pub IsPaired : Packed → Saying → Option Routed → Type 0
IsPaired p (sayings.Withdrawn keys) (Some r) = (r.packet ≡ p) × (r.keys ≡ keys)
IsPaired p (sayings.Announced o keys) (Some r) = (r.packet ≡ p) × (r.keys ≡ keys)
IsPaired p sayings.EndOfRib (Some r) = ⊥
IsPaired p sayings.RefreshBegins (Some r) = ⊥
IsPaired p sayings.RefreshEnds (Some r) = ⊥
IsPaired p (sayings.Withdrawn keys) None = ⊥
IsPaired p (sayings.Announced o keys) None = ⊥
IsPaired p sayings.EndOfRib None = Unit {0}
IsPaired p sayings.RefreshBegins None = Unit {0}
IsPaired p sayings.RefreshEnds None = Unit {0}
