-- Packets, as they lie in memory and as the definitions of the machine have them.
use Rattle.std.specs.Prelude.{ℕ}
use Rattle.ug_group_rules.specs.Packets as packets
use Rattle.ug_message.specs.Packets.{Shared}
use Rattle.ug_groups.specs.declared.saying.Saying.{Saying}
use Rattle.ug_groups.specs.declared.saying.Saying.TheVariants as sayings
use Rattle.ug_groups.specs.declared.told.Told.{Told}

abbrev pub says_of : Saying → packets.Says
says_of (sayings.Withdrawn keys) = packets.Withdrawn keys.items
says_of (sayings.Announced o keys) = packets.Announced o keys.items
says_of sayings.EndOfRib = packets.EndOfRib
says_of sayings.RefreshBegins = packets.RefreshBegins
says_of sayings.RefreshEnds = packets.RefreshEnds

-- a packet: the number of the step that formatted it, what it says, and the text that its members share
pub record Packed : Type 0 where
  pub made : ℕ
  pub says : packets.Says
  pub shared : Shared

abbrev pub packed_of : Told → Packed
packed_of t = record { made = t.made; says = says_of t.saying.value; shared = t.packet }

-- the packet as the machine's definitions have it
abbrev pub said : Packed → packets.Packet
said p = record { made = p.made; says = p.says }
