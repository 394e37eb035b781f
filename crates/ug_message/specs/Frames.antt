-- How long the message of some keys is.
use Rattle.std.specs.Prelude.{ℕ, ◌+◌, Bool, true, false, List, [], length, Option, Some, None, is_some}
use Rattle.ug_types.specs.declared.family.Family.{Family}
use Rattle.ug_types.specs.declared.family.Family.TheVariants.{V4, V6}
use Rattle.ug_types.specs.declared.capabilities.Capabilities.{Capabilities}
use Rattle.ug_types.specs.declared.key.Key.{Key}
use Rattle.ug_types.specs.Attributes.{Attributes}
use Rattle.ug_types.specs.Messages.{Message}
use Rattle.ug_message.specs.Spelling.{attributes, attributes_but_next_hop}
use Rattle.ug_message.specs.Spellable.{can_be_spelled}
use Rattle.ug_message.specs.Heads.{size_around}
use Rattle.ug_message.specs.Fitting.{announcing, withdrawing}

-- the message that announces keys with these attributes, or without any withdraws them
abbrev pub said : Option Attributes → List Key → Message
said None keys = withdrawing keys
said (Some a) keys = announcing a keys

-- A session's messages can spell the attributes, where there are any.
abbrev pub are_spellable : Capabilities → Option Attributes → Bool
are_spellable c None = true
are_spellable c (Some a) = can_be_spelled c.family a

-- their text: the next hop of IPv6 routes stands with the routes (RFC 4760 section 3)
abbrev pub attributes_text : Family → Option Attributes → List ℕ
attributes_text family None = []
attributes_text V4 (Some a) = attributes a
attributes_text V6 (Some a) = attributes_but_next_hop a

-- how many bytes routes take that have so many themselves: those of IPv6 stand in an attribute (RFC 4760)
abbrev pub routes_around : Family → Bool → ℕ → ℕ
routes_around V4 announces n = n
routes_around V6 false n = size_around (3 + n)
routes_around V6 true n = size_around (21 + n)

-- how many bytes the message has whose routes take so many
abbrev pub message_size : Capabilities → Option Attributes → ℕ → ℕ
message_size c attrs n = 23 + (length (attributes_text c.family attrs) + routes_around c.family (is_some attrs) n)
