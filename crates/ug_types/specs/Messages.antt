-- What messages say, as plain data.
use Rattle.std.specs.Prelude.{List, Option}
use Rattle.ug_types.specs.declared.key.Key.{Key}
use Rattle.ug_types.specs.declared.message.Update.{Update}
use Rattle.ug_types.specs.declared.message.Item.{Item}
use Rattle.ug_types.specs.declared.message.Item.TheVariants as items
use Rattle.ug_types.specs.Attributes.{Attributes}

-- what an UPDATE says (RFC 4271 section 4.3)
pub record Changes : Type 0 where
  pub withdrawn : List Key
  pub attrs : Option Attributes
  pub announced : List Key

-- what one message says: an UPDATE, the begin or the end of a refresh (RFC 7313 section 3.2), or nothing to heed
pub data Message : Type 0 where
  Updates : Changes → Message
  Begins : Message
  Ends : Message
  Ignored : Message

abbrev pub changes_of : Update → Changes
changes_of u = record { withdrawn = u.withdrawn.items; attrs = u.attrs; announced = u.announced.items }

abbrev pub message_of : Item → Message
message_of (items.Update u) = Updates (changes_of u)
message_of items.Begin = Begins
message_of items.End = Ends
message_of items.Ignored = Ignored
