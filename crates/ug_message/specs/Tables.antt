-- What messages leave at the receiver (RFC 4271 sections 3.1 and 4.3, RFC 7911 section 5, RFC 7313 section 4).
use Rattle.std.specs.Prelude.{Bool, false, ◌&&◌, ◌||◌, not, List, [], ◌∷◌, Option, None, is_some, if◌then◌else◌}
use Rattle.std.specs.List.{list_any}
use Rattle.ug_types.specs.declared.key.Key.{Key}
use Rattle.ug_types.specs.Keys.{same_key}
use Rattle.ug_types.specs.Attributes.{Attributes}
use Rattle.ug_types.specs.Messages.{Changes, Message, Updates, Begins, Ends, Ignored}

-- a table: for each key the attributes of its route, or that there is none
abbrev pub Table : Type 0
Table = Key → Option Attributes

abbrev pub no_routes : Table
no_routes key = None

-- what a receiver has: its table, and the keys that are stale since a refresh began
pub record Reading : Type 0 where
  pub table : Key → Option Attributes
  pub stale : Key → Bool

abbrev pub nothing_read : Reading
nothing_read = record { table = no_routes; stale = λ _. false }

abbrev pub among : List Key → Key → Bool
among keys key = list_any (same_key key) keys

-- the withdrawn keys go, and then each announced key has the update's attributes
abbrev pub changed : Changes → Table → Table
changed u table key = if among u.announced key then u.attrs else (if among u.withdrawn key then None else table key)

-- The begin of a refresh makes every route stale; what the messages after it name is stale no more; the end
-- removes what still is.
abbrev pub applied : Reading → Message → Reading
applied r (Updates u) = record { table = changed u r.table; stale = λ key. r.stale key && not (among u.announced key || among u.withdrawn key) }
applied r Begins = record { table = r.table; stale = λ key. is_some (r.table key) }
applied r Ends = record { table = λ key. if r.stale key then None else r.table key; stale = λ _. false }
applied r Ignored = r

abbrev pub reading_from : Reading → List Message → Reading
reading_from r [] = r
reading_from r (m ∷ ms) = reading_from (applied r m) ms

-- the table that the messages of a session leave
abbrev pub table_of : List Message → Table
table_of messages = (reading_from nothing_read messages).table

-- the table after each message, the first of them first
abbrev pub tables_from : Reading → List Message → List Table
tables_from r [] = []
tables_from r (m ∷ ms) = (applied r m).table ∷ tables_from (applied r m) ms

abbrev pub tables_after : List Message → List Table
tables_after messages = tables_from nothing_read messages
