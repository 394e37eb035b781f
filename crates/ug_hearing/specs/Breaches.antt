-- What is asked of the messages of a session, its breaches, and which of them comes first.
use Rattle.std.specs.Prelude.{◌≡◌, ◌≢◌, ℕ, suc, ◌<◌, ◌≤◌, ◌⊎◌, Bool, true, false, List, [], ◌∷◌, length, take, Option, Some, None}
use Rattle.std.specs.declared.cmp.Ordering.{Ordering}
use Rattle.std.specs.declared.cmp.Ordering.TheVariants.{Greater}
use Rattle.std.specs.Ordering.{nat_cmp, ordering_then}
use Rattle.std.specs.Option.{option_cmp}
use Rattle.ug_types.specs.declared.capabilities.Capabilities.{Capabilities}
use Rattle.ug_types.specs.declared.key.Key.{Key}
use Rattle.ug_types.specs.declared.mark.Mark.{Mark}
use Rattle.ug_types.specs.Messages.{Message}
use Rattle.ug_types.specs.Orders.{key_cmp}
use Rattle.ug_message.specs.Received.{IsStream, IsFaultyAt}
use Rattle.ug_message.specs.Tables.{Table, table_of, tables_after}
use Rattle.ug_message.specs.Climbing.{ClimbsFrom, NeverBack, values_at}
use Rattle.ug_hearing.specs.declared.breach.Ending.{Ending}
use Rattle.ug_hearing.specs.declared.breach.Ending.TheVariants.{Whole, Cut, Malformed}
use Rattle.ug_hearing.specs.declared.breach.BreachKind.{BreachKind}
use Rattle.ug_hearing.specs.declared.breach.BreachKind.TheVariants as kinds
use Rattle.ug_hearing.specs.declared.breach.Breach.{Breach}

-- Two tables have the same routes.
abbrev pub AreAlike : Table → Table → Type 0
AreAlike one other = (key : Key) → one key ≡ other key

abbrev pub IsOneOf : {T : Type 0} → T → List T → Type 0
IsOneOf x [] = ⊥
IsOneOf x (y ∷ ys) = (x ≡ y) ⊎ IsOneOf x ys

-- The bytes are these messages, and then that.
abbrev pub IsReadAs : Capabilities → List ℕ → List Message → Ending → Type 0
IsReadAs c bytes messages Whole = IsStream c bytes messages []
IsReadAs c bytes messages Cut = (rest : List ℕ) × IsStream c bytes messages rest × (rest ≢ [])
IsReadAs c bytes messages Malformed = (cause : ℕ) × (offset : ℕ) × IsFaultyAt c bytes messages cause offset

abbrev pub breach_of : BreachKind → ℕ → Option Key → Breach
breach_of kind message key = record { kind = kind; message = message; key = key }

-- the number of a kind, from 1 to 4, in their order
abbrev pub kind_number : BreachKind → ℕ
kind_number kinds.Unread = 1
kind_number kinds.Stuck = 2
kind_number kinds.Amiss = 3
kind_number kinds.Off = 4

-- The first by message, then by kind, then by key, and a breach without key before those with one.
abbrev pub breach_cmp : Breach → Breach → Ordering
breach_cmp a b = ordering_then (nat_cmp a.message b.message) (ordering_then (nat_cmp (kind_number a.kind) (kind_number b.kind)) (option_cmp key_cmp a.key b.key))

-- what follows the messages must not: nothing may, or less than a message of a lost session
abbrev pub IsUnread : Ending → Bool → Type 0
IsUnread Whole lost = ⊥
IsUnread Cut lost = lost ≡ false
IsUnread Malformed lost = Unit {0}

-- A session, as it was read. `past` are the tables that its own have to follow; `table_at` is the whole table of a version,
-- of which `syncs` ask, and `last` that of the end, where the session is still open.
module _ (past : List Table) (table_at : ℕ → Option Table) (syncs : List Mark) (lost : Bool) (last : Option Table) (messages : List Message) (ending : Ending) where
  -- The key climbs up to this message, and no further.
  pub record IsStuck (key : Key) (m : ℕ) : Type 0 where
    pub before : ClimbsFrom (values_at key past) 0 (take m (values_at key (tables_after messages)))
    pub stuck : ClimbsFrom (values_at key past) 0 (take (suc m) (values_at key (tables_after messages))) → ⊥
    pub there : m < length messages

  -- At a mark of `sync` a key isn't as in the whole table.
  pub record IsAmiss (key : Key) (m : ℕ) : Type 0 where
    pub mark : Mark
    pub among : IsOneOf mark syncs
    pub handed : mark.handed ≡ m
    pub within : m ≤ length messages
    pub table : Table
    pub of_version : table_at mark.version ≡ Some table
    pub differs : table_of (take m messages) key ≢ table key

  -- A session that wasn't lost ends before a mark of `sync`.
  pub record IsShort : Type 0 where
    pub mark : Mark
    pub among : IsOneOf mark syncs
    pub short : length messages < mark.handed
    pub whole : lost ≡ false

  -- At the end of a session that is open a key isn't as in the whole table.
  pub record IsOff (key : Key) : Type 0 where
    pub table : Table
    pub is_open : last ≡ Some table
    pub whole : lost ≡ false
    pub differs : table_of messages key ≢ table key

  pub data IsBreach : Breach → Type 0 where
    Unread : IsUnread ending lost → IsBreach (breach_of kinds.Unread (suc (length messages)) None)
    Stuck : (key : Key) (m : ℕ) → IsStuck key m → IsBreach (breach_of kinds.Stuck (suc m) (Some key))
    Amiss : (key : Key) (m : ℕ) → IsAmiss key m → IsBreach (breach_of kinds.Amiss m (Some key))
    Short : IsShort → IsBreach (breach_of kinds.Amiss (length messages) None)
    Off : (key : Key) → IsOff key → IsBreach (breach_of kinds.Off (length messages) (Some key))

  -- the first breach of a session
  pub record IsFirstBreach (b : Breach) : Type 0 where
    pub is : IsBreach b
    pub first : (other : Breach) → IsBreach other → breach_cmp b other ≢ Greater

  -- The whole table of the mark's version is there after so many messages.
  pub record IsWholeAt (m : Mark) : Type 0 where
    pub within : m.handed ≤ length messages
    pub table : Table
    pub of_version : table_at m.version ≡ Some table
    pub whole : AreAlike (table_of (take m.handed messages)) table

  -- No breach is there: the messages are right, and so is what follows them.
  pub record IsHeardRight : Type 0 where
    pub read : IsUnread ending lost → ⊥
    pub never_back : NeverBack past (tables_after messages)
    pub synced : (m : Mark) → IsOneOf m syncs → IsWholeAt m ⊎ ((length messages < m.handed) × (lost ≡ true))
    pub end : (table : Table) → last ≡ Some table → lost ≡ false → AreAlike (table_of messages) table
