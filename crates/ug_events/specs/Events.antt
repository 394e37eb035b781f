-- Events, and the lines of a file that say them, as plain data.
use Rattle.std.specs.Prelude.{◌≡◌, ℕ, ◌<◌, Bool, true, false, ◌&&◌, List, [], ◌∷◌, Option, None}
use Rattle.std.specs.List.{list_all}
use Rattle.ug_types.specs.declared.family.Family.{Family}
use Rattle.ug_types.specs.Ip.{IpPrefix}
use Rattle.ug_types.specs.Attributes.{Attributes, refusal_of}
use Rattle.ug_message.specs.Spellable.{is_number, is_prefix, has_ipv4_addresses, can_be_spelled}
use Rattle.ug_policy.specs.declared.list_entry.ListEntry.{ListEntry}
use Rattle.ug_policy.specs.Lists.{list_refusal}
use Rattle.ug_policy.specs.OrfChanges.{OrfRequest, is_change}

-- a path as an event gives it: its identifier, the peer that it is from or none for the speaker itself, and its attributes
pub record GivenPath : Type 0 where
  pub id : ℕ
  pub from : Option (List ℕ)
  pub attrs : Attributes

-- a session of a peer comes up, or goes down; a prefix has these paths, in place of those before, or no path any more;
-- a peer has a policy, or none; a prefix list has exactly these entries; a peer asks for all routes again, of its own
-- or by a message; a peer changes its own list
pub data Happening : Type 0 where
  ComesUp : (peer : List ℕ) → Happening
  GoesDown : (peer : List ℕ) → Happening
  HasPaths : (prefix : IpPrefix) (paths : List GivenPath) → Happening
  HasNone : (prefix : IpPrefix) → Happening
  HasPolicy : (peer : List ℕ) (policy : Option (List ℕ)) → Happening
  HasEntries : (name : List ℕ) (entries : List ListEntry) → Happening
  AsksAgain : (peer : List ℕ) → Happening
  SendsRequest : (peer : List ℕ) → Happening
  SendsList : (peer : List ℕ) (request : OrfRequest) → Happening

-- what a line says: nothing, a mark, or an event
pub data Saying : Type 0 where
  SaysNothing : Saying
  SaysSync : Saying
  Says : Happening → Saying

-- A path has an identifier, and attributes within the bounds of those from within. Its AGGREGATOR and ORIGINATOR_ID are
-- IPv4 addresses (RFC 4271 section 4.3, RFC 4456 section 8).
abbrev pub IsGiven : GivenPath → Type 0
IsGiven g = (0 < g.id) × (refusal_of g.attrs ≡ None) × (has_ipv4_addresses g.attrs ≡ true)

abbrev pub AreGiven : List GivenPath → Type 0
AreGiven [] = Unit {0}
AreGiven (g ∷ given) = IsGiven g × AreGiven given

abbrev pub is_some_path : List GivenPath → Bool
is_some_path [] = false
is_some_path (g ∷ given) = true

-- A message can tell the path to a prefix of that family: its numbers have 32 bits, its next hop is of the family, and no
-- address has a bit past its family's width.
abbrev pub is_in_range : Family → GivenPath → Bool
is_in_range family g = is_number g.id && can_be_spelled family g.attrs

-- so it is of a prefix and the paths to it
abbrev pub are_in_range : IpPrefix → List GivenPath → Bool
are_in_range prefix given = is_prefix prefix.family prefix && list_all (is_in_range prefix.family) given

-- What each event keeps: a prefix that has paths has at least one, each as above, and a message can tell each; the
-- entries of a list are ones that a prefix list is made of; each entry that a peer adds to its own list is good.
abbrev pub IsEvent : Happening → Type 0
IsEvent (HasPaths prefix paths) = (is_some_path paths ≡ true) × (AreGiven paths × (are_in_range prefix paths ≡ true))
IsEvent (HasEntries name entries) = list_refusal entries ≡ None
IsEvent (SendsList peer request) = list_all (λ c. is_change c.action c.entry) request.entries ≡ true
IsEvent (ComesUp peer) = Unit {0}
IsEvent (GoesDown peer) = Unit {0}
IsEvent (HasNone prefix) = Unit {0}
IsEvent (HasPolicy peer policy) = Unit {0}
IsEvent (AsksAgain peer) = Unit {0}
IsEvent (SendsRequest peer) = Unit {0}

abbrev pub KeepsItsRules : Saying → Type 0
KeepsItsRules SaysNothing = Unit {0}
KeepsItsRules SaysSync = Unit {0}
KeepsItsRules (Says event) = IsEvent event
