-- What there is to know of a path attribute, side by side, and what has been read of a message's attributes so far.
use Rattle.std.specs.Prelude.{ℕ, Bool, false, ◌==◌, ◌&&◌, ◌||◌, not, bit_and, List, [], ◌∷◌, Option, Some, None, Result, if◌then◌else◌}
use Rattle.std.specs.List.{list_any}
use Rattle.ug_types.specs.declared.attrs.Aggregator.{Aggregator}
use Rattle.ug_types.specs.Ip.{IpAddress}
use Rattle.ug_types.specs.Attributes.{PathSegment}
use Rattle.ug_message.specs.Attribute.{optional_transitive, partial, has, attribute}

-- routes, and the place of the first of them
pub record Placed : Type 0 where
  pub place : ℕ
  pub routes : List ℕ

-- routes that are announced with their next hop
pub record Reach : Type 0 where
  pub next_hop : IpAddress
  pub routes : Placed

-- the types that were there, known or not, and the values
pub record ReadSoFar : Type 0 where
  pub types : List ℕ
  pub origin : Option ℕ
  pub path : Option (List PathSegment)
  pub next_hop : Option IpAddress
  pub med : Option ℕ
  pub local_pref : Option ℕ
  pub atomic : Bool
  pub aggregator : Option Aggregator
  pub communities : List ℕ
  pub originator : Option IpAddress
  pub clusters : List ℕ
  pub reach : Option Reach
  pub unreach : Option Placed

abbrev pub nothing_read : ReadSoFar
nothing_read = record { types = []; origin = None; path = None; next_hop = None; med = None; local_pref = None; atomic = false; aggregator = None; communities = []; originator = None; clusters = []; reach = None; unreach = None }

abbrev pub was_there : ℕ → ReadSoFar → Bool
was_there type r = list_any (λ t. t == type) r.types

-- An attribute: the number of its type, its flags, which lengths its value can have, its value put to what has been
-- read so far (where it stands at a place of all attributes), or the number of what is wrong with it.
pub record Kind : Type 0 where
  pub type : ℕ
  pub flags : ℕ
  pub is_length : ℕ → Bool
  pub read : ℕ → List ℕ → ReadSoFar → Result ReadSoFar ℕ

-- an attribute of that kind, with that value
abbrev pub attribute_of : Kind → List ℕ → List ℕ
attribute_of kind value = attribute kind.flags kind.type value

-- The optional and the transitive bit are the kind's, and the partial bit is set on an optional transitive one at
-- most (RFC 4271 section 4.3).
abbrev pub are_flags : Kind → ℕ → Bool
are_flags kind flags = (bit_and flags 192 == kind.flags) && ((kind.flags == optional_transitive) || not (has flags partial))

-- the row of that type
abbrev pub kind_among : List Kind → ℕ → Option Kind
kind_among [] type = None
kind_among (kind ∷ kinds) type = if kind.type == type then Some kind else kind_among kinds type
