-- Values by name.
use Rattle.std.specs.Prelude.{ℕ, Bool, true, false, List, [], ◌∷◌, Option, Some, None, if◌then◌else◌}
use Rattle.ug_types.specs.Ip.{IpPrefix}
use Rattle.ug_types.specs.declared.named.Named.{Named}
use Rattle.ug_types.specs.Bytes.{same_bytes}
use Rattle.ug_policy.specs.declared.list_entry.ListEntry.{ListEntry}
use Rattle.ug_policy.specs.Lists.{permits}

-- the first value of that name
abbrev pub value_named : {T : Type 0} → List (Named T) → List ℕ → Option T
value_named [] name = None
value_named (x ∷ xs) name = if same_bytes x.name name then Some x.value else value_named xs name

-- a prefix list and its name
abbrev pub NamedList : Type 0
NamedList = Named (List ListEntry)

-- a list that is not there permits nothing
abbrev pub list_permits : Option (List ListEntry) → IpPrefix → Bool
list_permits None p = false
list_permits (Some entries) p = permits entries p

-- the list of that name permits the prefix, or no list is named
abbrev pub is_permitted : List NamedList → IpPrefix → Option (List ℕ) → Bool
is_permitted lists p None = true
is_permitted lists p (Some name) = list_permits (value_named lists name) p
