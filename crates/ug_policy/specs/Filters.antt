-- What a peer filters its routes with (RFC 5292).
use Rattle.std.specs.Prelude.{◌≡◌, Bool, true, List, [], ◌∷◌}
use Rattle.ug_types.specs.Ip.{IpPrefix}
use Rattle.ug_policy.specs.declared.list_entry.ListEntry.{ListEntry}
use Rattle.ug_policy.specs.Order.{rises}
use Rattle.ug_policy.specs.Lists.{seq_of, permits}

-- the entries stand in ascending order of their sequence numbers, which are all different
abbrev pub IsFilter : List ListEntry → Type 0
IsFilter entries = rises seq_of entries ≡ true

-- The first entry that matches decides, and where none does the prefix is kept back. A filter without entries keeps
-- nothing back.
abbrev pub filter_permits : List ListEntry → IpPrefix → Bool
filter_permits [] p = true
filter_permits (e ∷ entries) p = permits (e ∷ entries) p
