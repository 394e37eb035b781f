-- What the fields that were read say, by their names.
use Rattle.std.specs.Prelude.{ℕ, Bool, List, [], ◌∷◌, Option, Some, None, if◌then◌else◌}
use Rattle.ug_types.specs.Ip.{IpAddress, IpPrefix}
use Rattle.ug_types.specs.Bytes.{same_bytes}
use Rattle.ug_policy.specs.declared.map_entry.OnMatch.{OnMatch}
use Rattle.ug_policy.specs.declared.map_entry.OnMatch.TheVariants as on_matches
use Rattle.ug_config.specs.declared.given.Given.{Given}
use Rattle.ug_config.specs.declared.given.Given.TheVariants as givens
use Rattle.ug_config.specs.Tables.{Entry}

abbrev pub value_at : List ℕ → List Entry → Given
value_at name [] = givens.Absent
value_at name (e ∷ entries) = if same_bytes e.name name then e.given else value_at name entries

abbrev pub as_number : Given → Option ℕ
as_number (givens.Number n) = Some n
as_number _ = None

abbrev pub as_octet : Given → Option ℕ
as_octet (givens.Octet n) = Some n
as_octet _ = None

abbrev pub as_flag : Given → Option Bool
as_flag (givens.Flag b) = Some b
as_flag _ = None

abbrev pub as_name : Given → Option (List ℕ)
as_name (givens.Name name) = Some name
as_name _ = None

abbrev pub as_address : Given → Option IpAddress
as_address (givens.Address a) = Some a
as_address _ = None

abbrev pub as_prefix : Given → Option IpPrefix
as_prefix (givens.Prefix p) = Some p
as_prefix _ = None

abbrev pub as_on_match : Given → Option OnMatch
as_on_match (givens.OnMatch m) = Some m
as_on_match _ = None

abbrev pub as_numbers : Given → Option (List ℕ)
as_numbers (givens.Numbers ns) = Some ns
as_numbers _ = None

abbrev pub number_at : List ℕ → List Entry → Option ℕ
number_at name entries = as_number (value_at name entries)

abbrev pub octet_at : List ℕ → List Entry → Option ℕ
octet_at name entries = as_octet (value_at name entries)

abbrev pub flag_at : List ℕ → List Entry → Option Bool
flag_at name entries = as_flag (value_at name entries)

abbrev pub name_at : List ℕ → List Entry → Option (List ℕ)
name_at name entries = as_name (value_at name entries)

abbrev pub address_at : List ℕ → List Entry → Option IpAddress
address_at name entries = as_address (value_at name entries)

abbrev pub prefix_at : List ℕ → List Entry → Option IpPrefix
prefix_at name entries = as_prefix (value_at name entries)

abbrev pub on_match_at : List ℕ → List Entry → Option OnMatch
on_match_at name entries = as_on_match (value_at name entries)

abbrev pub numbers_at : List ℕ → List Entry → Option (List ℕ)
numbers_at name entries = as_numbers (value_at name entries)
