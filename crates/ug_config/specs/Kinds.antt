-- What the value of a field has to be, and what it then says.
use Rattle.std.specs.Prelude.{ℕ, ℤ, pos, negsuc, nat_le, Bool, true, false, ◌&&◌, List, [], ◌∷◌, Option, Some, None, codes, is_some, unwrap_or, if◌then◌else◌}
use Rattle.std.specs.List.{list_all}
use Rattle.std.specs.Option.{option_map}
use Rattle.toml.specs.Data.{Data, table, Items, no_items, item, get, as_str, as_integer, as_bool, as_array, as_table}
use Rattle.ug_types.specs.Names.{is_name}
use Rattle.ug_types.specs.declared.family.Family.{Family}
use Rattle.ug_types.specs.declared.family.Family.TheVariants.{V4, V6}
use Rattle.ug_types.specs.Bytes.{same_bytes}
use Rattle.ug_text.specs.Cutting.{◌>>=◌, cut_at}
use Rattle.ug_text.specs.Numbers.{positive_number, community}
use Rattle.ug_text.specs.Addresses.{address_in, prefix_in}
use Rattle.ug_text.specs.Paths.{origin}
use Rattle.ug_policy.specs.declared.map_entry.OnMatch.{OnMatch}
use Rattle.ug_policy.specs.declared.map_entry.OnMatch.TheVariants as on_matches
use Rattle.ug_config.specs.declared.kind.Kind.{Kind}
use Rattle.ug_config.specs.declared.kind.Kind.TheVariants as kinds
use Rattle.ug_config.specs.declared.given.Given.{Given}
use Rattle.ug_config.specs.declared.given.Given.TheVariants as givens

-- ---- numbers and words

abbrev pub natural : ℤ → Option ℕ
natural (pos n) = Some n
natural (negsuc n) = None

abbrev pub between : ℕ → ℕ → ℕ → Option ℕ
between least most n = if nat_le least n && nat_le n most then Some n else None

abbrev pub number_in : ℕ → ℕ → Data → Option ℕ
number_in least most d = as_integer d >>= λ z. natural z >>= λ n. between least most n

abbrev pub action : List ℕ → Option Bool
action text = if same_bytes text (codes "permit") then Some true else (if same_bytes text (codes "deny") then Some false else None)

abbrev pub family : List ℕ → Option Family
family text = if same_bytes text (codes "ipv4") then Some V4 else (if same_bytes text (codes "ipv6") then Some V6 else None)

abbrev pub goto_after : List ℕ × List ℕ → Option OnMatch
goto_after parts = if same_bytes parts.0 (codes "goto") then (positive_number parts.1 >>= λ n. Some (on_matches.Goto n)) else None

-- `next`, or `goto`, one space, and a number
abbrev pub on_match : List ℕ → Option OnMatch
on_match text = if same_bytes text (codes "next") then Some on_matches.Next else (cut_at 32 text >>= goto_after)

abbrev pub name : List ℕ → Option (List ℕ)
name text = if is_name text then Some text else None

-- `local` names the speaker itself
abbrev pub peer_name : List ℕ → Option (List ℕ)
peer_name text = if same_bytes text (codes "local") then None else name text

-- only a table of the IPv4 family may set it
abbrev pub ipv4_flag : Family → Bool → Option Bool
ipv4_flag V4 b = Some b
ipv4_flag V6 true = None
ipv4_flag V6 false = Some false

-- ---- arrays

abbrev pub list_of : Items → List Data
list_of no_items = []
list_of (item d ds) = d ∷ list_of ds

abbrev pub elements : Data → Option (List Data)
elements d = option_map list_of (as_array d)

-- what each element says, where each can be read
abbrev pub each : {A : Type 0} → (Data → Option A) → List Data → Option (List A)
each read [] = Some []
each read (d ∷ ds) = do
  x ← read d
  xs ← each read ds
  Some (x ∷ xs)

abbrev pub is_table : Data → Bool
is_table d = is_some (as_table d)

abbrev pub community_in : Data → Option ℕ
community_in d = as_str d >>= community

-- ---- what a value says

abbrev pub where_true : Bool → Option Given
where_true b = if b then Some givens.Inner else None

-- what a value of that kind says, in a table of that family; none where it is of another kind, out of range or malformed
abbrev pub value_as : Family → Kind → Data → Option Given
value_as f (kinds.Number least most) d = number_in least most d >>= λ n. Some (givens.Number n)
value_as f kinds.Length d = number_in 0 32 d >>= λ n. Some (givens.Octet n)
value_as f kinds.Flag d = as_bool d >>= λ b. Some (givens.Flag b)
value_as f kinds.Ipv4Flag d = as_bool d >>= λ b. ipv4_flag f b >>= λ x. Some (givens.Flag x)
value_as f kinds.Name d = as_str d >>= λ text. name text >>= λ x. Some (givens.Name x)
value_as f kinds.PeerName d = as_str d >>= λ text. peer_name text >>= λ x. Some (givens.Name x)
value_as f kinds.Ipv4 d = as_str d >>= λ text. address_in V4 text >>= λ x. Some (givens.Address x)
value_as f kinds.Ipv4Prefix d = as_str d >>= λ text. prefix_in V4 text >>= λ x. Some (givens.Prefix x)
value_as f kinds.Family d = as_str d >>= λ text. family text >>= λ x. Some (givens.Family x)
value_as f kinds.Address d = as_str d >>= λ text. address_in f text >>= λ x. Some (givens.Address x)
value_as f kinds.Subnet d = as_str d >>= λ text. prefix_in f text >>= λ x. Some (givens.Prefix x)
value_as f kinds.Action d = as_str d >>= λ text. action text >>= λ x. Some (givens.Flag x)
value_as f kinds.OnMatch d = as_str d >>= λ text. on_match text >>= λ x. Some (givens.OnMatch x)
value_as f kinds.Origin d = as_str d >>= λ text. origin text >>= λ x. Some (givens.Octet x)
value_as f kinds.Community d = community_in d >>= λ x. Some (givens.Number x)
value_as f kinds.Numbers d = elements d >>= λ ds. each (number_in 1 4294967295) ds >>= λ x. Some (givens.Numbers x)
value_as f kinds.Communities d = elements d >>= λ ds. each community_in ds >>= λ x. Some (givens.Numbers x)
value_as f kinds.Table d = where_true (is_table d)
value_as f kinds.Tables d = elements d >>= λ ds. where_true (list_all is_table ds)

-- ---- what a table holds

-- the tables of the array at a name
abbrev pub tables_at : List ℕ → Data → List Data
tables_at name d = unwrap_or (get name d >>= elements) []

abbrev pub family_named : Option (List ℕ) → Family
family_named None = V4
family_named (Some text) = if same_bytes text (codes "ipv6") then V6 else V4

-- the family that a table names
abbrev pub family_at : Data → Family
family_at d = family_named (get (codes "family") d >>= as_str)
