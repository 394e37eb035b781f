-- The fields of a table, one after the other.
use Rattle.std.specs.Prelude.{ℕ, Bool, false, List, ◌++◌, Option, Some, None, Ok, codes, if◌then◌else◌}
use Rattle.std.specs.List.{list_any}
use Rattle.toml.specs.Data.{Data, table, Members, no_members, member, get, as_str, as_table}
use Rattle.toml.specs.Parse.{parse_document}
use Rattle.std.specs.Str.{is_utf8}
use Rattle.ug_types.specs.declared.family.Family.{Family}
use Rattle.ug_types.specs.declared.family.Family.TheVariants.{V4, V6}
use Rattle.ug_types.specs.Bytes.{same_bytes}
use Rattle.ug_config.specs.declared.kind.Need.{Need}
use Rattle.ug_config.specs.declared.kind.Need.TheVariants as needs
use Rattle.ug_config.specs.FieldRows.{FieldRow}
use Rattle.ug_config.specs.declared.given.Given.{Given}
use Rattle.ug_config.specs.declared.given.Given.TheVariants as givens
use Rattle.ug_config.specs.Reads.{Reads, ◌>>=◌, refused, or_refused, each_read, no_document, missing, malformed, unknown_field}
use Rattle.ug_config.specs.Kinds.{value_as}

-- The table that a text stands for. For a text that is none the field is `-`.
abbrev pub parsed : Option Members → Reads Data
parsed None = refused no_document (codes "-")
parsed (Some members) = Ok (table members)

abbrev pub document : List ℕ → Reads Data
document bytes = if is_utf8 bytes then parsed (parse_document bytes) else refused no_document (codes "-")

-- a field that was read
pub record Entry : Type 0 where
  pub name : List ℕ
  pub given : Given

-- what stands for a field that isn't there
abbrev pub default_of : Need → Option Given
default_of needs.Required = None
default_of needs.Optional = Some givens.Absent
default_of (needs.Number n) = Some (givens.Number n)
default_of needs.False = Some (givens.Flag false)
default_of needs.Ipv4 = Some (givens.Family V4)

-- a required field that is missing, and then a value that is of another kind
abbrev pub given : Family → List ℕ → FieldRow → Option Data → Reads Given
given family way r None = or_refused missing (way ++ r.name) (default_of r.need)
given family way r (Some d) = or_refused malformed (way ++ r.name) (value_as family r.kind d)

unfoldable pub entry : Family → List ℕ → Data → FieldRow → Reads Entry
entry family way d r = do
  g ← given family way r (get (r.name) d)
  Ok (record { name = r.name; given = g })

abbrev pub is_row : List FieldRow → List ℕ → Bool
is_row rows name = list_any (λ (r : FieldRow). same_bytes r.name name) rows

-- the first field, in the order of their bytes, that no row has
abbrev pub unknown_in : List FieldRow → Members → Option (List ℕ)
unknown_in rows no_members = None
unknown_in rows (member name d members) = if is_row rows name then unknown_in rows members else Some name

abbrev pub unknown : List FieldRow → Option Members → Option (List ℕ)
unknown rows None = None
unknown rows (Some members) = unknown_in rows members

abbrev pub where_known : List ℕ → List Entry → Option (List ℕ) → Reads (List Entry)
where_known way entries None = Ok entries
where_known way entries (Some name) = refused unknown_field (way ++ name)

-- The fields in the order of the rows, and then those that no row has. The way leads to the table and ends in a point.
unfoldable pub fields : Family → List ℕ → List FieldRow → Data → Reads (List Entry)
fields family way rows d = do
  entries ← each_read (entry family way d) rows
  where_known way entries (unknown rows (as_table d))
