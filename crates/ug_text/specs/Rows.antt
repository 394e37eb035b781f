-- The text of a row of a table: a route, with each attribute as an event line spells it.
use Rattle.std.specs.Prelude.{ℕ, List, ◌++◌, codes}
use Rattle.std.specs.Fmt.{decimal}
use Rattle.ug_types.specs.declared.key.Key.{Key}
use Rattle.ug_types.specs.Attributes.{Attributes}
use Rattle.ug_text.specs.Texts.{prefix_text, attributes_text}

-- the route: its prefix and its identifier
unfoldable pub route_text : Key → List ℕ
route_text key = prefix_text key.prefix ++ codes " id=" ++ decimal key.id

-- the attributes, to the end of the line
unfoldable pub ending_text : Attributes → List ℕ
ending_text a = attributes_text a ++ codes "\n"

-- the whole line
abbrev pub row_text : Key → Attributes → List ℕ
row_text key a = route_text key ++ ending_text a
