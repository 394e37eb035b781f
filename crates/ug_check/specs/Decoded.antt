-- What a stream of messages says, and the report on it.
use Rattle.std.specs.Prelude.{◌≡◌, ℕ, ◌+◌, List, [], ◌∷◌, ◌++◌, length, map, codes, if◌then◌else◌}
use Rattle.std.specs.List.{concat}
use Rattle.std.specs.List.Sorted.{IsStrictlySortedBy}
use Rattle.std.specs.Map.{keys_of}
use Rattle.std.specs.Fmt.{decimal}
use Rattle.ug_types.specs.declared.capabilities.Capabilities.{Capabilities}
use Rattle.ug_types.specs.declared.family.Family.{Family}
use Rattle.ug_types.specs.declared.key.Key.{Key}
use Rattle.ug_types.specs.Orders.{key_cmp}
use Rattle.ug_types.specs.Attributes.{Attributes}
use Rattle.ug_types.specs.Messages.{Message}
use Rattle.ug_message.specs.Tables.{Table, table_of}
use Rattle.ug_message.specs.Reading.{Spells, ends_rib}
use Rattle.ug_message.specs.Received.{IsStream}
use Rattle.ug_check.specs.Rows.{row_at}
use Rattle.ug_text.specs.Rows.{row_text}

-- The texts spell these messages, one each.
abbrev pub EachSpells : Capabilities → List (List ℕ) → List Message → Type 0
EachSpells session [] [] = Unit {0}
EachSpells session [] (m ∷ ms) = ⊥
EachSpells session (text ∷ texts) [] = ⊥
EachSpells session (text ∷ texts) (m ∷ ms) = Spells session text m × EachSpells session texts ms

-- how many of these texts of a session are End-of-RIB
abbrev pub end_of_rib_texts : Family → List (List ℕ) → ℕ
end_of_rib_texts family [] = 0
end_of_rib_texts family (text ∷ texts) = (if ends_rib family text then 1 else 0) + end_of_rib_texts family texts

-- The rows are those of the table, in key order, each key once.
pub record AreRows (rows : List (Key × Attributes)) (table : Table) : Type 0 where
  pub ascending : IsStrictlySortedBy key_cmp (keys_of rows)
  pub each : (key : Key) → row_at rows key ≡ table key

-- The stream is these texts, which spell these messages, and then a rest that is less than a message; the table that
-- the messages leave has these rows.
pub record IsDecoded (session : Capabilities) (stream : List ℕ) (texts : List (List ℕ)) (messages : List Message) (rest : List ℕ) (rows : List (Key × Attributes)) : Type 0 where
  pub read : IsStream session stream messages rest
  pub spelled : EachSpells session texts messages
  pub parts : stream ≡ concat texts ++ rest
  pub table : AreRows rows (table_of messages)

-- `messages M eors E rows K rest R`
unfoldable pub totals_text : ℕ → ℕ → ℕ → ℕ → List ℕ
totals_text messages eors rows rest =
    codes "messages " ++ decimal messages ++ codes " eors " ++ decimal eors ++ codes " rows " ++ decimal rows ++ codes " rest " ++ decimal rest ++ codes "\n"

abbrev pub row_texts : List (Key × Attributes) → List (List ℕ)
row_texts rows = map (λ (row : Key × Attributes). row_text row.0 row.1) rows

-- the report on a stream of such a session, line by line
abbrev pub check_lines : Family → List (List ℕ) → List Message → List ℕ → List (Key × Attributes) → List (List ℕ)
check_lines family texts messages rest rows = row_texts rows ++ totals_text (length messages) (end_of_rib_texts family texts) (length rows) (length rest) ∷ []

-- The stream is decoded, and the table that it leaves has so many rows.
pub record LeavesRows (session : Capabilities) (stream : List ℕ) (count : ℕ) : Type 0 where
  pub texts : List (List ℕ)
  pub messages : List Message
  pub rest : List ℕ
  pub rows : List (Key × Attributes)
  pub decoded : IsDecoded session stream texts messages rest rows
  pub many : length rows ≡ count
