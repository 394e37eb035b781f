-- The paths of a `paths` line: runs of words with a word `|` between.
use Rattle.std.specs.Prelude.{ℕ, Bool, List, [], ◌∷◌, codes, Ok, Err, if◌then◌else◌}
use Rattle.ug_types.specs.declared.family.Family.{Family}
use Rattle.ug_types.specs.Bytes.{same_bytes}
use Rattle.ug_events.specs.Events.{GivenPath}
use Rattle.ug_events.specs.Reads.{Reads, each_read, ◌>>=◌}
use Rattle.ug_events.specs.Fields.{Fields, no_fields, with_word, path_of_fields}

abbrev pub is_bar : List ℕ → Bool
is_bar word = same_bytes word (codes "|")

-- the first run of words, up to a bar, and the runs behind it
abbrev pub first_of : List (List (List ℕ)) → List (List ℕ)
first_of [] = []
first_of (run ∷ runs) = run

abbrev pub others_of : List (List (List ℕ)) → List (List (List ℕ))
others_of [] = []
others_of (run ∷ runs) = runs

-- the runs of words between bars: one more than there are bars
unfoldable pub runs : List (List ℕ) → List (List (List ℕ))
runs [] = [] ∷ []
runs (word ∷ words) = if is_bar word then [] ∷ runs words else (word ∷ first_of (runs words)) ∷ others_of (runs words)

-- the fields of a run's words, behind others
unfoldable pub fields_of : Family → Fields → List (List ℕ) → Reads Fields
fields_of family f [] = Ok f
fields_of family f (word ∷ words) = do
  more ← with_word family word f
  fields_of family more words

-- a path, word by word
abbrev pub path_of : Family → List (List ℕ) → Reads GivenPath
path_of family words = fields_of family no_fields words >>= path_of_fields

abbrev pub paths_of : Family → List (List ℕ) → Reads (List GivenPath)
paths_of family words = each_read (path_of family) (runs words)
