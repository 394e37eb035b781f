-- The words of a line.
use Rattle.std.specs.Prelude.{ℕ, ◌-◌, ◌==◌, Bool, false, List, [], ◌∷◌, ◌++◌, length, take, slice_index, if◌then◌else◌}

abbrev pub begins_with : ℕ → List ℕ → Bool
begins_with b [] = false
begins_with b (c ∷ bytes) = c == b

-- the bytes as the one item of a list, where there are any
abbrev pub where_some_bytes : List ℕ → List (List ℕ)
where_some_bytes [] = []
where_some_bytes (b ∷ bytes) = (b ∷ bytes) ∷ []

-- The words of these bytes behind `word`, which was begun before them. A space ends a word; a word has at least one byte, so
-- spaces at either end and several in a row don't count.
unfoldable pub words_from : List ℕ → List ℕ → List (List ℕ)
words_from word [] = where_some_bytes word
words_from word (b ∷ bytes) = if b == 32 then where_some_bytes word ++ words_from [] bytes else words_from (word ++ b ∷ []) bytes

abbrev pub words : List ℕ → List (List ℕ)
words bytes = words_from [] bytes

-- a line without its final carriage return
abbrev pub without_return : List ℕ → List ℕ
without_return line = if slice_index line (length line - 1) == 13 then take (length line - 1) line else line
