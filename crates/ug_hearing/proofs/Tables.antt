-- Tables after one message more.
use Rattle.std.proofs.Common.{◌≡◌, List, [], ◌∷◌, ◌++◌, length, None, refl, ◌∙◌, ap, arith}
use Rattle.std.proofs.lemmas.List.{map-append, length-map}
use Rattle.ug_types.specs.declared.key.Key.{Key}
use Rattle.ug_types.specs.Messages.{Message}
use Rattle.ug_message.specs.Tables.{Table, Reading, nothing_read, applied, reading_from, tables_from, tables_after}
use Rattle.ug_message.specs.Climbing.{values_at}
use Rattle.ug_hearing.specs.Pasts.{Value}
use Rattle.ug_hearing.specs.Rows.{last_value}

pub reading-last : (r : Reading) (ms : List Message) (m : Message) → reading_from r (ms ++ m ∷ []) ≡ applied (reading_from r ms) m
reading-last r [] m = refl
reading-last r (x ∷ ms) m = reading-last (applied r x) ms m

tables_last : (r : Reading) (ms : List Message) (m : Message) → tables_from r (ms ++ m ∷ []) ≡ tables_from r ms ++ (applied (reading_from r ms) m).table ∷ []
tables_last r [] m = refl
tables_last r (x ∷ ms) m = ap (λ (ts : List Table). (applied r x).table ∷ ts) (tables_last (applied r x) ms m)

abbrev pub reading : List Message → Reading
reading ms = reading_from nothing_read ms

-- the values of a key after one message more
pub values-last : (key : Key) (ms : List Message) (m : Message) → values_at key (tables_after (ms ++ m ∷ [])) ≡ values_at key (tables_after ms) ++ (applied (reading ms) m).table key ∷ []
values-last key ms m =
    ap (values_at key) (tables_last nothing_read ms m) ∙ map-append (λ (t : Table). t key) (tables_after ms) ((applied (reading ms) m).table ∷ [])

-- the last of them is that of the table
last_from : (key : Key) (r : Reading) (ms : List Message) (before : Value) → before ≡ r.table key → last_value before (values_at key (tables_from r ms)) ≡ (reading_from r ms).table key
last_from key r [] before is = is
last_from key r (m ∷ ms) before is = last_from key (applied r m) ms ((applied r m).table key) refl

pub last-is : (key : Key) (ms : List Message) → last_value None (values_at key (tables_after ms)) ≡ (reading ms).table key
last-is key ms = last_from key nothing_read ms None refl

count_from : (r : Reading) (ms : List Message) → length (tables_from r ms) ≡ length ms
count_from r [] = refl
count_from r (m ∷ ms) = let rest = count_from (applied r m) ms in omega arith

pub values-count : (key : Key) (ms : List Message) → length (values_at key (tables_after ms)) ≡ length ms
values-count key ms = length-map (tables_after ms) (λ (t : Table). t key) ∙ count_from nothing_read ms
