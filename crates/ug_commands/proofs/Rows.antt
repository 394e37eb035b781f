-- The rows of `clap`'s matches, as they grow while the words are read, beside what the words have said so far.
use Rattle.std.proofs.Common.{◌≡◌, ◌∙◌, Bool, true, false, cond, refl, sym, ap, subst, List, [], ◌∷◌, ◌++◌, Option, Some, None, is_some, append-nil, true≢false, codes}
use Rattle.std.specs.Prelude.{find, ◌||◌, if◌then◌else◌}
use Rattle.std.specs.Str.{bytes_eq}
use Rattle.std.proofs.lemmas.Slice.Eq.{bytes_eq-Decides}
use Rattle.clap.specs.Walk.{Row, Text, at_row, has_row, more_values, with_values, without}
use Rattle.clap.specs.declared.builder.value_parser.Reading.TheVariants.{AsWritten}
use Rattle.clap.specs.declared.parser.matches.ValueSource.{ValueSource}
use Rattle.clap.specs.declared.parser.matches.ValueSource.TheVariants.{CommandLine}
use Rattle.ug_commands.specs.Words.{SoFar}

-- ---- the row of an argument

abbrev pub row_at : Text → List Row → Option Row
row_at id rows = find (λ r. bytes_eq r.id id) rows

abbrev pub or_else : {X : Type 0} → Option X → Option X → Option X
or_else (Some x) o = Some x
or_else None o = o

pub or_none : {X : Type 0} (o : Option X) → or_else o None ≡ o
or_none (Some x) = refl
or_none None = refl

pub or_else_assoc : {X : Type 0} (a b c : Option X) → or_else (or_else a b) c ≡ or_else a (or_else b c)
or_else_assoc (Some x) b c = refl
or_else_assoc None b c = refl

pub some≢none : {X : Type 0} (x : X) → Some x ≡ None → ⊥
some≢none x e = true≢false (ap is_some e)

pub row_at-last : (id : Text) (x : Row) (rows : List Row) → row_at id (rows ++ x ∷ []) ≡ or_else (row_at id rows) (cond (bytes_eq x.id id) (Some x) None)
row_at-last id x [] = refl
row_at-last id x (r ∷ rows) = go (bytes_eq r.id id) (row_at-last id x rows)
  where
    go : (b : Bool) → row_at id (rows ++ x ∷ []) ≡ or_else (row_at id rows) (cond (bytes_eq x.id id) (Some x) None)
        → cond b (Some r) (row_at id (rows ++ x ∷ [])) ≡ or_else (cond b (Some r) (row_at id rows)) (cond (bytes_eq x.id id) (Some x) None)
    go true e = refl
    go false e = e

pub at_row_new : (id : Text) (change : Row → List Row) (missing rows : List Row) → row_at id rows ≡ None → at_row id change missing rows ≡ rows ++ missing
at_row_new id change missing [] e = refl
at_row_new id change missing (r ∷ rows) e = go (bytes_eq r.id id) e (at_row_new id change missing rows)
  where
    go : (b : Bool) → cond b (Some r) (row_at id rows) ≡ None → (row_at id rows ≡ None → at_row id change missing rows ≡ rows ++ missing)
        → cond b (change r ++ rows) (r ∷ at_row id change missing rows) ≡ r ∷ (rows ++ missing)
    go true none more = absurd (some≢none r none)
    go false none more = ap (λ rs. r ∷ rs) (more none)

pub has_row-is : (id : Text) (rows : List Row) → has_row id rows ≡ is_some (row_at id rows)
has_row-is id [] = refl
has_row-is id (r ∷ rows) = go (bytes_eq r.id id) (has_row-is id rows)
  where
    go : (b : Bool) → has_row id rows ≡ is_some (row_at id rows) → (b || has_row id rows) ≡ is_some (cond b (Some r) (row_at id rows))
    go true e = refl
    go false e = e

abbrev pub row_from : ValueSource → Text → List Text → Row
row_from source id values = record { id = id; values = values; count = None; source = Some source; reading = AsWritten }

abbrev pub row_with : Text → List Text → Row
row_with = row_from CommandLine

-- values of an argument that has no row yet
pub joins_last : (source : ValueSource) (id : Text) (values : List Text) (rows : List Row) → row_at id rows ≡ None
    → with_values id AsWritten source values rows ≡ rows ++ row_from source id values ∷ []
joins_last source id values rows none = at_row_new id (more_values source values) (row_from source id values ∷ []) rows none

gone_as_it_was : (id : Text) (rows : List Row) → row_at id rows ≡ None → without id rows ≡ rows
gone_as_it_was id rows none = at_row_new id (λ r. []) [] rows none ∙ append-nil rows

-- ---- what the words have said so far, as rows

abbrev pub text_row : Text → Option Text → Option Row
text_row id None = None
text_row id (Some text) = Some (row_with id (text ∷ []))

abbrev pub workers_text : Option Bool → Option Text
workers_text None = None
workers_text (Some apart) = Some (if apart then codes "1" else codes "0")

abbrev pub flag_row : Text → Bool → Option Row
flag_row id said = if said then Some (row_with id (codes "true" ∷ [])) else None

abbrev pub row_said : SoFar → Text → Option Row
row_said s id =
    if bytes_eq (codes "first") id then text_row (codes "first") s.first
    else if bytes_eq (codes "second") id then text_row (codes "second") s.second
    else if bytes_eq (codes "third") id then text_row (codes "third") s.third
    else if bytes_eq (codes "fourth") id then text_row (codes "fourth") s.fourth
    else if bytes_eq (codes "workers") id then text_row (codes "workers") (workers_text s.workers)
    else if bytes_eq (codes "add-path") id then flag_row (codes "add-path") s.add_path
    else if bytes_eq (codes "extended") id then flag_row (codes "extended") s.extended
    else if bytes_eq (codes "ipv6") id then flag_row (codes "ipv6") s.ipv6
    else None

-- the rows are just those of what was said
pub record AreRows (s : SoFar) (rows : List Row) : Type 0 where
  pub each : (id : Text) → row_at id rows ≡ row_said s id

abbrev pub IsSaidBeside : SoFar → SoFar → Text → Type 0
IsSaidBeside s t id = (other : Text) → bytes_eq id other ≡ false → row_said t other ≡ row_said s other

more_rows : (s t : SoFar) (rows : List Row) (x : Row) → row_said s x.id ≡ None → row_said t x.id ≡ Some x → IsSaidBeside s t x.id → AreRows s rows → AreRows t (rows ++ x ∷ [])
more_rows s t rows x none here beside are = record { each = λ id. row_at-last id x rows ∙ go id (bytes_eq x.id id) refl }
  where
    go : (id : Text) (b : Bool) → bytes_eq x.id id ≡ b → or_else (row_at id rows) (cond b (Some x) None) ≡ row_said t id
    go id true e = subst (λ (i : Text). or_else (row_at i rows) (Some x) ≡ row_said t i) ((bytes_eq-Decides x.id id).0 e) (ap (λ o. or_else o (Some x)) (are.each x.id ∙ none) ∙ sym here)
    go id false e = or_none (row_at id rows) ∙ are.each id ∙ sym (beside id e)

-- an argument that was not used yet is used
pub joins : (s t : SoFar) (rows : List Row) (id : Text) (values : List Text) → AreRows s rows → row_said s id ≡ None → row_said t id ≡ Some (row_with id values) → IsSaidBeside s t id
    → AreRows t (with_values id AsWritten CommandLine values (without id rows))
joins s t rows id values are none here beside =
    let unset : row_at id rows ≡ None = are.each id ∙ none in
    subst (AreRows t) (sym (ap (with_values id AsWritten CommandLine values) (gone_as_it_was id rows unset) ∙ joins_last CommandLine id values rows unset))
    (more_rows s t rows (row_with id values) none here beside are)

pub unused : (s : SoFar) (rows : List Row) (id : Text) → AreRows s rows → row_said s id ≡ None → has_row id rows ≡ false
unused s rows id are none = has_row-is id rows ∙ ap is_some (are.each id ∙ none)
