-- What `clap` reads of words that are a command is that command.
use Rattle.std.proofs.Common.{◌≡◌, ◌∙◌, Bool, true, false, cond, refl, sym, ap, ap₂, subst, List, [], ◌∷◌, drop, Option, Some, None, is_some, true≢false, codes, ◌&&◌}
use Rattle.std.specs.Prelude.{IfSome, fold, if◌then◌else◌, option_and_then, slice_get}
use Rattle.std.specs.Option.{option_map}
use Rattle.std.specs.List.{list_all}
use Rattle.std.specs.Str.{bytes_eq}
use Rattle.std.proofs.lemmas.Slice.Eq.{bytes_eq-Decides}
use Rattle.clap.specs.Values.{bool_text}
use Rattle.clap.specs.Walk.{Held, Row, Rule, Text, Walk, default_rows, finished, first_of, has_row, more_values, nothing_held, one_of, reading_by, row_text, settled, walked, with_default}
use Rattle.clap.specs.Simple.{built, entered, matches_of}
use Rattle.clap.specs.Takes.{default_passes, entered_passes, is_valid, settle_passes, takes, walk_passes}
use Rattle.clap.specs.declared.builder.value_parser.Reading.TheVariants.{AsWritten}
use Rattle.clap.specs.declared.parser.matches.ValueSource.TheVariants.{DefaultValue}
use Rattle.ug_commands.specs.declared.verb.Verb.{Verb}
use Rattle.ug_commands.specs.declared.verb.Verb.TheVariants as verbs
use Rattle.ug_commands.specs.Words.{SoFar, command_by, nothing_said, said_by, with_word, with_words}
use Rattle.ug_commands.specs.Grammar.{grammar, is_one}
use Rattle.ug_commands.proofs.Rows.{at_row_new, flag_row, has_row-is, or_else, or_else_assoc, or_none, row_at, row_at-last, row_said, text_row, workers_text}
use Rattle.ug_commands.proofs.Steps.{Holds, HoldsBy, IsStep, Settles, rules_built, shape_built, stand, step}

-- ---- all words

bind : {X Y : Type 0} (o : Option X) (f : X → Option Y) (P : X → Type 0) (Q : Y → Type 0) → IfSome o P → ((x : X) → P x → IfSome (f x) Q) → IfSome (option_and_then f o) Q
bind None f P Q p q = tt
bind (Some x) f P Q p q = q x p

weaker : {X : Type 0} (o : Option X) (P Q : X → Type 0) → ((x : X) → P x → Q x) → IfSome o P → IfSome o Q
weaker None P Q q p = tt
weaker (Some x) P Q q p = q x p

-- the words take the walk from what s said to what t says
record Ends (verb : Verb) (s : SoFar) (h : Held) (words : List Text) (t : SoFar) : Type 0 where
  last : Held
  holds : Holds verb t last
  goes : fold (walked rules_built []) (stand s h) words ≡ stand t last
  passes : walk_passes shape_built [] (stand s h) words ≡ true

ends : (verb : Verb) (words : List Text) (s : SoFar) (h : Held) → Holds verb s h → IfSome (with_words verb words s) (Ends verb s h words)
unfolding with_words walk_passes
ends verb [] s h holds = record { last = h; holds = holds; goes = refl; passes = refl }
ends verb (word ∷ words) s h holds =
    bind (with_word verb word s) (with_words verb words) (IsStep verb s h word) (Ends verb s h (word ∷ words)) (step verb s h word holds)
    (λ t first. weaker (with_words verb words t) (Ends verb t first.after words) (Ends verb s h (word ∷ words))
    (λ u more. record {
      last = more.last;
      holds = more.holds;
      goes = ap (λ (w : Walk). fold (walked rules_built []) w words) first.goes ∙ more.goes;
      passes = ap₂ (λ (b : Bool) (w : Walk). b && walk_passes shape_built [] w words) first.passes first.goes ∙ more.passes;
    })
    (ends verb words t first.after first.holds))

-- ---- defaults

abbrev default_by : Rule → List Text → Option Row
default_by a [] = None
default_by a (v ∷ vs) = Some (record { id = a.id; values = v ∷ vs; count = None; source = Some DefaultValue; reading = reading_by a })

abbrev default_for : Text → Rule → Option Row
default_for id a = cond (bytes_eq a.id id) (default_by a a.defaults) None

abbrev defaults_in : Text → List Rule → Option Row
defaults_in id [] = None
defaults_in id (a ∷ rules) = or_else (default_for id a) (defaults_in id rules)

kept : {X : Type 0} (o other : Option X) → is_some o ≡ true → o ≡ or_else o other
kept (Some x) other e = refl
kept None other e = absurd (true≢false (sym e))

none_of : {X : Type 0} (o : Option X) → is_some o ≡ false → o ≡ None
none_of (Some x) e = absurd (true≢false e)
none_of None e = refl

either_none : {X : Type 0} (b : Bool) (x y : Option X) → x ≡ None → y ≡ None → cond b x y ≡ None
either_none true x y e f = e
either_none false x y e f = f

row_at-default : (id : Text) (rows : List Row) (a : Rule) → row_at id (with_default rows a) ≡ or_else (row_at id rows) (default_for id a)
row_at-default id rows a = go (has_row a.id rows) refl
  where
    there : (b : Bool) → bytes_eq a.id id ≡ b → has_row a.id rows ≡ true → row_at id rows ≡ or_else (row_at id rows) (cond b (default_by a a.defaults) None)
    there true e has = subst (λ (i : Text). row_at i rows ≡ or_else (row_at i rows) (default_by a a.defaults)) ((bytes_eq-Decides a.id id).0 e)
        (kept (row_at a.id rows) (default_by a a.defaults) (sym (has_row-is a.id rows) ∙ has))
    there false e has = sym (or_none (row_at id rows))

    missing : (values : List Text) → has_row a.id rows ≡ false
        → row_at id (default_rows a.id (reading_by a) values rows) ≡ or_else (row_at id rows) (cond (bytes_eq a.id id) (default_by a values) None)
    missing [] has = sym (or_none (row_at id rows)) ∙ ap (or_else (row_at id rows)) (sym (either_none (bytes_eq a.id id) (default_by a []) None refl refl))
    missing (v ∷ vs) has =
        let row : Row = record { id = a.id; values = v ∷ vs; count = None; source = Some DefaultValue; reading = reading_by a } in
        ap (row_at id) (at_row_new a.id (more_values DefaultValue (v ∷ vs)) (row ∷ []) rows (none_of (row_at a.id rows) (sym (has_row-is a.id rows) ∙ has)))
        ∙ row_at-last id row rows

    go : (b : Bool) → has_row a.id rows ≡ b → row_at id (if b then rows else default_rows a.id (reading_by a) a.defaults rows) ≡ or_else (row_at id rows) (default_for id a)
    go true has = there (bytes_eq a.id id) refl has
    go false has = missing a.defaults has

row_at-defaults : (id : Text) (rules : List Rule) (rows : List Row) → row_at id (fold with_default rows rules) ≡ or_else (row_at id rows) (defaults_in id rules)
row_at-defaults id [] rows = sym (or_none (row_at id rows))
row_at-defaults id (a ∷ rules) rows =
    row_at-defaults id rules (with_default rows a) ∙ ap (λ o. or_else o (defaults_in id rules)) (row_at-default id rows a)
    ∙ or_else_assoc (row_at id rows) (default_for id a) (defaults_in id rules)

row_finished : (t : SoFar) (last : Held) → Settles t last → (id : Text) → row_at id (finished rules_built last) ≡ or_else (row_said t id) (defaults_in id rules_built)
row_finished t last holds id =
    row_at-defaults id rules_built (settled rules_built last).rows ∙ ap (λ o. or_else o (defaults_in id rules_built)) (holds.rows.each id)

-- ---- what is read

text_read : (id : Text) (o : Option Text) → option_and_then (λ (r : Row). slice_get r.values 0) (or_else (text_row id o) None) ≡ o
text_read id None = refl
text_read id (Some text) = refl

workers_read : (o : Option Bool) → option_map is_one (option_and_then (λ (r : Row). slice_get r.values 0) (or_else (text_row (codes "workers") (workers_text o)) None)) ≡ o
workers_read None = refl
workers_read (Some true) = refl
workers_read (Some false) = refl

abbrev flag_default : Text → Row
flag_default id = record { id = id; values = codes "false" ∷ []; count = None; source = Some DefaultValue; reading = AsWritten }

flag_read : (id : Text) (b : Bool) → option_and_then row_text (or_else (flag_row id b) (Some (flag_default id))) ≡ Some (bool_text b)
flag_read id true = refl
flag_read id false = refl

-- what is read of the rows, as the code reads them
pub record IsReadOf (rows : List Row) (read : SoFar) : Type 0 where
  pub open_still : read.may_be_option ≡ true
  pub whole : read.wants_value ≡ false
  pub add_path : (b : Bool) → one_of (codes "add-path") rows ≡ Some (bool_text b) → read.add_path ≡ b
  pub extended : (b : Bool) → one_of (codes "extended") rows ≡ Some (bool_text b) → read.extended ≡ b
  pub ipv6 : (b : Bool) → one_of (codes "ipv6") rows ≡ Some (bool_text b) → read.ipv6 ≡ b
  pub workers : read.workers ≡ option_map is_one (first_of (codes "workers") rows)
  pub first : read.first ≡ first_of (codes "first") rows
  pub second : read.second ≡ first_of (codes "second") rows
  pub third : read.third ≡ first_of (codes "third") rows
  pub fourth : read.fourth ≡ first_of (codes "fourth") rows

abbrev read_from : SoFar → SoFar
read_from t = record t { may_be_option = true; wants_value = false }

all_read : (t : SoFar) (last : Held) (read : SoFar) → Settles t last → IsReadOf (finished rules_built last) read → read ≡ read_from t
all_read t last read holds is =
    let row = row_finished t last holds in
    let text : (id : Text) → option_and_then (λ (r : Row). slice_get r.values 0) (row_at id (finished rules_built last)) ≡ option_and_then (λ (r : Row). slice_get r.values 0) (or_else (row_said t id) (defaults_in id rules_built))
    = λ id. ap (option_and_then (λ (r : Row). slice_get r.values 0)) (row id) in
    let flag : (id : Text) → one_of id (finished rules_built last) ≡ option_and_then row_text (or_else (row_said t id) (defaults_in id rules_built)) = λ id. ap (option_and_then row_text) (row id) in
    let add_path = is.add_path t.add_path (flag (codes "add-path") ∙ flag_read (codes "add-path") t.add_path) in
    let extended = is.extended t.extended (flag (codes "extended") ∙ flag_read (codes "extended") t.extended) in
    let ipv6 = is.ipv6 t.ipv6 (flag (codes "ipv6") ∙ flag_read (codes "ipv6") t.ipv6) in
    let workers = is.workers ∙ ap (option_map is_one) (text (codes "workers")) ∙ workers_read t.workers in
    let first = is.first ∙ text (codes "first") ∙ text_read (codes "first") t.first in
    let second = is.second ∙ text (codes "second") ∙ text_read (codes "second") t.second in
    let third = is.third ∙ text (codes "third") ∙ text_read (codes "third") t.third in
    let fourth = is.fourth ∙ text (codes "fourth") ∙ text_read (codes "fourth") t.fourth in
    λ i. record {
      may_be_option = is.open_still i;
      wants_value = is.whole i;
      add_path = add_path i;
      extended = extended i;
      ipv6 = ipv6 i;
      workers = workers i;
      first = first i;
      second = second i;
      third = third i;
      fourth = fourth i;
    }

-- ---- a command

-- whether options may still come is nothing to the command
same_command : (verb : Verb) (t : SoFar) → t.wants_value ≡ false → said_by verb (read_from t) ≡ said_by verb t
same_command verbs.One t whole = refl
same_command verbs.Run t whole = rw whole refl
same_command verbs.Check t whole = refl
same_command verbs.Groups t whole = refl
same_command verbs.SelfRun t whole = refl
same_command verbs.Audit t whole = refl

-- no value is wanted where the words are a command
settles_at : (verb : Verb) (t : SoFar) (last : Held) → Holds verb t last → is_some (said_by verb t) ≡ true → (t.wants_value ≡ false) × Settles t last
settles_at verb t last holds some = go verb t.wants_value holds some
  where
    go : (v : Verb) (wants : Bool) → HoldsBy wants v (record t { wants_value = wants }) last → is_some (said_by v (record t { wants_value = wants })) ≡ true
        → (wants ≡ false) × Settles (record t { wants_value = wants }) last
    go v false settles e = (refl, settles)
    go verbs.Run true waits e = absurd (true≢false (sym e))
    go verbs.One true waits e = absurd (true≢false (sym waits.runs))
    go verbs.Check true waits e = absurd (true≢false (sym waits.runs))
    go verbs.Groups true waits e = absurd (true≢false (sym waits.runs))
    go verbs.SelfRun true waits e = absurd (true≢false (sym waits.runs))
    go verbs.Audit true waits e = absurd (true≢false (sym waits.runs))

-- `clap` takes the words, and what is read of its matches is the command
pub record Agrees (verb : Verb) (words : List Text) : Type 0 where
  pub takes_them : takes grammar words ≡ true
  pub reads : (read : SoFar) → IsReadOf (matches_of grammar words) read → said_by verb read ≡ command_by (drop 1 words) verb

none_said : (id : Text) → row_said nothing_said id ≡ None
none_said id =
    more (codes "first") _ (more (codes "second") _ (more (codes "third") _ (more (codes "fourth") _
    (more (codes "workers") _ (more (codes "add-path") _ (more (codes "extended") _ (more (codes "ipv6") None refl)))))))
  where
    more : (name : Text) (rest : Option Row) → rest ≡ None → cond (bytes_eq name id) None rest ≡ None
    more name rest e = either_none (bytes_eq name id) None rest refl e

held_at : (t : SoFar) (last : Held) → t.wants_value ≡ false → (stand t last).held ≡ last
held_at t last whole = rw whole refl

abbrev takes_at : Walk → Bool → Bool
takes_at w passes = entered_passes (built grammar) w.stopped
    && (passes && (settle_passes rules_built false w.held && (list_all default_passes rules_built && is_valid shape_built (finished rules_built w.held) (is_some (entered (built grammar) w.stopped)))))

pub agrees : (verb : Verb) (words : List Text) → is_some (command_by (drop 1 words) verb) ≡ true → Agrees verb words
agrees verb words some =
    go (with_words verb (drop 1 words) nothing_said) refl (ends verb (drop 1 words) nothing_said nothing_held (record { settles = refl; rows = record { each = λ id. sym (none_said id) }; order = refl })) some
  where
    go : (o : Option SoFar) → with_words verb (drop 1 words) nothing_said ≡ o → IfSome o (Ends verb nothing_said nothing_held (drop 1 words)) → is_some (option_and_then (said_by verb) o) ≡ true
        → Agrees verb words
    go None is e h = absurd (true≢false (sym h))
    go (Some t) is e h =
        let settled = settles_at verb t e.last e.holds h in
        record {
          takes_them = ap₂ takes_at e.goes e.passes ∙ rw (settled.0, settled.1.settles) refl;
          reads = λ read reads.
              ap (said_by verb) (all_read t e.last read settled.1 (subst (λ (h : Held). IsReadOf (finished rules_built h) read) (ap (λ (w : Walk). w.held) e.goes ∙ held_at t e.last settled.0) reads))
              ∙ same_command verb t settled.0 ∙ sym (ap (option_and_then (said_by verb)) is);
        }
