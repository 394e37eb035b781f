-- One word more: what our own reading takes `clap` takes too, and both say the same of it.
use Rattle.std.proofs.Common.{◌≡◌, ◌∙◌, ◌+◌, ℕ, Bool, true, false, cond, refl, sym, ap, ap₂, subst, min, List, [], ◌∷◌, Option, Some, None, is_some, true≢false, not, codes, ◌&&◌, ◌||◌, length, nat_lt, lt-ltb, arith}
use Rattle.std.specs.Prelude.{◌==◌, IfSome, if◌then◌else◌, option_and_then}
use Rattle.std.specs.Option.{option_map_or}
use Rattle.std.proofs.lemmas.Slice.Eq.{bytes_eq-Decides}
use Rattle.clap.specs.Lexer.{long_of, long_of_rest, short_of, short_of_rest, strip_byte, usize_max}
use Rattle.clap.specs.Walk.{Held, Row, Rule, Step, Text, Waiting, Walk, idle, option, value, is_pending, settled, walked, with_values, without, after_step, arg_by_id, arg_by_index, pushed, to_positional, used_by_id, word_met}
use Rattle.clap.specs.Simple.{Shape, new_rule, new_shape}
use Rattle.clap.specs.Takes.{positional_passes, settle_passes, step_passes, turn_passes, use_passes, word_passes}
use Rattle.clap.specs.declared.builder.action.ArgAction.TheVariants.{Set}
use Rattle.clap.specs.declared.builder.value_parser.ValueParser.TheVariants as vp
use Rattle.clap.specs.declared.builder.value_parser.Reading.TheVariants.{AsWritten}
use Rattle.clap.specs.declared.parser.matches.ValueSource.TheVariants.{CommandLine}
use Rattle.ug_types.specs.Bytes.{same_bytes}
use Rattle.ug_commands.specs.declared.verb.Verb.{Verb}
use Rattle.ug_commands.specs.declared.verb.Verb.TheVariants as verbs
use Rattle.ug_commands.specs.Words.{SoFar, is_option, with_check_option, with_option, with_positional, with_run_option, with_value, with_word}
use Rattle.ug_commands.specs.Grammar.{flag_rule, workers_rule}
use Rattle.ug_commands.proofs.Rows.{AreRows, IsSaidBeside, joins, row_said, row_with, some≢none, unused}

-- ---- the grammar as it is built

abbrev pub positional_built : ℕ → Text → Rule
positional_built n id = record (new_rule id) { index = Some n; action = Some Set; parser = Some vp.String; range = Some (record { start_inclusive = 1; end_inclusive = 1 }) }

abbrev pub workers_built : Rule
workers_built = record workers_rule { action = Some Set; parser = Some vp.String; range = Some (record { start_inclusive = 1; end_inclusive = 1 }) }

abbrev pub flag_built : Text → Rule
flag_built name = record (flag_rule name) {
  parser = Some vp.Bool;
  range = Some (record { start_inclusive = 0; end_inclusive = 0 });
  defaults = codes "false" ∷ [];
  missing = codes "true" ∷ [];
}

abbrev pub rules_built : List Rule
rules_built =
    positional_built 1 (codes "first") ∷ positional_built 2 (codes "second") ∷ positional_built 3 (codes "third") ∷ positional_built 4 (codes "fourth")
    ∷ workers_built ∷ flag_built (codes "add-path") ∷ flag_built (codes "extended") ∷ flag_built (codes "ipv6") ∷ []

abbrev pub shape_built : Shape
shape_built = record (new_shape (codes "woodballash")) { rules = rules_built; disable_help_flag = true; disable_help_subcommand = true; is_built = true }

-- ---- where the walk stands

abbrev pub walk_at : Held → Waiting → ℕ → Bool → Walk
walk_at h waiting position is_trailing = record { held = h; waiting = waiting; position = position; is_trailing = is_trailing; stopped = None }

-- the place of the next positional word
abbrev pub place_by : Option Text → Option Text → Option Text → Option Text → ℕ
place_by None second third fourth = 1
place_by (Some a) None third fourth = 2
place_by (Some a) (Some b) None fourth = 3
place_by (Some a) (Some b) (Some c) None = 4
place_by (Some a) (Some b) (Some c) (Some d) = 5

abbrev pub place : SoFar → ℕ
place s = place_by s.first s.second s.third s.fourth

abbrev is_none : Option Text → Bool
is_none o = not (is_some o)

-- the positional words stand in their order, with none left out
abbrev pub is_ordered : Option Text → Option Text → Option Text → Option Text → Bool
is_ordered None second third fourth = is_none second && (is_none third && is_none fourth)
is_ordered (Some a) None third fourth = is_none third && is_none fourth
is_ordered (Some a) (Some b) None fourth = is_none fourth
is_ordered (Some a) (Some b) (Some c) fourth = true

abbrev pub waits_for_value : Held → Held
waits_for_value h = record h { pending = Some (codes "workers", []) }

abbrev pub stand_by : Bool → SoFar → Held → Walk
stand_by true s h = walk_at (waits_for_value h) (option (codes "workers")) (place s) (not s.may_be_option)
stand_by false s h = walk_at h idle (place s) (not s.may_be_option)

abbrev pub stand : SoFar → Held → Walk
stand s h = stand_by s.wants_value s h

-- what is held says what was said, and what is pending may be used
pub record Settles (s : SoFar) (h : Held) : Type 0 where
  pub settles : settle_passes rules_built false h ≡ true
  pub rows : AreRows s (settled rules_built h).rows
  pub order : is_ordered s.first s.second s.third s.fourth ≡ true

abbrev pub is_run : Verb → Bool
is_run verbs.Run = true
is_run _ = false

-- what is held says what was said, but for the value of `--workers`, which is wanted
pub record Waits (verb : Verb) (s : SoFar) (h : Held) : Type 0 where
  pub rows : AreRows s h.rows
  pub order : is_ordered s.first s.second s.third s.fourth ≡ true
  pub unset : s.workers ≡ None
  pub open_still : s.may_be_option ≡ true
  pub runs : is_run verb ≡ true

abbrev pub HoldsBy : Bool → Verb → SoFar → Held → Type 0
HoldsBy true verb s h = Waits verb s h
HoldsBy false verb s h = Settles s h

abbrev pub Holds : Verb → SoFar → Held → Type 0
Holds verb s h = HoldsBy s.wants_value verb s h

-- the word takes the walk from what s said to what t says
pub record IsStep (verb : Verb) (s : SoFar) (h : Held) (word : Text) (t : SoFar) : Type 0 where
  pub after : Held
  pub holds : Holds verb t after
  pub goes : walked rules_built [] (stand s h) word ≡ stand t after
  pub passes : turn_passes shape_built [] (stand s h) word ≡ true

-- ---- the value of `--workers`

abbrev waiting_at : SoFar → SoFar
waiting_at s = record s { wants_value = true; may_be_option = true; workers = None }

abbrev valued : Bool → SoFar → SoFar
valued apart s = record s { wants_value = false; may_be_option = true; workers = Some apart }

value_0 : (verb : Verb) (s : SoFar) (h : Held) → AreRows (waiting_at s) h.rows → is_ordered s.first s.second s.third s.fourth ≡ true
    → IsStep verb (waiting_at s) h (codes "0") (valued false s)
unfolding walked
value_0 verb s h rows order = record {
  after = record h { pending = Some (codes "workers", codes "0" ∷ []) };
  holds = record {
    settles = rw (unused (waiting_at s) h.rows (codes "workers") rows refl) refl;
    rows = joins (waiting_at s) (valued false s) h.rows (codes "workers") (codes "0" ∷ []) rows refl refl (λ other e. rw e refl);
    order = order;
  };
  goes = refl;
  passes = refl;
}

value_1 : (verb : Verb) (s : SoFar) (h : Held) → AreRows (waiting_at s) h.rows → is_ordered s.first s.second s.third s.fourth ≡ true
    → IsStep verb (waiting_at s) h (codes "1") (valued true s)
unfolding walked
value_1 verb s h rows order = record {
  after = record h { pending = Some (codes "workers", codes "1" ∷ []) };
  holds = record {
    settles = rw (unused (waiting_at s) h.rows (codes "workers") rows refl) refl;
    rows = joins (waiting_at s) (valued true s) h.rows (codes "workers") (codes "1" ∷ []) rows refl refl (λ other e. rw e refl);
    order = order;
  };
  goes = refl;
  passes = refl;
}

abbrev IfStep : Verb → SoFar → Held → Text → Option SoFar → Type 0
IfStep verb s h word o = IfSome o (IsStep verb s h word)

same_word : (word other : Text) → same_bytes word other ≡ true → other ≡ word
same_word word other e = sym ((bytes_eq-Decides word other).0 e)

-- what holds of the word that was tested for holds of this one
known : (P : Text → Type 0) (word other : Text) → same_bytes word other ≡ true → P other → P word
known P word other e p = subst P (same_word word other e) p

value_step : (verb : Verb) (s : SoFar) (h : Held) (word : Text) → AreRows (waiting_at s) h.rows → is_ordered s.first s.second s.third s.fourth ≡ true
    → IfStep verb (waiting_at s) h word (with_value word (waiting_at s))
value_step verb s h word rows order = by_0 (same_bytes word (codes "0")) refl
  where
    by_1 : (b : Bool) → same_bytes word (codes "1") ≡ b → IfStep verb (waiting_at s) h word (if b then Some (valued true s) else None)
    by_1 true e = known (λ w. IsStep verb (waiting_at s) h w (valued true s)) word (codes "1") e (value_1 verb s h rows order)
    by_1 false e = tt

    by_0 : (b : Bool) → same_bytes word (codes "0") ≡ b
        → IfStep verb (waiting_at s) h word (if b then Some (valued false s) else (if same_bytes word (codes "1") then Some (valued true s) else None))
    by_0 true e = known (λ w. IsStep verb (waiting_at s) h w (valued false s)) word (codes "0") e (value_0 verb s h rows order)
    by_0 false e = by_1 (same_bytes word (codes "1")) refl

-- ---- options

abbrev free_at : Bool → SoFar → SoFar
free_at may s = record s { wants_value = false; may_be_option = may }

abbrev add_path_at : Bool → SoFar → SoFar
add_path_at said s = record s { wants_value = false; may_be_option = true; add_path = said }

abbrev extended_at : Bool → SoFar → SoFar
extended_at said s = record s { wants_value = false; may_be_option = true; extended = said }

abbrev ipv6_at : Bool → SoFar → SoFar
ipv6_at said s = record s { wants_value = false; may_be_option = true; ipv6 = said }

abbrev workers_at : Option Bool → SoFar → SoFar
workers_at apart s = record s { wants_value = false; may_be_option = true; workers = apart }

-- the rows after a use of an argument that nothing was said of
abbrev rows_with : Text → Text → Held → List Row
rows_with id text h = with_values id AsWritten CommandLine (text ∷ []) (without id (settled rules_built h).rows)

abbrev used_last : Text → Text → Held → Held
used_last id text h = record h { rows = rows_with id text h; pending = None }

add_path_step : (verb : Verb) (s : SoFar) (h : Held) → Settles (add_path_at false s) h → IsStep verb (add_path_at false s) h (codes "--add-path") (add_path_at true s)
unfolding walked
add_path_step verb s h holds = record {
  after = used_last (codes "add-path") (codes "true") h;
  holds = record {
    settles = refl;
    rows = joins (add_path_at false s) (add_path_at true s) (settled rules_built h).rows (codes "add-path") (codes "true" ∷ []) holds.rows refl refl (λ other e. rw e refl);
    order = holds.order;
  };
  goes = refl;
  passes = rw (holds.settles, unused (add_path_at false s) (settled rules_built h).rows (codes "add-path") holds.rows refl) refl;
}

extended_step : (verb : Verb) (s : SoFar) (h : Held) → Settles (extended_at false s) h → IsStep verb (extended_at false s) h (codes "--extended") (extended_at true s)
unfolding walked
extended_step verb s h holds = record {
  after = used_last (codes "extended") (codes "true") h;
  holds = record {
    settles = refl;
    rows = joins (extended_at false s) (extended_at true s) (settled rules_built h).rows (codes "extended") (codes "true" ∷ []) holds.rows refl refl (λ other e. rw e refl);
    order = holds.order;
  };
  goes = refl;
  passes = rw (holds.settles, unused (extended_at false s) (settled rules_built h).rows (codes "extended") holds.rows refl) refl;
}

ipv6_step : (verb : Verb) (s : SoFar) (h : Held) → Settles (ipv6_at false s) h → IsStep verb (ipv6_at false s) h (codes "--ipv6") (ipv6_at true s)
unfolding walked
ipv6_step verb s h holds = record {
  after = used_last (codes "ipv6") (codes "true") h;
  holds = record {
    settles = refl;
    rows = joins (ipv6_at false s) (ipv6_at true s) (settled rules_built h).rows (codes "ipv6") (codes "true" ∷ []) holds.rows refl refl (λ other e. rw e refl);
    order = holds.order;
  };
  goes = refl;
  passes = rw (holds.settles, unused (ipv6_at false s) (settled rules_built h).rows (codes "ipv6") holds.rows refl) refl;
}

-- an option that was said already is refused
add_path_once : (verb : Verb) (s : SoFar) (h : Held) (said : Bool) → Settles (add_path_at said s) h
    → IfStep verb (add_path_at said s) h (codes "--add-path") (if said then None else Some (add_path_at true s))
add_path_once verb s h true holds = tt
add_path_once verb s h false holds = add_path_step verb s h holds

extended_once : (verb : Verb) (s : SoFar) (h : Held) (said : Bool) → Settles (extended_at said s) h
    → IfStep verb (extended_at said s) h (codes "--extended") (if said then None else Some (extended_at true s))
extended_once verb s h true holds = tt
extended_once verb s h false holds = extended_step verb s h holds

ipv6_once : (verb : Verb) (s : SoFar) (h : Held) (said : Bool) → Settles (ipv6_at said s) h
    → IfStep verb (ipv6_at said s) h (codes "--ipv6") (if said then None else Some (ipv6_at true s))
ipv6_once verb s h true holds = tt
ipv6_once verb s h false holds = ipv6_step verb s h holds

check_step : (verb : Verb) (s : SoFar) (h : Held) (word : Text) → Settles (free_at true s) h → IfStep verb (free_at true s) h word (with_check_option word (free_at true s))
check_step verb s h word holds = by_add_path (same_bytes word (codes "--add-path")) refl
  where
    by_ipv6 : (b : Bool) → same_bytes word (codes "--ipv6") ≡ b
        → IfStep verb (free_at true s) h word (if b then (if s.ipv6 then None else Some (ipv6_at true s)) else None)
    by_ipv6 true e = known (λ w. IfStep verb (free_at true s) h w (if s.ipv6 then None else Some (ipv6_at true s))) word (codes "--ipv6") e (ipv6_once verb s h s.ipv6 holds)
    by_ipv6 false e = tt

    by_extended : (b : Bool) → same_bytes word (codes "--extended") ≡ b
        → IfStep verb (free_at true s) h word (if b then (if s.extended then None else Some (extended_at true s))
        else (if same_bytes word (codes "--ipv6") then (if s.ipv6 then None else Some (ipv6_at true s)) else None))
    by_extended true e = known (λ w. IfStep verb (free_at true s) h w (if s.extended then None else Some (extended_at true s))) word (codes "--extended") e (extended_once verb s h s.extended holds)
    by_extended false e = by_ipv6 (same_bytes word (codes "--ipv6")) refl

    by_add_path : (b : Bool) → same_bytes word (codes "--add-path") ≡ b
        → IfStep verb (free_at true s) h word (if b then (if s.add_path then None else Some (add_path_at true s))
        else (if same_bytes word (codes "--extended") then (if s.extended then None else Some (extended_at true s))
        else (if same_bytes word (codes "--ipv6") then (if s.ipv6 then None else Some (ipv6_at true s)) else None)))
    by_add_path true e = known (λ w. IfStep verb (free_at true s) h w (if s.add_path then None else Some (add_path_at true s))) word (codes "--add-path") e (add_path_once verb s h s.add_path holds)
    by_add_path false e = by_extended (same_bytes word (codes "--extended")) refl

-- `--workers`, whose value is the next word
wanting_step : (s : SoFar) (h : Held) → Settles (workers_at None s) h → IsStep verbs.Run (workers_at None s) h (codes "--workers") (waiting_at s)
unfolding walked
wanting_step s h holds = record {
  after = settled rules_built h;
  holds = record { rows = record { each = holds.rows.each }; order = holds.order; unset = refl; open_still = refl; runs = refl };
  goes = refl;
  passes = rw (holds.settles) refl;
}

workers_0 : (verb : Verb) (s : SoFar) (h : Held) → Settles (workers_at None s) h → IsStep verb (workers_at None s) h (codes "--workers=0") (workers_at (Some false) s)
unfolding walked
workers_0 verb s h holds = record {
  after = used_last (codes "workers") (codes "0") h;
  holds = record {
    settles = refl;
    rows = joins (workers_at None s) (workers_at (Some false) s) (settled rules_built h).rows (codes "workers") (codes "0" ∷ []) holds.rows refl refl (λ other e. rw e refl);
    order = holds.order;
  };
  goes = refl;
  passes = rw (holds.settles, unused (workers_at None s) (settled rules_built h).rows (codes "workers") holds.rows refl) refl;
}

workers_1 : (verb : Verb) (s : SoFar) (h : Held) → Settles (workers_at None s) h → IsStep verb (workers_at None s) h (codes "--workers=1") (workers_at (Some true) s)
unfolding walked
workers_1 verb s h holds = record {
  after = used_last (codes "workers") (codes "1") h;
  holds = record {
    settles = refl;
    rows = joins (workers_at None s) (workers_at (Some true) s) (settled rules_built h).rows (codes "workers") (codes "1" ∷ []) holds.rows refl refl (λ other e. rw e refl);
    order = holds.order;
  };
  goes = refl;
  passes = rw (holds.settles, unused (workers_at None s) (settled rules_built h).rows (codes "workers") holds.rows refl) refl;
}

run_step : (s : SoFar) (h : Held) (word : Text) (workers : Option Bool) → Settles (workers_at workers s) h
    → IfStep verbs.Run (workers_at workers s) h word (with_run_option word (workers_at workers s))
run_step s h word (Some apart) holds = tt
run_step s h word None holds = by_wanting (same_bytes word (codes "--workers")) refl
  where
    by_1 : (b : Bool) → same_bytes word (codes "--workers=1") ≡ b → IfStep verbs.Run (workers_at None s) h word (if b then Some (workers_at (Some true) s) else None)
    by_1 true e = known (λ w. IsStep verbs.Run (workers_at None s) h w (workers_at (Some true) s)) word (codes "--workers=1") e (workers_1 verbs.Run s h holds)
    by_1 false e = tt

    by_0 : (b : Bool) → same_bytes word (codes "--workers=0") ≡ b
        → IfStep verbs.Run (workers_at None s) h word (if b then Some (workers_at (Some false) s) else (if same_bytes word (codes "--workers=1") then Some (workers_at (Some true) s) else None))
    by_0 true e = known (λ w. IsStep verbs.Run (workers_at None s) h w (workers_at (Some false) s)) word (codes "--workers=0") e (workers_0 verbs.Run s h holds)
    by_0 false e = by_1 (same_bytes word (codes "--workers=1")) refl

    by_wanting : (b : Bool) → same_bytes word (codes "--workers") ≡ b
        → IfStep verbs.Run (workers_at None s) h word (if b then Some (waiting_at s)
        else (if same_bytes word (codes "--workers=0") then Some (workers_at (Some false) s) else (if same_bytes word (codes "--workers=1") then Some (workers_at (Some true) s) else None)))
    by_wanting true e = known (λ w. IsStep verbs.Run (workers_at None s) h w (waiting_at s)) word (codes "--workers") e (wanting_step s h holds)
    by_wanting false e = by_0 (same_bytes word (codes "--workers=0")) refl

option_step : (verb : Verb) (s : SoFar) (h : Held) (word : Text) → Settles (free_at true s) h → IfStep verb (free_at true s) h word (with_option verb word (free_at true s))
option_step verbs.One s h word holds = tt
option_step verbs.Run s h word holds = run_step s h word s.workers holds
option_step verbs.Check s h word holds = check_step verbs.Check s h word holds
option_step verbs.Groups s h word holds = tt
option_step verbs.SelfRun s h word holds = tt
option_step verbs.Audit s h word holds = tt

-- ---- positional words

-- the word is no option, and does not end them
record IsPlain (may : Bool) (word : Text) : Type 0 where
  met : (position : ℕ) (h : Held) → word_met rules_built [] (not may) idle position word h ≡ (h, value)
  passes : (h : Held) → word_passes shape_built [] (not may) idle word h ≡ true

plain_behind : (word : Text) → IsPlain false word
plain_behind word = record { met = λ position h. refl; passes = λ h. refl }

long_none : (word : Text) → is_option word ≡ false → long_of word ≡ None
long_none [] e = refl
long_none (a ∷ []) e = go (a == 45)
  where
    go : (b : Bool) → option_and_then long_of_rest (option_and_then (strip_byte 45) (cond b (Some []) None)) ≡ None
    go true = refl
    go false = refl
long_none (a ∷ b ∷ rest) e = go (a == 45) e
  where
    go : (dash : Bool) → (dash && nat_lt 1 (length (a ∷ b ∷ rest))) ≡ false → option_and_then long_of_rest (option_and_then (strip_byte 45) (cond dash (Some (b ∷ rest)) None)) ≡ None
    go true short = absurd (true≢false (sym (lt-ltb 1 (length (a ∷ b ∷ rest)) (omega arith)) ∙ short))
    go false short = refl

short_none : (word : Text) → is_option word ≡ false → short_of word ≡ None
short_none [] e = refl
short_none (a ∷ []) e = go (a == 45)
  where
    go : (b : Bool) → option_and_then short_of_rest (cond b (Some []) None) ≡ None
    go true = refl
    go false = refl
short_none (a ∷ b ∷ rest) e = go (a == 45) e
  where
    go : (dash : Bool) → (dash && nat_lt 1 (length (a ∷ b ∷ rest))) ≡ false → option_and_then short_of_rest (cond dash (Some (b ∷ rest)) None) ≡ None
    go true short = absurd (true≢false (sym (lt-ltb 1 (length (a ∷ b ∷ rest)) (omega arith)) ∙ short))
    go false short = refl

plain_ahead : (word : Text) → same_bytes word (codes "--") ≡ false → is_option word ≡ false → IsPlain true word
plain_ahead word ends no_option = record {
  met = λ position h. rw (ends, long_none word no_option, short_none word no_option) refl;
  passes = λ h. rw (ends, long_none word no_option, short_none word no_option) refl;
}

and_false : (b : Bool) → (b && false) ≡ false
and_false true = refl
and_false false = refl

or_false : (b : Bool) → (b || false) ≡ b
or_false true = refl
or_false false = refl

or_right : (a b : Bool) → b ≡ true → (a || b) ≡ true
or_right true b e = refl
or_right false b e = e

-- what makes a positional word the next: its place, its argument, and that nothing else is said
record IsNext (s t : SoFar) (word id : Text) (position next : ℕ) : Type 0 where
  here : arg_by_index rules_built position ≡ Some (positional_built position id)
  named : arg_by_id rules_built id ≡ Some (positional_built position id)
  at : place s ≡ position
  ahead : place t ≡ next
  above : min (position + 1) usize_max ≡ next
  order : is_ordered t.first t.second t.third t.fourth ≡ true
  none : row_said s id ≡ None
  some : row_said t id ≡ Some (row_with id (word ∷ []))
  beside : IsSaidBeside s t id

positional_step : (verb : Verb) (may : Bool) (s t : SoFar) (h : Held) (word id : Text) (position next : ℕ)
    → Settles (free_at may s) h → IsPlain may word → IsNext (free_at may s) (free_at may t) word id position next → IsStep verb (free_at may s) h word (free_at may t)
unfolding walked
positional_step verb may s t h word id position next holds plain is = record {
  after = record (settled rules_built h) { pending = Some (id, word ∷ []) };
  holds = record {
    settles = ap (λ (o : Option Rule). option_map_or (λ a. use_passes false a (word ∷ []) (settled rules_built h).rows) o true) is.named
        ∙ rw (unused (free_at may s) (settled rules_built h).rows id holds.rows is.none) refl;
    rows = subst (λ (o : Option Rule). AreRows (free_at may t) (used_by_id o (word ∷ []) (settled rules_built h).rows)) (sym is.named)
        (joins (free_at may s) (free_at may t) (settled rules_built h).rows id (word ∷ []) holds.rows is.none is.some is.beside);
    order = is.order;
  };
  goes = ap (λ (p : Held × Step). after_step rules_built word (walk_at h idle (place s) (not may)) p.0 p.1) (plain.met (place s) h)
      ∙ ap (λ (n : ℕ). to_positional rules_built (arg_by_index rules_built n) word (walk_at h idle n (not may)) h) is.at
      ∙ ap (λ (o : Option Rule). to_positional rules_built o word (walk_at h idle position (not may)) h) is.here
      ∙ (λ i. walk_at (pushed id word (if and_false (is_pending (positional_built position id) h.pending) i then h else settled rules_built h)) idle (is.above i) (or_false (not may) i))
      ∙ ap (λ (n : ℕ). walk_at (record (settled rules_built h) { pending = Some (id, word ∷ []) }) idle n (not may)) (sym is.ahead);
  passes = ap₂ (λ (b : Bool) (p : Held × Step). b && step_passes shape_built (place s) p.0 p.1) (plain.passes h) (plain.met (place s) h)
      ∙ ap (λ (n : ℕ). step_passes shape_built n h value) is.at
      ∙ ap (λ (o : Option Rule). option_map_or (λ a. positional_passes rules_built false a h) o false) is.here
      ∙ or_right _ _ holds.settles;
}

abbrev put_at : Bool → Option Text → Option Text → Option Text → Option Text → SoFar → SoFar
put_at may first second third fourth s = record s { wants_value = false; may_be_option = may; first = first; second = second; third = third; fourth = fourth }

put_step : (verb : Verb) (may : Bool) (s : SoFar) (h : Held) (word : Text) (first second third fourth : Option Text) → IsPlain may word
    → Settles (put_at may first second third fourth s) h → IfStep verb (put_at may first second third fourth s) h word (with_positional word (put_at may first second third fourth s))
put_step verb may s h word None None None None plain holds =
    positional_step verb may (put_at may None None None None s) (put_at may (Some word) None None None s) h word (codes "first") 1 2 holds plain
    (record { here = refl; named = refl; at = refl; ahead = refl; above = refl; order = refl; none = refl; some = refl; beside = λ other e. rw e refl })
put_step verb may s h word (Some a) None None None plain holds =
    positional_step verb may (put_at may (Some a) None None None s) (put_at may (Some a) (Some word) None None s) h word (codes "second") 2 3 holds plain
    (record { here = refl; named = refl; at = refl; ahead = refl; above = refl; order = refl; none = refl; some = refl; beside = λ other e. rw e refl })
put_step verb may s h word (Some a) (Some b) None None plain holds =
    positional_step verb may (put_at may (Some a) (Some b) None None s) (put_at may (Some a) (Some b) (Some word) None s) h word (codes "third") 3 4 holds plain
    (record { here = refl; named = refl; at = refl; ahead = refl; above = refl; order = refl; none = refl; some = refl; beside = λ other e. rw e refl })
put_step verb may s h word (Some a) (Some b) (Some c) None plain holds =
    positional_step verb may (put_at may (Some a) (Some b) (Some c) None s) (put_at may (Some a) (Some b) (Some c) (Some word) s) h word (codes "fourth") 4 5 holds plain
    (record { here = refl; named = refl; at = refl; ahead = refl; above = refl; order = refl; none = refl; some = refl; beside = λ other e. rw e refl })
put_step verb may s h word (Some a) (Some b) (Some c) (Some d) plain holds = tt
put_step verb may s h word first second third fourth plain holds = absurd (true≢false (sym holds.order))

-- ---- any word

ends_options : (verb : Verb) (s : SoFar) (h : Held) → Settles (free_at true s) h → IsStep verb (free_at true s) h (codes "--") (free_at false s)
unfolding walked
ends_options verb s h holds = record {
  after = h;
  holds = record { settles = holds.settles; rows = record { each = holds.rows.each }; order = holds.order };
  goes = refl;
  passes = refl;
}

free_step : (verb : Verb) (may : Bool) (s : SoFar) (h : Held) (word : Text) → Settles (free_at may s) h → IfStep verb (free_at may s) h word (with_word verb word (free_at may s))
free_step verb false s h word holds = put_step verb false s h word s.first s.second s.third s.fourth (plain_behind word) holds
free_step verb true s h word holds = by_end (same_bytes word (codes "--")) refl
  where
    by_option : (ends : same_bytes word (codes "--") ≡ false) (b : Bool) → is_option word ≡ b
        → IfStep verb (free_at true s) h word (if b then with_option verb word (free_at true s) else with_positional word (free_at true s))
    by_option ends true e = option_step verb s h word holds
    by_option ends false e = put_step verb true s h word s.first s.second s.third s.fourth (plain_ahead word ends e) holds

    by_end : (b : Bool) → same_bytes word (codes "--") ≡ b
        → IfStep verb (free_at true s) h word (if b then Some (free_at false s)
        else (if is_option word then with_option verb word (free_at true s) else with_positional word (free_at true s)))
    by_end true e = known (λ w. IsStep verb (free_at true s) h w (free_at false s)) word (codes "--") e (ends_options verb s h holds)
    by_end false e = by_option e (is_option word) refl

abbrev standing : Bool → Bool → Option Bool → SoFar → SoFar
standing wants may workers s = record s { wants_value = wants; may_be_option = may; workers = workers }

pub step : (verb : Verb) (s : SoFar) (h : Held) (word : Text) → Holds verb s h → IfSome (with_word verb word s) (IsStep verb s h word)
step verb s h word holds = go s.wants_value s.may_be_option s.workers holds
  where
    go : (wants may : Bool) (workers : Option Bool) → HoldsBy wants verb (standing wants may workers s) h → IfStep verb (standing wants may workers s) h word (with_word verb word (standing wants may workers s))
    go true true None waits = value_step verb s h word waits.rows waits.order
    go true true (Some apart) waits = absurd (some≢none apart waits.unset)
    go true false workers waits = absurd (true≢false (sym waits.open_still))
    go false may workers settles = free_step verb may (standing false may workers s) h word settles
