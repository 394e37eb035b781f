-- What a line says is an event of its form.
use Rattle.std.proofs.Common.{◌≡◌, ℕ, Bool, true, false, List, [], ◌∷◌, length, Option, Some, None, Result, Ok, Err, refl, subst, nat_lt}
use Rattle.std.specs.Prelude.{if◌then◌else◌}
use Rattle.ug_text.specs.Addresses.{prefix}
use Rattle.ug_policy.specs.declared.list_entry.ListEntry.{ListEntry}
use Rattle.ug_policy.specs.Lists.{list_refusal}
use Rattle.ug_policy.specs.OrfChanges.{OrfRequest}
use Rattle.ug_policy.specs.OrfViews.{AreChanges}
use Rattle.ug_policy.specs.OrfReading.{orf_of}
use Rattle.ug_events.specs.declared.verb.Verb.{Verb}
use Rattle.ug_events.specs.declared.verb.Verb.TheVariants as verbs
use Rattle.ug_events.specs.Events.{Happening, ComesUp, GoesDown, HasPaths, HasNone, HasPolicy, HasEntries, AsksAgain, SendsRequest, SendsList, IsEvent, SaysNothing, Says}
use Rattle.ug_events.specs.Reads.{Reads, too_long, bad_verb, bad_prefix, refused, or_refused, each_read, ◌>>=◌}
use Rattle.ug_events.specs.Words.{begins_with, words, without_return}
use Rattle.ug_events.specs.Fields.{name_of}
use Rattle.ug_events.specs.Paths.{paths_of}
use Rattle.ug_events.specs.Entries.{entry, where_list, some_entries, entries_of}
use Rattle.ug_events.specs.Messages.{bytes_of, request_of, where_orf, list_of}
use Rattle.ug_events.specs.Grammar.{word_of, no_more, one_word, two_words, prefix_word, policy_of, said, line_of_words, most_line, line_by}
use Rattle.ug_events.proofs.InRange.{read_as, read_is, read_first, was_there, paths_fine, some_paths, event_in_range}
use Rattle.ug_commands.proofs.Requests.{request_fits}

-- ---- words

word_read : {A : Type 0} (read : List ℕ → Reads A) (ws : List (List ℕ)) (x : A × List (List ℕ)) → word_of read ws ≡ read_as x → (word : List ℕ) × (read word ≡ read_as x.0)
word_read read [] x e = absurd cc
word_read read (word ∷ ws) x e =
    let y = read_first (read word) (λ y. Ok (y, ws)) x e in
    (word, subst (λ (z : _ × List (List ℕ)). read word ≡ read_as z.0) (read_is (y.0, ws) x y.2) y.1)

none_more : {A : Type 0} (x y : A) (ws : List (List ℕ)) → no_more x ws ≡ read_as y → x ≡ y
none_more x y [] e = read_is x y e
none_more x y (word ∷ ws) e = absurd cc

second_read : {A B : Type 0} (first : List ℕ → Reads A) (second : List ℕ → Reads B) (ws : List (List ℕ)) (z : A × B) → two_words first second ws ≡ read_as z → (word : List ℕ) × (second word ≡ read_as z.1)
second_read first second ws z e =
    let x = read_first (word_of first ws) (λ x. word_of second x.1 >>= λ y. no_more (x.0, y.0) y.1) z e in
    let y = read_first (word_of second x.0.1) (λ y. no_more (x.0.0, y.0) y.1) z x.2 in
    let word = word_read second x.0.1 y.0 y.1 in
    (word.0, subst (λ (w : _ × _). second word.0 ≡ read_as w.1) (none_more (x.0.0, y.0.0) z y.0.1 y.2) word.1)

-- ---- verbs

said_is : (x e : Happening) → read_as (Says x) ≡ read_as (Says e) → x ≡ e
said_is x e h = cc

sound : (x e : Happening) → IsEvent x → read_as (Says x) ≡ read_as (Says e) → IsEvent e
sound x e fine h = subst IsEvent (said_is x e h) fine

entries_fit : (ws : List (List ℕ)) (entries : List ListEntry) → entries_of ws ≡ read_as entries → list_refusal entries ≡ None
unfolding entries_of
entries_fit ws entries e =
    let given = read_first (each_read entry ws) some_entries entries e in
    one given.0 given.2
  where
    listed : (es : List ListEntry) (o : Option ℕ) → list_refusal es ≡ o → where_list es o ≡ read_as entries → list_refusal entries ≡ None
    listed es None is h = subst (λ (x : List ListEntry). list_refusal x ≡ None) (read_is es entries h) is
    listed es (Some number) is h = absurd cc

    one : (es : List ListEntry) → some_entries es ≡ read_as entries → list_refusal entries ≡ None
    one [] h = absurd cc
    one (x ∷ es) h = listed (x ∷ es) (list_refusal (x ∷ es)) refl h

list_fits : (word : List ℕ) (request : OrfRequest) → list_of word ≡ read_as request → AreChanges request.entries
list_fits word request e =
    let bytes = read_first (bytes_of word) (λ bytes. where_orf (orf_of bytes)) request e in
    one bytes.0 (orf_of bytes.0) refl bytes.2
  where
    one : (bytes : List ℕ) (r : Result OrfRequest ℕ) → orf_of bytes ≡ r → where_orf r ≡ read_as request → AreChanges request.entries
    one bytes (Ok x) is h = subst (λ (y : OrfRequest). AreChanges y.entries) (read_is x request h) (request_fits bytes x is)
    one bytes (Err number) is h = absurd cc

said_sound : (verb : Verb) (ws : List (List ℕ)) (e : Happening) → said verb ws ≡ read_as (Says e) → IsEvent e
unfolding said
said_sound verbs.Up ws e h = let x = read_first (one_word name_of ws) (λ peer. Ok (Says (ComesUp peer))) (Says e) h in sound (ComesUp x.0) e tt x.2
said_sound verbs.Down ws e h = let x = read_first (one_word name_of ws) (λ peer. Ok (Says (GoesDown peer))) (Says e) h in sound (GoesDown x.0) e tt x.2
said_sound verbs.Paths ws e h =
    let x = read_first (word_of prefix_word ws) (λ x. paths_of x.0.family x.1 >>= λ paths. Ok (Says (HasPaths x.0 paths))) (Says e) h in
    let paths = read_first (paths_of x.0.0.family x.0.1) (λ paths. Ok (Says (HasPaths x.0.0 paths))) (Says e) x.2 in
    let word = word_read prefix_word ws x.0 x.1 in
    let fine = paths_fine x.0.0.family x.0.1 paths.0 paths.1 in
    let fits = event_in_range word.0 x.0.0 paths.0 (was_there bad_prefix (prefix word.0) x.0.0 word.1) fine.1 in
    sound (HasPaths x.0.0 paths.0) e (some_paths x.0.0.family x.0.1 paths.0 paths.1, (fine.0, fits)) paths.2
said_sound verbs.Withdraw ws e h = let x = read_first (one_word prefix_word ws) (λ p. Ok (Says (HasNone p))) (Says e) h in sound (HasNone x.0) e tt x.2
said_sound verbs.Policy ws e h = let x = read_first (two_words name_of policy_of ws) (λ x. Ok (Says (HasPolicy x.0 x.1))) (Says e) h in sound (HasPolicy x.0.0 x.0.1) e tt x.2
said_sound verbs.List ws e h =
    let x = read_first (word_of name_of ws) (λ x. entries_of x.1 >>= λ entries. Ok (Says (HasEntries x.0 entries))) (Says e) h in
    let entries = read_first (entries_of x.0.1) (λ entries. Ok (Says (HasEntries x.0.0 entries))) (Says e) x.2 in
    sound (HasEntries x.0.0 entries.0) e (entries_fit x.0.1 entries.0 entries.1) entries.2
said_sound verbs.Refresh ws e h = let x = read_first (one_word name_of ws) (λ peer. Ok (Says (AsksAgain peer))) (Says e) h in sound (AsksAgain x.0) e tt x.2
said_sound verbs.Receive ws e h = let x = read_first (two_words name_of request_of ws) (λ x. Ok (Says (SendsRequest x.0))) (Says e) h in sound (SendsRequest x.0.0) e tt x.2
said_sound verbs.Orf ws e h =
    let x = read_first (two_words name_of list_of ws) (λ x. Ok (Says (SendsList x.0 x.1))) (Says e) h in
    let word = second_read name_of list_of ws x.0 x.1 in
    sound (SendsList x.0.0 x.0.1) e (list_fits word.0 x.0.1 word.1) x.2
said_sound verbs.Sync [] e h = absurd cc
said_sound verbs.Sync (word ∷ ws) e h = absurd cc

-- ---- lines

module _ (known : List ℕ → Option Verb) where
  words_sound : (ws : List (List ℕ)) (e : Happening) → line_of_words known ws ≡ read_as (Says e) → IsEvent e
  words_sound [] e h = absurd cc
  words_sound (word ∷ ws) e h = one (begins_with 35 word) h
    where
      one : (b : Bool) → (if b then Ok SaysNothing else (or_refused bad_verb (known word) >>= λ verb. said verb ws)) ≡ read_as (Says e) → IsEvent e
      one true h = absurd cc
      one false h = let verb = read_first (or_refused bad_verb (known word)) (λ verb. said verb ws) (Says e) h in said_sound verb.0 ws e verb.2

  -- what a line says, whatever verbs are known
  pub line_sound : (bytes : List ℕ) (e : Happening) → line_by known bytes ≡ read_as (Says e) → IsEvent e
  line_sound bytes e h = one (nat_lt most_line (length bytes)) h
    where
      one : (b : Bool) → (if b then refused too_long else line_of_words known (words (without_return bytes))) ≡ read_as (Says e) → IsEvent e
      one true h = absurd cc
      one false h = words_sound (words (without_return bytes)) e h
