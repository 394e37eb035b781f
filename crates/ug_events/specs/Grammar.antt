-- What a line of events says: its words are read from left to right, and the first that can't be read decides.
use Rattle.std.specs.Prelude.{ℕ, nat_lt, List, [], ◌∷◌, length, Option, Some, None, codes, Ok, Err, if◌then◌else◌}
use Rattle.ug_types.specs.Ip.{IpPrefix}
use Rattle.ug_types.specs.Bytes.{same_bytes}
use Rattle.ug_text.specs.Addresses.{prefix}
use Rattle.ug_events.specs.declared.verb.Verb.{Verb}
use Rattle.ug_events.specs.declared.verb.Verb.TheVariants as verbs
use Rattle.ug_events.specs.Events.{ComesUp, GoesDown, HasPaths, HasNone, HasPolicy, HasEntries, AsksAgain, SendsRequest, SendsList, Saying, SaysNothing, SaysSync, Says}
use Rattle.ug_events.specs.Reads.{Reads, too_long, bad_verb, bad_words, bad_prefix, refused, or_refused, ◌>>=◌}
use Rattle.ug_events.specs.Words.{begins_with, words, without_return}
use Rattle.ug_events.specs.Fields.{name_of}
use Rattle.ug_events.specs.Paths.{paths_of}
use Rattle.ug_events.specs.Entries.{entries_of}
use Rattle.ug_events.specs.Messages.{request_of, list_of}

-- ---- words behind the verb

-- there is a word, and it is read
abbrev pub word_of : {A : Type 0} → (List ℕ → Reads A) → List (List ℕ) → Reads (A × List (List ℕ))
word_of read [] = refused bad_words
word_of read (word ∷ words) = read word >>= λ x. Ok (x, words)

-- there is no word more
abbrev pub no_more : {A : Type 0} → A → List (List ℕ) → Reads A
no_more x [] = Ok x
no_more x (word ∷ words) = refused bad_words

-- exactly one word
abbrev pub one_word : {A : Type 0} → (List ℕ → Reads A) → List (List ℕ) → Reads A
one_word read words = word_of read words >>= λ x. no_more x.0 x.1

-- exactly two words
abbrev pub two_words : {A B : Type 0} → (List ℕ → Reads A) → (List ℕ → Reads B) → List (List ℕ) → Reads (A × B)
two_words first second words = do
  x ← word_of first words
  y ← word_of second x.1
  no_more (x.0, y.0) y.1

abbrev pub prefix_word : List ℕ → Reads IpPrefix
prefix_word word = or_refused bad_prefix (prefix word)

-- a name, or `-` for none
abbrev pub policy_of : List ℕ → Reads (Option (List ℕ))
policy_of word = if same_bytes word (codes "-") then Ok None else name_of word >>= λ name. Ok (Some name)

-- ---- verbs

-- what the words behind each verb say
unfoldable pub said : Verb → List (List ℕ) → Reads Saying
said verbs.Up words = one_word name_of words >>= λ peer. Ok (Says (ComesUp peer))
said verbs.Down words = one_word name_of words >>= λ peer. Ok (Says (GoesDown peer))
said verbs.Paths words = do
  x ← word_of prefix_word words
  paths ← paths_of x.0.family x.1
  Ok (Says (HasPaths x.0 paths))
said verbs.Withdraw words = one_word prefix_word words >>= λ p. Ok (Says (HasNone p))
said verbs.Policy words = two_words name_of policy_of words >>= λ x. Ok (Says (HasPolicy x.0 x.1))
said verbs.List words = do
  x ← word_of name_of words
  entries ← entries_of x.1
  Ok (Says (HasEntries x.0 entries))
said verbs.Refresh words = one_word name_of words >>= λ peer. Ok (Says (AsksAgain peer))
said verbs.Receive words = two_words name_of request_of words >>= λ x. Ok (Says (SendsRequest x.0))
said verbs.Orf words = two_words name_of list_of words >>= λ x. Ok (Says (SendsList x.0 x.1))
said verbs.Sync words = no_more SaysSync words

abbrev pub verb_of : List ℕ → Option Verb
verb_of word =
    if same_bytes word (codes "paths") then Some verbs.Paths
    else if same_bytes word (codes "withdraw") then Some verbs.Withdraw
    else if same_bytes word (codes "up") then Some verbs.Up
    else if same_bytes word (codes "down") then Some verbs.Down
    else if same_bytes word (codes "policy") then Some verbs.Policy
    else if same_bytes word (codes "list") then Some verbs.List
    else if same_bytes word (codes "refresh") then Some verbs.Refresh
    else if same_bytes word (codes "receive") then Some verbs.Receive
    else if same_bytes word (codes "orf") then Some verbs.Orf
    else if same_bytes word (codes "sync") then Some verbs.Sync
    else None

-- the verbs of a speaker's routes alone
abbrev pub where_of_routes : Option Verb → Option Verb
where_of_routes (Some verbs.Paths) = Some verbs.Paths
where_of_routes (Some verbs.Withdraw) = Some verbs.Withdraw
where_of_routes _ = None

abbrev pub routes_verb_of : List ℕ → Option Verb
routes_verb_of word = where_of_routes (verb_of word)

-- A line without words, and one whose first word begins with `#`, says nothing.
abbrev pub line_of_words : (List ℕ → Option Verb) → List (List ℕ) → Reads Saying
line_of_words known [] = Ok SaysNothing
line_of_words known (word ∷ words) =
    if begins_with 35 word then Ok SaysNothing else or_refused bad_verb (known word) >>= λ verb. said verb words

-- the longest line, without its newline
abbrev pub most_line : ℕ
most_line = 4096

-- what a line says, without its newline, where these verbs are known; of one that is too long nothing else is read
abbrev pub line_by : (List ℕ → Option Verb) → List ℕ → Reads Saying
line_by known line = if nat_lt most_line (length line) then refused too_long else line_of_words known (words (without_return line))

abbrev pub line_of : List ℕ → Reads Saying
line_of line = line_by verb_of line

-- the same where only the verbs of routes are known
abbrev pub routes_line_of : List ℕ → Reads Saying
routes_line_of line = line_by routes_verb_of line
