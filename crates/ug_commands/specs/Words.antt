-- Which words are a command: its name, options that may stand anywhere behind it, and the positional words. A word `--`
-- ends the options.
use Rattle.std.specs.Prelude.{ℕ, nat_lt, ◌==◌, Bool, true, false, not, ◌&&◌, List, [], ◌∷◌, length, Option, Some, None, is_some, option_and_then, codes, if◌then◌else◌}
use Rattle.ug_types.specs.declared.capabilities.Capabilities.{Capabilities}
use Rattle.ug_types.specs.declared.family.Family.TheVariants.{V4, V6}
use Rattle.ug_types.specs.Bytes.{same_bytes}
use Rattle.ug_text.specs.Numbers.{number}
use Rattle.ug_commands.specs.declared.verb.Verb.{Verb}
use Rattle.ug_commands.specs.declared.verb.Verb.TheVariants as verbs

-- the name of a command
abbrev pub verb_of : List ℕ → Option Verb
verb_of word =
    if same_bytes word (codes "one") then Some verbs.One
    else if same_bytes word (codes "run") then Some verbs.Run
    else if same_bytes word (codes "check") then Some verbs.Check
    else if same_bytes word (codes "groups") then Some verbs.Groups
    else if same_bytes word (codes "selfrun") then Some verbs.SelfRun
    else if same_bytes word (codes "audit") then Some verbs.Audit
    else None

abbrev begins_with_dash : List ℕ → Bool
begins_with_dash [] = false
begins_with_dash (b ∷ bytes) = b == 45

-- a word of two bytes or more that begins with `-`
abbrev pub is_option : List ℕ → Bool
is_option word = begins_with_dash word && nat_lt 1 (length word)

-- What the words said so far: whether options may still come, and whether the value of `--workers` has to; the options,
-- and the positional words.
pub record SoFar : Type 0 where
  pub may_be_option : Bool
  pub wants_value : Bool
  pub add_path : Bool
  pub extended : Bool
  pub ipv6 : Bool
  pub workers : Option Bool
  pub first : Option (List ℕ)
  pub second : Option (List ℕ)
  pub third : Option (List ℕ)
  pub fourth : Option (List ℕ)

abbrev pub nothing_said : SoFar
nothing_said = record { may_be_option = true; wants_value = false; add_path = false; extended = false; ipv6 = false; workers = None; first = None; second = None; third = None; fourth = None }

-- a positional word, of which no command has more than four
abbrev pub with_positional : List ℕ → SoFar → Option SoFar
with_positional word s =
    if not (is_some s.first) then Some (record s { first = Some word })
    else if not (is_some s.second) then Some (record s { second = Some word })
    else if not (is_some s.third) then Some (record s { third = Some word })
    else if not (is_some s.fourth) then Some (record s { fourth = Some word })
    else None

-- an option of `check`, at most once
abbrev pub with_check_option : List ℕ → SoFar → Option SoFar
with_check_option word s =
    if same_bytes word (codes "--add-path") then (if s.add_path then None else Some (record s { add_path = true }))
    else if same_bytes word (codes "--extended") then (if s.extended then None else Some (record s { extended = true }))
    else if same_bytes word (codes "--ipv6") then (if s.ipv6 then None else Some (record s { ipv6 = true }))
    else None

-- `--workers`, at most once, whose value is the next word, or stands behind `=`
abbrev pub with_run_option : List ℕ → SoFar → Option SoFar
with_run_option word s =
    if is_some s.workers then None
    else if same_bytes word (codes "--workers") then Some (record s { wants_value = true })
    else if same_bytes word (codes "--workers=0") then Some (record s { workers = Some false })
    else if same_bytes word (codes "--workers=1") then Some (record s { workers = Some true })
    else None

abbrev pub with_option : Verb → List ℕ → SoFar → Option SoFar
with_option verbs.One word s = None
with_option verbs.Run word s = with_run_option word s
with_option verbs.Check word s = with_check_option word s
with_option verbs.Groups word s = None
with_option verbs.SelfRun word s = None
with_option verbs.Audit word s = None

-- the value of `--workers`
abbrev pub with_value : List ℕ → SoFar → Option SoFar
with_value word s =
    if same_bytes word (codes "0") then Some (record s { wants_value = false; workers = Some false })
    else if same_bytes word (codes "1") then Some (record s { wants_value = false; workers = Some true })
    else None

-- What a word is, by the first that applies: the value that `--workers` waits for; behind `--` a positional word; `--`
-- itself, once; an option of the command; else a positional word. Whatever is none of these is no command.
abbrev pub with_word : Verb → List ℕ → SoFar → Option SoFar
with_word verb word s =
    if s.wants_value then with_value word s
    else if not s.may_be_option then with_positional word s
    else if same_bytes word (codes "--") then Some (record s { may_be_option = false })
    else if is_option word then with_option verb word s
    else with_positional word s

unfoldable pub with_words : Verb → List (List ℕ) → SoFar → Option SoFar
with_words verb [] s = Some s
with_words verb (word ∷ words) s = option_and_then (with_words verb words) (with_word verb word s)

-- `one EVENTS DIR`
pub record OneCommand : Type 0 where
  pub events : List ℕ
  pub dir : List ℕ

-- `run CONFIG EVENTS DIR [--workers 0 or 1]`: the names of the files and of the folder, and whether the lanes work in
-- threads of their own, which they do unless the words say otherwise
pub record RunCommand : Type 0 where
  pub config : List ℕ
  pub events : List ℕ
  pub dir : List ℕ
  pub apart : Bool

-- `check [--add-path] [--extended] [--ipv6] STREAM`: what the session was opened with, and the name of its file
pub record CheckCommand : Type 0 where
  pub session : Capabilities
  pub stream : List ℕ

-- `groups CONFIG`
pub record GroupsCommand : Type 0 where
  pub config : List ℕ

-- `selfrun NUMBER`
pub record SelfRunCommand : Type 0 where
  pub number : ℕ

-- `audit CONFIG EVENTS REPORT DIR`: the names of the files of a run, and of the folder of its sessions
pub record AuditCommand : Type 0 where
  pub config : List ℕ
  pub events : List ℕ
  pub report : List ℕ
  pub dir : List ℕ

pub data Command : Type 0 where
  One : OneCommand → Command
  Run : RunCommand → Command
  Check : CheckCommand → Command
  Groups : GroupsCommand → Command
  SelfRun : SelfRunCommand → Command
  Audit : AuditCommand → Command

abbrev pub one_by : Option (List ℕ) → Option (List ℕ) → Option (List ℕ) → Option (List ℕ) → Option Command
one_by (Some events) (Some dir) None None = Some (One (record { events = events; dir = dir }))
one_by _ _ _ _ = None

abbrev pub is_apart : Option Bool → Bool
is_apart None = true
is_apart (Some apart) = apart

abbrev pub run_by : Bool → Option (List ℕ) → Option (List ℕ) → Option (List ℕ) → Option (List ℕ) → Option Command
run_by apart (Some config) (Some events) (Some dir) None = Some (Run (record { config = config; events = events; dir = dir; apart = apart }))
run_by apart _ _ _ _ = None

abbrev pub check_by : Capabilities → Option (List ℕ) → Option (List ℕ) → Option (List ℕ) → Option (List ℕ) → Option Command
check_by session (Some stream) None None None = Some (Check (record { session = session; stream = stream }))
check_by session _ _ _ _ = None

abbrev pub groups_by : Option (List ℕ) → Option (List ℕ) → Option (List ℕ) → Option (List ℕ) → Option Command
groups_by (Some config) None None None = Some (Groups (record { config = config }))
groups_by _ _ _ _ = None

-- a number of 1 to 20 decimal digits, below 2^64
abbrev pub number_of : List ℕ → Option ℕ
number_of word = number 20 18446744073709551615 word

abbrev pub selfrun_said : Option ℕ → Option Command
selfrun_said None = None
selfrun_said (Some number) = Some (SelfRun (record { number = number }))

abbrev pub selfrun_by : Option (List ℕ) → Option (List ℕ) → Option (List ℕ) → Option (List ℕ) → Option Command
selfrun_by (Some word) None None None = selfrun_said (number_of word)
selfrun_by _ _ _ _ = None

abbrev pub audit_by : Option (List ℕ) → Option (List ℕ) → Option (List ℕ) → Option (List ℕ) → Option Command
audit_by (Some config) (Some events) (Some report) (Some dir) = Some (Audit (record { config = config; events = events; report = report; dir = dir }))
audit_by _ _ _ _ = None

-- the session that the options speak of
abbrev pub session_said : SoFar → Capabilities
session_said s = record { family = if s.ipv6 then V6 else V4; add_path = s.add_path; extended = s.extended }

-- the command that all words say
abbrev pub said_by : Verb → SoFar → Option Command
said_by verbs.One s = one_by s.first s.second s.third s.fourth
said_by verbs.Run s = if s.wants_value then None else run_by (is_apart s.workers) s.first s.second s.third s.fourth
said_by verbs.Check s = check_by (session_said s) s.first s.second s.third s.fourth
said_by verbs.Groups s = groups_by s.first s.second s.third s.fourth
said_by verbs.SelfRun s = selfrun_by s.first s.second s.third s.fourth
said_by verbs.Audit s = audit_by s.first s.second s.third s.fourth

abbrev pub command_by : List (List ℕ) → Verb → Option Command
command_by words verb = option_and_then (said_by verb) (with_words verb words nothing_said)

-- the command that the words are
abbrev pub command_of : List (List ℕ) → Option Command
command_of [] = None
command_of (word ∷ words) = option_and_then (command_by words) (verb_of word)

abbrev pub is_command : List (List ℕ) → Bool
is_command words = is_some (command_of words)
