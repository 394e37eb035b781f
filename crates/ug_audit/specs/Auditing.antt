-- What `audit` promises.
use Rattle.std.specs.Prelude.{◌≡◌, ℕ, ◌<◌, ◌≤◌, List, [], ◌∷◌, ◌++◌, length, map, Option, Ok, Err}
use Rattle.ug_types.specs.declared.key.Key.{Key}
use Rattle.ug_types.specs.Messages.{Message}
use Rattle.ug_edge.specs.Told.{AppendsPiece, FileTold}
use Rattle.ug_pieces.specs.Lines.{ended_from}
use Rattle.ug_pieces.specs.Reporting.{AppendsFront}
use Rattle.ug_config.specs.Reads.{Reads}
use Rattle.ug_world.specs.World.{World}
use Rattle.ug_world.specs.Worlds.{worlds, last_world, past}
use Rattle.ug_config.specs.Worlds as configs
use Rattle.ug_hearing.specs.declared.breach.Ending.{Ending}
use Rattle.ug_hearing.specs.declared.breach.Breach.{Breach}
use Rattle.ug_hearing.specs.Breaches.{IsReadAs, kind_number}
use Rattle.ug_hearing.specs.Certificates.{KeyClimb, AreClimbs}
use Rattle.ug_audit_rules.specs.declared.entry.Entry.{Entry}
use Rattle.ug_audit_rules.specs.Audited.{opened_with, marks_in, is_lost_in, IsHeardRight, IsFirstBreach}
use Rattle.ug_audit_rules.specs.Reports.{entry_of, entries_of, AreClear}
use Rattle.ug_audit_rules.specs.Told.{IsFirstUnclear}
use Rattle.ug_audit_rules.specs.Lines.{said_in}
use Rattle.ug_audit.specs.Verdicts as verdicts
use Rattle.ug_audit.specs.Texts.{session_text, refuted_text, unclear_text}
use Rattle.ug_commands.specs.Words.{AuditCommand}
use Rattle.ug_commands.specs.Files.{IsPartOf, AppendsThenStatus}
use Rattle.ug_commands.specs.Grouped as configurations
use Rattle.ug_report.specs.Statuses.{status_text}
use Rattle.ug_report.specs.declared.status.Status.{Status}
use Rattle.ug_report.specs.declared.status.Status.TheVariants as statuses
use Rattle.ug_audit.specs.Files.{IsFile, IsWithin, IsPast, lines_within}
use Rattle.ug_audit.specs.Sessions.{SessionOf, sessions_of, file_of}

-- the worlds that the lines of events lead through, and the last of them
abbrev pub worlds_of : World → List ℕ → List World
worlds_of w events = worlds w (said_in events)

abbrev pub last_of : World → List ℕ → World
last_of w events = last_world w (said_in events)

-- what the lines of the report tell after these events
abbrev pub told_by : World → List ℕ → List ℕ → List Entry
told_by w events report = entries_of (last_of w events) report

-- A run from the world `w`, with these events and this report: what is found of a session with these messages, and this
-- behind them.
module _ (w : World) (events report : List ℕ) (x : SessionOf) where
  -- It is right, and its certificate says how each of its keys climbs.
  pub record IsCertified (text : List ℕ) (messages : List Message) (ending : Ending) : Type 0 where
    pub right : IsHeardRight (worlds_of w events) (last_of w events) x.place x.number x.state (marks_in (told_by w events report)) (is_lost_in (told_by w events report) x.place x.number) messages ending
    pub climbs : List KeyClimb
    pub climbing : AreClimbs (past x.place x.number (worlds_of w events)) messages climbs
    pub text_is : text ≡ session_text x.state.peer.name x.number (length messages) climbs

  -- It isn't, and this is its first breach.
  abbrev pub IsBroken : Breach → List Message → Ending → Type 0
  IsBroken b messages ending =
      IsFirstBreach (worlds_of w events) (last_of w events) x.place x.number x.state (marks_in (told_by w events report)) (is_lost_in (told_by w events report) x.place x.number) messages ending b

-- `files` tells of each file by its name.
module _ (command : AuditCommand) (files : List ℕ → FileTold) where
  -- The configuration is within its limit, and stands for this.
  pub record StandsFor (x : Reads World) : Type 0 where
    pub bytes : List ℕ
    pub file : IsFile (files command.config) bytes
    pub within : length bytes ≤ configurations.most_bytes
    pub stands : configs.config bytes ≡ x

  -- It stands for a world, and these are the events, within their limits.
  pub record HasEvents (w : World) (events : List ℕ) : Type 0 where
    pub first : StandsFor (Ok w)
    pub file : IsFile (files command.events) events
    pub within : IsWithin events

  -- Beside these this is the report, within its limits, and each of its lines is clear.
  pub record HasReport (w : World) (events report : List ℕ) : Type 0 where
    pub before : HasEvents w events
    pub file : IsFile (files command.report) report
    pub within : IsWithin report
    pub clear : AreClear (told_by w events report)

  -- The file of a session is within its limit, and it is these messages and what stands behind them, of which this holds.
  pub record IsHeard (x : SessionOf) (so : List Message → Ending → Type 0) : Type 0 where
    pub bytes : List ℕ
    pub file : IsFile (files (file_of command.dir x)) bytes
    pub within : length bytes ≤ verdicts.most_bytes
    pub messages : List Message
    pub ending : Ending
    pub read : IsReadAs (opened_with x.state.peer) bytes messages ending
    pub it : so messages ending

  module _ (w : World) (events report : List ℕ) where
    -- Each of these sessions is right, and the text is their certificates, one behind the other.
    abbrev pub AreRight : List SessionOf → List ℕ → Type 0
    AreRight [] text = text ≡ []
    AreRight (x ∷ xs) text = (first : List ℕ) × (others : List ℕ) × (text ≡ first ++ others) × IsHeard x (IsCertified w events report x first) × AreRight xs others

    -- Of all sessions these were heard, and they are right; the others are left.
    pub record HasHeard (front left : List SessionOf) (text : List ℕ) : Type 0 where
      pub before : HasReport w events report
      pub parts : sessions_of (last_of w events) ≡ front ++ left
      pub right : AreRight front text

-- the files that are picked before those of sessions
abbrev pub files_before : AuditCommand → List (List ℕ)
files_before command = command.config ∷ command.events ∷ command.report ∷ []

-- these, and those of some sessions
abbrev pub files_to : AuditCommand → List SessionOf → List (List ℕ)
files_to command front = files_before command ++ map (file_of command.dir) front

-- `picks` says that just these files were picked, in this order.
module _ (command : AuditCommand) (files : List ℕ → FileTold) (picks : List (List ℕ) → Type 0) where
  -- The file that was picked last is that of this session, and those before it are right.
  pub record CameTo (w : World) (events report : List ℕ) (x : SessionOf) : Type 0 where
    pub front : List SessionOf
    pub more : List SessionOf
    pub text : List ℕ
    pub heard : HasHeard command files w events report front (x ∷ more) text
    pub picked : picks (files_to command (front ++ x ∷ []))

  -- All sessions are right, each file was picked, once, and of the certificate this holds.
  pub record IsRight (reported : List ℕ → Type 0) : Type 0 where
    pub w : World
    pub events : List ℕ
    pub report : List ℕ
    pub text : List ℕ
    pub before : HasReport command files w events report
    pub right : AreRight command files w events report (sessions_of (last_of w events)) text
    pub picked : picks (files_to command (sessions_of (last_of w events)))
    pub so : reported text

  -- The file that was picked last could not be read, or not whole; the others are as they should be, and so are the whole
  -- lines of the report that were read.
  pub data IsUnread : Type 0 where
    Config : picks (command.config ∷ []) → IsUnread
    Events : (w : World) → StandsFor command files (Ok w) → picks (command.config ∷ command.events ∷ []) → IsUnread
    Report : (w : World) (events read rest : List ℕ) → HasEvents command files w events → IsPartOf (files command.report) read rest → AreClear (map (entry_of (last_of w events)) (ended_from [] read))
        → picks (files_before command) → IsUnread
    Session : (w : World) (events report : List ℕ) (x : SessionOf) → CameTo w events report x → IsUnread

  -- The file that was picked last is past its limit; the others are as they should be, and so are the lines of the report
  -- that are within its limits.
  pub data IsTooLong : Type 0 where
    Config : (bytes : List ℕ) → IsFile (files command.config) bytes → configurations.most_bytes < length bytes → picks (command.config ∷ []) → IsTooLong
    Events : (w : World) (bytes : List ℕ) → StandsFor command files (Ok w) → IsFile (files command.events) bytes → IsPast bytes → picks (command.config ∷ command.events ∷ []) → IsTooLong
    Report : (w : World) (events bytes : List ℕ) → HasEvents command files w events → IsFile (files command.report) bytes → IsPast bytes → AreClear (map (entry_of (last_of w events)) (lines_within bytes))
        → picks (files_before command) → IsTooLong
    Session : (w : World) (events report bytes : List ℕ) (x : SessionOf) → CameTo w events report x → IsFile (files (file_of command.dir x)) bytes → verdicts.most_bytes < length bytes → IsTooLong

  -- Memory ran out: the files before the one that was picked last are as they should be, and perhaps that one too.
  pub data IsStarved : Type 0 where
    Unpicked : picks [] → IsStarved
    Config : picks (command.config ∷ []) → IsStarved
    Events : (w : World) → StandsFor command files (Ok w) → picks (command.config ∷ command.events ∷ []) → IsStarved
    Report : (w : World) (events : List ℕ) → HasEvents command files w events → picks (files_before command) → IsStarved
    Session : (w : World) (events report : List ℕ) (x : SessionOf) → CameTo w events report x → IsStarved
    Between : (w : World) (events report : List ℕ) (front left : List SessionOf) (text : List ℕ) → HasHeard command files w events report front left text → picks (files_to command front) → IsStarved

  -- This is the first line of the report that isn't clear.
  pub record IsUnclear (line : ℕ) : Type 0 where
    pub w : World
    pub events : List ℕ
    pub report : List ℕ
    pub before : HasEvents command files w events
    pub file : IsFile (files command.report) report
    pub first : IsFirstUnclear line (map (entry_of (last_of w events)) (lines_within report))
    pub picked : picks (files_before command)

  -- This is the first session that isn't right, and its first breach; of the line that says so this holds.
  pub record IsRefuted (place number kind message : ℕ) (key : Option Key) (reported : List ℕ → Type 0) : Type 0 where
    pub w : World
    pub events : List ℕ
    pub report : List ℕ
    pub x : SessionOf
    pub b : Breach
    pub came : CameTo w events report x
    pub broken : IsHeard command files x (IsBroken w events report x b)
    pub place_is : place ≡ x.place
    pub number_is : number ≡ x.number
    pub kind_is : kind ≡ kind_number b.kind
    pub message_is : message ≡ b.message
    pub key_is : key ≡ b.key
    pub so : reported (refuted_text x.state.peer.name x.number b)

  -- What holds of an audit with each status. `before` and `held` are what the report was given, and `failed` is that a call
  -- of it failed.
  abbrev pub IsAuditing : Status → Option (List ℕ) → Option (List ℕ) → Type 0 → Type 0
  IsAuditing statuses.Ok before held failed = IsRight (AppendsPiece before held)
  IsAuditing statuses.ReportFault before held failed = IsRight (AppendsFront before held)
  IsAuditing (statuses.Config number field) before held failed =
      StandsFor command files (Err (record { number = number; field = field.items })) × picks (command.config ∷ []) × AppendsThenStatus before held failed [] (status_text (statuses.Config number field))
  IsAuditing statuses.ReadFault before held failed = IsUnread × AppendsThenStatus before held failed [] (status_text statuses.ReadFault)
  IsAuditing statuses.NoMemory before held failed = IsStarved × AppendsThenStatus before held failed [] (status_text statuses.NoMemory)
  IsAuditing statuses.TooLong before held failed = IsTooLong × AppendsThenStatus before held failed [] (status_text statuses.TooLong)
  IsAuditing (statuses.Refuted peer session kind message key) before held failed = IsRefuted peer session kind message key (AppendsThenStatus before held failed [])
  IsAuditing (statuses.Unclear line) before held failed = IsUnclear line × AppendsThenStatus before held failed [] (unclear_text line)
  IsAuditing statuses.Usage before held failed = ⊥
  IsAuditing statuses.SiteFault before held failed = ⊥
  IsAuditing (statuses.Lost peer session) before held failed = ⊥
  IsAuditing (statuses.Malformed cause offset) before held failed = ⊥
