-- How far an audit came, and why it stopped.
use Rattle.std.specs.Prelude.{◌≡◌, ℕ, ◌<◌, ◌≤◌, ◌⊎◌, List, [], ◌∷◌, length, map, Option, Err}
use Rattle.std.specs.String.{string_bytes}
use Rattle.ug_edge.specs.Told.{FileTold, AppendsAll}
use Rattle.ug_pieces.specs.Lines.{lines_of, ended_from}
use Rattle.ug_world.specs.World.{World}
use Rattle.ug_audit_rules.specs.Timelines.{IsFirst}
use Rattle.ug_audit_rules.specs.Histories.{AreTimelines}
use Rattle.ug_hearing.specs.declared.breach.Breach.{Breach}
use Rattle.ug_hearing.specs.Breaches.{kind_number}
use Rattle.ug_audit_rules.specs.declared.entry.Entry.{Entry}
use Rattle.ug_audit_rules.specs.Reports.{entry_of, entries_of, AreClear}
use Rattle.ug_audit_rules.specs.Told.{TellsAsMuch, IsFirstUnclear}
use Rattle.ug_audit.specs.Texts.{refuted_text}
use Rattle.ug_commands.specs.Files.{IsPartOf}
use Rattle.ug_commands.specs.Words.{AuditCommand}
use Rattle.ug_commands.specs.declared.command.AuditWords.{AuditWords}
use Rattle.ug_audit.specs.Files.{IsFile, IsWithin, IsPast, lines_within}
use Rattle.ug_audit.specs.Sessions.{SessionOf}
use Rattle.ug_audit.specs.Auditing.{worlds_of, last_of, told_by, files_to, StandsFor, HasReport, HasHeard, IsUnread, IsTooLong, IsStarved, IsUnclear, IsRefuted}
use Rattle.ug_audit.specs.Last.{IsLast}
use Rattle.ug_audit.specs.declared.stop.Stop.{Stop}
use Rattle.ug_audit.specs.declared.stop.Stop.TheVariants as stops
use Rattle.ug_audit.specs.declared.run.Run.{Run}

-- what the words say
abbrev pub said : AuditWords → AuditCommand
said words = record { config = words.config.now; events = words.events.now; report = words.report.now; dir = words.dir.now }

-- ---- one file

-- Why a file wasn't picked: `picked` is that it counts as picked, and `unpicked` that none was.
abbrev pub IsPickStop : Type 0 → Type 0 → Stop → Type 0
IsPickStop picked unpicked stops.Read = picked
IsPickStop picked unpicked stops.NoMemory = unpicked
IsPickStop picked unpicked stops.TooLong = ⊥
IsPickStop picked unpicked (stops.Config number field) = ⊥
IsPickStop picked unpicked (stops.Unclear line) = ⊥
IsPickStop picked unpicked (stops.Refuted peer session breach text) = ⊥

-- Why a file wasn't read whole: it could not be, memory ran out, or its bytes are past its limit.
abbrev pub IsFileStop : FileTold → (List ℕ → Type 0) → Type 0 → Type 0 → Stop → Type 0
IsFileStop file past picked unpicked stops.Read = picked
IsFileStop file past picked unpicked stops.NoMemory = picked ⊎ unpicked
IsFileStop file past picked unpicked stops.TooLong = picked × (bytes : List ℕ) × IsFile file bytes × past bytes
IsFileStop file past picked unpicked (stops.Config number field) = ⊥
IsFileStop file past picked unpicked (stops.Unclear line) = ⊥
IsFileStop file past picked unpicked (stops.Refuted peer session breach text) = ⊥

-- ---- the report

-- A report is within its limits, its lines are clear, and they tell as much as these.
pub record IsTold (file : FileTold) (last : World) (entries : List Entry) : Type 0 where
  pub report : List ℕ
  pub is : IsFile file report
  pub within : IsWithin report
  pub clear : AreClear (entries_of last report)
  pub tells : TellsAsMuch entries (entries_of last report)

-- Why a report tells nothing.
abbrev pub IsToldStop : FileTold → World → Type 0 → Type 0 → Stop → Type 0
IsToldStop file last picked unpicked stops.Read = picked × (read : List ℕ) × (rest : List ℕ) × IsPartOf file read rest × AreClear (map (entry_of last) (ended_from [] read))
IsToldStop file last picked unpicked stops.NoMemory = picked ⊎ unpicked
IsToldStop file last picked unpicked stops.TooLong = picked × (bytes : List ℕ) × IsFile file bytes × IsPast bytes × AreClear (map (entry_of last) (lines_within bytes))
IsToldStop file last picked unpicked (stops.Unclear line) = picked × (bytes : List ℕ) × IsFile file bytes × IsFirstUnclear line (map (entry_of last) (lines_within bytes))
IsToldStop file last picked unpicked (stops.Config number field) = ⊥
IsToldStop file last picked unpicked (stops.Refuted peer session breach text) = ⊥

-- ---- a session

-- The breach of a session, with the line that says so, where there was memory for it.
abbrev pub IsRefutedBy : ℕ → ℕ → List ℕ → Breach → Stop → Type 0
IsRefutedBy peer session name b stops.Read = ⊥
IsRefutedBy peer session name b stops.NoMemory = Unit {0}
IsRefutedBy peer session name b stops.TooLong = ⊥
IsRefutedBy peer session name b (stops.Config number field) = ⊥
IsRefutedBy peer session name b (stops.Unclear line) = ⊥
IsRefutedBy peer session name b (stops.Refuted p n breach text) = (p ≡ peer) × (n ≡ session) × (breach ≡ b) × (string_bytes text ≡ refuted_text name session b)

-- ---- all of it

-- Why there is no certificate.
abbrev pub IsStopped : AuditCommand → (List ℕ → FileTold) → (List (List ℕ) → Type 0) → Stop → Type 0
IsStopped command files picks stops.Read = IsUnread command files picks
IsStopped command files picks stops.NoMemory = IsStarved command files picks
IsStopped command files picks stops.TooLong = IsTooLong command files picks
IsStopped command files picks (stops.Config number field) = StandsFor command files (Err (record { number = number; field = field.items })) × picks (command.config ∷ [])
IsStopped command files picks (stops.Unclear line) = IsUnclear command files picks line
IsStopped command files picks (stops.Refuted peer session breach text) =
    IsRefuted command files picks peer session (kind_number breach.kind) breach.message breach.key (λ (line : List ℕ). string_bytes text ≡ line)

-- the world to which the events lead
abbrev pub last_in : Run → World
last_in run = last_of run.first run.events.items

-- The events are few, and what is kept is of the worlds to which they lead from a first one.
pub record IsRun (run : Run) : Type 0 where
  pub first : IsFirst run.first
  pub few : length (lines_of run.events.items) ≤ 2000000
  pub timelines : AreTimelines (worlds_of run.first run.events.items) (last_in run) run.timelines
  pub last : IsLast (last_in run) run.last

-- What is kept of the files before those of sessions is of these.
pub record IsOf (command : AuditCommand) (files : List ℕ → FileTold) (report : List ℕ) (run : Run) : Type 0 where
  pub before : HasReport command files run.first run.events.items report
  pub tells : TellsAsMuch run.entries.items (told_by run.first run.events.items report)

-- The files of sessions were picked and heard up to those that are left, and their certificates are this text. `names` are
-- those that were picked before the audit, and now.
pub record IsAt (command : AuditCommand) (files : List ℕ → FileTold) (run : Run) (names names' : Option (List (List ℕ))) (left : List SessionOf) (text : List ℕ) : Type 0 where
  pub report : List ℕ
  pub is_of : IsOf command files report run
  pub front : List SessionOf
  pub heard : HasHeard command files run.first run.events.items report front left text
  pub picked : AppendsAll names names' (files_to command front)
