-- How a run over a world ends, once it has begun to read its file of events: a record for each status that it may have.
use Rattle.std.specs.Prelude.{◌≡◌, ℕ, ◌⊎◌, Bool, true, false, not, List, [], ◌++◌, length, map}
use Rattle.std.specs.List.{concat}
use Rattle.ug_types.specs.declared.mark.Mark.{Mark}
use Rattle.ug_types.specs.Bytes.{is_empty}
use Rattle.ug_edge.specs.Told.{AppendsPiece}
use Rattle.ug_pieces.specs.Reporting.{AppendsFront}
use Rattle.ug_board.specs.Rules.{Rules}
use Rattle.ug_board.specs.History.{replay}
use Rattle.ug_board.specs.Deeds.{Each}
use Rattle.ug_events.specs.Events.{Saying}
use Rattle.ug_events.specs.Reads.{Reads}
use Rattle.ug_world.specs.World.{World}
use Rattle.ug_world.specs.Worlds.{last_world}
use Rattle.ug_speaker.specs.Speech.{Speech}
use Rattle.ug_report.specs.declared.endings.Loss.{Loss}
use Rattle.ug_report.specs.Report.{AreOf64, names_in, line_texts, end_text, losses_from, losses_status}
use Rattle.ug_report.specs.Statuses.{status_text}
use Rattle.ug_report.specs.declared.status.Status.{Status}
use Rattle.ug_report.specs.declared.status.Status.TheVariants as statuses
use Rattle.ug_event_loop.specs.declared.grammar.Grammar.{Grammar}
use Rattle.ug_event_loop.specs.Standing.{said_by}
use Rattle.ug_event_loop.specs.Files.{lines_read, IsPastLimits}
use Rattle.ug_commands.specs.Files.{AppendsThenStatus}
use Rattle.ug_event_loop.specs.Contents.{Content}
use Rattle.ug_event_loop.specs.Crew.{IsClosed, all_losses}
use Rattle.ug_event_loop.specs.Kept.{IsKept}
use Rattle.ug_run.specs.Ends.{IsFirst}
use Rattle.ug_run.specs.Told.{RunTold, HasFailed}

-- The course of a run. Of the file of events this was read, and this is the rest. These lines were taken, of those ahead of
-- the file and of the file, each with its marks. The sessions of each wire hold this, and those of these numbers were lost.
pub record Course : Type 0 where
  pub read : List ℕ
  pub rest : List ℕ
  pub ahead : List (Reads Saying)
  pub lines : List (Reads Saying)
  pub ahead_marks : List (List Mark)
  pub marks : List (List Mark)
  pub contents : List (List Content)
  pub lost : List (List ℕ)

-- all lines that were taken, and the marks of each
abbrev pub taken : Course → List (Reads Saying)
taken c = c.ahead ++ c.lines

abbrev pub marked : Course → List (List Mark)
marked c = c.ahead_marks ++ c.marks

-- the sessions that were lost, as the report tells them
abbrev pub losses : Course → List Loss
losses c = losses_from 0 c.lost

-- what the report says of the lines of the file, each text a line of its own
abbrev pub texts : World → Course → List (List ℕ)
texts w c = line_texts (names_in w) 1 (last_world w c.ahead) c.lines c.marks

-- the report of a run that completed, but for the status line
abbrev pub whole_text : World → Course → List ℕ
whole_text w c = concat (texts w c) ++ end_text (names_in w) (last_world w c.ahead) c.lines (losses c)

-- What the lines say of what was read, within the limits of bytes and lines: of those that a newline ends, and, where that is
-- asked, of the bytes behind the last newline.
abbrev pub said_in : Grammar → Bool → Course → List (Reads Saying)
said_in grammar whole c = map (said_by grammar) (lines_read whole c.read)

module _ {Opening State Job Said : Type 0} (rules : Rules Opening State Job Said) (speech : Speech Opening State Job Said)
    (w : World) (grammar : Grammar) (first : List (Reads Saying)) (run : RunTold Job Said) (c : Course) where
  -- The report got this text and then this status line, which may be missing or cut short where the report failed.
  abbrev pub Reports : List ℕ → List ℕ → Type 0
  Reports text line = AppendsThenStatus run.before.held run.after.held (HasFailed run) text line

  -- What was done is what the history says: it is legal from an opening in this world, its events and marks are those of the
  -- lines that were taken, in their order, and each wire holds what its lane was handed. At its end no job may follow, unless
  -- the board was spent: then one may, for which memory ran out.
  pub record IsDoneBy (completed : Bool) : Type 0 where
    pub root : Opening
    pub begins : speech.first root ≡ w
    pub closed : IsClosed rules speech root (taken c) (marked c) completed run.wires run.history
    pub stopped : speech.closed (replay rules root run.history) ≡ not run.spent

  -- A run that completed. The whole file was read, within its limits, and every line was taken; its marks count messages in 64
  -- bits, so that the report can be read again. Everything was told, no job may follow, and the lost sessions are those
  -- whose losses are entries of the history.
  pub record Completes : Type 0 where
    pub whole : c.rest ≡ []
    pub within : IsPastLimits c.read → ⊥
    pub all_ahead : c.ahead ≡ first
    pub all : c.lines ≡ said_in grammar true c
    pub counts : Each AreOf64 c.marks
    pub kept : IsKept w (taken c) (marked c) true run.wires c.contents c.lost
    pub done : IsDoneBy true
    pub unspent : run.spent ≡ false
    pub losses_told : c.lost ≡ all_losses 0 (length run.wires) run.history

  -- Status 0: the run completed, no session was lost, and the report is whole.
  pub record EndsWell : Type 0 where
    pub complete : Completes
    pub none_lost : losses c ≡ []
    pub report : AppendsPiece run.before.held run.after.held (whole_text w c)

  -- Status 8: the run completed, and this session is the first that was lost. The report is whole.
  pub record EndsWithLoss (peer session : ℕ) : Type 0 where
    pub complete : Completes
    pub first_lost : IsFirst peer session (losses c)
    pub report : Reports (whole_text w c) (losses_status (names_in w) (losses c))

  -- What holds of a run that did not complete: what its sessions hold is right, though not all was told.
  pub record IsCut : Type 0 where
    pub kept : IsKept w (taken c) (marked c) false run.wires c.contents c.lost
    pub done : IsDoneBy false

  -- Status 3: the file could not be read further. It is within its limits so far; every line was taken that a newline ends, and
  -- the report says so of them.
  pub record EndsUnread : Type 0 where
    pub cut : IsCut
    pub within : IsPastLimits c.read → ⊥
    pub all_ahead : c.ahead ≡ first
    pub all : c.lines ≡ said_in grammar false c
    pub report : Reports (concat (texts w c)) (status_text statuses.ReadFault)

  -- Status 7: the file is past its limits. Every line within them was taken, and the report says so of them.
  pub record EndsTooLong : Type 0 where
    pub cut : IsCut
    pub past : IsPastLimits c.read
    pub all_ahead : c.ahead ≡ first
    pub all : c.lines ≡ said_in grammar (is_empty c.rest) c
    pub report : Reports (concat (texts w c)) (status_text statuses.TooLong)

  -- The report failed in its closing lines: these are begun only where all lines were taken, and tell all losses.
  pub record FailsInClosing (untaken : List (Reads Saying)) : Type 0 where
    pub all : untaken ≡ []
    pub losses_told : losses c ≡ losses_from 0 (all_losses 0 (length run.wires) run.history)
    pub report : AppendsFront run.before.held run.after.held (whole_text w c)

  -- Status 4: the report could not be written. Lines were taken from the front; the report got a front of what it says of them,
  -- or else it failed in its closing lines.
  pub record EndsUnreported : Type 0 where
    pub cut : IsCut
    pub all_ahead : c.ahead ≡ first
    pub untaken : List (Reads Saying)
    pub front : said_in grammar (is_empty c.rest) c ≡ c.lines ++ untaken
    pub report : AppendsFront run.before.held run.after.held (concat (texts w c)) ⊎ FailsInClosing untaken

  -- Status 6: memory ran out. Lines were taken from the front; where it was wanting for one of those ahead of the file,
  -- nothing was read. The report got what it says of some of them, each whole.
  pub record EndsWithoutMemory : Type 0 where
    pub cut : IsCut
    pub later : List (Reads Saying)
    pub front_ahead : first ≡ c.ahead ++ later
    pub begun : (later ≡ []) ⊎ ((c.read ≡ []) × (c.lines ≡ []))
    pub untaken : List (Reads Saying)
    pub front : said_in grammar (is_empty c.rest) c ≡ c.lines ++ untaken
    pub told : List (List ℕ)
    pub untold : List (List ℕ)
    pub parts : texts w c ≡ told ++ untold
    pub report : Reports (concat told) (status_text statuses.NoMemory)

  -- how a run ends, by its status; it has no other
  abbrev pub IsOutcome : Status → Type 0
  IsOutcome statuses.Ok = EndsWell
  IsOutcome (statuses.Lost peer session) = EndsWithLoss peer session
  IsOutcome statuses.ReadFault = EndsUnread
  IsOutcome statuses.ReportFault = EndsUnreported
  IsOutcome statuses.NoMemory = EndsWithoutMemory
  IsOutcome statuses.TooLong = EndsTooLong
  IsOutcome statuses.Usage = ⊥
  IsOutcome (statuses.Config number field) = ⊥
  IsOutcome statuses.SiteFault = ⊥
  IsOutcome (statuses.Malformed cause offset) = ⊥
  IsOutcome (statuses.Refuted peer session kind message key) = ⊥
  IsOutcome (statuses.Unclear line) = ⊥
