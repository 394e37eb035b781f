-- What the reading of a file of events came to.
use Rattle.std.specs.Prelude.{◌≡◌, ℕ, ◌≤◌, ◌⊎◌, Bool, true, false, List, [], ◌++◌, map, Option, Some, None, Ok}
use Rattle.ug_edge.specs.Told.{Rose, IsEnded}
use Rattle.ug_pieces.specs.Pieces.{HasRead}
use Rattle.ug_pieces.specs.declared.line_halt.LineHalt.{LineHalt}
use Rattle.ug_pieces.specs.declared.line_halt.LineHalt.TheVariants as halts
use Rattle.ug_board.specs.Rules.{Rules}
use Rattle.ug_events.specs.Events.{Saying, Says}
use Rattle.ug_events.specs.Reads.{Reads}
use Rattle.ug_events.specs.Views.{event_of}
use Rattle.ug_events.specs.declared.event.Event.{Event}
use Rattle.ug_speaker.specs.Speech.{Speech}
use Rattle.ug_event_loop.specs.declared.stop.Stop.{Stop}
use Rattle.ug_event_loop.specs.declared.stop.Stop.TheVariants as stops
use Rattle.ug_event_loop.specs.declared.reading.End.{End}
use Rattle.ug_event_loop.specs.declared.reading.End.TheVariants as ends
use Rattle.ug_event_loop.specs.Turns.{IsEndedAt, IsClosedAt}
use Rattle.ug_event_loop.specs.Counts.{least_at, most_at, RisesBy, RisesWithin}
use Rattle.ug_event_loop.specs.Standing.{said_by, BuilderView, IsSameBuilder, BuilderStands, BuilderStops, TakesLines, StopsWithin}
use Rattle.ug_event_loop.specs.Files.{lines_read, IsPastLimits}

-- the line that says an event
abbrev pub said_of : Event → Reads Saying
said_of event = Ok (Says (event_of event))

-- the lines before all others: those of the first events
abbrev pub first_of : List Event → List (Reads Saying)
first_of events = map said_of events

-- how reading ended, where lines were not all taken
abbrev pub end_of : LineHalt Stop → End
end_of halts.Read = ends.Read
end_of halts.NoMemory = ends.NoMemory
end_of halts.TooLong = ends.TooLong
end_of halts.TooMany = ends.TooLong
end_of (halts.Stopped stops.NoMemory) = ends.NoMemory
end_of (halts.Stopped stops.Report) = ends.Report

-- What stands outside: what is left of the file, what the report holds, how many faults each had, and how many steps
-- were counted.
pub record Outside : Type 0 where
  pub left : Option (List ℕ)
  pub reads_failed : ℕ
  pub held : Option (List ℕ)
  pub writes_failed : ℕ
  pub steps : ℕ

-- Whether the bytes behind the last newline count as a line: where the file was read to its end they do, and else it is
-- left open. So it holds of the lines.
abbrev pub OfLines : Option (List ℕ) → List ℕ → (List (List ℕ) → Type 0) → Type 0
OfLines left read holds = (ended : Bool) × (ended ≡ true → IsEnded left) × ((whole : Bool) → (ended ≡ true → whole ≡ true) → holds (lines_read whole read))

module _ {Opening State Job Said : Type 0} (rules : Rules Opening State Job Said) (speech : Speech Opening State Job Said) where
  -- Where the lines of a file were not all taken: which of them were, by why. The report held `held` before, and `held'` then.
  abbrev pub LinesHalted : LineHalt Stop → BuilderView Opening Job Said → Option (List ℕ) → BuilderView Opening Job Said → Option (List ℕ) → Option (List ℕ) → List ℕ → Type 0
  LinesHalted halts.Read old held new held' left read = (IsPastLimits read → ⊥) × TakesLines rules speech old held new held' (lines_read false read)
  LinesHalted halts.NoMemory old held new held' left read = OfLines left read (StopsWithin rules speech stops.NoMemory old held new held')
  LinesHalted halts.TooLong old held new held' left read = IsPastLimits read × ((whole : Bool) → TakesLines rules speech old held new held' (lines_read whole read))
  LinesHalted halts.TooMany old held new held' left read = IsPastLimits read × ((whole : Bool) → TakesLines rules speech old held new held' (lines_read whole read))
  LinesHalted (halts.Stopped stop) old held new held' left read = OfLines left read (StopsWithin rules speech stop old held new held')

  -- Some of the first lines were taken, from the front, and none behind them.
  pub record StandsWithin (first : List (Reads Saying)) (b : BuilderView Opening Job Said) (before held : Option (List ℕ)) : Type 0 where
    pub some : List (Reads Saying)
    pub more : List (Reads Saying)
    pub parts : first ≡ some ++ more
    pub stands : BuilderStands rules speech b some [] before held

  module _ (first : List (Reads Saying)) (old new : BuilderView Opening Job Said) (outside outside' : Outside) where
    -- The builder stands behind these lines of the file, with what the report holds now.
    abbrev pub StandsBehind : List (List ℕ) → Type 0
    StandsBehind lines = BuilderStands rules speech new first (map (said_by old.grammar) lines) outside.held outside'.held

    abbrev pub StopsBefore : Stop → List (List ℕ) → Type 0
    StopsBefore stop lines = BuilderStops rules speech stop new first (map (said_by old.grammar) lines) outside.held outside'.held

    -- Memory ran out for one of the first lines, and nothing was read.
    pub record IsNotBegun (read : List ℕ) : Type 0 where
      pub none : read ≡ []
      pub within : StandsWithin first new outside.held outside'.held

    -- What the bytes that were read came to, by how reading ended.
    abbrev pub EndsAt : End → List ℕ → Type 0
    EndsAt ends.Complete read =
        IsEnded outside'.left × (IsPastLimits read → ⊥) × StandsBehind (lines_read true read) × IsEndedAt rules speech new.pass.root new.pass.seen
    EndsAt ends.Read read = (IsPastLimits read → ⊥) × StandsBehind (lines_read false read) × Rose outside.reads_failed outside'.reads_failed
    EndsAt ends.TooLong read = IsPastLimits read × ((whole : Bool) → StandsBehind (lines_read whole read))
    EndsAt ends.NoMemory read = OfLines outside'.left read (StopsBefore stops.NoMemory) ⊎ IsNotBegun read
    EndsAt ends.Report read = OfLines outside'.left read (StopsBefore stops.Report) × Rose outside.writes_failed outside'.writes_failed

    -- From a builder that stands behind no lines, so the reading ended. However it did the work is then ended, unless the board is
    -- spent.
    pub record HasEnded (end : End) : Type 0 where
      pub same : IsSameBuilder old new
      pub ended : BuilderStands rules speech old [] [] outside.held outside.held → HasRead outside.left outside'.left (EndsAt end)
      pub closed : IsClosedAt rules speech new.pass.spent new.pass.root new.pass.seen
      pub unharmed : (end ≡ ends.Read → ⊥) → outside'.reads_failed ≡ outside.reads_failed
      pub reads : outside.reads_failed ≤ outside'.reads_failed
      pub writes : outside.writes_failed ≤ outside'.writes_failed
      pub least : RisesBy outside.steps outside'.steps (least_at rules old.pass.root old.pass.seen) (least_at rules old.pass.root new.pass.seen)
      pub most : end ≡ ends.Complete → RisesWithin outside.steps outside'.steps (most_at rules old.pass.root old.pass.seen) (most_at rules old.pass.root new.pass.seen)

    -- the same of an end that is known once all is done
    abbrev pub IsRead : Option End → Type 0
    IsRead None = ⊥
    IsRead (Some end) = HasEnded end
