-- What a file comes to whose lines were taken up to its limits.
use Rattle.std.proofs.Common.{◌≡◌, ℕ, ◌+◌, ◌<◌, ◌≤◌, true, List, [], length, take, Option, refl, subst, arith}
use Rattle.ug_edge.specs.Told.{IsEnded}
use Rattle.ug_pieces.specs.Pieces.{HasRead, IsHalt}
use Rattle.ug_pieces.specs.Lines.{where_some}
use Rattle.ug_pieces.specs.LineSteps.{HasTakenLines, HasStoppedWithin, HasStoppedAt, halt_of_stop, halt_of_pieces}
use Rattle.ug_pieces.specs.declared.halt.Halt.{Halt}
use Rattle.ug_pieces.specs.declared.halt.Halt.TheVariants as piece_halts
use Rattle.ug_pieces.specs.declared.lines.LineStop.{LineStop}
use Rattle.ug_pieces.specs.declared.lines.LineStop.TheVariants as line_stops
use Rattle.ug_pieces.specs.declared.line_halt.LineHalt.TheVariants as halts
use Rattle.ug_pieces.proofs.LineReads.{read_halted, all_taken, last_stopped}
use Rattle.ug_board.specs.Rules.{Rules}
use Rattle.ug_events.specs.Grammar.{most_line}
use Rattle.ug_speaker.specs.Speech.{Speech}
use Rattle.ug_event_loop.specs.declared.stop.Stop.{Stop}
use Rattle.ug_event_loop.specs.declared.stop.Stop.TheVariants as stops
use Rattle.ug_event_loop.specs.Standing.{BuilderView, IsSameBuilder, TakesLines, StopsWithin}
use Rattle.ug_event_loop.specs.StandingLaws.{takes_more, stops_later}
use Rattle.ug_event_loop.specs.Files.{lines_within, lines_read, IsPast, IsPastLimits, most_bytes, most_lines}
use Rattle.ug_event_loop.specs.Reading.{LinesHalted}
use Rattle.ug_event_loop.proofs.Kept.{halted-at, halted-is, taken-all}
use Rattle.ug_event_loop.proofs.Readings.{has-read}

pub bytes-are : 1073741824 ≡ most_bytes
unfolding most_bytes
bytes-are = refl

pub lines-are : 2000000 ≡ most_lines
unfolding most_lines
lines-are = refl

-- where a report failed, that is why not all lines were taken
pub report-alone : (halt : Halt (LineStop Stop)) → halt_of_pieces halt ≡ halts.Stopped stops.Report → halt ≡ piece_halts.Stopped (line_stops.Stopped stops.Report)
report-alone piece_halts.Read e = absurd cc
report-alone piece_halts.NoMemory e = absurd cc
report-alone piece_halts.TooLong e = absurd cc
report-alone (piece_halts.Stopped line_stops.NoMemory) e = absurd cc
report-alone (piece_halts.Stopped line_stops.TooMany) e = absurd cc
report-alone (piece_halts.Stopped (line_stops.Stopped stops.NoMemory)) e = absurd cc
report-alone (piece_halts.Stopped (line_stops.Stopped stops.Report)) e = refl

pub report-last : (stop : LineStop Stop) → halt_of_stop stop ≡ halts.Stopped stops.Report → stop ≡ line_stops.Stopped stops.Report
report-last line_stops.NoMemory e = absurd cc
report-last line_stops.TooMany e = absurd cc
report-last (line_stops.Stopped stops.NoMemory) e = absurd cc
report-last (line_stops.Stopped stops.Report) e = refl

module _ {Opening State Job Said : Type 0} (rules : Rules Opening State Job Said) (speech : Speech Opening State Job Said) where
  module _ (k m limit : ℕ) (enough : most_line < k) (bytes : limit ≡ most_bytes) (lines : m ≡ most_lines) (r r' : List ℕ) (n n' k' m' : ℕ) (none : r ≡ []) (zero : n ≡ 0) (left now : Option (List ℕ)) where
    some : 0 < k
    some = omega (arith, enough)

    pub file-halted :
        (old mid : BuilderView Opening Job Said) (held held' : Option (List ℕ)) (halt : Halt (LineStop Stop)) → n' + length (where_some r') ≤ m'
        → HasRead left now (IsHalt halt limit (HasTakenLines (TakesLines rules speech old held mid held') k m r r' n n' k' m')
        (λ read stop. HasStoppedWithin stop (TakesLines rules speech old held mid held') (λ ls why. StopsWithin rules speech why old held mid held' ls) k m r n read))
        → HasRead left now (LinesHalted rules speech (halt_of_pieces halt) old held mid held' now)
    file-halted old mid held held' halt room h =
        has-read left now _ _
        (λ read so. halted-is rules speech old mid held held' k enough limit m now read (halt_of_pieces halt) bytes lines (halted-at rules speech old mid held held' k enough limit m now read (halt_of_pieces halt) so))
        (read_halted (TakesLines rules speech old held mid held') (λ ls why. StopsWithin rules speech why old held mid held' ls) k m limit r r' n n' k' m' none zero some room left now halt h)

    module _ (old mid new : BuilderView Opening Job Said) (held held' held'' : Option (List ℕ)) (same : IsSameBuilder old mid) where
      pub file-stopped-last :
          (stop : LineStop Stop) → n' + length (where_some r') ≤ m' → HasStoppedAt stop ⊥ ⊥ (λ why. StopsWithin rules speech why mid held' new held'' (where_some r'))
          → HasRead left now (λ read. IsEnded now × (length read ≤ limit) × HasTakenLines (TakesLines rules speech old held mid held') k m r r' n n' k' m' read)
          → HasRead left now (LinesHalted rules speech (halt_of_stop stop) old held new held'' now)
      file-stopped-last stop room at h =
          has-read left now _ _
          (λ read so. halted-is rules speech old new held held'' k enough limit m now read (halt_of_stop stop) bytes lines (halted-at rules speech old new held held'' k enough limit m now read (halt_of_stop stop) so))
          (last_stopped (TakesLines rules speech old held mid held') k m limit r r' n n' k' m' none zero some left now
          (TakesLines rules speech old held new held'') (λ ls why. StopsWithin rules speech why mid held' new held'' ls) (λ ls why. StopsWithin rules speech why old held new held'' ls) stop
          (λ front why p q. stops_later rules speech old mid new held held' held'' front (where_some r') why same p q) room at h)

      pub file-taken :
          n' + length (where_some r') ≤ m' → TakesLines rules speech mid held' new held'' (where_some r')
          → HasRead left now (λ read. IsEnded now × (length read ≤ limit) × HasTakenLines (TakesLines rules speech old held mid held') k m r r' n n' k' m' read)
          → HasRead left now (λ read. IsEnded now × (IsPastLimits read → ⊥) × TakesLines rules speech old held new held'' (lines_read true read))
      file-taken room last h =
          has-read left now _ _
          (λ read so. let w = within read (taken-all rules speech old new held held'' k enough limit m now read so.1 so.2 so.3) in (so.0, w.0, w.1))
          (all_taken (TakesLines rules speech old held mid held') k m limit r r' n n' k' m' none zero some left now (TakesLines rules speech old held new held'') room
          (λ front p. takes_more rules speech old mid new held held' held'' front (where_some r') same p last) h)
        where
          within : (read : List ℕ) → (IsPast limit m read → ⊥) × TakesLines rules speech old held new held'' (take m (lines_within limit true read))
              → (IsPastLimits read → ⊥) × TakesLines rules speech old held new held'' (lines_read true read)
          within read h = subst (λ x. (IsPast x most_lines read → ⊥) × TakesLines rules speech old held new held'' (take most_lines (lines_within x true read))) bytes
              (subst (λ x. (IsPast limit x read → ⊥) × TakesLines rules speech old held new held'' (take x (lines_within limit true read))) lines h)
