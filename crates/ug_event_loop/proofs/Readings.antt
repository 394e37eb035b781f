-- What the parts of a reading come to: the first event, the lines, and the end.
use Rattle.std.proofs.Common.{◌≡◌, ℕ, Bool, true, false, inl, inr, List, [], map, Option, Some, None, refl, sym, subst, arith}
use Rattle.std.proofs.lemmas.List.{append-nil}
use Rattle.ug_edge.specs.Told.{Rose, IsEnded}
use Rattle.ug_pieces.specs.Pieces.{HasRead}
use Rattle.ug_pieces.specs.declared.line_halt.LineHalt.{LineHalt}
use Rattle.ug_pieces.specs.declared.line_halt.LineHalt.TheVariants as halts
use Rattle.ug_board.specs.Rules.{Rules}
use Rattle.ug_events.specs.Events.{Saying}
use Rattle.ug_events.specs.Reads.{Reads}
use Rattle.ug_speaker.specs.Speech.{Speech}
use Rattle.ug_event_loop.specs.declared.grammar.Grammar.{Grammar}
use Rattle.ug_event_loop.specs.declared.stop.Stop.{Stop}
use Rattle.ug_event_loop.specs.declared.stop.Stop.TheVariants as stops
use Rattle.ug_event_loop.specs.declared.reading.End.{End}
use Rattle.ug_event_loop.specs.declared.reading.End.TheVariants as ends
use Rattle.ug_event_loop.specs.Turns.{WindsUp, StaysOpen, IsLegalAt, IsClosedAt}
use Rattle.ug_event_loop.specs.Counts.{least_at, RisesBy}
use Rattle.ug_event_loop.specs.Standing.{said_by, BuilderView, IsSameBuilder, BuilderStands, BuilderStops, TakesLines, StopsWithin}
use Rattle.ug_event_loop.specs.Files.{lines_read}
use Rattle.ug_event_loop.specs.Reading.{Outside, OfLines, LinesHalted, StandsBehind, StopsBefore, EndsAt, HasEnded, end_of}
use Rattle.ug_event_loop.proofs.Builders.{builder-still, builder-stays-stopped, builder-starved}

pub has-read : (left now : Option (List ℕ)) (P Q : List ℕ → Type 0) → ((read : List ℕ) → P read → Q read) → HasRead left now P → HasRead left now Q
has-read left now P Q f h = record { read = h.read; taken = h.taken; so = f h.read h.so }

-- nothing was read
pub read-nothing : (left : Option (List ℕ)) (P : List ℕ → Type 0) → P [] → HasRead left left P
read-nothing None P so = record { read = []; taken = tt; so = so }
read-nothing (Some bytes) P so = record { read = []; taken = refl; so = so }

pub never-complete : (halt : LineHalt Stop) → end_of halt ≡ ends.Complete → ⊥
never-complete halts.Read is = cc
never-complete halts.NoMemory is = cc
never-complete halts.TooLong is = cc
never-complete halts.TooMany is = cc
never-complete (halts.Stopped stops.NoMemory) is = cc
never-complete (halts.Stopped stops.Report) is = cc

pub read-alone : (halt : LineHalt Stop) → end_of halt ≡ ends.Read → halt ≡ halts.Read
read-alone halts.Read is = refl
read-alone halts.NoMemory is = absurd cc
read-alone halts.TooLong is = absurd cc
read-alone halts.TooMany is = absurd cc
read-alone (halts.Stopped stops.NoMemory) is = absurd cc
read-alone (halts.Stopped stops.Report) is = absurd cc

begun-so : (left : Option (List ℕ)) (read : List ℕ) (P Q : List (List ℕ) → Type 0) → ((lines : List (List ℕ)) → P lines → Q lines) → OfLines left read P → OfLines left read Q
begun-so left read P Q f h = (h.0, h.1, λ whole all. f (lines_read whole read) (h.2 whole all))

module _ {Opening State Job Said : Type 0} (rules : Rules Opening State Job Said) (speech : Speech Opening State Job Said) where
  module _ (first : List (Reads Saying)) (old mid new : BuilderView Opening Job Said) (o o' : Outside) (same : IsSameBuilder old mid) (start : BuilderStands rules speech mid first [] o.held o.held) where
    pub stands-behind : (lines : List (List ℕ)) → TakesLines rules speech mid o.held new o'.held lines → StandsBehind rules speech first old new o o' lines
    stands-behind lines takes = subst (λ (g : Grammar). BuilderStands rules speech new first (map (said_by g) lines) o.held o'.held) same.grammar (takes first [] o.held start).0

    stops-at : (stop : Stop) (lines : List (List ℕ)) → StopsWithin rules speech stop mid o.held new o'.held lines → StopsBefore rules speech first old new o o' stop lines
    stops-at stop lines stops = subst (λ (g : Grammar). BuilderStops rules speech stop new first (map (said_by g) lines) o.held o'.held) same.grammar (stops first [] o.held start).0

    pub halted-ends : (halt : LineHalt Stop) (read : List ℕ) → (halt ≡ halts.Read → Rose o.reads_failed o'.reads_failed) → (halt ≡ halts.Stopped stops.Report → Rose o.writes_failed o'.writes_failed)
        → LinesHalted rules speech halt mid o.held new o'.held o'.left read → EndsAt rules speech first old new o o' (end_of halt) read
    halted-ends halts.Read read unread rose h = (h.0, stands-behind (lines_read false read) h.1, unread refl)
    halted-ends halts.NoMemory read unread rose h = inl (begun-so o'.left read _ _ (stops-at stops.NoMemory) h)
    halted-ends halts.TooLong read unread rose h = (h.0, λ whole. stands-behind (lines_read whole read) (h.1 whole))
    halted-ends halts.TooMany read unread rose h = (h.0, λ whole. stands-behind (lines_read whole read) (h.1 whole))
    halted-ends (halts.Stopped stops.NoMemory) read unread rose h = inl (begun-so o'.left read _ _ (stops-at stops.NoMemory) h)
    halted-ends (halts.Stopped stops.Report) read unread rose h = (begun-so o'.left read _ _ (stops-at stops.Report) h, rose refl)

    -- however the lines ended, the work wasn't
    pub halted-open : (halt : LineHalt Stop) (read : List ℕ) → LinesHalted rules speech halt mid o.held new o'.held o'.left read → StaysOpen rules speech mid.pass.seen new.pass.seen
    halted-open halts.Read read h = (h.1 first [] o.held start).1
    halted-open halts.NoMemory read h = (h.2 true (λ yes. refl) first [] o.held start).1
    halted-open halts.TooLong read h = (h.1 true first [] o.held start).1
    halted-open halts.TooMany read h = (h.1 true first [] o.held start).1
    halted-open (halts.Stopped stop) read h = (h.2 true (λ yes. refl) first [] o.held start).1

  -- all lines were taken, and memory ran out before everything was told
  pub starved-last : (first : List (Reads Saying)) (old mid new : BuilderView Opening Job Said) (o o' : Outside) (read : List ℕ) → IsSameBuilder mid new → WindsUp rules speech mid.pass.seen new.pass.seen
      → IsLegalAt rules speech new.pass.root new.pass.seen → IsEnded o'.left → StandsBehind rules speech first old mid o o' (lines_read true read) → EndsAt rules speech first old new o o' ends.NoMemory read
  starved-last first old mid new o o' read same goes legal ended stands =
      let g = old.grammar in
      let all = map (said_by g) (lines_read true read) in
      let last : BuilderStops rules speech stops.NoMemory new first all o.held o'.held =
      subst (λ (rs : List (Reads Saying)). BuilderStops rules speech stops.NoMemory new first rs o.held o'.held) (append-nil all)
      (builder-starved rules speech mid new same goes (λ _. legal) first all [] o.held o'.held stands) in
      inl (true, (λ yes. ended), λ whole is. subst (λ (w : Bool). StopsBefore rules speech first old new o o' stops.NoMemory (lines_read w read)) (sym (is refl)) last)

  -- the end of the work leaves what the reading came to
  pub ends-still : (first : List (Reads Saying)) (old mid new : BuilderView Opening Job Said) (o o' : Outside) (after : ℕ) (end : End) (read : List ℕ) → (end ≡ ends.Complete → ⊥)
      → IsSameBuilder mid new → new.tally ≡ mid.tally → WindsUp rules speech mid.pass.seen new.pass.seen → IsLegalAt rules speech new.pass.root new.pass.seen
      → EndsAt rules speech first old mid o o' end read → EndsAt rules speech first old new o (record o' { steps = after }) end read
  ends-still first old mid new o o' after ends.Complete read incomplete same tally goes legal h = absurd (incomplete refl)
  ends-still first old mid new o o' after ends.Read read incomplete same tally goes legal h =
      (h.0, builder-still rules speech mid new same tally goes legal first (map (said_by old.grammar) (lines_read false read)) o.held o'.held h.1, h.2)
  ends-still first old mid new o o' after ends.TooLong read incomplete same tally goes legal h =
      (h.0, λ whole. builder-still rules speech mid new same tally goes legal first (map (said_by old.grammar) (lines_read whole read)) o.held o'.held (h.1 whole))
  ends-still first old mid new o o' after ends.NoMemory read incomplete same tally goes legal (inl h) =
      inl (begun-so o'.left read _ _ (λ lines. builder-stays-stopped rules speech stops.NoMemory mid new same goes legal first (map (said_by old.grammar) lines) o.held o'.held) h)
  ends-still first old mid new o o' after ends.NoMemory read incomplete same tally goes legal (inr h) =
      inr (record {
        none = h.none;
        within = record { some = h.within.some; more = h.within.more; parts = h.within.parts; stands = builder-still rules speech mid new same tally goes legal h.within.some [] o.held o'.held h.within.stands };
      })
  ends-still first old mid new o o' after ends.Report read incomplete same tally goes legal h =
      (begun-so o'.left read _ _ (λ lines. builder-stays-stopped rules speech stops.Report mid new same goes legal first (map (said_by old.grammar) lines) o.held o'.held) h.0, h.1)

  -- memory ran out before anything was read
  pub given-up : (first : List (Reads Saying)) (old new : BuilderView Opening Job Said) (o : Outside) (before after : ℕ) → IsSameBuilder old new → new.tally ≡ old.tally → WindsUp rules speech old.pass.seen new.pass.seen
      → IsClosedAt rules speech new.pass.spent new.pass.root new.pass.seen → IsLegalAt rules speech new.pass.root new.pass.seen → RisesBy before after (least_at rules old.pass.root old.pass.seen) (least_at rules old.pass.root new.pass.seen)
      → HasEnded rules speech first old new (record o { steps = before }) (record o { steps = after }) ends.NoMemory
  given-up first old new o before after same tally goes closed legal least = record {
    same = same;
    closed = closed;
    ended = λ stands. read-nothing o.left _ (inr (record { none = refl; within = record { some = []; more = first; parts = refl; stands = builder-still rules speech old new same tally goes legal [] [] o.held o.held stands } }));
    unharmed = λ other. refl;
    reads = omega arith;
    writes = omega arith;
    least = least;
    most = λ no. absurd cc;
  }
