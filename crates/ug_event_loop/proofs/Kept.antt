-- What is kept of a line is enough, and what lines were taken of a file.
use Rattle.std.proofs.Common.{◌≡◌, ℕ, zero, suc, ◌+◌, ◌-◌, ◌<◌, ◌≤◌, Bool, true, false, leb, inl, inr, List, [], ◌∷◌, ◌++◌, map, length, take, drop, Option, Some, None, refl, sym, ◌∙◌, ap, subst, append_assoc, arith}
use Rattle.std.specs.Prelude.{nat_lt, nat_le, ◌&&◌, if◌then◌else◌}
use Rattle.std.proofs.lemmas.Bool.{leb-true, leb-false, lt-ltb, lt-leb, le-leb}
use Rattle.std.proofs.lemmas.List.{append-nil, map-append, length-append, length-map, length-take-le, take_all, take-append-le, take-append-drop}
use Rattle.std.proofs.Math.Seq.{take-append_seam}
use Rattle.ug_edge.specs.Told.{IsEnded}
use Rattle.ug_pieces.specs.ReadingLaws.{take_front}
use Rattle.ug_pieces.specs.Lines.{ended_from, rest_from, where_some, lines_of, kept_of, IsLineHalt}
use Rattle.ug_pieces.specs.declared.line_halt.LineHalt.{LineHalt}
use Rattle.ug_pieces.specs.declared.line_halt.LineHalt.TheVariants as halts
use Rattle.ug_board.specs.Rules.{Rules}
use Rattle.ug_events.specs.Events.{Saying}
use Rattle.ug_events.specs.Reads.{Reads}
use Rattle.ug_events.specs.Grammar.{most_line}
use Rattle.ug_speaker.specs.Speech.{Speech}
use Rattle.ug_event_loop.specs.declared.grammar.Grammar.{Grammar}
use Rattle.ug_event_loop.specs.declared.grammar.Grammar.TheVariants as grammars
use Rattle.ug_event_loop.specs.declared.stop.Stop.{Stop}
use Rattle.ug_event_loop.specs.declared.stop.Stop.TheVariants as stops
use Rattle.ug_event_loop.specs.Standing.{said_by, BuilderView, Stops, BuilderStands, BuilderStops, TakesLines, StopsWithin}
use Rattle.ug_event_loop.specs.StandingLaws.{same_itself}
use Rattle.ug_event_loop.specs.Turns.{IsLegalAt}
use Rattle.ug_event_loop.specs.Files.{lines_within, lines_read, IsPast, most_bytes, most_lines}
use Rattle.ug_event_loop.specs.Reading.{LinesHalted}
use Rattle.ug_event_loop.proofs.Turning.{goes_nowhere}
use Rattle.ug_event_loop.proofs.Builders.{builder-waits}

-- ---- lines that are too long read alike, whatever is kept of them behind that

said_long : (g : Grammar) (a b : List ℕ) → nat_lt most_line (length a) ≡ true → nat_lt most_line (length b) ≡ true → said_by g a ≡ said_by g b
said_long grammars.Every a b long long' = rw (long, long') refl
said_long grammars.Routes a b long long' = rw (long, long') refl

said_kept : (g : Grammar) (k : ℕ) (l : List ℕ) → most_line < k → said_by g (take k l) ≡ said_by g l
said_kept g k l more = by_length (leb (length l) k) refl
  where
    by_length : (t : Bool) → leb (length l) k ≡ t → said_by g (take k l) ≡ said_by g l
    by_length true is = ap (said_by g) (take_all k l (leb-true (length l) k is))
    by_length false is =
        let longer : k < length l = leb-false (length l) k is in
        let whole : length (take k l) ≡ k = length-take-le k l (omega arith) in
        said_long g (take k l) l (lt-ltb most_line (length (take k l)) (omega arith)) (lt-ltb most_line (length l) (omega arith))

pub all_kept : (g : Grammar) (k : ℕ) (lines : List (List ℕ)) → most_line < k → map (said_by g) (kept_of k lines) ≡ map (said_by g) lines
all_kept g k [] more = refl
all_kept g k (l ∷ lines) more =
    ap (λ (r : Reads Saying). r ∷ map (said_by g) (kept_of k lines)) (said_kept g k l more) ∙ ap (λ (rs : List (Reads Saying)). said_by g l ∷ rs) (all_kept g k lines more)

-- ---- the lines of a file within its limits

module _ (b n : ℕ) (read : List ℕ) where
  E : List (List ℕ)
  E = ended_from [] (take b read)

  -- of a file within the limit of bytes these are all
  within_all : length read ≤ b → lines_within b true read ≡ lines_of read
  within_all le =
      let whole : take b read ≡ read = take_all b read le in
      rw (le-leb (length read) b le) (ap (λ (bytes : List ℕ). ended_from [] bytes ++ where_some (rest_from [] read)) whole)

  -- and without the last, which no newline ends
  within_ended : lines_within b false read ≡ ended_from [] (take b read)
  within_ended = append-nil (ended_from [] (take b read))

  within_past : (whole : Bool) → b < length read → lines_within b whole read ≡ ended_from [] (take b read)
  within_past true past = rw (lt-leb (length read) b past) (append-nil (ended_from [] (take b read)))
  within_past false past = within_ended

  -- The lines that are ended stand at the front, whatever counts as the last.
  pub within_front : (whole : Bool) → lines_within b whole read ≡ ended_from [] (take b read) ++ (if whole && nat_le (length read) b then where_some (rest_from [] read) else [])
  within_front whole = refl

some_or_none : (r : List ℕ) → length (where_some r) ≤ 1
some_or_none [] = omega arith
some_or_none (x ∷ r) = omega arith

not_past : (b n : ℕ) (read : List ℕ) → length read ≤ b → length (lines_of read) ≤ n → IsPast b n read → ⊥
not_past b n read le few (inl past) = omega arith
not_past b n read le few (inr past) =
    let size = length-append (ended_from [] read) (where_some (rest_from [] read)) in omega arith

-- more lines than are read: the first of them are ended
module _ (b n : ℕ) (read : List ℕ) (many : n < length (lines_of (take b read))) where
  enough : n ≤ length (ended_from [] (take b read))
  enough =
      let size = length-append (ended_from [] (take b read)) (where_some (rest_from [] (take b read))) in
      let one = some_or_none (rest_from [] (take b read)) in
      omega arith

  pub many_past : IsPast b n read
  many_past = by_length (leb (length read) b) refl
    where
      by_length : (t : Bool) → leb (length read) b ≡ t → IsPast b n read
      by_length true is =
          let whole : take b read ≡ read = take_all b read (leb-true (length read) b is) in
          let size = length-append (ended_from [] read) (where_some (rest_from [] read)) in
          let many' : n < length (lines_of read) = subst (λ (bytes : List ℕ). n < length (lines_of bytes)) whole many in
          inr (omega arith)
      by_length false is = inl (leb-false (length read) b is)

  pub many_lines : (whole : Bool) → take n (lines_of (take b read)) ≡ take n (lines_within b whole read)
  many_lines whole =
      take-append-le n (ended_from [] (take b read)) (where_some (rest_from [] (take b read))) enough
      ∙ sym (take-append-le n (ended_from [] (take b read)) (if whole && nat_le (length read) b then where_some (rest_from [] read) else []) enough)

kept_front : (k n : ℕ) (lines : List (List ℕ)) → take n (kept_of k lines) ≡ kept_of k (take n lines)
kept_front k zero lines = refl
kept_front k (suc n) [] = refl
kept_front k (suc n) (l ∷ lines) = ap (λ (ls : List (List ℕ)). take k l ∷ ls) (kept_front k n lines)

module _ {Opening State Job Said : Type 0} (rules : Rules Opening State Job Said) (speech : Speech Opening State Job Said) where
  -- who stopped before these lines stopped before more
  pub stops_longer : (stop : Stop) (b : BuilderView Opening Job Said) (first lines more : List (Reads Saying)) (before held : Option (List ℕ))
      → BuilderStops rules speech stop b first lines before held → BuilderStops rules speech stop b first (lines ++ more) before held
  stops_longer stop b first lines more before held = by_root b.pass.root
    where
      by_root : (root : Option Opening) → Stops rules speech stop root first lines b.names b.pass.seen before held → Stops rules speech stop root first (lines ++ more) b.names b.pass.seen before held
      by_root None stops = absurd stops
      by_root (Some opening) stops = λ lanes.
          let was = stops lanes in
          record {
            some = was.some;
            more = was.more ++ more;
            parts = ap (λ (ls : List (Reads Saying)). ls ++ more) was.parts ∙ append_assoc was.some was.more more;
            marks = was.marks;
            taken = was.taken;
            reported = was.reported;
          }

  module _ (old new : BuilderView Opening Job Said) (held held' : Option (List ℕ)) (k : ℕ) (enough_kept : most_line < k) where
    takes_whole : (lines : List (List ℕ)) → TakesLines rules speech old held new held' (kept_of k lines) → TakesLines rules speech old held new held' lines
    takes_whole lines takes first ls before stands =
        let took = takes first ls before stands in
        (subst (λ (rs : List (Reads Saying)). BuilderStands rules speech new first (ls ++ rs) before held') (all_kept old.grammar k lines enough_kept) took.0, took.1)

    takes_as : (a b : List (List ℕ)) → a ≡ b → TakesLines rules speech old held new held' a → TakesLines rules speech old held new held' b
    takes_as a b same takes = subst (λ (ls : List (List ℕ)). TakesLines rules speech old held new held' ls) same takes

    -- a front of the lines that are kept
    stops_front : (stop : Stop) (lines front more later : List (List ℕ)) → kept_of k lines ≡ front ++ more
        → StopsWithin rules speech stop old held new held' front → StopsWithin rules speech stop old held new held' (lines ++ later)
    stops_front stop lines front more later is stops first ls before stands =
        let g = old.grammar in
        let said : map (said_by g) front ++ map (said_by g) more ≡ map (said_by g) lines =
        sym (map-append (said_by g) front more) ∙ (ap (map (said_by g)) (sym is) ∙ all_kept g k lines enough_kept) in
        let all : (ls ++ map (said_by g) front) ++ (map (said_by g) more ++ map (said_by g) later) ≡ ls ++ map (said_by g) (lines ++ later) =
        append_assoc ls (map (said_by g) front) (map (said_by g) more ++ map (said_by g) later)
        ∙ ap (λ (rs : List (Reads Saying)). ls ++ rs) (sym (append_assoc (map (said_by g) front) (map (said_by g) more) (map (said_by g) later))
        ∙ (ap (λ (rs : List (Reads Saying)). rs ++ map (said_by g) later) said ∙ sym (map-append (said_by g) lines later))) in
        let stopped = stops first ls before stands in (
          subst (λ (rs : List (Reads Saying)). BuilderStops rules speech stop new first rs before held') all
              (stops_longer stop new first (ls ++ map (said_by g) front) (map (said_by g) more ++ map (said_by g) later) before held' stopped.0),
          stopped.1,
        )

    -- the same within so many lines
    stops_few : (stop : Stop) (n : ℕ) (lines front more later : List (List ℕ)) → kept_of k lines ≡ front ++ more → 0 + length front ≤ n
        → StopsWithin rules speech stop old held new held' front → StopsWithin rules speech stop old held new held' (take n (lines ++ later))
    stops_few stop n lines front more later is few stops =
        let count = length front in
        let some = take count lines in
        let last = take (n - length some) (drop count lines ++ later) in
        let fronts : kept_of k some ≡ front = sym (kept_front k count lines) ∙ ap (take count) is ∙ take-append_seam front more in
        let size : length some ≡ count = sym (length-map some (take k)) ∙ ap length fronts in
        let parts : lines ++ later ≡ some ++ (drop count lines ++ later) =
        ap (λ (ls : List (List ℕ)). ls ++ later) (sym (take-append-drop count lines)) ∙ append_assoc some (drop count lines) later in
        let cut : take n (lines ++ later) ≡ some ++ last = ap (take n) parts ∙ take_front n some (drop count lines ++ later) (omega (arith, size, few)) in
        subst (λ (ls : List (List ℕ)). StopsWithin rules speech stop old held new held' ls) (sym cut)
        (stops_front stop some front [] last (fronts ∙ sym (append-nil front)) stops)

    -- these lines were taken, and then memory ran out
    starved : (lines : List (List ℕ)) → TakesLines rules speech old held new held' lines → StopsWithin rules speech stops.NoMemory old held new held' lines
    starved lines takes first ls before stands =
        let took = takes first ls before stands in
        let waits =
        builder-waits rules speech new new (same_itself new) (goes_nowhere rules speech new.pass.seen) (λ (l : IsLegalAt rules speech new.pass.root new.pass.seen). l)
        first (ls ++ map (said_by old.grammar) lines) [] before held' took.0 in
        (subst (λ (rs : List (Reads Saying)). BuilderStops rules speech stops.NoMemory new first rs before held') (append-nil (ls ++ map (said_by old.grammar) lines)) waits.0, took.1)

    -- ---- the limits: so many bytes, and so many lines

    module _ (b n : ℕ) (left : Option (List ℕ)) (read : List ℕ) where
      -- the lines of a file that is within its limits
      all_lines : length read ≤ b → length (lines_of read) ≤ n → take n (lines_within b true read) ≡ lines_of read
      all_lines le few = ap (take n) (within_all b n read le) ∙ take_all n (lines_of read) few

      ended_lines : length read ≤ b → length (lines_of read) ≤ n → take n (lines_within b false read) ≡ ended_from [] read
      ended_lines le few =
          let whole : take b read ≡ read = take_all b read le in
          let size = length-append (ended_from [] read) (where_some (rest_from [] read)) in
          ap (take n) (within_ended b n read ∙ ap (ended_from []) whole) ∙ take_all n (ended_from [] read) (omega arith)

      past_lines : (whole : Bool) → b < length read → length (lines_of (take b read)) ≤ n → take n (lines_within b whole read) ≡ ended_from [] (take b read)
      past_lines whole past few =
          let size = length-append (ended_from [] (take b read)) (where_some (rest_from [] (take b read))) in
          ap (take n) (within_past b n read whole past) ∙ take_all n (ended_from [] (take b read)) (omega arith)

      pub taken-all : length read ≤ b → length (lines_of read) ≤ n → TakesLines rules speech old held new held' (kept_of k (lines_of read))
          → (IsPast b n read → ⊥) × TakesLines rules speech old held new held' (take n (lines_within b true read))
      taken-all le few takes = (not_past b n read le few, takes_as (lines_of read) (take n (lines_within b true read)) (sym (all_lines le few)) (takes_whole (lines_of read) takes))

      taken-read : length read ≤ b → length (lines_of read) ≤ n → TakesLines rules speech old held new held' (kept_of k (ended_from [] read))
          → (IsPast b n read → ⊥) × TakesLines rules speech old held new held' (take n (lines_within b false read))
      taken-read le few takes = (not_past b n read le few, takes_as (ended_from [] read) (take n (lines_within b false read)) (sym (ended_lines le few)) (takes_whole (ended_from [] read) takes))

      taken-long : b < length read → length (lines_of (take b read)) ≤ n → TakesLines rules speech old held new held' (kept_of k (ended_from [] (take b read)))
          → IsPast b n read × ((whole : Bool) → TakesLines rules speech old held new held' (take n (lines_within b whole read)))
      taken-long past few takes =
          (inl past, λ whole. takes_as (ended_from [] (take b read)) (take n (lines_within b whole read)) (sym (past_lines whole past few)) (takes_whole (ended_from [] (take b read)) takes))

      taken-many : n < length (lines_of (take b read)) → TakesLines rules speech old held new held' (take n (kept_of k (lines_of (take b read))))
          → IsPast b n read × ((whole : Bool) → TakesLines rules speech old held new held' (take n (lines_within b whole read)))
      taken-many many takes = (
        many_past b n read many,
        λ whole. takes_as (take n (lines_of (take b read))) (take n (lines_within b whole read)) (many_lines b n read many whole)
            (takes_whole (take n (lines_of (take b read))) (takes_as (take n (kept_of k (lines_of (take b read)))) (kept_of k (take n (lines_of (take b read)))) (kept_front k n (lines_of (take b read))) takes)),
      )

      -- Stopped before the end of the source: whatever counts as the last line was not taken.
      Stopped : (List (List ℕ) → Type 0) → Type 0
      Stopped holds = (ended : Bool) × (ended ≡ true → IsEnded left) × ((whole : Bool) → (ended ≡ true → whole ≡ true) → holds (take n (lines_within b whole read)))

      stopped-within : (stop : Stop) (front more : List (List ℕ)) → kept_of k (ended_from [] (take b read)) ≡ front ++ more → 0 + length front ≤ n → StopsWithin rules speech stop old held new held' front
          → Stopped (StopsWithin rules speech stop old held new held')
      unfolding Stopped
      stopped-within stop front more is few stops =
          (false, (λ no. absurd cc), λ whole not_ended. stops_few stop n (ended_from [] (take b read)) front more (if whole && nat_le (length read) b then where_some (rest_from [] read) else []) is few stops)

      stopped-last : (stop : Stop) → IsEnded left → length read ≤ b → length (lines_of read) ≤ n → StopsWithin rules speech stop old held new held' (kept_of k (lines_of read)) → Stopped (StopsWithin rules speech stop old held new held')
      unfolding Stopped
      stopped-last stop is_ended le few stops = (
        true,
        (λ yes. is_ended),
        λ whole all.
            subst (λ (t : Bool). StopsWithin rules speech stop old held new held' (take n (lines_within b t read))) (sym (all refl))
            (subst (λ (ls : List (List ℕ)). StopsWithin rules speech stop old held new held' ls) (append-nil (lines_of read) ∙ sym (all_lines le few))
            (stops_front stop (lines_of read) (kept_of k (lines_of read)) [] [] (sym (append-nil (kept_of k (lines_of read)))) stops)),
      )

      pub HaltedAt : LineHalt Stop → Type 0
      HaltedAt halts.Read = (IsPast b n read → ⊥) × TakesLines rules speech old held new held' (take n (lines_within b false read))
      HaltedAt halts.NoMemory = Stopped (StopsWithin rules speech stops.NoMemory old held new held')
      HaltedAt halts.TooLong = IsPast b n read × ((whole : Bool) → TakesLines rules speech old held new held' (take n (lines_within b whole read)))
      HaltedAt halts.TooMany = IsPast b n read × ((whole : Bool) → TakesLines rules speech old held new held' (take n (lines_within b whole read)))
      HaltedAt (halts.Stopped stop) = Stopped (StopsWithin rules speech stop old held new held')

      pub halted-at : (halt : LineHalt Stop) → IsLineHalt halt b n k (TakesLines rules speech old held new held') (λ lines stop. StopsWithin rules speech stop old held new held' lines) left read → HaltedAt halt
      unfolding HaltedAt
      halted-at halts.Read h = taken-read h.0 h.1 h.2
      halted-at halts.NoMemory h = stopped-within stops.NoMemory h.0 h.1 h.2 h.3 (starved h.0 h.4)
      halted-at halts.TooLong h = taken-long h.0 h.1 h.2
      halted-at halts.TooMany h = taken-many h.0 h.1
      halted-at (halts.Stopped stop) (inl h) = stopped-within stop h.0 h.1 h.2 h.3 h.4
      halted-at (halts.Stopped stop) (inr h) = stopped-last stop h.0 h.1 h.2 h.3

      stopped-is : (stop : Stop) → b ≡ most_bytes → n ≡ most_lines → Stopped (StopsWithin rules speech stop old held new held')
          → (ended : Bool) × (ended ≡ true → IsEnded left) × ((whole : Bool) → (ended ≡ true → whole ≡ true) → StopsWithin rules speech stop old held new held' (lines_read whole read))
      unfolding Stopped
      stopped-is stop bytes lines h =
          subst (λ x. (ended : Bool) × (ended ≡ true → IsEnded left) × ((whole : Bool) → (ended ≡ true → whole ≡ true) → StopsWithin rules speech stop old held new held' (take most_lines (lines_within x whole read)))) bytes
          (subst (λ x. (ended : Bool) × (ended ≡ true → IsEnded left) × ((whole : Bool) → (ended ≡ true → whole ≡ true) → StopsWithin rules speech stop old held new held' (take x (lines_within b whole read)))) lines h)

      pub halted-is : (halt : LineHalt Stop) → b ≡ most_bytes → n ≡ most_lines → HaltedAt halt → LinesHalted rules speech halt old held new held' left read
      unfolding HaltedAt Stopped
      halted-is halts.Read bytes lines h = subst (λ x. (IsPast x most_lines read → ⊥) × TakesLines rules speech old held new held' (take most_lines (lines_within x false read))) bytes
          (subst (λ x. (IsPast b x read → ⊥) × TakesLines rules speech old held new held' (take x (lines_within b false read))) lines h)
      halted-is halts.NoMemory bytes lines h = stopped-is stops.NoMemory bytes lines h
      halted-is halts.TooLong bytes lines h = subst (λ x. IsPast x most_lines read × ((whole : Bool) → TakesLines rules speech old held new held' (take most_lines (lines_within x whole read)))) bytes
          (subst (λ x. IsPast b x read × ((whole : Bool) → TakesLines rules speech old held new held' (take x (lines_within b whole read)))) lines h)
      halted-is halts.TooMany bytes lines h = subst (λ x. IsPast x most_lines read × ((whole : Bool) → TakesLines rules speech old held new held' (take most_lines (lines_within x whole read)))) bytes
          (subst (λ x. IsPast b x read × ((whole : Bool) → TakesLines rules speech old held new held' (take x (lines_within b whole read)))) lines h)
      halted-is (halts.Stopped stop) bytes lines h = stopped-is stop bytes lines h
