-- Where a builder stands, or stops, after a line.
use Rattle.std.proofs.Common.{◌≡◌, ℕ, ◌+◌, List, [], ◌∷◌, ◌++◌, Option, Some, None, refl, sym, ◌∙◌, ap, subst}
use Rattle.std.specs.List.{concat}
use Rattle.ug_edge.specs.Told.{AppendsPiece}
use Rattle.ug_pieces.specs.Reporting.{AppendsFront}
use Rattle.ug_board.specs.Entry.{Entry}
use Rattle.ug_board.specs.Rules.{Rules}
use Rattle.ug_turnstile.specs.Passes.{Held, IsSamePass}
use Rattle.ug_events.specs.Events.{Saying}
use Rattle.ug_events.specs.Reads.{Reads}
use Rattle.ug_speaker.specs.Speech.{Speech}
use Rattle.ug_speaker.specs.Owes.{StepsRight}
use Rattle.ug_report.specs.Report.{AreOf64, Answer, answer_texts}
use Rattle.ug_event_loop.specs.declared.came.Came.{Came}
use Rattle.ug_event_loop.specs.declared.stop.Stop.{Stop}
use Rattle.ug_event_loop.specs.declared.stop.Stop.TheVariants as stops
use Rattle.ug_event_loop.specs.declared.tally.Tally.{Tally}
use Rattle.ug_event_loop.specs.Turns.{GoesOn, WindsUp, StaysOpen, AnswersAt, IsLegalAt, answer_of, marks_of, is_taken, is_refused}
use Rattle.ug_event_loop.specs.Standing.{said_by, Stands, Stops, BuilderView, IsSameBuilder, BuilderStands, BuilderStops, TakesLines, StopsWithin}
use Rattle.ug_event_loop.proofs.Turning.{winds_by_going, stays_by_going, stays_by_line}
use Rattle.ug_event_loop.proofs.Standings.{stands-still, stops-still, stops-before, takes-line, takes-untold, takes-stopped, admits}

module _ {Opening State Job Said : Type 0} (rules : Rules Opening State Job Said) (speech : Speech Opening State Job Said) where
  stands_as : (b : BuilderView Opening Job Said) (root : Option Opening) (first lines : List (Reads Saying)) (names : List (List ℕ)) (seen : List (Entry Job Said)) (before held : Option (List ℕ)) (tally : Tally)
      → b.pass.root ≡ root → b.names ≡ names → b.pass.seen ≡ seen → b.tally ≡ tally
      → Stands rules speech root first lines names seen before held tally → BuilderStands rules speech b first lines before held
  stands_as b root first lines names seen before held tally r n s t stands =
      subst (λ (x : Option Opening). Stands rules speech x first lines b.names b.pass.seen before held b.tally) (sym r)
      (subst (λ (x : List (List ℕ)). Stands rules speech root first lines x b.pass.seen before held b.tally) (sym n)
      (subst (λ (x : List (Entry Job Said)). Stands rules speech root first lines names x before held b.tally) (sym s)
      (subst (λ (x : Tally). Stands rules speech root first lines names seen before held x) (sym t) stands)))

  stops_as : (stop : Stop) (b : BuilderView Opening Job Said) (root : Option Opening) (first lines : List (Reads Saying)) (names : List (List ℕ)) (seen : List (Entry Job Said)) (before held : Option (List ℕ))
      → b.pass.root ≡ root → b.names ≡ names → b.pass.seen ≡ seen
      → Stops rules speech stop root first lines names seen before held → BuilderStops rules speech stop b first lines before held
  stops_as stop b root first lines names seen before held r n s stops =
      subst (λ (x : Option Opening). Stops rules speech stop x first lines b.names b.pass.seen before held) (sym r)
      (subst (λ (x : List (List ℕ)). Stops rules speech stop root first lines x b.pass.seen before held) (sym n)
      (subst (λ (x : List (Entry Job Said)). Stops rules speech stop root first lines names x before held) (sym s) stops))

  -- no line ends the work
  stays_as : (root : Option Opening) (line : Reads Saying) (answer : Answer) (first lines : List (Reads Saying)) (names : List (List ℕ)) (seen seen' : List (Entry Job Said)) (before held : Option (List ℕ)) (tally : Tally)
      → AnswersAt rules speech root line answer seen seen' → Stands rules speech root first lines names seen before held tally → StaysOpen rules speech seen seen'
  stays_as None line answer first lines names seen seen' before held tally answers stands = absurd stands
  stays_as (Some opening) line answer first lines names seen seen' before held tally answers stands = stays_by_line rules speech opening line answer seen seen' answers

  -- what no line asks for leaves where a builder stands, and where it stopped
  pub builder-still : (old new : BuilderView Opening Job Said) → IsSameBuilder old new → new.tally ≡ old.tally → WindsUp rules speech old.pass.seen new.pass.seen
      → IsLegalAt rules speech new.pass.root new.pass.seen → (first lines : List (Reads Saying)) (before held : Option (List ℕ)) → BuilderStands rules speech old first lines before held → BuilderStands rules speech new first lines before held
  builder-still old new same tally goes legal first lines before held stands =
      stands_as new old.pass.root first lines old.names new.pass.seen before held old.tally same.pass.2 same.names refl tally
      (stands-still rules speech old.pass.root first lines old.names old.pass.seen new.pass.seen before held old.tally goes
      (λ _. subst (λ (r : Option Opening). IsLegalAt rules speech r new.pass.seen) same.pass.2 legal) stands)

  pub builder-stays-stopped : (stop : Stop) (old new : BuilderView Opening Job Said) → IsSameBuilder old new → WindsUp rules speech old.pass.seen new.pass.seen
      → IsLegalAt rules speech new.pass.root new.pass.seen → (first lines : List (Reads Saying)) (before held : Option (List ℕ)) → BuilderStops rules speech stop old first lines before held → BuilderStops rules speech stop new first lines before held
  builder-stays-stopped stop old new same goes legal first lines before held stops =
      stops_as stop new old.pass.root first lines old.names new.pass.seen before held same.pass.2 same.names refl
      (stops-still rules speech stop old.pass.root first lines old.names old.pass.seen new.pass.seen before held goes
      (subst (λ (r : Option Opening). IsLegalAt rules speech r new.pass.seen) same.pass.2 legal) stops)

  -- memory ran out, for the next of these lines or for what follows all
  pub builder-starved : (old new : BuilderView Opening Job Said) → IsSameBuilder old new → WindsUp rules speech old.pass.seen new.pass.seen
      → (IsLegalAt rules speech old.pass.root old.pass.seen → IsLegalAt rules speech new.pass.root new.pass.seen)
      → (first lines more : List (Reads Saying)) (before held : Option (List ℕ)) → BuilderStands rules speech old first lines before held
      → BuilderStops rules speech stops.NoMemory new first (lines ++ more) before held
  builder-starved old new same goes legal first lines more before held stands =
      stops_as stops.NoMemory new old.pass.root first (lines ++ more) old.names new.pass.seen before held same.pass.2 same.names refl
      (stops-before rules speech old.pass.root first lines more old.names old.pass.seen new.pass.seen before held old.tally goes
      (λ l. subst (λ (r : Option Opening). IsLegalAt rules speech r new.pass.seen) same.pass.2 (legal l)) stands)

  -- the same where what was done prepares
  pub builder-stays : (old new : BuilderView Opening Job Said) → IsSameBuilder old new → new.tally ≡ old.tally → GoesOn rules speech old.pass.seen new.pass.seen
      → IsLegalAt rules speech new.pass.root new.pass.seen → (first lines : List (Reads Saying)) (before held : Option (List ℕ)) → BuilderStands rules speech old first lines before held
      → BuilderStands rules speech new first lines before held × StaysOpen rules speech old.pass.seen new.pass.seen
  builder-stays old new same tally goes legal first lines before held stands = (
    builder-still old new same tally (winds_by_going rules speech old.pass.seen new.pass.seen goes) legal first lines before held stands,
    stays_by_going rules speech old.pass.seen new.pass.seen goes,
  )

  pub builder-waits : (old new : BuilderView Opening Job Said) → IsSameBuilder old new → GoesOn rules speech old.pass.seen new.pass.seen
      → (IsLegalAt rules speech old.pass.root old.pass.seen → IsLegalAt rules speech new.pass.root new.pass.seen)
      → (first lines more : List (Reads Saying)) (before held : Option (List ℕ)) → BuilderStands rules speech old first lines before held
      → BuilderStops rules speech stops.NoMemory new first (lines ++ more) before held × StaysOpen rules speech old.pass.seen new.pass.seen
  builder-waits old new same goes legal first lines more before held stands = (
    builder-starved old new same (winds_by_going rules speech old.pass.seen new.pass.seen goes) legal first lines more before held stands,
    stays_by_going rules speech old.pass.seen new.pass.seen goes,
  )

  module _ (steps : StepsRight rules speech) (old mid : BuilderView Opening Job Said) (held : Option (List ℕ)) (line : List ℕ) (came : Came Said) (same : IsSameBuilder old mid)
      (answers : AnswersAt rules speech mid.pass.root (said_by old.grammar line) (answer_of speech.marks came) old.pass.seen mid.pass.seen)
      (legal : IsLegalAt rules speech old.pass.root old.pass.seen → IsLegalAt rules speech mid.pass.root mid.pass.seen) where
    answers_here : AnswersAt rules speech old.pass.root (said_by old.grammar line) (answer_of speech.marks came) old.pass.seen mid.pass.seen
    answers_here = subst (λ (r : Option Opening). AnswersAt rules speech r (said_by old.grammar line) (answer_of speech.marks came) old.pass.seen mid.pass.seen) same.pass.2 answers

    legal_here : IsLegalAt rules speech old.pass.root old.pass.seen → IsLegalAt rules speech old.pass.root mid.pass.seen
    legal_here l = subst (λ (r : Option Opening). IsLegalAt rules speech r mid.pass.seen) same.pass.2 (legal l)

    -- the line didn't end the work
    stays_here : (first lines : List (Reads Saying)) (before : Option (List ℕ)) (seen : List (Entry Job Said)) → seen ≡ mid.pass.seen
        → BuilderStands rules speech old first lines before held → StaysOpen rules speech old.pass.seen seen
    stays_here first lines before seen is stands =
        subst (λ (es : List (Entry Job Said)). StaysOpen rules speech old.pass.seen es) (sym is)
        (stays_as old.pass.root (said_by old.grammar line) (answer_of speech.marks came) first lines old.names old.pass.seen mid.pass.seen before held old.tally answers_here stands)

    -- ---- what is told of the line, with the names and the count that the builder has

    module _ (names : List (List ℕ)) (tally tally' : Tally) (new : BuilderView Opening Job Said) (held' : Option (List ℕ)) (names_is : names ≡ old.names) (tally_is : tally ≡ old.tally)
        (lines' : tally'.lines ≡ tally.lines + 1) (pass_is : new.pass ≡ mid.pass) (new_names : new.names ≡ old.names) where
      number_is : tally'.lines ≡ old.tally.lines + 1
      number_is = lines' ∙ ap (λ (t : Tally). t.lines + 1) tally_is

      texts_are : concat (answer_texts names tally'.lines (answer_of speech.marks came)) ≡ concat (answer_texts old.names (old.tally.lines + 1) (answer_of speech.marks came))
      texts_are =
          ap (λ (ns : List (List ℕ)). concat (answer_texts ns tally'.lines (answer_of speech.marks came))) names_is
          ∙ ap (λ (n : ℕ). concat (answer_texts old.names n (answer_of speech.marks came))) number_is

      root_is : new.pass.root ≡ old.pass.root
      root_is = ap (λ (p : Held (Entry Job Said) Opening). p.root) pass_is ∙ same.pass.2

      seen_is : new.pass.seen ≡ mid.pass.seen
      seen_is = ap (λ (p : Held (Entry Job Said) Opening). p.seen) pass_is

      pub builder-takes : AppendsPiece held held' (concat (answer_texts names tally'.lines (answer_of speech.marks came))) → AreOf64 (marks_of (answer_of speech.marks came))
          → new.tally ≡ tally' → tally'.accepted ≡ tally.accepted + is_taken came → tally'.refused ≡ tally.refused + is_refused came
          → TakesLines rules speech old held new held' (line ∷ [])
      builder-takes told counts new_tally accepted' refused' first lines before stands = (
        stands_as new old.pass.root first (lines ++ said_by old.grammar line ∷ []) old.names mid.pass.seen before held' tally' root_is new_names seen_is new_tally
            (takes-line rules speech steps old.pass.root old.names old.pass.seen mid.pass.seen held old.tally (said_by old.grammar line) came answers_here legal_here held' tally'
            (subst (λ (text : List ℕ). AppendsPiece held held' text) texts_are told) counts number_is
            (accepted' ∙ ap (λ (t : Tally). t.accepted + is_taken came) tally_is) (refused' ∙ ap (λ (t : Tally). t.refused + is_refused came) tally_is)
            first lines before stands),
        stays_here first lines before new.pass.seen seen_is stands,
      )

      pub builder-stopped : (stop : Stop) → (stop ≡ stops.NoMemory → held' ≡ held)
          → (stop ≡ stops.Report → AppendsFront held held' (concat (answer_texts names tally'.lines (answer_of speech.marks came))))
          → StopsWithin rules speech stop old held new held' (line ∷ [])
      builder-stopped stop starved failed first lines before stands = (
        stops_as stop new old.pass.root first (lines ++ said_by old.grammar line ∷ []) old.names mid.pass.seen before held' root_is new_names seen_is
            (takes-stopped rules speech steps old.pass.root old.names old.pass.seen mid.pass.seen held old.tally (said_by old.grammar line) came answers_here legal_here stop held' starved
            (λ is. subst (λ (text : List ℕ). AppendsFront held held' text) texts_are (failed is))
            first lines before stands),
        stays_here first lines before new.pass.seen seen_is stands,
      )

    -- the line was taken, and no more can be counted
    pub builder-uncounted : (new : BuilderView Opening Job Said) → new.pass ≡ mid.pass → new.names ≡ old.names → StopsWithin rules speech stops.NoMemory old held new held (line ∷ [])
    builder-uncounted new pass_is new_names first lines before stands = (
      stops_as stops.NoMemory new old.pass.root first (lines ++ said_by old.grammar line ∷ []) old.names mid.pass.seen before held
          (ap (λ (p : Held (Entry Job Said) Opening). p.root) pass_is ∙ same.pass.2) new_names (ap (λ (p : Held (Entry Job Said) Opening). p.seen) pass_is)
          (takes-untold rules speech steps old.pass.root old.names old.pass.seen mid.pass.seen held old.tally (said_by old.grammar line) came answers_here legal_here first lines before stands),
      stays_here first lines before new.pass.seen (ap (λ (p : Held (Entry Job Said) Opening). p.seen) pass_is) stands,
    )

  pub builder-admits : (old new : BuilderView Opening Job Said) (pass : Held (Entry Job Said) Opening) (line : Reads Saying) (answer : Answer)
      → IsSamePass old.pass pass → AnswersAt rules speech pass.root line answer old.pass.seen pass.seen → IsLegalAt rules speech pass.root pass.seen
      → new.pass ≡ pass → new.names ≡ old.names → new.tally ≡ old.tally
      → (first : List (Reads Saying)) (held : Option (List ℕ)) → BuilderStands rules speech old first [] held held
      → BuilderStands rules speech new (first ++ line ∷ []) [] held held × StaysOpen rules speech old.pass.seen new.pass.seen
  builder-admits old new pass line answer same answers legal pass_is names_is tally_is first held stands =
      let seen_is = ap (λ (p : Held (Entry Job Said) Opening). p.seen) pass_is in
      let answers_here : AnswersAt rules speech old.pass.root line answer old.pass.seen pass.seen = subst (λ (r : Option Opening). AnswersAt rules speech r line answer old.pass.seen pass.seen) same.2 answers in (
        stands_as new old.pass.root (first ++ line ∷ []) [] old.names pass.seen held held old.tally
            (ap (λ (p : Held (Entry Job Said) Opening). p.root) pass_is ∙ same.2) names_is seen_is tally_is
            (admits rules speech old.pass.root old.names old.pass.seen pass.seen held old.tally line answer first answers_here (subst (λ (r : Option Opening). IsLegalAt rules speech r pass.seen) same.2 legal) stands),
        subst (λ (es : List (Entry Job Said)). StaysOpen rules speech old.pass.seen es) (sym seen_is)
            (stays_as old.pass.root line answer first [] old.names old.pass.seen pass.seen held held old.tally answers_here stands),
      )
