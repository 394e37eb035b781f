-- Where a builder stands after a turn, and after a line.
use Rattle.std.proofs.Common.{◌≡◌, ℕ, ◌+◌, List, [], ◌∷◌, ◌++◌, length, Option, Some, None, refl, sym, ◌∙◌, ap, subst, append_assoc, arith}
use Rattle.std.specs.List.{concat}
use Rattle.std.proofs.lemmas.List.{append-nil, length-append}
use Rattle.std.proofs.lemmas.List.Folds.{concat-append}
use Rattle.ug_types.specs.declared.mark.Mark.{Mark}
use Rattle.ug_edge.specs.Told.{AppendsPiece}
use Rattle.ug_pieces.specs.Reporting.{AppendsFront}
use Rattle.ug_pieces.specs.AppendingLaws.{AppendsPiece-none, AppendsPiece-more, AppendsFront-more}
use Rattle.ug_board.specs.Entry.{Entry}
use Rattle.ug_board.specs.Rules.{Rules}
use Rattle.ug_board.specs.History.{IsLegal}
use Rattle.ug_events.specs.Events.{Saying}
use Rattle.ug_events.specs.Reads.{Reads}
use Rattle.ug_world.specs.World.{World}
use Rattle.ug_world.specs.Worlds.{last_world}
use Rattle.ug_speaker.specs.Speech.{Speech}
use Rattle.ug_speaker.specs.Told.{world_at}
use Rattle.ug_speaker.specs.Owes.{StepsRight}
use Rattle.ug_speaker.specs.Story.{IsStory}
use Rattle.ug_speaker.specs.StoryLaws.{story-between, story-line}
use Rattle.ug_board.specs.Deeds.{Each}
use Rattle.ug_report.specs.Report.{AreOf64, Answer, answer_to, answer_texts, line_texts}
use Rattle.ug_event_loop.specs.declared.came.Came.{Came}
use Rattle.ug_event_loop.specs.declared.stop.Stop.{Stop}
use Rattle.ug_event_loop.specs.declared.stop.Stop.TheVariants as stops
use Rattle.ug_event_loop.specs.declared.tally.Tally.{Tally}
use Rattle.ug_event_loop.specs.Turns.{WindsUp, Answers, AnswersAt, IsLegalAt, answer_of, marks_of, is_taken, is_refused}
use Rattle.ug_event_loop.specs.Standing.{AreLanes, IsTally, HasTaken, StandsAt, StopsAt, Stands, Stops}
use Rattle.ug_event_loop.proofs.Worlds.{lanes-front, legal-front, last-more, story-marks, story-world}
use Rattle.ug_event_loop.proofs.Turning.{preparing-between}
use Rattle.ug_event_loop.proofs.Telling.{texts-more, accepted-more, refused-more, taken-is, refused-is}

each_more : (marks : List (List Mark)) (ms : List Mark) → Each AreOf64 marks → AreOf64 ms → Each AreOf64 (marks ++ ms ∷ [])
each_more [] ms all one = (one, tt)
each_more (m ∷ marks) ms all one = (all.0, each_more marks ms all.1 one)

module _ {Opening State Job Said : Type 0} (rules : Rules Opening State Job Said) (speech : Speech Opening State Job Said) where
  -- what no line asks for
  taken_still : (opening : Opening) (first lines : List (Reads Saying)) (marks : List (List Mark)) (seen seen' : List (Entry Job Said))
      → HasTaken rules speech opening first lines marks seen → WindsUp rules speech seen seen' → IsLegal rules opening seen' → HasTaken rules speech opening first lines marks seen'
  taken_still opening first lines marks seen seen' taken goes legal = record {
    first_marks = taken.first_marks;
    aligned = taken.aligned;
    story =
        subst (λ (es : List (Entry Job Said)). IsStory rules speech opening [] (first ++ lines) (taken.first_marks ++ marks) es) (sym goes.parts)
        (story-between rules speech opening [] (first ++ lines) (taken.first_marks ++ marks) seen goes.more taken.story goes.between);
    legal = legal;
  }

  -- a line more, after all
  story_more : (opening : Opening) (lines : List (Reads Saying)) (marks : List (List Mark)) (seen seen' : List (Entry Job Said)) (line : Reads Saying) (answer : Answer)
      → IsStory rules speech opening [] lines marks seen → Answers rules speech opening line answer seen seen'
      → IsStory rules speech opening [] (lines ++ line ∷ []) (marks ++ marks_of answer ∷ []) seen'
  story_more opening lines marks seen seen' line answer story answers =
      subst (λ (es : List (Entry Job Said)). IsStory rules speech opening [] (lines ++ line ∷ []) (marks ++ marks_of answer ∷ []) es) (sym answers.parts)
      (story-line rules speech opening lines marks seen answers.quiet answers.did line (marks_of answer) story (preparing-between rules speech answers.quiet answers.prepares) answers.does)

  taken_more : (opening : Opening) (first lines : List (Reads Saying)) (marks : List (List Mark)) (seen seen' : List (Entry Job Said)) (line : Reads Saying) (answer : Answer)
      → HasTaken rules speech opening first lines marks seen → Answers rules speech opening line answer seen seen' → IsLegal rules opening seen'
      → HasTaken rules speech opening first (lines ++ line ∷ []) (marks ++ marks_of answer ∷ []) seen'
  taken_more opening first lines marks seen seen' line answer taken answers legal = record {
    first_marks = taken.first_marks;
    aligned = taken.aligned;
    story =
        subst (λ (ms : List (List Mark)). IsStory rules speech opening [] (first ++ (lines ++ line ∷ [])) ms seen') (append_assoc taken.first_marks marks (marks_of answer ∷ []))
        (subst (λ (ls : List (Reads Saying)). IsStory rules speech opening [] ls ((taken.first_marks ++ marks) ++ marks_of answer ∷ []) seen') (append_assoc first lines (line ∷ []))
        (story_more opening (first ++ lines) (taken.first_marks ++ marks) seen seen' line answer taken.story answers));
    legal = legal;
  }

  marks_aligned : (opening : Opening) (first lines : List (Reads Saying)) (marks : List (List Mark)) (seen : List (Entry Job Said)) → HasTaken rules speech opening first lines marks seen → length marks ≡ length lines
  marks_aligned opening first lines marks seen taken =
      let all : length (taken.first_marks ++ marks) ≡ length (first ++ lines) = story-marks rules speech opening [] (first ++ lines) (taken.first_marks ++ marks) seen taken.story in
      let front = length-append taken.first_marks marks in
      let back = length-append first lines in
      let same = taken.aligned in
      omega arith

  module _ (steps : StepsRight rules speech) where
    -- The answer is that of the world which the lines lead to.
    answer_is : (opening : Opening) (first lines : List (Reads Saying)) (marks : List (List Mark)) (seen seen' : List (Entry Job Said)) (line : Reads Saying) (answer : Answer)
        → HasTaken rules speech opening first lines marks seen → Answers rules speech opening line answer seen seen' → IsLegal rules opening seen' → AreLanes seen'
        → answer_to (last_world (last_world (speech.first opening) first) lines) line (marks_of answer) ≡ answer
    answer_is opening first lines marks seen seen' line answer taken answers legal lanes =
        let parts : seen' ≡ (seen ++ answers.quiet) ++ answers.did = answers.parts ∙ sym (append_assoc seen answers.quiet answers.did) in
        let here : IsLegal rules opening (seen ++ answers.quiet) =
        legal-front rules (rules.start opening) (seen ++ answers.quiet) answers.did (subst (λ (es : List (Entry Job Said)). IsLegal rules opening es) parts legal) in
        let lanes' : AreLanes (seen ++ answers.quiet) = lanes-front (seen ++ answers.quiet) answers.did (subst (λ (es : List (Entry Job Said)). AreLanes es) parts lanes) in
        let story = story-between rules speech opening [] (first ++ lines) (taken.first_marks ++ marks) seen answers.quiet taken.story (preparing-between rules speech answers.quiet answers.prepares) in
        let led : world_at rules speech opening (seen ++ answers.quiet) ≡ last_world (world_at rules speech opening []) (first ++ lines) =
        story-world rules speech steps opening [] (first ++ lines) (taken.first_marks ++ marks) (seen ++ answers.quiet) story lanes' here in
        let world : world_at rules speech opening (seen ++ answers.quiet) ≡ last_world (last_world (speech.first opening) first) lines =
        led ∙ (ap (λ (w : World). last_world w (first ++ lines)) (steps.first_world opening) ∙ last-more (speech.first opening) first lines) in
        ap (λ (w : World). answer_to w line (marks_of answer)) (sym world) ∙ answers.is

    tally_more : (w : World) (lines : List (Reads Saying)) (line : Reads Saying) (came : Came Said) (tally tally' : Tally)
        → answer_to (last_world w lines) line (marks_of (answer_of speech.marks came)) ≡ answer_of speech.marks came → IsTally w lines tally
        → tally'.lines ≡ tally.lines + 1 → tally'.accepted ≡ tally.accepted + is_taken came → tally'.refused ≡ tally.refused + is_refused came
        → IsTally w (lines ++ line ∷ []) tally'
    tally_more w lines line came tally tally' is was lines' accepted' refused' =
        let ms = marks_of (answer_of speech.marks came) in
        let len = length-append lines (line ∷ []) in
        let count = was.lines in
        let accepted = was.accepted in
        let refused = was.refused in
        let one = taken-is speech.marks came (last_world w lines) line ms is in
        let other = refused-is speech.marks came (last_world w lines) line ms is in
        let accepted_all = accepted-more w lines line in
        let refused_all = refused-more w lines line in
        record { lines = omega arith; accepted = omega arith; refused = omega arith }

    module _ (opening : Opening) (first lines : List (Reads Saying)) (names : List (List ℕ)) (seen seen' : List (Entry Job Said)) (before held : Option (List ℕ)) (tally : Tally) (line : Reads Saying) (came : Came Said)
        (stands : StandsAt rules speech opening first lines names seen before held tally) (answers : Answers rules speech opening line (answer_of speech.marks came) seen seen') (legal : IsLegal rules opening seen') (lanes : AreLanes seen') where
      W : World
      W = last_world (speech.first opening) first

      more_marks : List (List Mark)
      more_marks = stands.marks ++ marks_of (answer_of speech.marks came) ∷ []

      here_taken : HasTaken rules speech opening first (lines ++ line ∷ []) more_marks seen'
      unfolding more_marks
      here_taken = taken_more opening first lines stands.marks seen seen' line (answer_of speech.marks came) stands.taken answers legal

      here_is : answer_to (last_world W lines) line (marks_of (answer_of speech.marks came)) ≡ answer_of speech.marks came
      unfolding W
      here_is = answer_is opening first lines stands.marks seen seen' line (answer_of speech.marks came) stands.taken answers legal lanes

      here_texts : line_texts names 1 W (lines ++ line ∷ []) more_marks ≡ line_texts names 1 W lines stands.marks ++ answer_texts names (tally.lines + 1) (answer_of speech.marks came)
      unfolding more_marks
      here_texts =
          let count = stands.tallied.lines in
          let number : 1 + length lines ≡ tally.lines + 1 = omega arith in
          texts-more names 1 W lines stands.marks line (marks_of (answer_of speech.marks came)) (marks_aligned opening first lines stands.marks seen stands.taken)
          ∙ (ap (λ k. line_texts names 1 W lines stands.marks ++ answer_texts names k (answer_to (last_world W lines) line (marks_of (answer_of speech.marks came)))) number
          ∙ ap (λ (a : Answer). line_texts names 1 W lines stands.marks ++ answer_texts names (tally.lines + 1) a) here_is)

      here_concat : concat (line_texts names 1 W (lines ++ line ∷ []) more_marks) ≡ concat (line_texts names 1 W lines stands.marks) ++ concat (answer_texts names (tally.lines + 1) (answer_of speech.marks came))
      here_concat = ap concat here_texts ∙ concat-append (line_texts names 1 W lines stands.marks) (answer_texts names (tally.lines + 1) (answer_of speech.marks came))

      pub stands-more : (held' : Option (List ℕ)) (tally' : Tally)
          → AppendsPiece held held' (concat (answer_texts names (tally.lines + 1) (answer_of speech.marks came))) → AreOf64 (marks_of (answer_of speech.marks came))
          → tally'.lines ≡ tally.lines + 1 → tally'.accepted ≡ tally.accepted + is_taken came → tally'.refused ≡ tally.refused + is_refused came
          → StandsAt rules speech opening first (lines ++ line ∷ []) names seen' before held' tally'
      unfolding W more_marks
      stands-more held' tally' told counts lines' accepted' refused' = record {
        marks = more_marks;
        taken = here_taken;
        counts = each_more stands.marks (marks_of (answer_of speech.marks came)) stands.counts counts;
        reported =
            subst (λ (text : List ℕ). AppendsPiece before held' text) (sym here_concat)
            (AppendsPiece-more before held held' (concat (line_texts names 1 W lines stands.marks)) (concat (answer_texts names (tally.lines + 1) (answer_of speech.marks came))) stands.reported told);
        tallied = tally_more W lines line came tally tally' here_is stands.tallied lines' accepted' refused';
      }

      -- the line was taken, and memory ran out for what the report says of it
      pub stops-untold : StopsAt rules speech stops.NoMemory opening first (lines ++ line ∷ []) names seen' before held
      unfolding W
      stops-untold = record {
        some = lines ++ line ∷ [];
        more = [];
        parts = sym (append-nil (lines ++ line ∷ []));
        marks = more_marks;
        taken = here_taken;
        reported = (line_texts names 1 W lines stands.marks, answer_texts names (tally.lines + 1) (answer_of speech.marks came), here_texts, stands.reported);
      }

      -- the line was taken, and the report failed
      pub stops-failed : (held' : Option (List ℕ)) → AppendsFront held held' (concat (answer_texts names (tally.lines + 1) (answer_of speech.marks came)))
          → StopsAt rules speech stops.Report opening first (lines ++ line ∷ []) names seen' before held'
      unfolding W
      stops-failed held' told = record {
        some = lines ++ line ∷ [];
        more = [];
        parts = sym (append-nil (lines ++ line ∷ []));
        marks = more_marks;
        taken = here_taken;
        reported =
            subst (λ (text : List ℕ). AppendsFront before held' text) (sym here_concat)
            (AppendsFront-more before held held' (concat (line_texts names 1 W lines stands.marks)) (concat (answer_texts names (tally.lines + 1) (answer_of speech.marks came))) stands.reported told);
      }

  -- ---- the same of a pass, whose root is known

  pub stands-still : (root : Option Opening) (first lines : List (Reads Saying)) (names : List (List ℕ)) (seen seen' : List (Entry Job Said)) (before held : Option (List ℕ)) (tally : Tally)
      → WindsUp rules speech seen seen' → (IsLegalAt rules speech root seen → IsLegalAt rules speech root seen')
      → Stands rules speech root first lines names seen before held tally → Stands rules speech root first lines names seen' before held tally
  stands-still None first lines names seen seen' before held tally goes legal stands = absurd stands
  stands-still (Some opening) first lines names seen seen' before held tally goes legal stands = λ lanes.
      let was = stands (lanes-front seen goes.more (subst (λ (es : List (Entry Job Said)). AreLanes es) goes.parts lanes)) in
      record {
        marks = was.marks;
        taken = taken_still opening first lines was.marks seen seen' was.taken goes (legal was.taken.legal);
        counts = was.counts;
        reported = was.reported;
        tallied = was.tallied;
      }

  pub stops-still : (stop : Stop) (root : Option Opening) (first lines : List (Reads Saying)) (names : List (List ℕ)) (seen seen' : List (Entry Job Said)) (before held : Option (List ℕ))
      → WindsUp rules speech seen seen' → IsLegalAt rules speech root seen'
      → Stops rules speech stop root first lines names seen before held → Stops rules speech stop root first lines names seen' before held
  stops-still stop None first lines names seen seen' before held goes legal stops = absurd stops
  stops-still stop (Some opening) first lines names seen seen' before held goes legal stops = λ lanes.
      let was = stops (lanes-front seen goes.more (subst (λ (es : List (Entry Job Said)). AreLanes es) goes.parts lanes)) in
      record { some = was.some; more = was.more; parts = was.parts; marks = was.marks; taken = taken_still opening first was.some was.marks seen seen' was.taken goes legal; reported = was.reported }

  -- memory ran out, for the next line or for what follows all lines
  pub stops-before : (root : Option Opening) (first lines more : List (Reads Saying)) (names : List (List ℕ)) (seen seen' : List (Entry Job Said)) (before held : Option (List ℕ)) (tally : Tally)
      → WindsUp rules speech seen seen' → (IsLegalAt rules speech root seen → IsLegalAt rules speech root seen')
      → Stands rules speech root first lines names seen before held tally → Stops rules speech stops.NoMemory root first (lines ++ more) names seen' before held
  stops-before None first lines more names seen seen' before held tally goes legal stands = absurd stands
  stops-before (Some opening) first lines more names seen seen' before held tally goes legal stands = λ lanes.
      let was = stands (lanes-front seen goes.more (subst (λ (es : List (Entry Job Said)). AreLanes es) goes.parts lanes)) in
      let texts = line_texts names 1 (last_world (speech.first opening) first) lines was.marks in
      record {
        some = lines;
        more = more;
        parts = refl;
        marks = was.marks;
        taken = taken_still opening first lines was.marks seen seen' was.taken goes (legal was.taken.legal);
        reported = (texts, [], sym (append-nil texts), was.reported);
      }

  module _ (steps : StepsRight rules speech) (root : Option Opening) (names : List (List ℕ)) (seen seen' : List (Entry Job Said)) (held : Option (List ℕ)) (tally : Tally) (line : Reads Saying) (came : Came Said)
      (answers : AnswersAt rules speech root line (answer_of speech.marks came) seen seen') (legal : IsLegalAt rules speech root seen → IsLegalAt rules speech root seen') where
    pub takes-line : (held' : Option (List ℕ)) (tally' : Tally)
        → AppendsPiece held held' (concat (answer_texts names (tally.lines + 1) (answer_of speech.marks came))) → AreOf64 (marks_of (answer_of speech.marks came))
        → tally'.lines ≡ tally.lines + 1 → tally'.accepted ≡ tally.accepted + is_taken came → tally'.refused ≡ tally.refused + is_refused came
        → (first lines : List (Reads Saying)) (before : Option (List ℕ))
        → Stands rules speech root first lines names seen before held tally → Stands rules speech root first (lines ++ line ∷ []) names seen' before held' tally'
    takes-line held' tally' told counts lines' accepted' refused' first lines before stands =
        taken-from root answers legal stands
      where
        taken-from : (r : Option Opening) → AnswersAt rules speech r line (answer_of speech.marks came) seen seen' → (IsLegalAt rules speech r seen → IsLegalAt rules speech r seen')
            → Stands rules speech r first lines names seen before held tally → Stands rules speech r first (lines ++ line ∷ []) names seen' before held' tally'
        taken-from None answers legal stands = absurd stands
        taken-from (Some opening) answers legal stands = λ lanes.
            let was = stands (lanes-front seen (answers.quiet ++ answers.did) (subst (λ (es : List (Entry Job Said)). AreLanes es) answers.parts lanes)) in
            stands-more steps opening first lines names seen seen' before held tally line came was answers (legal was.taken.legal) lanes held' tally' told counts lines' accepted' refused'

    pub takes-untold : (first lines : List (Reads Saying)) (before : Option (List ℕ))
        → Stands rules speech root first lines names seen before held tally → Stops rules speech stops.NoMemory root first (lines ++ line ∷ []) names seen' before held
    takes-untold first lines before stands = taken-from root answers legal stands
      where
        taken-from : (r : Option Opening) → AnswersAt rules speech r line (answer_of speech.marks came) seen seen' → (IsLegalAt rules speech r seen → IsLegalAt rules speech r seen')
            → Stands rules speech r first lines names seen before held tally → Stops rules speech stops.NoMemory r first (lines ++ line ∷ []) names seen' before held
        taken-from None answers legal stands = absurd stands
        taken-from (Some opening) answers legal stands = λ lanes.
            let was = stands (lanes-front seen (answers.quiet ++ answers.did) (subst (λ (es : List (Entry Job Said)). AreLanes es) answers.parts lanes)) in
            stops-untold steps opening first lines names seen seen' before held tally line came was answers (legal was.taken.legal) lanes

    pub takes-failed : (held' : Option (List ℕ)) → AppendsFront held held' (concat (answer_texts names (tally.lines + 1) (answer_of speech.marks came)))
        → (first lines : List (Reads Saying)) (before : Option (List ℕ))
        → Stands rules speech root first lines names seen before held tally → Stops rules speech stops.Report root first (lines ++ line ∷ []) names seen' before held'
    takes-failed held' told first lines before stands = taken-from root answers legal stands
      where
        taken-from : (r : Option Opening) → AnswersAt rules speech r line (answer_of speech.marks came) seen seen' → (IsLegalAt rules speech r seen → IsLegalAt rules speech r seen')
            → Stands rules speech r first lines names seen before held tally → Stops rules speech stops.Report r first (lines ++ line ∷ []) names seen' before held'
        taken-from None answers legal stands = absurd stands
        taken-from (Some opening) answers legal stands = λ lanes.
            let was = stands (lanes-front seen (answers.quiet ++ answers.did) (subst (λ (es : List (Entry Job Said)). AreLanes es) answers.parts lanes)) in
            stops-failed steps opening first lines names seen seen' before held tally line came was answers (legal was.taken.legal) lanes held' told

    -- the line was taken, and not all of what the report says of it was told
    pub takes-stopped : (stop : Stop) (held' : Option (List ℕ)) → (stop ≡ stops.NoMemory → held' ≡ held)
        → (stop ≡ stops.Report → AppendsFront held held' (concat (answer_texts names (tally.lines + 1) (answer_of speech.marks came))))
        → (first lines : List (Reads Saying)) (before : Option (List ℕ))
        → Stands rules speech root first lines names seen before held tally → Stops rules speech stop root first (lines ++ line ∷ []) names seen' before held'
    takes-stopped stops.NoMemory held' same front first lines before stands =
        subst (λ (h : Option (List ℕ)). Stops rules speech stops.NoMemory root first (lines ++ line ∷ []) names seen' before h) (sym (same refl)) (takes-untold first lines before stands)
    takes-stopped stops.Report held' same front first lines before stands = takes-failed held' (front refl) first lines before stands

  -- an event before all lines
  pub admits : (root : Option Opening) (names : List (List ℕ)) (seen seen' : List (Entry Job Said)) (held : Option (List ℕ)) (tally : Tally) (line : Reads Saying) (answer : Answer) (first : List (Reads Saying))
      → AnswersAt rules speech root line answer seen seen' → IsLegalAt rules speech root seen'
      → Stands rules speech root first [] names seen held held tally → Stands rules speech root (first ++ line ∷ []) [] names seen' held held tally
  admits None names seen seen' held tally line answer first answers legal stands = absurd stands
  admits (Some opening) names seen seen' held tally line answer first answers legal stands = λ lanes.
      let was = stands (lanes-front seen (answers.quiet ++ answers.did) (subst (λ (es : List (Entry Job Said)). AreLanes es) answers.parts lanes)) in
      admitted opening names seen seen' held tally line answer first was answers legal
    where
      admitted : (opening : Opening) (names : List (List ℕ)) (seen seen' : List (Entry Job Said)) (held : Option (List ℕ)) (tally : Tally) (line : Reads Saying) (answer : Answer) (first : List (Reads Saying))
          → StandsAt rules speech opening first [] names seen held held tally → Answers rules speech opening line answer seen seen' → IsLegal rules opening seen'
          → StandsAt rules speech opening (first ++ line ∷ []) [] names seen' held held tally
      admitted opening names seen seen' held tally line answer first was answers legal =
          let none : was.marks ≡ [] = none_of was.marks (marks_aligned opening first [] was.marks seen was.taken) in
          let story : IsStory rules speech opening [] first was.taken.first_marks seen =
          subst (λ (ms : List (List Mark)). IsStory rules speech opening [] first ms seen) (ap (λ (ms : List (List Mark)). was.taken.first_marks ++ ms) none ∙ append-nil was.taken.first_marks)
          (subst (λ (ls : List (Reads Saying)). IsStory rules speech opening [] ls (was.taken.first_marks ++ was.marks) seen) (append-nil first) was.taken.story) in
          record {
            marks = [];
            taken = record {
              first_marks = was.taken.first_marks ++ marks_of answer ∷ [];
              aligned = length-append was.taken.first_marks (marks_of answer ∷ []) ∙ (ap (λ (n : ℕ). n + 1) was.taken.aligned ∙ sym (length-append first (line ∷ [])));
              story =
                  subst (λ (ms : List (List Mark)). IsStory rules speech opening [] ((first ++ line ∷ []) ++ []) ms seen') (sym (append-nil (was.taken.first_marks ++ marks_of answer ∷ [])))
                  (subst (λ (ls : List (Reads Saying)). IsStory rules speech opening [] ls (was.taken.first_marks ++ marks_of answer ∷ []) seen') (sym (append-nil (first ++ line ∷ [])))
                  (story_more opening first was.taken.first_marks seen seen' line answer story answers));
              legal = legal;
            };
            counts = tt;
            reported = AppendsPiece-none held;
            tallied = record { lines = was.tallied.lines; accepted = was.tallied.accepted; refused = was.tallied.refused };
          }
        where
          none_of : {A : Type 0} (xs : List A) → length xs ≡ 0 → xs ≡ []
          none_of [] is = refl
          none_of (x ∷ xs) is = absurd cc
