-- What the report says of one line more, and how many were accepted and refused.
use Rattle.std.proofs.Common.{◌≡◌, ℕ, ◌+◌, List, [], ◌∷◌, ◌++◌, length, Option, Some, None, Ok, Err, refl, sym, ◌∙◌, ap, append_assoc, arith}
use Rattle.std.proofs.lemmas.List.{append-nil}
use Rattle.ug_types.specs.declared.mark.Mark.{Mark}
use Rattle.ug_events.specs.Events.{Happening, Saying, SaysNothing, SaysSync, Says}
use Rattle.ug_events.specs.Reads.{Reads}
use Rattle.ug_world.specs.World.{World}
use Rattle.ug_world.specs.Verdicts.{verdict}
use Rattle.ug_world.specs.Worlds.{judged, outcome, world_after, last_world}
use Rattle.ug_report.specs.Report.{Answer, Passed, Refused, Took, Synced, answer_by, answer_to, answer_texts, line_texts, one_if_accepted, one_if_refused, accepted_count, refused_count}
use Rattle.ug_event_loop.specs.declared.came.Came.{Came}
use Rattle.ug_event_loop.specs.declared.came.Came.TheVariants as cames
use Rattle.ug_event_loop.specs.Turns.{answer_of, is_taken, is_refused}

pub texts-more : (names : List (List ℕ)) (n : ℕ) (w : World) (lines : List (Reads Saying)) (marks : List (List Mark)) (line : Reads Saying) (ms : List Mark)
    → length marks ≡ length lines
    → line_texts names n w (lines ++ line ∷ []) (marks ++ ms ∷ []) ≡ line_texts names n w lines marks ++ answer_texts names (n + length lines) (answer_to (last_world w lines) line ms)
texts-more names n w [] [] line ms same =
    let here : n ≡ n + 0 = omega arith in
    append-nil (answer_texts names n (answer_to w line ms)) ∙ ap (λ m. answer_texts names m (answer_to w line ms)) here
texts-more names n w [] (m ∷ marks) line ms same = absurd cc
texts-more names n w (l ∷ lines) [] line ms same = absurd cc
texts-more names n w (l ∷ lines) (m ∷ marks) line ms same =
    let next = world_after w (outcome w l) in
    let here : n + 1 + length lines ≡ n + length (l ∷ lines) = omega arith in
    ap (λ (ts : List (List ℕ)). answer_texts names n (answer_to w l m) ++ ts) (texts-more names (n + 1) next lines marks line ms (omega arith))
    ∙ (sym (append_assoc (answer_texts names n (answer_to w l m)) (line_texts names (n + 1) next lines marks) (answer_texts names (n + 1 + length lines) (answer_to (last_world next lines) line ms)))
    ∙ ap (λ k. line_texts names n w (l ∷ lines) (m ∷ marks) ++ answer_texts names k (answer_to (last_world next lines) line ms)) here)

pub accepted-more : (w : World) (lines : List (Reads Saying)) (line : Reads Saying)
    → accepted_count w (lines ++ line ∷ []) ≡ accepted_count w lines + one_if_accepted (outcome (last_world w lines) line)
accepted-more w [] line = omega arith
accepted-more w (l ∷ lines) line = let rest = accepted-more (world_after w (outcome w l)) lines line in omega arith

pub refused-more : (w : World) (lines : List (Reads Saying)) (line : Reads Saying)
    → refused_count w (lines ++ line ∷ []) ≡ refused_count w lines + one_if_refused (outcome (last_world w lines) line)
refused-more w [] line = omega arith
refused-more w (l ∷ lines) line = let rest = refused-more (world_after w (outcome w l)) lines line in omega arith

-- one where an event was taken, and one where a line was refused, by the answer
abbrev taken_by : Answer → ℕ
taken_by Passed = 0
taken_by (Refused refusal) = 0
taken_by (Took ms) = 1
taken_by (Synced ms) = 0

abbrev refused_by : Answer → ℕ
refused_by Passed = 0
refused_by (Refused refusal) = 1
refused_by (Took ms) = 0
refused_by (Synced ms) = 0

taken_came : {Said : Type 0} (marks : Said → List Mark) (came : Came Said) → taken_by (answer_of marks came) ≡ is_taken came
taken_came marks cames.Passed = refl
taken_came marks (cames.Refused number inner) = refl
taken_came marks (cames.Took said) = refl
taken_came marks (cames.Synced said) = refl

refused_came : {Said : Type 0} (marks : Said → List Mark) (came : Came Said) → refused_by (answer_of marks came) ≡ is_refused came
refused_came marks cames.Passed = refl
refused_came marks (cames.Refused number inner) = refl
refused_came marks (cames.Took said) = refl
refused_came marks (cames.Synced said) = refl

taken_event : (w : World) (e : Happening) (ms : List Mark) (v : Option ℕ) → taken_by (answer_by v ms) ≡ one_if_accepted (judged w e v)
taken_event w e ms None = refl
taken_event w e ms (Some number) = refl

refused_event : (w : World) (e : Happening) (ms : List Mark) (v : Option ℕ) → refused_by (answer_by v ms) ≡ one_if_refused (judged w e v)
refused_event w e ms None = refl
refused_event w e ms (Some number) = refl

taken_line : (w : World) (line : Reads Saying) (ms : List Mark) → taken_by (answer_to w line ms) ≡ one_if_accepted (outcome w line)
taken_line w (Ok SaysNothing) ms = refl
taken_line w (Ok SaysSync) ms = refl
taken_line w (Ok (Says e)) ms = taken_event w e ms (verdict w e)
taken_line w (Err refusal) ms = refl

refused_line : (w : World) (line : Reads Saying) (ms : List Mark) → refused_by (answer_to w line ms) ≡ one_if_refused (outcome w line)
refused_line w (Ok SaysNothing) ms = refl
refused_line w (Ok SaysSync) ms = refl
refused_line w (Ok (Says e)) ms = refused_event w e ms (verdict w e)
refused_line w (Err refusal) ms = refl

-- an event was taken just where the line is accepted, and refused where it is refused
pub taken-is : {Said : Type 0} (marks : Said → List Mark) (came : Came Said) (w : World) (line : Reads Saying) (ms : List Mark)
    → answer_to w line ms ≡ answer_of marks came → one_if_accepted (outcome w line) ≡ is_taken came
taken-is marks came w line ms is = sym (taken_line w line ms) ∙ (ap taken_by is ∙ taken_came marks came)

pub refused-is : {Said : Type 0} (marks : Said → List Mark) (came : Came Said) (w : World) (line : Reads Saying) (ms : List Mark)
    → answer_to w line ms ≡ answer_of marks came → one_if_refused (outcome w line) ≡ is_refused came
refused-is marks came w line ms is = sym (refused_line w line ms) ∙ (ap refused_by is ∙ refused_came marks came)
