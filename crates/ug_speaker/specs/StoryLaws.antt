-- A story that goes on: by work between lines, and by a line.
use Rattle.std.specs.Prelude.{List, [], ◌∷◌, ◌++◌}
use Rattle.std.proofs.Common.{◌≡◌, sym, ◌∙◌, ap, subst, append_assoc}
use Rattle.std.proofs.lemmas.List.{append-nil}
use Rattle.ug_types.specs.declared.mark.Mark.{Mark}
use Rattle.ug_board.specs.Entry.{Entry}
use Rattle.ug_board.specs.Rules.{Rules}
use Rattle.ug_board.specs.Deeds.{Each}
use Rattle.ug_events.specs.Events.{Saying}
use Rattle.ug_events.specs.Reads.{Reads}
use Rattle.ug_speaker.specs.Speech.{Speech}
use Rattle.ug_speaker.specs.Story.{IsBetween, Does, IsStory}

pub each-append : {A : Type 0} (P : A → Type 0) (xs ys : List A) → Each P xs → Each P ys → Each P (xs ++ ys)
each-append P [] ys h k = k
each-append P (x ∷ xs) ys h k = (h.0, each-append P xs ys h.1 k)

parts_more : {A : Type 0} (entries quiet did later more : List A) → entries ≡ quiet ++ (did ++ later) → entries ++ more ≡ quiet ++ (did ++ (later ++ more))
parts_more {A} entries quiet did later more parts =
    ap (λ (es : List A). es ++ more) parts ∙ (append_assoc quiet (did ++ later) more ∙ ap (λ (es : List A). quiet ++ es) (append_assoc did later more))

parts_front : {A : Type 0} (before entries quiet did later more : List A) → entries ≡ quiet ++ (did ++ later) → before ++ (entries ++ more) ≡ (before ++ (quiet ++ did)) ++ (later ++ more)
parts_front {A} before entries quiet did later more parts =
    ap (λ (es : List A). before ++ es) (parts_more entries quiet did later more parts)
    ∙ (ap (λ (es : List A). before ++ es) (sym (append_assoc quiet did (later ++ more)))
    ∙ sym (append_assoc before (quiet ++ did) (later ++ more)))

parts_last : {A : Type 0} (entries quiet did : List A) → entries ++ (quiet ++ did) ≡ (entries ++ quiet) ++ (did ++ [])
parts_last {A} entries quiet did = sym (append_assoc entries quiet did) ∙ ap (λ (es : List A). (entries ++ quiet) ++ es) (sym (append-nil did))

module _ {Opening State Job Said : Type 0} (rules : Rules Opening State Job Said) (speech : Speech Opening State Job Said) where
  -- A story goes on by work between lines.
  pub story-between :
      (opening : Opening) (before : List (Entry Job Said)) (lines : List (Reads Saying)) (marks : List (List Mark)) (entries more : List (Entry Job Said))
      → IsStory rules speech opening before lines marks entries → Each (IsBetween rules speech) more
      → IsStory rules speech opening before lines marks (entries ++ more)
  story-between opening before [] [] entries more story quiet = each-append (IsBetween rules speech) entries more story quiet
  story-between opening before [] (ms ∷ marks) entries more story quiet = absurd story
  story-between opening before (line ∷ lines) [] entries more story quiet = absurd story
  story-between opening before (line ∷ lines) (ms ∷ marks) entries more (first, did, later, parts, is_quiet, does, rest) quiet = (
    first,
    did,
    later ++ more,
    parts_more entries first did later more parts,
    is_quiet,
    does,
    story-between opening (before ++ (first ++ did)) lines marks later more rest quiet,
  )

  -- A story goes on by a line, before which work was done.
  pub story-line-from :
      (opening : Opening) (before : List (Entry Job Said)) (lines : List (Reads Saying)) (marks : List (List Mark)) (entries quiet did : List (Entry Job Said)) (line : Reads Saying) (ms : List Mark)
      → IsStory rules speech opening before lines marks entries → Each (IsBetween rules speech) quiet
      → Does rules speech line opening (before ++ (entries ++ quiet)) ms did
      → IsStory rules speech opening before (lines ++ line ∷ []) (marks ++ ms ∷ []) (entries ++ (quiet ++ did))
  story-line-from opening before [] [] entries quiet did line ms story is_quiet does =
      (entries ++ quiet, did, [], parts_last entries quiet did, each-append (IsBetween rules speech) entries quiet story is_quiet, does, tt)
  story-line-from opening before [] (ms' ∷ marks) entries quiet did line ms story is_quiet does = absurd story
  story-line-from opening before (line' ∷ lines) [] entries quiet did line ms story is_quiet does = absurd story
  story-line-from opening before (line' ∷ lines) (ms' ∷ marks) entries quiet did line ms (first, did', later, parts, quiet', does', rest) is_quiet does = (
    first,
    did',
    later ++ (quiet ++ did),
    parts_more entries first did' later (quiet ++ did) parts,
    quiet',
    does',
    story-line-from opening (before ++ (first ++ did')) lines marks later quiet did line ms rest is_quiet
        (subst (λ (h : List (Entry Job Said)). Does rules speech line opening h ms did) (parts_front before entries first did' later quiet parts) does),
  )

  -- The same of a story from the first entry on.
  pub story-line :
      (opening : Opening) (lines : List (Reads Saying)) (marks : List (List Mark)) (entries quiet did : List (Entry Job Said)) (line : Reads Saying) (ms : List Mark)
      → IsStory rules speech opening [] lines marks entries → Each (IsBetween rules speech) quiet
      → Does rules speech line opening (entries ++ quiet) ms did
      → IsStory rules speech opening [] (lines ++ line ∷ []) (marks ++ ms ∷ []) (entries ++ (quiet ++ did))
  story-line opening lines marks entries quiet did line ms story is_quiet does = story-line-from opening [] lines marks entries quiet did line ms story is_quiet does
