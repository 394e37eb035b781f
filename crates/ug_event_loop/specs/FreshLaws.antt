-- A builder that has taken no lines stands behind none.
use Rattle.std.proofs.Common.{◌≡◌, ℕ, List, [], Option, Some, refl, sym, subst}
use Rattle.ug_board.specs.Entry.{Entry}
use Rattle.ug_board.specs.Rules.{Rules}
use Rattle.ug_pieces.specs.AppendingLaws.{AppendsPiece-none}
use Rattle.ug_speaker.specs.Speech.{Speech}
use Rattle.ug_event_loop.specs.declared.tally.Tally.{Tally}
use Rattle.ug_event_loop.specs.Standing.{StandsAt, Stands, BuilderView, BuilderStands}

module _ {Opening State Job Said : Type 0} (rules : Rules Opening State Job Said) (speech : Speech Opening State Job Said) where
  nothing_taken : (opening : Opening) (names : List (List ℕ)) (held : Option (List ℕ)) → StandsAt rules speech opening [] [] names [] held held (record { lines = 0; accepted = 0; refused = 0 })
  nothing_taken opening names held = record {
    marks = [];
    taken = record { first_marks = []; aligned = refl; story = tt; legal = tt };
    counts = tt;
    reported = AppendsPiece-none held;
    tallied = record { lines = refl; accepted = refl; refused = refl };
  }

  pub fresh-stands : (b : BuilderView Opening Job Said) (opening : Opening) (held : Option (List ℕ))
      → b.pass.root ≡ Some opening → b.pass.seen ≡ [] → b.tally ≡ record { lines = 0; accepted = 0; refused = 0 }
      → BuilderStands rules speech b [] [] held held
  fresh-stands b opening held root seen tally =
      subst (λ (r : Option Opening). Stands rules speech r [] [] b.names b.pass.seen held held b.tally) (sym root)
      (subst (λ (es : List (Entry Job Said)). Stands rules speech (Some opening) [] [] b.names es held held b.tally) (sym seen)
      (subst (λ (t : Tally). Stands rules speech (Some opening) [] [] b.names [] held held t) (sym tally) (λ lanes. nothing_taken opening b.names held)))
