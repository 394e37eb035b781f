-- The first events, of which some are taken and some are left.
use Rattle.std.proofs.Common.{◌≡◌, ℕ, List, [], ◌∷◌, ◌++◌, Option, refl, sym, ◌∙◌, ap, subst, append_assoc}
use Rattle.std.proofs.lemmas.List.{append-nil}
use Rattle.ug_board.specs.Rules.{Rules}
use Rattle.ug_events.specs.Events.{Saying}
use Rattle.ug_events.specs.Reads.{Reads}
use Rattle.ug_events.specs.declared.event.Event.{Event}
use Rattle.ug_speaker.specs.Speech.{Speech}
use Rattle.ug_event_loop.specs.Turns.{StaysOpen}
use Rattle.ug_event_loop.specs.Standing.{BuilderView, BuilderStands}
use Rattle.ug_event_loop.specs.StandingLaws.{stays_nowhere, stays_further}
use Rattle.ug_event_loop.specs.Reading.{said_of, first_of, StandsWithin}

module _ {Opening State Job Said : Type 0} (rules : Rules Opening State Job Said) (speech : Speech Opening State Job Said) where
  -- all but those that are left were taken
  pub record HasAdmitted (all left : List Event) (start b : BuilderView Opening Job Said) (held : Option (List ℕ)) : Type 0 where
    pub some : List (Reads Saying)
    pub parts : first_of all ≡ some ++ first_of left
    pub stands : BuilderStands rules speech b some [] held held
    pub stays : StaysOpen rules speech start.pass.seen b.pass.seen

  pub admitted-none : (all : List Event) (b : BuilderView Opening Job Said) (held : Option (List ℕ)) → BuilderStands rules speech b [] [] held held → HasAdmitted all all b b held
  admitted-none all b held stands = record { some = []; parts = refl; stands = stands; stays = stays_nowhere rules speech b.pass.seen }

  pub admitted-more : (all left : List Event) (e : Event) (start old new : BuilderView Opening Job Said) (held : Option (List ℕ))
      → ((first : List (Reads Saying)) (held : Option (List ℕ)) → BuilderStands rules speech old first [] held held
      → BuilderStands rules speech new (first ++ said_of e ∷ []) [] held held × StaysOpen rules speech old.pass.seen new.pass.seen)
      → HasAdmitted all (e ∷ left) start old held → HasAdmitted all left start new held
  admitted-more all left e start old new held takes was = let took = takes was.some held was.stands in record {
    some = was.some ++ said_of e ∷ [];
    parts = was.parts ∙ sym (append_assoc was.some (said_of e ∷ []) (first_of left));
    stands = took.0;
    stays = stays_further rules speech start.pass.seen old.pass.seen new.pass.seen was.stays took.1;
  }

  pub admitted-all : (all : List Event) (start b : BuilderView Opening Job Said) (held : Option (List ℕ)) → HasAdmitted all [] start b held
      → BuilderStands rules speech b (first_of all) [] held held × StaysOpen rules speech start.pass.seen b.pass.seen
  admitted-all all start b held was = (subst (λ (first : List (Reads Saying)). BuilderStands rules speech b first [] held held) (sym (was.parts ∙ append-nil was.some)) was.stands, was.stays)

  pub admitted-some : (all left : List Event) (e : Event) (start old new : BuilderView Opening Job Said) (held : Option (List ℕ))
      → ((first : List (Reads Saying)) (held : Option (List ℕ)) → BuilderStands rules speech old first [] held held
      → StandsWithin rules speech (first ++ said_of e ∷ []) new held held × StaysOpen rules speech old.pass.seen new.pass.seen)
      → HasAdmitted all (e ∷ left) start old held → StandsWithin rules speech (first_of all) new held held × StaysOpen rules speech start.pass.seen new.pass.seen
  admitted-some all left e start old new held within was = let so = within was.some held was.stands in let some = so.0 in (
    record {
      some = some.some;
      more = some.more ++ first_of left;
      parts = was.parts ∙ sym (append_assoc was.some (said_of e ∷ []) (first_of left)) ∙ ap (λ (xs : List (Reads Saying)). xs ++ first_of left) some.parts ∙ append_assoc some.some some.more (first_of left);
      stands = some.stands;
    },
    stays_further rules speech start.pass.seen old.pass.seen new.pass.seen was.stays so.1,
  )

  -- the event was not taken, or it was and memory ran out behind it
  pub within-before : (e : Event) (first : List (Reads Saying)) (new : BuilderView Opening Job Said) (held : Option (List ℕ))
      → BuilderStands rules speech new first [] held held → StandsWithin rules speech (first ++ said_of e ∷ []) new held held
  within-before e first new held stands = record { some = first; more = said_of e ∷ []; parts = refl; stands = stands }

  pub within-behind : (all : List (Reads Saying)) (new : BuilderView Opening Job Said) (held : Option (List ℕ))
      → BuilderStands rules speech new all [] held held → StandsWithin rules speech all new held held
  within-behind all new held stands = record { some = all; more = []; parts = sym (append-nil all); stands = stands }
