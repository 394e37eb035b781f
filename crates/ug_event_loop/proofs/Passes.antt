-- What a turn comes to for the pass that took it.
use Rattle.std.proofs.Common.{◌≡◌, Bool, true, false, List, Option, Some, None, Result, Ok, Err, sym, ◌∙◌, ap, subst}
use Rattle.std.specs.Prelude.{IfOk, IfSome, IfNone, OnOk, OnErr}
use Rattle.ug_board.specs.Entry.{Entry}
use Rattle.ug_board.specs.Rules.{Rules}
use Rattle.ug_board.specs.History.{BoardState, IsLegal, replay, state_of}
use Rattle.ug_turnstile.specs.Passes.{Held, Agrees, owned_by}
use Rattle.ug_events.specs.Events.{Saying}
use Rattle.ug_events.specs.Reads.{Reads}
use Rattle.ug_speaker.specs.Speech.{Speech}
use Rattle.ug_report.specs.Report.{Answer}
use Rattle.ug_event_loop.specs.Turns.{GoesOn, WindsUp, Answers, AnswersAt, IsLegalAt, IsSettled, IsSettledAt, IsEndedAt, IsClosedAt}
use Rattle.ug_event_loop.proofs.Turning.{goes_further, goes_by_others, winds_behind, answers_later}

pub if-ok : {A E : Type 0} (P Q : A → Type 0) (r : Result A E) → ((x : A) → P x → Q x) → IfOk r P → IfOk r Q
if-ok P Q (Ok x) f h = f x h
if-ok P Q (Err e) f h = tt

pub if-some : {A : Type 0} (P Q : A → Type 0) (r : Option A) → ((x : A) → P x → Q x) → IfSome r P → IfSome r Q
if-some P Q (Some x) f h = f x h
if-some P Q None f h = tt

pub if-none : {A : Type 0} (P Q : Type 0) (r : Option A) → (P → Q) → IfNone r P → IfNone r Q
if-none P Q (Some x) f h = tt
if-none P Q None f h = f h

pub on-ok : {A E : Type 0} (P Q : Type 0) (r : Result A E) → (P → Q) → OnOk r P → OnOk r Q
on-ok P Q (Ok x) f h = f h
on-ok P Q (Err e) f h = tt

pub on-err : {A E : Type 0} (P Q : Type 0) (r : Result A E) → (P → Q) → OnErr r P → OnErr r Q
on-err P Q (Ok x) f h = tt
on-err P Q (Err e) f h = f h

module _ {Opening State Job Said : Type 0} (rules : Rules Opening State Job Said) (speech : Speech Opening State Job Said) where
  -- the turn: the pass before it, the board as it was taken, as it was lent and as it was given, and the root and the entries of the pass after it
  module _ (pass : Held (Entry Job Said) Opening) (took lent gave : BoardState Opening Job Said) (root : Option Opening) (seen : List (Entry Job Said))
      (number : pass.number ≡ 0) (agrees : Agrees (λ (entry : Entry Job Said). entry.pass) took.opening took.history pass) (same : lent ≡ took)
      (opening : gave.opening ≡ lent.opening) (rooted : root ≡ pass.root) (seen_is : seen ≡ gave.history) where
    others : GoesOn rules speech pass.seen took.history
    others =
        goes_by_others rules speech pass.seen took.history agrees.1
        (subst (λ n. owned_by (λ (entry : Entry Job Said). entry.pass) n took.history ≡ owned_by (λ (entry : Entry Job Said). entry.pass) n pass.seen) number agrees.2)

    root_is : root ≡ Some gave.opening
    root_is = rooted ∙ (agrees.0 ∙ ap Some (sym (opening ∙ ap (λ (b : BoardState Opening Job Said). b.opening) same)))

    pub goes-over : GoesOn rules speech lent.history gave.history → GoesOn rules speech pass.seen seen
    goes-over goes =
        subst (λ (es : List (Entry Job Said)). GoesOn rules speech pass.seen es) (sym seen_is)
        (goes_further rules speech pass.seen took.history gave.history others
        (subst (λ (b : BoardState Opening Job Said). GoesOn rules speech b.history gave.history) same goes))

    pub winds-over : WindsUp rules speech lent.history gave.history → WindsUp rules speech pass.seen seen
    winds-over winds =
        subst (λ (es : List (Entry Job Said)). WindsUp rules speech pass.seen es) (sym seen_is)
        (winds_behind rules speech pass.seen took.history gave.history others
        (subst (λ (b : BoardState Opening Job Said). WindsUp rules speech b.history gave.history) same winds))

    pub answers-over : (line : Reads Saying) (answer : Answer) → Answers rules speech lent.opening line answer lent.history gave.history → AnswersAt rules speech root line answer pass.seen seen
    answers-over line answer answers =
        subst (λ (r : Option Opening). AnswersAt rules speech r line answer pass.seen seen) (sym root_is)
        (subst (λ (es : List (Entry Job Said)). Answers rules speech gave.opening line answer pass.seen es) (sym seen_is)
        (answers_later rules speech gave.opening line answer pass.seen took.history gave.history others
        (subst (λ (b : BoardState Opening Job Said). Answers rules speech gave.opening line answer b.history gave.history) same
        (subst (λ (o : Opening). Answers rules speech o line answer lent.history gave.history) (sym opening) answers))))

    pub legal-over : IsLegal rules gave.opening gave.history → IsLegalAt rules speech root seen
    legal-over legal =
        subst (λ (r : Option Opening). IsLegalAt rules speech r seen) (sym root_is)
        (subst (λ (es : List (Entry Job Said)). IsLegal rules gave.opening es) (sym seen_is) legal)

    pub settled-over : IsSettled rules speech (state_of rules gave) → IsSettledAt rules speech root seen
    settled-over settled =
        subst (λ (r : Option Opening). IsSettledAt rules speech r seen) (sym root_is)
        (subst (λ (es : List (Entry Job Said)). IsSettled rules speech (replay rules gave.opening es)) (sym seen_is) settled)

    pub ended-over : speech.drained (state_of rules gave) ≡ true → speech.closed (state_of rules gave) ≡ true → IsEndedAt rules speech root seen
    ended-over drained closed =
        subst (λ (r : Option Opening). IsEndedAt rules speech r seen) (sym root_is) (
          subst (λ (es : List (Entry Job Said)). speech.drained (replay rules gave.opening es) ≡ true) (sym seen_is) drained,
          subst (λ (es : List (Entry Job Said)). speech.closed (replay rules gave.opening es) ≡ true) (sym seen_is) closed,
        )

    pub closed-over : (spent : Bool) → spent ≡ gave.spent → (gave.spent ≡ false → speech.closed (state_of rules gave) ≡ true) → IsClosedAt rules speech spent root seen
    closed-over spent is closed =
        subst (λ (r : Option Opening). IsClosedAt rules speech spent r seen) (sym root_is)
        (λ unspent. subst (λ (es : List (Entry Job Said)). speech.closed (replay rules gave.opening es) ≡ true) (sym seen_is) (closed (sym is ∙ unspent)))

  -- work that is ended is closed
  pub ended-closed : (spent : Bool) (root : Option Opening) (seen : List (Entry Job Said)) → IsEndedAt rules speech root seen → IsClosedAt rules speech spent root seen
  ended-closed spent None seen ended = tt
  ended-closed spent (Some root) seen ended = λ unspent. ended.1
