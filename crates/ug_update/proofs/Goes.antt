-- An answer of a reader, as one of the whole stream.
use Rattle.std.proofs.Common.{◌≡◌, ℕ, ◌+◌, List, [], ◌∷◌, ◌++◌, take, drop, Result, Ok, Err, refl, sym, ap, subst, ◌∙◌, arith, append_assoc, length-append}
use Rattle.std.specs.Prelude.{IfOk, OnOk}
use Rattle.std.proofs.lemmas.List.{take-append-drop, append-nil, length-take-le}
use Rattle.ug_types.specs.declared.memory.NoMemory.{NoMemory}
use Rattle.ug_types.specs.declared.message.Next.{Next}
use Rattle.ug_types.specs.declared.message.Next.TheVariants as nexts
use Rattle.ug_types.specs.Messages.{Message, message_of}
use Rattle.ug_message.specs.Reading.{message_size}
use Rattle.ug_message.specs.Received.{Front, Says, Faulty, Awaited}
use Rattle.ug_update.specs.Readers.{ReaderState, front, answer_of, answer_at, behind_message, state_after, given_by, HasRead, IsRight}
use Rattle.ug_message.proofs.Fronts.{says_first, awaited_unfinished, spelled_more}

none_given : (r : ReaderState) (stream : List ℕ) (given : List Message) → HasRead r stream given → HasRead r stream (given ++ [])
none_given r stream given has = subst (λ (g : List Message). HasRead r stream g) (sym (append-nil given)) has

pub one_given : (r : ReaderState) (m : Message) (stream : List ℕ) (given : List Message) → front r ≡ Says m → HasRead r stream given → HasRead (behind_message r) stream (given ++ m ∷ [])
one_given r m stream given is has =
    let first = says_first r.session r.left m is in
    let size = message_size r.left in
    let text = take size r.left in
    record {
      whole = has.whole ++ text;
      are_spelled = spelled_more r.session given has.whole m text has.are_spelled first.spells;
      parts = has.parts ∙ ap (λ (l : List ℕ). has.whole ++ l) (sym (take-append-drop size r.left)) ∙ sym (append_assoc has.whole text (drop size r.left));
      taken = omega (arith, has.taken, length-append has.whole text, length-take-le size r.left first.there);
    }

goes_by : (r : ReaderState) (next : Next) (f : Front) → front r ≡ f → answer_of next ≡ answer_at r.taken f → (stream : List ℕ) (given : List Message) → HasRead r stream given
    → HasRead (state_after r f) stream (given ++ given_by next)
goes_by r (nexts.Message item) (Says m) is answer stream given has =
    let same : m ≡ message_of item = cc in
    subst (λ (n : Message). HasRead (behind_message r) stream (given ++ n ∷ [])) same (one_given r m stream given is has)
goes_by r (nexts.Message item) (Faulty f) is answer stream given has = absurd cc
goes_by r (nexts.Message item) Awaited is answer stream given has = absurd cc
goes_by r nexts.NeedMore (Says m) is answer stream given has = absurd cc
goes_by r nexts.NeedMore (Faulty f) is answer stream given has = absurd cc
goes_by r nexts.NeedMore Awaited is answer stream given has = none_given r stream given has
goes_by r (nexts.Bad cause offset) (Says m) is answer stream given has = absurd cc
goes_by r (nexts.Bad cause offset) (Faulty f) is answer stream given has =
    let n = none_given r stream given has in
    record { whole = n.whole; are_spelled = n.are_spelled; parts = n.parts; taken = n.taken }
goes_by r (nexts.Bad cause offset) Awaited is answer stream given has = absurd cc

right_by : (r : ReaderState) (next : Next) (f : Front) → front r ≡ f → answer_of next ≡ answer_at r.taken f → (stream : List ℕ) (given : List Message) → HasRead r stream given
    → IsRight (state_after r f) stream given next
right_by r (nexts.Message item) f is answer stream given has = tt
right_by r nexts.NeedMore (Says m) is answer stream given has = absurd cc
right_by r nexts.NeedMore (Faulty f) is answer stream given has = absurd cc
right_by r nexts.NeedMore Awaited is answer stream given has =
    record { whole = has.whole; are_spelled = has.are_spelled; parts = has.parts; is_unfinished = awaited_unfinished r.session r.left is }
right_by r (nexts.Bad cause offset) (Says m) is answer stream given has = absurd cc
right_by r (nexts.Bad cause offset) (Faulty f) is answer stream given has =
    let cause_is : cause ≡ f.number = cc in
    let offset_is : offset ≡ r.taken + f.place = cc in
    record { whole = has.whole; rest = r.left; are_spelled = has.are_spelled; parts = has.parts; first = f; is_first = is; cause_is = cause_is; offset_is = omega (arith, has.taken) }
right_by r (nexts.Bad cause offset) Awaited is answer stream given has = absurd cc

pub goes_on : (r new : ReaderState) (result : Result Next NoMemory) → IfOk result (λ next. answer_of next ≡ answer_at r.taken (front r)) → OnOk result (new ≡ state_after r (front r))
    → IfOk result (λ next. (stream : List ℕ) → (given : List Message) → HasRead r stream given → HasRead new stream (given ++ given_by next))
goes_on r new (Ok next) answer state = λ stream given has.
    subst (λ (n : ReaderState). HasRead n stream (given ++ given_by next)) (sym state) (goes_by r next (front r) refl answer stream given has)
goes_on r new (Err e) answer state = tt

pub is_right : (r new : ReaderState) (result : Result Next NoMemory) → IfOk result (λ next. answer_of next ≡ answer_at r.taken (front r)) → OnOk result (new ≡ state_after r (front r))
    → IfOk result (λ next. (stream : List ℕ) → (given : List Message) → HasRead r stream given → IsRight new stream given next)
is_right r new (Ok next) answer state = λ stream given has.
    subst (λ (n : ReaderState). IsRight n stream given next) (sym state) (right_by r next (front r) refl answer stream given has)
is_right r new (Err e) answer state = tt
