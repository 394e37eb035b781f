-- A reader that goes on, and bytes with a fault to which more come.
use Rattle.std.proofs.Common.{◌≡◌, ℕ, ◌<◌, Bool, true, false, List, ◌++◌, length, take, Option, Some, None, refl, sym, ap, ◌∙◌, arith, append_assoc, length-append}
use Rattle.std.specs.Prelude.{nat_lt, if◌then◌else◌}
use Rattle.std.proofs.lemmas.List.{take-append-le, length-drop, length-take-le}
use Rattle.std.proofs.lemmas.Bool.{ltb-false, le-ltb}
use Rattle.ug_types.specs.declared.capabilities.Capabilities.{Capabilities}
use Rattle.ug_types.specs.Messages.{Message}
use Rattle.ug_message.specs.Walking.{Fault}
use Rattle.ug_message.specs.Reading.{message_size, header_fault, read_body}
use Rattle.ug_message.specs.Received.{Front, Says, Faulty, Awaited, judged, behind_header, front_of, IsFaultyAt}
use Rattle.ug_message.proofs.Fronts.{says_first}
use Rattle.ug_message.proofs.Headers.{same_size, same_header}
use Rattle.ug_update.specs.Readers.{ReaderState, Gives, answer_at, front, behind_message, state_after, fed}

-- ---- a fault stays

behind_stays : (c : Capabilities) (bytes more : List ℕ) (f : Fault) → take 19 (bytes ++ more) ≡ take 19 bytes → (h : Option Fault) → behind_header c bytes h ≡ Faulty f → behind_header c (bytes ++ more) h ≡ Faulty f
behind_stays c bytes more f same (Some first) is = is
behind_stays c bytes more f same None is = by (nat_lt (length bytes) (message_size bytes)) refl is
  where
    size : message_size (bytes ++ more) ≡ message_size bytes
    size = same_size (bytes ++ more) bytes same

    by : (b : Bool) → nat_lt (length bytes) (message_size bytes) ≡ b → (if b then Awaited else judged (read_body c (take (message_size bytes) bytes))) ≡ Faulty f → behind_header c (bytes ++ more) None ≡ Faulty f
    by true short is = absurd cc
    by false short is =
        let fits = ltb-false (length bytes) (message_size bytes) short in
        let len = length-append bytes more in
        let size = same_size (bytes ++ more) bytes same in
        let long : nat_lt (length (bytes ++ more)) (message_size (bytes ++ more)) ≡ false = le-ltb (length (bytes ++ more)) (message_size (bytes ++ more)) (omega (arith, len, fits, size)) in
        ap (λ (b : Bool). if b then Awaited else judged (read_body c (take (message_size (bytes ++ more)) (bytes ++ more)))) long
        ∙ ap (λ (k : ℕ). judged (read_body c (take k (bytes ++ more)))) size
        ∙ ap (λ (bs : List ℕ). judged (read_body c bs)) (take-append-le (message_size bytes) bytes more fits)
        ∙ is

front_stays : (c : Capabilities) (bytes more : List ℕ) (f : Fault) → front_of c bytes ≡ Faulty f → front_of c (bytes ++ more) ≡ Faulty f
unfolding front_of
front_stays c bytes more f is = by (nat_lt (length bytes) 19) refl is
  where
    by : (b : Bool) → nat_lt (length bytes) 19 ≡ b → (if b then Awaited else behind_header c bytes (header_fault c bytes)) ≡ Faulty f
        → (if nat_lt (length (bytes ++ more)) 19 then Awaited else behind_header c (bytes ++ more) (header_fault c (bytes ++ more))) ≡ Faulty f
    by true short is = absurd cc
    by false short is =
        let fits = ltb-false (length bytes) 19 short in
        let len = length-append bytes more in
        let same = take-append-le 19 bytes more fits in
        ap (λ (b : Bool). if b then Awaited else behind_header c (bytes ++ more) (header_fault c (bytes ++ more))) (le-ltb (length (bytes ++ more)) 19 (omega (arith, len, fits)))
        ∙ ap (λ (h : Option Fault). behind_header c (bytes ++ more) h) (same_header c (bytes ++ more) bytes same)
        ∙ behind_stays c bytes more f same (header_fault c bytes) is

pub fault-stays : (c : Capabilities) (stream more : List ℕ) (messages : List Message) (cause offset : ℕ) → IsFaultyAt c stream messages cause offset → IsFaultyAt c (stream ++ more) messages cause offset
fault-stays c stream more messages cause offset h = record {
  whole = h.whole;
  rest = h.rest ++ more;
  are_spelled = h.are_spelled;
  parts = ap (λ (bs : List ℕ). bs ++ more) h.parts ∙ append_assoc h.whole h.rest more;
  first = h.first;
  is_first = front_stays c h.rest more h.first h.is_first;
  cause_is = h.cause_is;
  offset_is = h.offset_is;
}

-- ---- a reader

pub same_session : (r : ReaderState) (f : Front) → (state_after r f).session ≡ r.session
same_session r (Says m) = refl
same_session r (Faulty f) = refl
same_session r Awaited = refl

gives_says : (taken : ℕ) (f : Front) (m : Message) → Gives m ≡ answer_at taken f → f ≡ Says m
gives_says taken (Says n) m e = let same : m ≡ n = cc in ap (λ (x : Message). Says x) (sym same)
gives_says taken (Faulty f) m e = absurd cc
gives_says taken Awaited m e = absurd cc

-- a reader that gave a message
pub gave : (r new : ReaderState) (m : Message) → Gives m ≡ answer_at r.taken (front r) → new ≡ state_after r (front r) → new ≡ behind_message r
gave r new m answer state = state ∙ ap (state_after r) (gives_says r.taken (front r) m answer)

pub gave-less : (r new : ReaderState) (m : Message) → Gives m ≡ answer_at r.taken (front r) → new ≡ state_after r (front r) → length new.left < length r.left
gave-less r new m answer state =
    let is = gives_says r.taken (front r) m answer in
    let first = says_first r.session r.left m is in
    let len = length-take-le (message_size r.left) r.left first.there in
    let head = first.spells.whole.has_header in
    let there = first.there in
    let left = ap (λ (s : ReaderState). length s.left) (gave r new m answer state) ∙ length-drop (message_size r.left) r.left in
    omega (arith, len, head, there, left)

pub fed_open : (r new : ReaderState) (piece : List ℕ) → r.stopped ≡ false → new ≡ fed r piece → new ≡ record r { left = r.left ++ piece }
fed_open r new piece live is = is ∙ ap (λ (b : Bool). if b then r else record r { left = r.left ++ piece }) live
