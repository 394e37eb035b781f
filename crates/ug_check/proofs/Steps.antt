-- How a checker goes on by one message.
use Rattle.std.proofs.Common.{◌≡◌, ℕ, ◌+◌, ◌≤◌, Bool, false, List, [], ◌∷◌, ◌++◌, length, take, drop, Option, Some, None, refl, sym, ap, subst, ◌∙◌, arith, append_assoc, length-append}
use Rattle.std.specs.Prelude.{IfNone, IfSome, is_some, not, ◌&&◌, ◌||◌, if◌then◌else◌}
use Rattle.std.specs.List.{concat}
use Rattle.std.proofs.lemmas.List.{append-nil, take-append-drop, length-take-le}
use Rattle.std.proofs.lemmas.List.Folds.{concat-append}
use Rattle.ug_types.specs.declared.key.Key.{Key}
use Rattle.ug_types.specs.Messages.{Message, Updates, Begins, Ends, Ignored}
use Rattle.ug_message.specs.Tables.{Reading, applied, reading_from, nothing_read, among}
use Rattle.ug_types.specs.declared.capabilities.Capabilities.{Capabilities}
use Rattle.ug_types.specs.declared.family.Family.{Family}
use Rattle.ug_message.specs.Reading.{message_size, Spells, ends_rib}
use Rattle.ug_message.specs.Received.{Front, Says, Faulty, Awaited}
use Rattle.ug_update.specs.Readers.{ReaderState, Gives, answer_at, front, behind_message, fed}
use Rattle.ug_message.proofs.Fronts.{says_first}
use Rattle.ug_update.proofs.Goes.{one_given}
use Rattle.ug_check.specs.Rows.{Rows, reading_of}
use Rattle.ug_check.specs.Decoded.{EachSpells, end_of_rib_texts}
use Rattle.ug_check.specs.Checkers.{HasChecked}

-- ---- answers

pub gives_says : (taken : ℕ) (f : Front) (m : Message) → Gives m ≡ answer_at taken f → f ≡ Says m
gives_says taken (Says n) m e = let same : m ≡ n = cc in ap (λ (x : Message). Says x) (sym same)
gives_says taken (Faulty f) m e = absurd cc
gives_says taken Awaited m e = absurd cc

-- ---- readings

-- what a message does to readings that are alike at each key
table_alike : (r s : Reading) (m : Message) (key : Key) → r.table key ≡ s.table key → r.stale key ≡ s.stale key → (applied r m).table key ≡ (applied s m).table key
table_alike r s (Updates u) key t st = ap (λ v. if among u.announced key then u.attrs else (if among u.withdrawn key then None else v)) t
table_alike r s Begins key t st = t
table_alike r s Ends key t st = ap (λ b. if b then None else r.table key) st ∙ ap (λ v. if s.stale key then None else v) t
table_alike r s Ignored key t st = t

stale_alike : (r s : Reading) (m : Message) (key : Key) → r.table key ≡ s.table key → r.stale key ≡ s.stale key → (applied r m).stale key ≡ (applied s m).stale key
stale_alike r s (Updates u) key t st = ap (λ b. b && not (among u.announced key || among u.withdrawn key)) st
stale_alike r s Begins key t st = ap is_some t
stale_alike r s Ends key t st = refl
stale_alike r s Ignored key t st = st

reading_push : (r : Reading) (ms : List Message) (m : Message) → reading_from r (ms ++ m ∷ []) ≡ applied (reading_from r ms) m
reading_push r [] m = refl
reading_push r (n ∷ ms) m = reading_push (applied r n) ms m

-- ---- texts

spells_push : (c : Capabilities) (texts : List (List ℕ)) (ms : List Message) (text : List ℕ) (m : Message) → EachSpells c texts ms → Spells c text m → EachSpells c (texts ++ text ∷ []) (ms ++ m ∷ [])
spells_push c [] [] text m h k = (k, tt)
spells_push c [] (n ∷ ms) text m h k = absurd h
spells_push c (t ∷ texts) [] text m h k = absurd h
spells_push c (t ∷ texts) (n ∷ ms) text m h k = (h.0, spells_push c texts ms text m h.1 k)

sum_none : (n : ℕ) → n + 0 ≡ 0 + n
sum_none n = omega arith

sum_more : (n all before last : ℕ) → all ≡ before + last → n + all ≡ n + before + last
sum_more n all before last e = omega (arith, e)

sum_one : (n k l : ℕ) → n ≡ k → l ≡ k + 1 → n + 1 ≡ l
sum_one n k l e f = omega (arith, e, f)

ends_push : (family : Family) (texts : List (List ℕ)) (text : List ℕ) → end_of_rib_texts family (texts ++ text ∷ []) ≡ end_of_rib_texts family texts + (if ends_rib family text then 1 else 0)
ends_push family [] text = sum_none (if ends_rib family text then 1 else 0)
ends_push family (t ∷ texts) text =
    sum_more (if ends_rib family t then 1 else 0) (end_of_rib_texts family (texts ++ text ∷ [])) (end_of_rib_texts family texts) (if ends_rib family text then 1 else 0) (ends_push family texts text)

concat_push : (texts : List (List ℕ)) (text : List ℕ) → concat (texts ++ text ∷ []) ≡ concat texts ++ text
concat_push texts text = concat-append texts (text ∷ []) ∙ ap (λ (t : List ℕ). concat texts ++ t) (append-nil text)

-- ---- the step

pub HasChecked-more : (r : ReaderState) (old new : Rows) (messages eors more : ℕ) (m : Message) (stream : List ℕ)
    → front r ≡ Says m
    → ((key : Key) → (reading_of new).table key ≡ (applied (reading_of old) m).table key) → ((key : Key) → (reading_of new).stale key ≡ (applied (reading_of old) m).stale key)
    → more ≡ eors + (if (behind_message r).ended then 1 else 0)
    → HasChecked r old messages eors stream → HasChecked (behind_message r) new (messages + 1) more stream
HasChecked-more r old new messages eors more m stream is table stale counted h =
    let first = says_first r.session r.left m is in
    let text = take (message_size r.left) r.left in
    let seen = reading_push nothing_read h.given m in
    record {
      given = h.given ++ m ∷ [];
      texts = h.texts ++ text ∷ [];
      read = one_given r m stream h.given is h.read;
      spelled = spells_push r.session h.texts h.given text m h.spelled first.spells;
      parts = h.parts ∙ ap (λ (l : List ℕ). concat h.texts ++ l) (sym (take-append-drop (message_size r.left) r.left)) ∙ sym (append_assoc (concat h.texts) text (drop (message_size r.left) r.left))
          ∙ ap (λ (t : List ℕ). t ++ drop (message_size r.left) r.left) (sym (concat_push h.texts text));
      rows = λ key. table key ∙ table_alike (reading_of old) (reading_from nothing_read h.given) m key (h.rows key) (h.stale key) ∙ ap (λ (s : Reading). s.table key) (sym seen);
      stale = λ key. stale key ∙ stale_alike (reading_of old) (reading_from nothing_read h.given) m key (h.rows key) (h.stale key) ∙ ap (λ (s : Reading). s.stale key) (sym seen);
      messages_are = sum_one messages (length h.given) (length (h.given ++ m ∷ [])) h.messages_are (length-append h.given (m ∷ []));
      eors_are = counted ∙ ap (λ (k : ℕ). k + (if ends_rib r.session.family text then 1 else 0)) h.eors_are ∙ sym (ends_push r.session.family h.texts text);
    }

-- ---- sizes

pub sized_item : (r : ReaderState) (m : Message) → front r ≡ Says m → (1 ≤ message_size r.left) × (message_size r.left ≤ length r.left)
sized_item r m is =
    let first = says_first r.session r.left m is in
    let len = length-take-le (message_size r.left) r.left first.there in
    let head = first.spells.whole.has_header in
    (omega (arith, len, head), first.there)

-- ---- a piece

fed_open : (r : ReaderState) (piece : List ℕ) → r.stopped ≡ false → fed r piece ≡ record r { left = r.left ++ piece }
fed_open r piece live = ap (λ (b : Bool). if b then r else record r { left = r.left ++ piece }) live

pub HasChecked-fed : (r new : ReaderState) (t : Rows) (messages eors : ℕ) (stream piece : List ℕ) → r.stopped ≡ false → new ≡ fed r piece
    → HasChecked r t messages eors stream → HasChecked new t messages eors (stream ++ piece)
HasChecked-fed r new t messages eors stream piece live is h =
    subst (λ (n : ReaderState). HasChecked n t messages eors (stream ++ piece)) (sym (is ∙ fed_open r piece live)) (record {
      given = h.given;
      texts = h.texts;
      read = record {
        whole = h.read.whole;
        are_spelled = h.read.are_spelled;
        parts = ap (λ (s : List ℕ). s ++ piece) h.read.parts ∙ append_assoc h.read.whole r.left piece;
        taken = h.read.taken;
      };
      spelled = h.spelled;
      parts = ap (λ (s : List ℕ). s ++ piece) h.parts ∙ append_assoc (concat h.texts) r.left piece;
      rows = h.rows;
      stale = h.stale;
      messages_are = h.messages_are;
      eors_are = h.eors_are;
    })

pub fed_size : (r new : ReaderState) (piece : List ℕ) → r.stopped ≡ false → new ≡ fed r piece → new.taken + length new.left ≡ r.taken + length r.left + length piece
fed_size r new piece live is =
    ap (λ (n : ReaderState). n.taken + length n.left) (is ∙ fed_open r piece live) ∙ (let l = length-append r.left piece in omega arith)

pub fed_stopped : (r new : ReaderState) (piece : List ℕ) → r.stopped ≡ false → new ≡ fed r piece → new.stopped ≡ false
fed_stopped r new piece live is = ap (λ (n : ReaderState). n.stopped) (is ∙ fed_open r piece live) ∙ live

pub fed_session : (r new : ReaderState) (piece : List ℕ) → r.stopped ≡ false → new ≡ fed r piece → new.session ≡ r.session
fed_session r new piece live is = ap (λ (n : ReaderState). n.session) (is ∙ fed_open r piece live)

-- ---- options

pub if_none : {T P : Type 0} (o : Option T) → o ≡ None → IfNone o P → P
if_none None e h = h
if_none (Some x) e h = absurd cc

pub if_some : {T : Type 0} (P : T → Type 0) (o : Option T) (x : T) → o ≡ Some x → IfSome o P → P x
if_some P None x e h = absurd cc
if_some P (Some y) x e h = let same : y ≡ x = cc in subst P same h
