-- A listener that goes on.
use Rattle.std.proofs.Common.{◌≡◌, ℕ, ◌<◌, Bool, true, false, List, [], ◌∷◌, ◌++◌, length, refl, ap, subst, ◌∙◌, arith}
use Rattle.std.proofs.lemmas.List.{append-nil}
use Rattle.ug_types.specs.declared.capabilities.Capabilities.{Capabilities}
use Rattle.ug_types.specs.Messages.{Message}
use Rattle.ug_message.specs.Received.{AreSpelled, IsStream, IsUnfinished, IsFaultyAt, Front, Says, Faulty, Awaited}
use Rattle.ug_update.specs.Readers.{ReaderState, HasRead, Gives, Waits, answer_at, front, state_after, fed}
use Rattle.ug_hearing.specs.declared.breach.Ending.TheVariants.{Whole, Cut, Malformed}
use Rattle.ug_hearing.specs.Breaches.{IsReadAs}
use Rattle.ug_audit.specs.Heard.{IsReadTo}
use Rattle.ug_audit.proofs.Reading.{fault-stays, same_session, gave, fed_open}

-- ---- a piece

pub piece-read : (c : Capabilities) (faulty : Bool) (r new : ReaderState) (stream piece : List ℕ) (ms : List Message) → faulty ≡ false → new ≡ fed r piece
    → (r.stopped ≡ false → (stream : List ℕ) → (given : List Message) → HasRead r stream given → HasRead new (stream ++ piece) given) → IsReadTo c faulty r stream ms → IsReadTo c faulty new (stream ++ piece) ms
piece-read c true r new stream piece ms clear is goes read = absurd cc
piece-read c false r new stream piece ms clear is goes (session, live, has) =
    let same = fed_open r new piece live is in
    (ap (λ (s : ReaderState). s.session) same ∙ session, ap (λ (s : ReaderState). s.stopped) same ∙ live, goes live stream ms has)

pub piece-passed : (c : Capabilities) (faulty : Bool) (r : ReaderState) (stream piece : List ℕ) (ms : List Message) → faulty ≡ true → IsReadTo c faulty r stream ms → IsReadTo c faulty r (stream ++ piece) ms
piece-passed c true r stream piece ms is (cause, offset, fault) = (cause, offset, fault-stays c stream piece ms cause offset fault)
piece-passed c false r stream piece ms is read = absurd cc

-- ---- a message

pub message-read : (c : Capabilities) (faulty : Bool) (r new : ReaderState) (m : Message) (stream : List ℕ) (ms : List Message) → faulty ≡ false → Gives m ≡ answer_at r.taken (front r) → new ≡ state_after r (front r)
    → ((stream : List ℕ) → (given : List Message) → HasRead r stream given → HasRead new stream (given ++ m ∷ [])) → IsReadTo c faulty r stream ms → IsReadTo c faulty new stream (ms ++ m ∷ [])
message-read c true r new m stream ms clear answer state given read = absurd cc
message-read c false r new m stream ms clear answer state given (session, live, has) =
    let same = gave r new m answer state in
    (ap (λ (s : ReaderState). s.session) same ∙ session, ap (λ (s : ReaderState). s.stopped) same ∙ live, given stream ms has)

-- ---- a fault

pub fault-read : (c : Capabilities) (faulty : Bool) (r new : ReaderState) (stream : List ℕ) (ms : List Message) (cause offset : ℕ) → faulty ≡ false → new ≡ state_after r (front r)
    → ((stream : List ℕ) → (given : List Message) → HasRead r stream given → IsFaultyAt new.session stream given cause offset) → IsReadTo c faulty r stream ms → (new' : ReaderState) → IsReadTo c true new' stream ms
fault-read c true r new stream ms cause offset clear state right read new' = absurd cc
fault-read c false r new stream ms cause offset clear state right (session, live, has) new' =
    let same : new.session ≡ c = ap (λ (s : ReaderState). s.session) state ∙ same_session r (front r) ∙ session in
    (cause, offset, subst (λ (x : Capabilities). IsFaultyAt x stream ms cause offset) same (right stream ms has))

-- ---- nothing more

pub awaits-read : (c : Capabilities) (faulty : Bool) (r new : ReaderState) (stream : List ℕ) (ms : List Message) → faulty ≡ false → new ≡ state_after r (front r)
    → ((stream : List ℕ) → (given : List Message) → HasRead r stream given → HasRead new stream (given ++ [])) → ((stream : List ℕ) → (given : List Message) → HasRead r stream given → IsStream new.session stream given new.left)
    → (new.stopped ≡ false) → IsReadTo c faulty r stream ms → IsReadTo c faulty new stream ms × IsUnfinished c new.left
awaits-read c true r new stream ms clear state given right live' read = absurd cc
awaits-read c false r new stream ms clear state given right live' (session, live, has) =
    let same : new.session ≡ c = ap (λ (s : ReaderState). s.session) state ∙ same_session r (front r) ∙ session in (
      (same, live', subst (λ (g : List Message). HasRead new stream g) (append-nil ms) (given stream ms has)),
      subst (λ (x : Capabilities). IsUnfinished x new.left) same (right stream ms has).is_unfinished,
    )

-- ---- the end

pub ends-malformed : (c : Capabilities) (faulty : Bool) (r : ReaderState) (stream : List ℕ) (ms : List Message) → faulty ≡ true → IsReadTo c faulty r stream ms → IsReadAs c stream ms Malformed
ends-malformed c true r stream ms is read = read
ends-malformed c false r stream ms is read = absurd cc

stream-of : (c : Capabilities) (r : ReaderState) (stream : List ℕ) (ms : List Message) → (r.session ≡ c) × (r.stopped ≡ false) × HasRead r stream ms → IsUnfinished c r.left → IsStream c stream ms r.left
stream-of c r stream ms (session, live, has) unfinished =
    record { whole = has.whole; are_spelled = subst (λ (x : Capabilities). AreSpelled x ms has.whole) session has.are_spelled; parts = has.parts; is_unfinished = unfinished }

pub ends-cut : (c : Capabilities) (faulty : Bool) (r : ReaderState) (stream : List ℕ) (ms : List Message) → faulty ≡ false → (faulty ≡ false → IsUnfinished c r.left) → (r.left ≡ [] → ⊥) → IsReadTo c faulty r stream ms → IsReadAs c stream ms Cut
ends-cut c true r stream ms clear unfinished some read = absurd cc
ends-cut c false r stream ms clear unfinished some read = (r.left, stream-of c r stream ms read (unfinished refl), some)

pub ends-whole : (c : Capabilities) (faulty : Bool) (r : ReaderState) (stream : List ℕ) (ms : List Message) → faulty ≡ false → (faulty ≡ false → IsUnfinished c r.left) → r.left ≡ [] → IsReadTo c faulty r stream ms → IsReadAs c stream ms Whole
ends-whole c true r stream ms clear unfinished none read = absurd cc
ends-whole c false r stream ms clear unfinished none read = subst (λ (rest : List ℕ). IsStream c stream ms rest) none (stream-of c r stream ms read (unfinished refl))

pub nothing_left : (bytes : List ℕ) → length bytes ≡ 0 → bytes ≡ []
nothing_left [] e = refl
nothing_left (b ∷ bytes) e = absurd (omega (arith, e))

-- a reader that waits goes on as it was
pub still_live : (c : Capabilities) (faulty : Bool) (r new : ReaderState) (stream : List ℕ) (ms : List Message) → faulty ≡ false → Waits ≡ answer_at r.taken (front r) → new ≡ state_after r (front r) → IsReadTo c faulty r stream ms → new.stopped ≡ false
still_live c true r new stream ms clear answer state read = absurd cc
still_live c false r new stream ms clear answer state (session, live, has) = ap (λ (s : ReaderState). s.stopped) (state ∙ by (front r) answer) ∙ live
  where
    by : (f : Front) → Waits ≡ answer_at r.taken f → state_after r f ≡ r
    by (Says m) e = absurd cc
    by (Faulty f) e = absurd cc
    by Awaited e = refl

pub something_left : (bytes : List ℕ) → 0 < length bytes → bytes ≡ [] → ⊥
something_left [] some none = omega (arith, some)
something_left (b ∷ bytes) some none = cc
