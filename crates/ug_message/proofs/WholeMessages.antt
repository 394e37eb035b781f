-- Laws of whole messages: where one ends, and that it says one thing.
use Rattle.std.proofs.Common.{◌≡◌, ℕ, ◌⊎◌, inl, inr, Bool, true, false, nat_lt, List, [], ◌∷◌, ◌++◌, length, take, drop, Option, Some, None, Result, Ok, Err, refl, sym, ap, subst, ◌∙◌, arith, append_assoc, length-append}
use Rattle.std.specs.Prelude.{if◌then◌else◌}
use Rattle.std.proofs.lemmas.Bool.{le-ltb, lt-ltb}
use Rattle.std.proofs.lemmas.List.{take-append-le, take_at, drop_at}
use Rattle.ug_types.specs.declared.capabilities.Capabilities.{Capabilities}
use Rattle.ug_types.specs.Messages.{Message}
use Rattle.ug_message.specs.Walking.{Fault}
use Rattle.ug_message.specs.Reading.{message_size, header_fault, read_body, unless_faulty, read_message, IsWhole, Spells, HasFault}
use Rattle.ug_message.specs.Received.{AreSpelled, IsUnfinished, IsStream, Says, Faulty, Awaited, judged, behind_header, front_of, IsFaultyAt}
use Rattle.ug_message.proofs.Headers.{same_size, same_header}

-- what follows a whole message doesn't change its header
size_before : (m more : List ℕ) → IsWhole m → message_size (m ++ more) ≡ length m
size_before m more w = same_size (m ++ more) m (take-append-le 19 m more w.has_header) ∙ sym w.size

none_left : (more : List ℕ) → length more ≡ 0 → more ≡ []
none_left [] e = refl
none_left (b ∷ more) e = absurd (omega arith)

pub no_proper_prefix : (m other more : List ℕ) → IsWhole m → IsWhole other → other ≡ m ++ more → more ≡ []
no_proper_prefix m other more w v e =
    let size : length other ≡ length m = v.size ∙ ap (λ (b : List ℕ). message_size b) e ∙ size_before m more w in
    none_left more (omega (arith, size, ap (λ (b : List ℕ). length b) e, length-append m more))

-- ---- one thing said, or one fault

decided : (r : Result Message Fault) → ((says : Message) × (r ≡ Ok says)) ⊎ ((first : Fault) × (r ≡ Err first))
decided (Ok says) = inl (says, refl)
decided (Err first) = inr (first, refl)

pub says_or_fails : (c : Capabilities) (m : List ℕ) → IsWhole m → ((says : Message) × Spells c m says) ⊎ ((first : Fault) × HasFault c m first)
says_or_fails c m w =
    elim (decided (read_message c m)) [
      | inl x ↦ inl (x.0, record { whole = w; read = x.1 })
      | inr x ↦ inr (x.0, record { whole = w; read = x.1 })
    ]

pub says_once : (c : Capabilities) (m : List ℕ) (one other : Message) → Spells c m one → Spells c m other → one ≡ other
says_once c m one other s t = let e : Ok one ≡ Ok other = sym s.read ∙ t.read in cc

pub fails_once : (c : Capabilities) (m : List ℕ) (one other : Fault) → HasFault c m one → HasFault c m other → one ≡ other
fails_once c m one other s t = let e : Err one ≡ Err other = sym s.read ∙ t.read in cc

pub never_both : (c : Capabilities) (m : List ℕ) (says : Message) (first : Fault) → Spells c m says → HasFault c m first → ⊥
never_both c m says first s t = let e : Ok says ≡ Err first = sym s.read ∙ t.read in absurd cc

-- ---- one reading of a stream

no_fault : (h : Option Fault) (r : Result Message Fault) (says : Message) → unless_faulty h r ≡ Ok says → h ≡ None
no_fault None r says e = refl
no_fault (Some f) r says e = absurd cc

pub spelled_header : (c : Capabilities) (m : List ℕ) (says : Message) → Spells c m says → header_fault c m ≡ None
unfolding read_message
spelled_header c m says s = no_fault (header_fault c m) (read_body c m) says s.read

pub spelled_body : (h : Option Fault) (r : Result Message Fault) (says : Message) → unless_faulty h r ≡ Ok says → r ≡ Ok says
spelled_body None r says e = e
spelled_body (Some f) r says e = absurd cc

-- a message at the front is what is read first
spelled_front : (c : Capabilities) (m more : List ℕ) (says : Message) → Spells c m says → front_of c (m ++ more) ≡ Says says
unfolding front_of read_message
spelled_front c m more says s =
    let bytes = m ++ more in
    let len = length-append m more in
    let there : nat_lt (length bytes) 19 ≡ false = le-ltb _ _ (omega (arith, s.whole.has_header)) in
    let header : header_fault c bytes ≡ None = same_header c bytes m (take-append-le 19 m more s.whole.has_header) ∙ no_fault (header_fault c m) (read_body c m) says s.read in
    let size : message_size bytes ≡ length m = size_before m more s.whole in
    let whole : nat_lt (length bytes) (length m) ≡ false = le-ltb _ _ (omega arith) in
    let body : read_body c (take (length m) bytes) ≡ Ok says = ap (λ (b : List ℕ). read_body c b) (take_at m more (length m) refl) ∙ spelled_body (header_fault c m) (read_body c m) says s.read in
    ap (λ (b : Bool). if b then Awaited else behind_header c bytes (header_fault c bytes)) there
    ∙ ap (λ (h : Option Fault). behind_header c bytes h) header
    ∙ ap (λ (n : ℕ). if nat_lt (length bytes) n then Awaited else judged (read_body c (take n bytes))) size
    ∙ ap (λ (b : Bool). if b then Awaited else judged (read_body c (take (length m) bytes))) whole ∙ ap (λ (r : Result Message Fault). judged r) body

either_way : (b : Bool) → (if b then Awaited else Awaited) ≡ Awaited
either_way true = refl
either_way false = refl

waits_by : (c : Capabilities) (bytes : List ℕ) → IsUnfinished c bytes → front_of c bytes ≡ Awaited
unfolding front_of
waits_by c bytes (inl short) = ap (λ (b : Bool). if b then Awaited else behind_header c bytes (header_fault c bytes)) (lt-ltb _ _ short)
waits_by c bytes (inr cut) =
    ap (λ (h : Option Fault). if nat_lt (length bytes) 19 then Awaited else behind_header c bytes h) cut.0
    ∙ ap (λ (b : Bool). if nat_lt (length bytes) 19 then Awaited else if b then Awaited else judged (read_body c (take (message_size bytes) bytes))) (lt-ltb _ _ cut.1)
    ∙ either_way (nat_lt (length bytes) 19)

-- no message is read first
abbrev Ends : Capabilities → List ℕ → Type 0
Ends c bytes = (says : Message) → front_of c bytes ≡ Says says → ⊥

unfinished_ends : (c : Capabilities) (bytes : List ℕ) → IsUnfinished c bytes → Ends c bytes
unfinished_ends c bytes u says e = let both : Awaited ≡ Says says = sym (waits_by c bytes u) ∙ e in absurd cc

faulty_ends : (c : Capabilities) (bytes : List ℕ) (first : Fault) → front_of c bytes ≡ Faulty first → Ends c bytes
faulty_ends c bytes first is says e = let both : Faulty first ≡ Says says = sym is ∙ e in absurd cc

front_is : (m other more rest : List ℕ) → IsWhole m → IsWhole other → m ++ more ≡ other ++ rest → length m ≡ length other
front_is m other more rest w v e = sym (size_before m more w) ∙ ap (λ (b : List ℕ). message_size b) e ∙ size_before other rest v

same_front : (m other more rest : List ℕ) → length m ≡ length other → m ++ more ≡ other ++ rest → (m ≡ other) × (more ≡ rest)
same_front m other more rest len e = (
  sym (take_at m more (length other) len) ∙ ap (λ (b : List ℕ). take (length other) b) e ∙ take_at other rest (length other) refl,
  sym (drop_at m more (length other) len) ∙ ap (λ (b : List ℕ). drop (length other) b) e ∙ drop_at other rest (length other) refl,
)

record Same (ms ns : List Message) (left rest : List ℕ) : Type 0 where
  messages : ms ≡ ns
  rests : left ≡ rest

same_stream : (c : Capabilities) (ms ns : List Message) (whole other left rest : List ℕ) → AreSpelled c ms whole → AreSpelled c ns other
    → Ends c left → Ends c rest → whole ++ left ≡ other ++ rest → Same ms ns left rest
same_stream c [] [] whole other left rest s t u v e =
    record { messages = refl; rests = ap (λ (w : List ℕ). w ++ left) (sym s) ∙ e ∙ ap (λ (w : List ℕ). w ++ rest) t }
same_stream c [] (n ∷ ns) whole other left rest s t u v e =
    let begins : left ≡ t.0 ++ (t.1 ++ rest) = ap (λ (w : List ℕ). w ++ left) (sym s) ∙ e ∙ ap (λ (w : List ℕ). w ++ rest) t.3 ∙ append_assoc t.0 t.1 rest in
    absurd (u n (ap (λ (b : List ℕ). front_of c b) begins ∙ spelled_front c t.0 (t.1 ++ rest) n t.2))
same_stream c (m ∷ ms) [] whole other left rest s t u v e =
    let begins : rest ≡ s.0 ++ (s.1 ++ left) = ap (λ (w : List ℕ). w ++ rest) (sym t) ∙ sym e ∙ ap (λ (w : List ℕ). w ++ left) s.3 ∙ append_assoc s.0 s.1 left in
    absurd (v m (ap (λ (b : List ℕ). front_of c b) begins ∙ spelled_front c s.0 (s.1 ++ left) m s.2))
same_stream c (m ∷ ms) (n ∷ ns) whole other left rest s t u v e =
    let regrouped : s.0 ++ (s.1 ++ left) ≡ t.0 ++ (t.1 ++ rest) =
    sym (append_assoc s.0 s.1 left) ∙ ap (λ (w : List ℕ). w ++ left) (sym s.3) ∙ e ∙ ap (λ (w : List ℕ). w ++ rest) t.3 ∙ append_assoc t.0 t.1 rest in
    let front = same_front s.0 t.0 (s.1 ++ left) (t.1 ++ rest) (front_is s.0 t.0 (s.1 ++ left) (t.1 ++ rest) s.2.whole t.2.whole regrouped) regrouped in
    let said = says_once c t.0 m n (subst (λ (b : List ℕ). Spells c b m) front.0 s.2) t.2 in
    let more = same_stream c ms ns s.1 t.1 left rest s.4 t.4 u v front.1 in
    record { messages = ap (λ (x : Message). x ∷ ms) said ∙ ap (λ (xs : List Message). n ∷ xs) more.messages; rests = more.rests }

pub one_stream : (c : Capabilities) (stream : List ℕ) (ms ns : List Message) (left rest : List ℕ) → IsStream c stream ms left → IsStream c stream ns rest
    → (ms ≡ ns) × (left ≡ rest)
one_stream c stream ms ns left rest s t =
    let same = same_stream c ms ns s.whole t.whole left rest s.are_spelled t.are_spelled (unfinished_ends c left s.is_unfinished) (unfinished_ends c rest t.is_unfinished) (sym s.parts ∙ t.parts) in
    (same.messages, same.rests)

same_faulty : (c : Capabilities) (stream : List ℕ) (ms ns : List Message) (k j o p : ℕ) (s : IsFaultyAt c stream ms k o) (t : IsFaultyAt c stream ns j p) → Same ms ns s.rest t.rest
same_faulty c stream ms ns k j o p s t =
    same_stream c ms ns s.whole t.whole s.rest t.rest s.are_spelled t.are_spelled (faulty_ends c s.rest s.first s.is_first) (faulty_ends c t.rest t.first t.is_first) (sym s.parts ∙ t.parts)

pub one_fault : (c : Capabilities) (stream : List ℕ) (ms ns : List Message) (k j o p : ℕ) → IsFaultyAt c stream ms k o → IsFaultyAt c stream ns j p
    → (ms ≡ ns) × (k ≡ j) × (o ≡ p)
one_fault c stream ms ns k j o p s t =
    let same = same_faulty c stream ms ns k j o p s t in
    let first : Faulty s.first ≡ Faulty t.first = sym s.is_first ∙ ap (λ (b : List ℕ). front_of c b) same.rests ∙ t.is_first in
    let is : s.first ≡ t.first = cc in
    let len : length s.whole ≡ length t.whole = omega (arith, ap (λ (b : List ℕ). length b) (sym s.parts ∙ t.parts), ap (λ (b : List ℕ). length b) same.rests, length-append s.whole s.rest, length-append t.whole t.rest) in
    (same.messages, s.cause_is ∙ ap (λ (f : Fault). f.number) is ∙ sym t.cause_is, omega (arith, s.offset_is, t.offset_is, len, ap (λ (f : Fault). f.place) is))

pub no_fault_there : (c : Capabilities) (stream : List ℕ) (ms ns : List Message) (left : List ℕ) (k o : ℕ) → IsStream c stream ms left → IsFaultyAt c stream ns k o → ⊥
no_fault_there c stream ms ns left k o s t =
    let same = same_stream c ms ns s.whole t.whole left t.rest s.are_spelled t.are_spelled (unfinished_ends c left s.is_unfinished) (faulty_ends c t.rest t.first t.is_first) (sym s.parts ∙ t.parts) in
    let both : Awaited ≡ Faulty t.first = sym (waits_by c left s.is_unfinished) ∙ ap (λ (b : List ℕ). front_of c b) same.rests ∙ t.is_first in
    absurd cc
