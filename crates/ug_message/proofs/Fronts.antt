-- What bytes begin with, as whole messages.
use Rattle.std.proofs.Common.{◌≡◌, ℕ, ◌<◌, ◌≤◌, inl, inr, Bool, true, false, nat_lt, List, [], ◌∷◌, ◌++◌, length, take, Option, Some, None, Result, Ok, Err, refl, sym, ap, ◌∙◌, arith, append_assoc}
use Rattle.std.specs.Prelude.{if◌then◌else◌}
use Rattle.std.proofs.lemmas.Bool.{ltb-false, ltb-true}
use Rattle.std.proofs.lemmas.List.{take-take, length-take-le, append-nil}
use Rattle.ug_types.specs.declared.capabilities.Capabilities.{Capabilities}
use Rattle.ug_types.specs.Messages.{Message}
use Rattle.ug_message.specs.Walking.{Fault}
use Rattle.ug_message.specs.Reading.{message_size, header_fault, read_body, unless_faulty, read_message, Spells}
use Rattle.ug_message.specs.Received.{AreSpelled, IsUnfinished, Says, Awaited, judged, behind_header, front_of}
use Rattle.ug_message.proofs.Headers.{body_size, same_size, same_header}

chosen : (cut : Bool) (r : Result Message Fault) (m : Message) → (if cut then Awaited else judged r) ≡ Says m → (cut ≡ false) × (r ≡ Ok m)
chosen true r m e = absurd cc
chosen false (Ok n) m e = (refl, cc)
chosen false (Err f) m e = absurd cc

waiting : (cut : Bool) (r : Result Message Fault) → (if cut then Awaited else judged r) ≡ Awaited → cut ≡ true
waiting true r e = refl
waiting false (Ok n) e = absurd cc
waiting false (Err f) e = absurd cc

record HasBody (c : Capabilities) (bytes : List ℕ) (h : Option Fault) (m : Message) : Type 0 where
  header : h ≡ None
  there : message_size bytes ≤ length bytes
  read : read_body c (take (message_size bytes) bytes) ≡ Ok m

behind_says : (c : Capabilities) (bytes : List ℕ) (h : Option Fault) (m : Message) → behind_header c bytes h ≡ Says m → HasBody c bytes h m
behind_says c bytes (Some f) m e = absurd cc
behind_says c bytes None m e =
    let is = chosen (nat_lt (length bytes) (message_size bytes)) (read_body c (take (message_size bytes) bytes)) m e in
    record { header = refl; there = ltb-false _ _ is.0; read = is.1 }

behind_waits : (c : Capabilities) (bytes : List ℕ) (h : Option Fault) → behind_header c bytes h ≡ Awaited → (h ≡ None) × (length bytes < message_size bytes)
behind_waits c bytes (Some f) e = absurd cc
behind_waits c bytes None e =
    (refl, ltb-true _ _ (waiting (nat_lt (length bytes) (message_size bytes)) (read_body c (take (message_size bytes) bytes)) e))

has_body : (c : Capabilities) (bytes : List ℕ) (h : Option Fault) (m : Message) (short : Bool) → (if short then Awaited else behind_header c bytes h) ≡ Says m → HasBody c bytes h m
has_body c bytes h m true e = absurd cc
has_body c bytes h m false e = behind_says c bytes h m e

-- a message at the front, with as many bytes as its header says
pub record IsFirst (c : Capabilities) (bytes : List ℕ) (m : Message) : Type 0 where
  pub there : message_size bytes ≤ length bytes
  pub spells : Spells c (take (message_size bytes) bytes) m

pub says_first : (c : Capabilities) (bytes : List ℕ) (m : Message) → front_of c bytes ≡ Says m → IsFirst c bytes m
unfolding front_of read_message
says_first c bytes m e =
    let body = has_body c bytes (header_fault c bytes) m (nat_lt (length bytes) 19) e in
    let size = message_size bytes in
    let least = body_size c bytes body.header in
    let front : take 19 (take size bytes) ≡ take 19 bytes = take-take 19 size bytes (omega arith) in
    let len : length (take size bytes) ≡ size = length-take-le size bytes body.there in
    let header : header_fault c (take size bytes) ≡ None = same_header c (take size bytes) bytes front ∙ body.header in
    record {
      there = body.there;
      spells =
          record {
            whole = record { has_header = omega arith; size = len ∙ sym (same_size (take size bytes) bytes front) };
            read = ap (λ (h : Option Fault). unless_faulty h (read_body c (take size bytes))) header ∙ body.read;
          };
    }

waits : (c : Capabilities) (bytes : List ℕ) (short : Bool) → nat_lt (length bytes) 19 ≡ short → (if short then Awaited else behind_header c bytes (header_fault c bytes)) ≡ Awaited → IsUnfinished c bytes
waits c bytes true is e = inl (ltb-true _ _ is)
waits c bytes false is e = inr (behind_waits c bytes (header_fault c bytes) e)

pub awaited_unfinished : (c : Capabilities) (bytes : List ℕ) → front_of c bytes ≡ Awaited → IsUnfinished c bytes
unfolding front_of
awaited_unfinished c bytes e = waits c bytes (nat_lt (length bytes) 19) refl e

-- one message more
pub spelled_more : (c : Capabilities) (messages : List Message) (whole : List ℕ) (m : Message) (text : List ℕ) → AreSpelled c messages whole → Spells c text m
    → AreSpelled c (messages ++ m ∷ []) (whole ++ text)
spelled_more c [] whole m text are is = (text, [], is, ap (λ (w : List ℕ). w ++ text) are ∙ sym (append-nil text), refl)
spelled_more c (first ∷ messages) whole m text are is =
    (are.0, are.1 ++ text, are.2, ap (λ (w : List ℕ). w ++ text) are.3 ∙ append_assoc are.0 are.1 text, spelled_more c messages are.1 m text are.4 is)
