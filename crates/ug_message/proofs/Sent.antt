-- What was sent is received.
use Rattle.std.proofs.Common.{◌≡◌, ℕ, ◌<◌, ◌≤◌, ◌==◌, inl, inr, Bool, true, false, not, ◌&&◌, ◌||◌, List, [], ◌∷◌, ◌++◌, length, take, Some, Result, Ok, refl, sym, ap, ◌∙◌, arith, length-append}
use Rattle.std.specs.Prelude.{slice_index, if◌then◌else◌}
use Rattle.std.proofs.lemmas.Bool.{cases_lt}
use Rattle.std.proofs.lemmas.Bool.Decides.{nat_tests}
use Rattle.std.proofs.lemmas.List.{take-append-le}
use Rattle.ug_types.specs.declared.capabilities.Capabilities.{Capabilities}
use Rattle.ug_types.specs.declared.family.Family.{Family}
use Rattle.ug_types.specs.Messages.{Changes, Message, Updates, Begins, Ends, Ignored}
use Rattle.ug_message.specs.Texts.{afi, written}
use Rattle.ug_message.specs.Walking.{Fault, ◌>>=◌}
use Rattle.ug_message.specs.Reading.{size_at, message_size, message_type, header_fault, read_update, read_refresh, read_body, read_message, Spells}
use Rattle.ug_message.specs.Received.{AreSpelled, IsUnfinished, IsStream}
use Rattle.ug_message.specs.Streams.{AreWritten, IsCut, IsSentForm, IsUpdate}
use Rattle.ug_message.proofs.Headers.{same_size, same_header, same_type, known_type}
use Rattle.ug_message.proofs.WholeMessages.{spelled_header, spelled_body}
use Rattle.ug_message.proofs.Spelled.{written_spells}

are_spelled : (c : Capabilities) (ms : List Message) (bytes : List ℕ) → AreWritten c ms bytes → AreSpelled c ms bytes
are_spelled c [] bytes h = h
are_spelled c (m ∷ ms) bytes h = (h.0, h.1, written_spells c m h.0 h.2, h.3, are_spelled c ms h.1 h.4)

-- less than the whole of a message is unfinished
unfinished : (c : Capabilities) (says : Message) (text bytes tail : List ℕ) → Spells c text says → text ≡ bytes ++ tail → 0 < length tail → IsUnfinished c bytes
unfinished c says text bytes tail s is some = elim (cases_lt (length bytes) 19) [
  | inl lt ↦ inl lt
  | inr le ↦
      let front : take 19 bytes ≡ take 19 text = sym (take-append-le 19 bytes tail le) ∙ ap (take 19) (sym is) in
      let size : message_size bytes ≡ length text = same_size bytes text front ∙ sym s.whole.size in
      let len : length text ≡ length (bytes ++ tail) = ap (λ (b : List ℕ). length b) is in
      inr (same_header c bytes text front ∙ spelled_header c text says s, omega (arith, size, len, length-append bytes tail, some))
]

pub sent_is_received : (c : Capabilities) (kind : Message → Type 0) (bytes : List ℕ) (ms : List Message) (rest : List ℕ) → IsSentForm c kind bytes ms rest → IsStream c bytes ms rest
sent_is_received c kind bytes ms rest h = record {
  whole = h.whole;
  are_spelled = are_spelled c ms h.whole h.are_written;
  parts = h.parts;
  is_unfinished = unfinished c h.is_cut.message h.is_cut.text rest h.is_cut.tail (written_spells c h.is_cut.message h.is_cut.text h.is_cut.is_text) h.is_cut.is_front h.is_cut.is_less;
}

-- ---- what is cut off of an UPDATE

no_update : (other begin end : Bool) (u : Changes) → (if other then Ignored else if begin then Begins else if end then Ends else Ignored) ≡ Updates u → ⊥
no_update true begin end u e = cc
no_update false true end u e = cc
no_update false false true u e = cc
no_update false false false u e = cc

refresh_no_update : (family : Family) (m : List ℕ) (u : Changes) → read_refresh family m ≡ Updates u → ⊥
unfolding read_refresh
refresh_no_update family m u e = no_update (not ((size_at 19 m == afi family) && (slice_index m 22 == 1))) (slice_index m 21 == 1) (slice_index m 21 == 2) u e

is_no_refresh : (refresh : Bool) (mark : Message) (update : Result Message Fault) (u : Changes) → (mark ≡ Updates u → ⊥) → (if refresh then Ok mark else update) ≡ Ok (Updates u) → refresh ≡ false
is_no_refresh true mark update u never e = absurd (never cc)
is_no_refresh false mark update u never e = refl

type_2 : (type : ℕ) → ((type == 2) || (type == 5)) ≡ true → (type == 5) ≡ false → type ≡ 2
type_2 type known other = grind (arith, nat_tests, known, other)

update_type : (c : Capabilities) (text : List ℕ) (u : Changes) → Spells c text (Updates u) → message_type text ≡ 2
unfolding read_message read_body
update_type c text u s =
    let body = spelled_body (header_fault c text) (read_body c text) (Updates u) s.read in
    type_2 (message_type text) (known_type c text (spelled_header c text (Updates u) s))
    (is_no_refresh (message_type text == 5) (read_refresh c.family text) (read_update c text >>= (λ x. Ok (Updates x))) u (refresh_no_update c.family text u) body)

cut_of : (c : Capabilities) (m : Message) (text bytes tail : List ℕ) → IsUpdate m → written c m ≡ Some text → text ≡ bytes ++ tail → 19 ≤ length bytes → message_type bytes ≡ 2
cut_of c (Updates u) text bytes tail is w front long =
    same_type bytes text (sym (take-append-le 19 bytes tail long) ∙ ap (take 19) (sym front)) ∙ update_type c text u (written_spells c (Updates u) text w)
cut_of c Begins text bytes tail is w front long = absurd is
cut_of c Ends text bytes tail is w front long = absurd is
cut_of c Ignored text bytes tail is w front long = absurd is

pub cut_update : (c : Capabilities) (bytes : List ℕ) → IsCut c IsUpdate bytes → 19 ≤ length bytes → message_type bytes ≡ 2
cut_update c bytes h long = cut_of c h.message h.text bytes h.tail h.is_of h.is_text h.is_front long
