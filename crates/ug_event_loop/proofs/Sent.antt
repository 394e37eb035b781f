-- Bytes that are a front of texts, as messages: those whose texts are whole, and what is left of one more.
use Rattle.std.proofs.Common.{◌≡◌, ℕ, ◌+◌, ◌<◌, ◌≤◌, ◌⊎◌, inl, inr, Bool, true, false, List, [], ◌∷◌, ◌++◌, length, Some, None, refl, sym, ◌∙◌, ap, subst, arith, append_assoc, length-append}
use Rattle.std.specs.Prelude.{nat_lt, if◌then◌else◌}
use Rattle.std.specs.List.{concat}
use Rattle.ug_types.specs.declared.capabilities.Capabilities.{Capabilities}
use Rattle.ug_types.specs.declared.family.Family.{Family}
use Rattle.ug_types.specs.declared.family.Family.TheVariants.{V4, V6}
use Rattle.ug_types.specs.Messages.{Message, Updates}
use Rattle.ug_message.specs.Spelling.{routes, mp_unreach_nlri, ipv6_unicast, optional}
use Rattle.ug_message.specs.Texts.{framed, field, withdrawing, withdrawal, written}
use Rattle.ug_message.specs.Streams.{AreWritten, AreOf, IsCut, IsSentForm}
use Rattle.ug_message.proofs.Heads.{length_attribute}
use Rattle.ug_message.proofs.OneText.{some_within}
use Rattle.ug_message.proofs.WrittenAgain.{length_framed}
use Rattle.ug_event_loop.specs.Kept.{IsSent}
use Rattle.ug_event_loop.proofs.Texts.{AreTexts}
use Rattle.ug_event_loop.proofs.Rightly.{are-front, are-back}

-- ---- two ways to part a list

abbrev PartsBehind : {A : Type 0} → List A → List A → List A → List A → Type 0
PartsBehind {A} text more bytes tail = (b : List A) × (bytes ≡ text ++ b) × (more ≡ b ++ tail)

abbrev PartsWithin : {A : Type 0} → List A → List A → Type 0
PartsWithin {A} text bytes = (t : List A) × (text ≡ bytes ++ t) × (0 < length t)

part_text : {A : Type 0} (text more bytes tail : List A) → text ++ more ≡ bytes ++ tail → PartsBehind text more bytes tail ⊎ PartsWithin text bytes
part_text [] more bytes tail e = inl (bytes, refl, e)
part_text (x ∷ text) more [] tail e = inr (x ∷ text, refl, omega arith)
part_text {A} (x ∷ text) more (y ∷ bytes) tail e =
    let same : y ≡ x = cc in
    let rest : text ++ more ≡ bytes ++ tail = cc in
    elim (part_text text more bytes tail rest) [
      | inl behind ↦ inl (behind.0, ap (λ (bs : List A). y ∷ bs) behind.1 ∙ ap (λ (z : A). z ∷ (text ++ behind.0)) same, behind.2)
      | inr within ↦ inr (within.0, ap (λ (bs : List A). x ∷ bs) within.1 ∙ ap (λ (z : A). z ∷ (bytes ++ within.0)) (sym same), within.2)
    ]

-- ---- what is left of a message

module _ (c : Capabilities) where
  -- Nothing is left, or less than the whole text of the next message.
  abbrev pub IsLeft : List ℕ → List Message → Type 0
  IsLeft rest more =
      (rest ≡ []) ⊎ ((m : Message) × (later : List Message) × (text : List ℕ) × (tail : List ℕ) × (more ≡ m ∷ later) × (written c m ≡ Some text) × (text ≡ rest ++ tail) × (0 < length tail))

  -- Bytes hold the texts of messages at the front of these, and what is left of the next.
  pub record HoldsFront (told : List Message) (bytes : List ℕ) : Type 0 where
    pub messages : List Message
    pub more : List Message
    pub whole : List ℕ
    pub rest : List ℕ
    pub told_is : told ≡ messages ++ more
    pub written_is : AreWritten c messages whole
    pub parts : bytes ≡ whole ++ rest
    pub left : IsLeft rest more

  pub all-written : (texts : List (List ℕ)) (ms : List Message) → AreTexts c texts ms → AreWritten c ms (concat texts)
  all-written [] [] are = refl
  all-written [] (m ∷ ms) are = absurd are
  all-written (text ∷ texts) [] are = absurd are
  all-written (text ∷ texts) (m ∷ ms) are = (text, concat texts, are.0, refl, all-written texts ms are.1)

  nothing_before : (bytes tail : List ℕ) → [] ≡ bytes ++ tail → bytes ≡ []
  nothing_before [] tail e = refl
  nothing_before (b ∷ bytes) tail e = absurd cc

  pub holds-front : (texts : List (List ℕ)) (ms : List Message) (bytes tail : List ℕ) → AreTexts c texts ms → concat texts ≡ bytes ++ tail → HoldsFront ms bytes
  holds-front [] [] bytes tail are e =
      record { messages = []; more = []; whole = []; rest = []; told_is = refl; written_is = refl; parts = nothing_before bytes tail e; left = inl refl }
  holds-front [] (m ∷ ms) bytes tail are e = absurd are
  holds-front (text ∷ texts) [] bytes tail are e = absurd are
  holds-front (text ∷ texts) (m ∷ ms) bytes tail are e =
      elim (part_text text (concat texts) bytes tail e) [
        | inl behind ↦
            let next = holds-front texts ms behind.0 tail are.1 behind.2 in
            record {
              messages = m ∷ next.messages;
              more = next.more;
              whole = text ++ next.whole;
              rest = next.rest;
              told_is = ap (λ (l : List Message). m ∷ l) next.told_is;
              written_is = (text, next.whole, are.0, refl, next.written_is);
              parts = behind.1 ∙ (ap (λ (l : List ℕ). text ++ l) next.parts ∙ sym (append_assoc text next.whole next.rest));
              left = next.left;
            }
        | inr within ↦
            record {
              messages = [];
              more = m ∷ ms;
              whole = [];
              rest = bytes;
              told_is = refl;
              written_is = refl;
              parts = refl;
              left = inr (m, ms, text, within.0, refl, are.0, within.1, within.2);
            }
      ]

-- ---- End-of-RIB has a text in each session

around_small : (n : ℕ) (b : Bool) → (if b then n + 4 else n + 3) ≤ n + 4
around_small n true = omega arith
around_small n false = omega arith

unreach_small : length (mp_unreach_nlri []) ≤ 7
unfolding mp_unreach_nlri
unreach_small =
    let len = length_attribute optional 15 (ipv6_unicast ++ []) in
    let small = around_small (length (ipv6_unicast ++ [])) (nat_lt 255 (length (ipv6_unicast ++ []))) in
    omega arith

end_small : (family : Family) → length (framed 2 (withdrawing family [])) ≤ 4096
end_small V4 = let len = length_framed 2 (withdrawing V4 []) in omega arith
end_small V6 =
    let len = length_framed 2 (withdrawing V6 []) in
    let sum = length-append (field []) (field (mp_unreach_nlri [])) in
    let un = unreach_small in
    omega arith

limit_some : (b : Bool) → 4096 ≤ (if b then 65535 else 4096)
limit_some true = omega arith
limit_some false = omega arith

abbrev end_of_rib : Message
end_of_rib = Updates (record { withdrawn = []; attrs = None; announced = [] })

end_written : (c : Capabilities) → written c end_of_rib ≡ Some (withdrawal c [])
unfolding written withdrawal
end_written c =
    let small = end_small c.family in
    let limit = limit_some c.extended in
    some_within c true (withdrawal c []) refl (omega arith)

end_long : (c : Capabilities) → 0 < length (withdrawal c [])
unfolding withdrawal
end_long c = let len = length_framed 2 (withdrawing c.family (routes c.add_path [])) in omega arith

cut_nothing : (c : Capabilities) (b : Bool) → IsCut c (IsSent b) []
cut_nothing c b =
    record {
      message = end_of_rib;
      is_of = by b;
      text = withdrawal c [];
      tail = withdrawal c [];
      is_text = end_written c;
      is_front = refl;
      is_less = end_long c;
    }
  where
    by : (b : Bool) → IsSent b end_of_rib
    by true = tt
    by false = tt

cut_left : (c : Capabilities) (b : Bool) (rest : List ℕ) (more : List Message) → AreOf (IsSent b) more → IsLeft c rest more → IsCut c (IsSent b) rest
cut_left c b rest more are left =
    elim left [
      | inl none ↦ subst (λ (r : List ℕ). IsCut c (IsSent b) r) (sym none) (cut_nothing c b)
      | inr found ↦
          let are' : AreOf (IsSent b) (found.0 ∷ found.1) = subst (λ (ms : List Message). AreOf (IsSent b) ms) found.4 are in
          record {
            message = found.0;
            is_of = are'.0;
            text = found.2;
            tail = found.3;
            is_text = found.5;
            is_front = found.6;
            is_less = found.7;
          }
    ]

-- Such bytes are those of a session.
pub sent-form : (c : Capabilities) (b : Bool) (told : List Message) (bytes : List ℕ) (h : HoldsFront c told bytes) → AreOf (IsSent b) told → IsSentForm c (IsSent b) bytes h.messages h.rest
sent-form c b told bytes h are =
    let are' : AreOf (IsSent b) (h.messages ++ h.more) = subst (λ (ms : List Message). AreOf (IsSent b) ms) h.told_is are in
    record {
      whole = h.whole;
      are_of = are-front (IsSent b) h.messages h.more are';
      are_written = h.written_is;
      parts = h.parts;
      is_cut = cut_left c b h.rest h.more (are-back (IsSent b) h.messages h.more are') h.left;
    }
