-- What a member is handed.
use Rattle.std.proofs.Common.{◌≡◌, ℕ, ◌+◌, ◌-◌, ◌≤◌, Bool, true, false, List, [], ◌++◌, length, drop, take, slice_get, Option, Some, refl, sym, ap, ◌∙◌, arith}
use Rattle.std.specs.Prelude.{unwrap_or, ◌&&◌}
use Rattle.std.proofs.Math.Seq.{take-append_seam}
use Rattle.std.proofs.lemmas.List.{length-append, length-drop, take_all}
use Rattle.ug_types.specs.declared.family.Family.{Family}
use Rattle.ug_types.specs.declared.family.Family.TheVariants.{V4, V6}
use Rattle.ug_types.specs.declared.route.PeerEnds.{PeerEnds}
use Rattle.ug_types.specs.Ip.{IpAddress}
use Rattle.ug_types.specs.Messages.{Message}
use Rattle.ug_message.specs.Spellable.{is_address}
use Rattle.ug_message.specs.Texts.{written}
use Rattle.ug_message.specs.Fitting.{text_of}
use Rattle.ug_outbound.specs.declared.key.GroupKey.{GroupKey}
use Rattle.ug_message.specs.Packets.{sent_to}
use Rattle.ug_group_rules.specs.Packets.{Packet, message_to}
use Rattle.ug_groups.specs.declared.handed.Handed.{Handed}
use Rattle.ug_groups.specs.Packets.{Packed, said}
use Rattle.ug_groups.specs.Sent.{session_of, IsSent}
use Rattle.ug_groups.specs.Subgroups.{text_to, IsHanded}
use Rattle.ug_groups.proofs.DueRoutes.{text_short}

pub own_family : (f : Family) (a : IpAddress) → is_address f a ≡ true → a.family ≡ f
own_family f a e = by a.family f e
  where
    by : (g f : Family) → is_address f (record { family = g; bits = a.bits }) ≡ true → g ≡ f
    by V4 V4 e = refl
    by V6 V6 e = refl
    by V4 V6 e = absurd cc
    by V6 V4 e = absurd cc

text_is : (key : GroupKey) (m : Message) (text : List ℕ) → written (session_of key) m ≡ Some text → text_of (session_of key) m ≡ text
unfolding text_of
text_is key m text e = ap (λ (o : Option (List ℕ)). unwrap_or o []) e

whole : (n : ℕ) (text : List ℕ) → length text ≤ n → take n text ≡ text
whole n text le = take_all n text le

module _ (key : GroupKey) (ends : PeerEnds) (own : is_address key.family ends.local ≡ true) (p : Packed) (sent : IsSent (session_of key) p) where
  text : text_to key ends (said p) ≡ sent_to ends p.shared
  text =
      let is = sent.text ends own in
      ap (take 65535) (text_is key (message_to ends p.says) (sent_to ends p.shared) is) ∙ whole 65535 (sent_to ends p.shared) (text_short key (message_to ends p.says) (sent_to ends p.shared) is)

  pub handed : (rest : List Packet) → slice_get rest 0 ≡ Some (said p) → (old new : List ℕ) (h : Handed) → h.made ≡ p.made → h.len ≡ length p.shared.bytes → length p.shared.bytes ≤ length old
      → length new ≡ length old → new ≡ sent_to ends p.shared ++ drop (length p.shared.bytes) old → IsHanded key ends rest new h
  handed rest first old new h made len fits kept bytes =
      let sum : length new ≡ length (sent_to ends p.shared) + (length old - length p.shared.bytes) =
      ap length bytes ∙ length-append (sent_to ends p.shared) (drop (length p.shared.bytes) old) ∙ ap (λ n. length (sent_to ends p.shared) + n) (length-drop (length p.shared.bytes) old) in
      let same : h.len ≡ length (sent_to ends p.shared) = omega (arith, sum, kept, len, fits) in
      record {
        packet = said p;
        first = first;
        made = made;
        size = same ∙ ap length (sym text);
        bytes = ap (λ n. take n new) same ∙ ap (take (length (sent_to ends p.shared))) bytes ∙ take-append_seam (sent_to ends p.shared) (drop (length p.shared.bytes) old) ∙ sym text;
      }

-- ---- merges

pub merge_not : (a b c d : Bool) → (a && b) ≡ false → false ≡ (a && (b && c) && d)
merge_not true true c d e = absurd cc
merge_not true false c d e = refl
merge_not false b c d e = refl

pub merge_other : (a b c d : Bool) → c ≡ false → false ≡ (a && (b && c) && d)
merge_other true true c d e = ap (λ x. x && d) (sym e)
merge_other true false c d e = refl
merge_other false b c d e = refl

pub merge_so : (a b c d : Bool) → (a && b) ≡ true → c ≡ true → d ≡ (a && (b && c) && d)
merge_so true true c d e h = ap (λ x. x && d) (sym h)
merge_so true false c d e h = absurd cc
merge_so false b c d e h = absurd cc
