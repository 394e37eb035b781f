-- Bytes put in place of others.
use Rattle.std.proofs.Common.{◌≡◌, ℕ, ◌+◌, ◌≤◌, List, ◌++◌, length, take, drop, Option, Some, sym, ap, ◌∙◌, arith, append_assoc}
use Rattle.std.specs.List.{splice}
use Rattle.std.proofs.lemmas.List.{take-append-drop, take-append-le, drop-append-le}
use Rattle.std.proofs.lemmas.Slice.{take-put_mid, drop-put_mid}
use borrow.Rule.Slice.PartMut.{put_mid}
use Rattle.std.specs.Int.{w128, to_be_bytes}
use Rattle.ug_types.specs.declared.family.Family.{Family}
use Rattle.ug_types.specs.declared.family.Family.TheVariants.{V6}
use Rattle.ug_types.specs.Ip.{IpAddress}
use Rattle.ug_message.specs.Packets.{address_size, address_bytes, with_address}

pub put_mid_is : (place k : ℕ) (xs ys : List ℕ) → place + k ≤ length xs → length ys ≡ k → put_mid place k xs ys ≡ splice xs place (place + k) ys
put_mid_is place k xs ys fits len =
    sym (take-append-drop (place + k) (put_mid place k xs ys)) ∙ ap (λ (front : List ℕ). front ++ drop (place + k) (put_mid place k xs ys)) (take-put_mid place k xs ys (place + k) (omega (arith, len)) (omega (arith, fits)))
    ∙ ap (λ (back : List ℕ). (take place xs ++ ys) ++ back) (drop-put_mid place k xs ys (place + k) (omega arith) (omega (arith, fits)) len) ∙ append_assoc (take place xs) ys (drop (place + k) xs)

regrouped : (a b c d : List ℕ) → a ++ (b ++ (c ++ d)) ≡ (a ++ (b ++ c)) ++ d
regrouped a b c d = simp (append_assoc)

-- in the front of a longer list
spliced_front : (i j : ℕ) (xs rest ys : List ℕ) → i ≤ j → j ≤ length xs → splice (xs ++ rest) i j ys ≡ splice xs i j ys ++ rest
spliced_front i j xs rest ys le fits =
    ap (λ (front : List ℕ). front ++ (ys ++ drop j (xs ++ rest))) (take-append-le i xs rest (omega (arith, le, fits)))
    ∙ ap (λ (back : List ℕ). take i xs ++ (ys ++ back)) (drop-append-le j xs rest fits)
    ∙ regrouped (take i xs) ys (drop j xs) rest

copied_front : (bytes buf : List ℕ) → splice buf 0 (0 + length bytes) bytes ≡ bytes ++ drop (length bytes) buf
copied_front bytes buf = let none : 0 + length bytes ≡ length bytes = omega arith in ap (λ (n : ℕ). bytes ++ drop n buf) none

pub sixteen_put : (place : ℕ) (a : IpAddress) (bytes buf new : List ℕ) → a.family ≡ V6 → bytes ≡ to_be_bytes w128 a.bits → new ≡ splice buf place (place + length (take 16 bytes)) (take 16 bytes)
    → new ≡ with_address (Some place) a buf
sixteen_put place a bytes buf new family is put =
    put ∙ ap (λ (b : List ℕ). splice buf place (place + length (take 16 b)) (take 16 b)) is
    ∙ ap (λ (f : Family). splice buf place (place + address_size f) (take (address_size f) (to_be_bytes w128 a.bits))) (sym family)

pub patched : (place : ℕ) (hop : IpAddress) (at : Option ℕ) (bytes buf mid new : List ℕ) → at ≡ Some place → place + address_size hop.family ≤ length bytes → mid ≡ splice buf 0 (0 + length bytes) bytes
    → new ≡ with_address (Some place) hop mid → new ≡ with_address at hop bytes ++ drop (length bytes) buf
patched place hop at bytes buf mid new is fits copied put =
    put ∙ ap (λ (m : List ℕ). with_address (Some place) hop m) (copied ∙ copied_front bytes buf)
    ∙ spliced_front place (place + address_size hop.family) bytes (drop (length bytes) buf) (address_bytes hop) (omega arith) fits
    ∙ ap (λ (p : Option ℕ). with_address p hop bytes ++ drop (length bytes) buf) (sym is)
