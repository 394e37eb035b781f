-- Each segment keeps 1 to 255 numbers under the edits.
use Rattle.std.proofs.Common.{suc, not, ◌≡◌, ℕ, ◌≤◌, Bool, true, false, List, [], ◌∷◌, length, refl, arith}
use Rattle.std.proofs.lemmas.List.{length-map}
use Rattle.std.specs.Prelude.{◌&&◌, nat_lt, nat_le, filter, if◌then◌else◌}
use Rattle.std.specs.List.{list_all}
use Rattle.std.proofs.lemmas.Bool.Decides.{nat_tests}
use Rattle.ug_types.specs.Attributes.{PathSegment, is_segment}
use Rattle.ug_policy.specs.Paths.{sequence, prepended, with_numbers, public_numbers, has_numbers, in_place_of, overridden, without_private, AreSegments}

pub both : (a b : Bool) → (a && b) ≡ true → (a ≡ true) × (b ≡ true)
both true true e = (refl, refl)
both true false e = absurd cc
both false b e = absurd cc

pub and_true : (a b : Bool) → a ≡ true → b ≡ true → (a && b) ≡ true
and_true a b p q = rw (p, q) refl

pub length_filter : (test : ℕ → Bool) (ns : List ℕ) → length (filter test ns) ≤ length ns
length_filter test [] = omega arith
length_filter test (n ∷ ns) = one (test n) n ns (length_filter test ns)
  where
    one : (b : Bool) (m : ℕ) (ms : List ℕ) → length (filter test ms) ≤ length ms → length (if b then m ∷ filter test ms else filter test ms) ≤ length (m ∷ ms)
    one true m ms h = omega arith
    one false m ms h = omega arith

one_more : (n : ℕ) → nat_lt n 255 ≡ true → (nat_lt 0 (suc n) && nat_le (suc n) 255) ≡ true
one_more n lt = grind (arith, nat_tests)

pub prepended_kept : (asn : ℕ) (path : List PathSegment) → AreSegments path → AreSegments (prepended asn path)
prepended_kept asn [] h = refl
prepended_kept asn (s ∷ path) h = one (not s.is_set && nat_lt (length s.numbers) 255) refl
  where
    one : (b : Bool) → (not s.is_set && nat_lt (length s.numbers) 255) ≡ b → AreSegments (if b then sequence (asn ∷ s.numbers) ∷ path else sequence (asn ∷ []) ∷ s ∷ path)
    one true e = and_true _ _ (one_more (length s.numbers) (both (not s.is_set) (nat_lt (length s.numbers) 255) e).1) (both (is_segment s) (list_all is_segment path) h).1
    one false e = h

pub overridden_kept : (old new : ℕ) (path : List PathSegment) → AreSegments path → AreSegments (overridden old new path)
overridden_kept old new [] h = refl
overridden_kept old new (s ∷ path) h =
    let parts = both (is_segment s) (list_all is_segment path) h in
    rw (length-map s.numbers (in_place_of old new)) (and_true (is_segment s) (list_all is_segment (overridden old new path)) parts.0 (overridden_kept old new path parts.1))

fewer : (m n : ℕ) → m ≤ n → (nat_lt 0 n && nat_le n 255) ≡ true → nat_lt 0 m ≡ true → (nat_lt 0 m && nat_le m 255) ≡ true
fewer m n le h some = grind (arith, nat_tests)

one_kept : (b : Bool) (s : PathSegment) (path : List PathSegment) → (b ≡ true → is_segment s ≡ true) → AreSegments path → AreSegments (if b then s ∷ path else path)
one_kept true s path good h = and_true (is_segment s) (list_all is_segment path) (good refl) h
one_kept false s path good h = h

pub without_private_kept : (path : List PathSegment) → AreSegments path → AreSegments (without_private path)
without_private_kept [] h = refl
without_private_kept (s ∷ path) h =
    let parts = both (is_segment s) (list_all is_segment path) h in
    one_kept (has_numbers (with_numbers public_numbers s)) (with_numbers public_numbers s) (without_private path)
    (λ some. fewer (length (public_numbers s.numbers)) (length s.numbers) (length_filter _ s.numbers) parts.0 some) (without_private_kept path parts.1)
