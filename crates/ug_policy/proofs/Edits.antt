-- Edits of segments on the heap are edits of the path that they show.
use Rattle.std.proofs.Common.{◌≡◌, ℕ, ◌+◌, suc, Bool, true, false, not, List, [], ◌∷◌, ◌++◌, length, map, take, drop, Some, refl, ap, sym, ◌∙◌, append_assoc, add-one}
use Rattle.std.specs.Prelude.{◌&&◌, filter, slice_get, slice_set, nat_lt, if◌then◌else◌}
use Rattle.std.proofs.lemmas.List.{map-append}
use Rattle.ug_types.specs.Attributes.{PathSegment, segment_of}
use Rattle.ug_types.specs.declared.attrs.Segment.{Segment}
use Rattle.ug_types.specs.Listed.{Listed}
use Rattle.ug_policy.specs.Paths.{sequence, begins_with_room, prepended}
use Prim.Native.Nat.{zero}

some_is : {X : Type 0} (x y : X) → Some x ≡ Some y → x ≡ y
some_is x y e = cc

-- a list after a write at i: what stood before, what was written, and what stands behind
pub record Written {X : Type 0} (xs : List X) (i : ℕ) (x w : X) : Type 0 where
  pub before : take (suc i) (slice_set xs i w) ≡ take i xs ++ w ∷ []
  pub behind : drop (suc i) (slice_set xs i w) ≡ drop (suc i) xs
  pub here : drop i xs ≡ x ∷ drop (suc i) xs

pub written : {X : Type 0} (xs : List X) (i : ℕ) (x w : X) → slice_get xs i ≡ Some x → Written xs i x w
written [] i x w at = absurd cc
written (y ∷ ys) zero x w at = record { before = refl; behind = refl; here = ap (λ z. z ∷ ys) (some_is y x at) }
written (y ∷ ys) (suc i) x w at =
    let rest = written ys i x w at in
    record { before = ap (λ zs. y ∷ zs) rest.before; behind = rest.behind; here = rest.here }

-- one number more is edited
pub number_step : (edit : ℕ → ℕ) (xs : List ℕ) (i x w : ℕ) (whole : List ℕ) → slice_get xs i ≡ Some x → w ≡ edit x
    → take i xs ++ map edit (drop i xs) ≡ whole
    → take (i + 1) (slice_set xs i w) ++ map edit (drop (i + 1) (slice_set xs i w)) ≡ whole
number_step edit xs i x w whole at made h =
    let at_i = written xs i x w at in
    let rest = map edit (drop (suc i) xs) in
    rw (add-one, at_i.before, at_i.behind)
    (append_assoc (take i xs) (w ∷ []) rest
    ∙ ap (λ y. take i xs ++ y ∷ rest) made
    ∙ ap (λ ys. take i xs ++ map edit ys) (sym at_i.here)
    ∙ h)

abbrev pub shown_as : Bool → List ℕ → PathSegment
shown_as is_set ns = record { is_set = is_set; numbers = ns }

-- one segment more is edited
pub segment_step : (edit : PathSegment → PathSegment) (xs : List Segment) (i : ℕ) (x w : Segment) (whole : List PathSegment)
    → slice_get xs i ≡ Some x → segment_of w ≡ edit (segment_of x)
    → map segment_of (take i xs) ++ map edit (map segment_of (drop i xs)) ≡ whole
    → map segment_of (take (i + 1) (slice_set xs i w)) ++ map edit (map segment_of (drop (i + 1) (slice_set xs i w))) ≡ whole
segment_step edit xs i x w whole at made h =
    let at_i = written xs i x w at in
    let rest = map edit (map segment_of (drop (suc i) xs)) in
    rw (add-one, at_i.before, at_i.behind)
    (ap (λ ys. ys ++ rest) (map-append segment_of (take i xs) (w ∷ []))
    ∙ append_assoc (map segment_of (take i xs)) (segment_of w ∷ []) rest
    ∙ ap (λ y. map segment_of (take i xs) ++ y ∷ rest) made
    ∙ ap (λ ys. map segment_of (take i xs) ++ map edit (map segment_of ys)) (sym at_i.here)
    ∙ h)

-- what a test keeps of the segments shows what it keeps of the path
pub map_filter : (test : PathSegment → Bool) (xs : List Segment) → map segment_of (filter (λ x. test (segment_of x)) xs) ≡ filter test (map segment_of xs)
map_filter test [] = refl
map_filter test (x ∷ xs) = filter_one (test (segment_of x)) x xs (map_filter test xs)
  where
    filter_one : (b : Bool) (y : Segment) (ys : List Segment) → map segment_of (filter (λ z. test (segment_of z)) ys) ≡ filter test (map segment_of ys)
        → map segment_of (if b then y ∷ filter (λ z. test (segment_of z)) ys else filter (λ z. test (segment_of z)) ys) ≡ (if b then segment_of y ∷ filter test (map segment_of ys) else filter test (map segment_of ys))
    filter_one true y ys e = ap (λ zs. segment_of y ∷ zs) e
    filter_one false y ys e = e

-- a number that is put in front of the first segment's is in front of the path
pub into_first : (asn : ℕ) (xs : List Segment) (s : Segment) (n : Listed ℕ) → begins_with_room (map segment_of xs) ≡ true → slice_get xs 0 ≡ Some s → n.items ≡ asn ∷ s.numbers.items
    → map segment_of (slice_set xs 0 (record { is_set = s.is_set; numbers = n })) ≡ prepended asn (map segment_of xs)
into_first asn [] s n room at made = absurd cc
into_first asn (x ∷ xs) s n room at made =
    let same : x ≡ s = some_is x s at in
    let sequence_it : s.is_set ≡ false = ap (λ (t : Segment). t.is_set) (sym same) ∙ (both_of x.is_set (nat_lt (length x.numbers.items) 255) room) in
    rw (room, made, sequence_it) (ap (λ (t : Segment). sequence (asn ∷ t.numbers.items) ∷ map segment_of xs) (sym same))
  where
    both_of : (a b : Bool) → (not a && b) ≡ true → a ≡ false
    both_of true b e = absurd cc
    both_of false b e = refl

pub first_kept : (xs : List Segment) (s : Segment) (n : Listed ℕ) → slice_get xs 0 ≡ Some s → n.items ≡ s.numbers.items
    → map segment_of (slice_set xs 0 (record { is_set = s.is_set; numbers = n })) ≡ map segment_of xs
first_kept [] s n at made = absurd cc
first_kept (x ∷ xs) s n at made = rw made (ap (λ (t : Segment). segment_of t ∷ map segment_of xs) (sym (some_is x s at)))
