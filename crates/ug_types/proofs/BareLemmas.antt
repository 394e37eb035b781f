-- Comparing attributes does not look at the room that lists have to spare.
use Rattle.std.proofs.Common.{◌≡◌, suc, ◌&&◌, List, [], ◌∷◌, ◌++◌, map, length, refl, ap}
use Rattle.std.specs.Cmp.Lexicographic.{pointwise}
use Rattle.std.specs.List.{flat_map}
use Rattle.ug_types.specs.declared.attrs.Segment.{Segment}
use Rattle.ug_types.specs.declared.attrs.AttrParts.{AttrParts}
use Rattle.ug_types.specs.Attributes.{segment_of, attributes_of}
use Rattle.ug_types.specs.Bare.{bare_segment, bare_parts}
use Rattle.ug_types.specs.contracts.attrs.SegmentPartialEq.TheImpl as segment_eq
use Rattle.ug_types.specs.contracts.attrs.SegmentHash.TheImpl as segment_hash
use Rattle.ug_types.specs.contracts.attrs.AttrPartsPartialEq.TheImpl as parts_eq
use Rattle.ug_types.specs.contracts.attrs.AttrPartsHash.TheImpl as parts_hash

abbrev bare : List Segment → List Segment
bare segments = map bare_segment (map segment_of segments)

pub segments_eq : (xs ys : List Segment) → pointwise segment_eq.ghosts.eq (bare xs) (bare ys) ≡ pointwise segment_eq.ghosts.eq xs ys
segments_eq [] [] = refl
segments_eq [] (y ∷ ys) = refl
segments_eq (x ∷ xs) [] = refl
segments_eq (x ∷ xs) (y ∷ ys) = ap (λ b. segment_eq.ghosts.eq x y && b) (segments_eq xs ys)

pub segments_hash : (xs : List Segment) → flat_map segment_hash.ghosts.hash_input (bare xs) ≡ flat_map segment_hash.ghosts.hash_input xs
segments_hash [] = refl
segments_hash (x ∷ xs) = ap (λ w. segment_hash.ghosts.hash_input x ++ w) (segments_hash xs)

pub segments_length : (xs : List Segment) → length (bare xs) ≡ length xs
segments_length [] = refl
segments_length (x ∷ xs) = ap suc (segments_length xs)

pub parts_eq_bare : (p q : AttrParts) → parts_eq.ghosts.eq (bare_parts (attributes_of p)) (bare_parts (attributes_of q)) ≡ parts_eq.ghosts.eq p q
parts_eq_bare p q = rw (segments_eq p.path.items q.path.items) refl

pub parts_hash_bare : (p : AttrParts) → parts_hash.ghosts.hash_input (bare_parts (attributes_of p)) ≡ parts_hash.ghosts.hash_input p
parts_hash_bare p = rw (segments_hash p.path.items, segments_length p.path.items) refl
