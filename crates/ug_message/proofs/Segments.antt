-- How many bytes the segments of a path take, from one to the next.
use Rattle.std.proofs.Common.{◌≡◌, ℕ, ◌+◌, ◌*◌, ◌<◌, List, ◌∷◌, length, map, drop, sym, ap, ◌∙◌, arith, length-append}
use Rattle.std.specs.Prelude.{slice_index_or}
use Rattle.std.proofs.lemmas.List.{drop_more}
use Rattle.ug_types.specs.declared.attrs.Segment.{Segment}
use Rattle.ug_types.specs.Attributes.{segment_of}
use Rattle.ug_message.specs.Spelling.{segment, segments}
use Rattle.ug_message.proofs.Heads.{length_numbers}

length_cons : (s : Segment) (path : List Segment) → length (segments (map segment_of (s ∷ path))) ≡ 2 + 4 * length s.numbers.items + length (segments (map segment_of path))
length_cons s path = omega (arith, length-append (segment (segment_of s)) (segments (map segment_of path)), length_numbers s.numbers.items)

pub rest_segments : (path : List Segment) (i : ℕ) (s : Segment) → i < length path → s ≡ slice_index_or path i s
    → length (segments (map segment_of (drop i path))) ≡ 2 + 4 * length s.numbers.items + length (segments (map segment_of (drop (i + 1) path)))
rest_segments path i s inside is =
    ap (λ (l : List Segment). length (segments (map segment_of l))) (drop_more path i s inside ∙ ap (λ (x : Segment). x ∷ drop (i + 1) path) (sym is))
    ∙ length_cons s (drop (i + 1) path)
