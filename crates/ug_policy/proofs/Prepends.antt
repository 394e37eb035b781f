-- Numbers put in front one by one, the last first.
use Rattle.std.proofs.Common.{◌≡◌, ℕ, ◌<◌, suc, List, [], ◌∷◌, length, take, slice_index_or, refl, sym, ap, ◌∙◌, arith}
use Rattle.ug_types.specs.Attributes.{PathSegment}
use Rattle.ug_policy.specs.Paths.{prepended}
use Rattle.ug_policy.specs.Maps.{all_prepended}
use Prim.Native.Nat.{zero}

one_more : (ns : List ℕ) (i d : ℕ) (path : List PathSegment) → i < length ns
    → all_prepended (take (suc i) ns) path ≡ all_prepended (take i ns) (prepended (slice_index_or ns i d) path)
one_more [] i d path lt = absurd (omega arith)
one_more (n ∷ ns) zero d path lt = refl
one_more (n ∷ ns) (suc i) d path lt = ap (prepended n) (one_more ns i d path (omega arith))

pub prepended_more : (ns : List ℕ) (i j d : ℕ) (path : List PathSegment) → j ≡ suc i → i < length ns
    → all_prepended (take i ns) (prepended (slice_index_or ns i d) path) ≡ all_prepended (take j ns) path
prepended_more ns i j d path e lt = sym (one_more ns i d path lt) ∙ ap (λ k. all_prepended (take k ns) path) (sym e)
