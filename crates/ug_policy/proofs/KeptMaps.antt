-- What an entry sets keeps attributes well formed.
use Rattle.std.proofs.Common.{◌≡◌, ℕ, true, List, [], ◌∷◌, Option, Some, None}
use Rattle.std.specs.Prelude.{nat_le, unwrap_or}
use Rattle.std.specs.List.{list_all}
use Rattle.ug_types.specs.Attributes.{PathSegment, Attributes, is_segment, is_well_formed}
use Rattle.ug_policy.specs.Paths.{AreSegments}
use Rattle.ug_policy.proofs.KeptSegments.{both, and_true, prepended_kept}
use Rattle.ug_policy.specs.Rules.{MapRule}
use Rattle.ug_policy.specs.Maps.{all_prepended, with_sets}
use Rattle.ug_policy.specs.Refusals.{is_origin}

pub all_prepended_kept : (ns : List ℕ) (path : List PathSegment) → AreSegments path → AreSegments (all_prepended ns path)
all_prepended_kept [] path h = h
all_prepended_kept (n ∷ ns) path h = prepended_kept n (all_prepended ns path) (all_prepended_kept ns path h)

origin_kept : (given : Option ℕ) (there : ℕ) → is_origin given ≡ true → nat_le there 2 ≡ true → nat_le (unwrap_or given there) 2 ≡ true
origin_kept None there g t = t
origin_kept (Some origin) there g t = g

pub with_sets_kept : (r : MapRule) (a : Attributes) → is_origin r.set_origin ≡ true → is_well_formed a ≡ true → is_well_formed (with_sets r a) ≡ true
with_sets_kept r a origin h =
    let parts = both (list_all is_segment a.path) (nat_le a.origin 2) h in
    and_true _ _ (all_prepended_kept (unwrap_or r.set_prepend []) a.path parts.0) (origin_kept r.set_origin a.origin origin parts.1)
