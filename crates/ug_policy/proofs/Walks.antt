-- One entry of the walk.
use Rattle.std.proofs.Common.{◌≡◌, ℕ, ◌+◌, ◌<◌, suc, Bool, true, false, nat_lt, List, [], ◌∷◌, length, map, drop, get_or, Option, Some, None, ap, sym, ◌∙◌, add-one, arith, drop-cons}
use Rattle.std.specs.List.{list_all}
use Rattle.ug_types.specs.Attributes.{Attributes}
use Rattle.ug_policy.proofs.KeptSegments.{both}
use Rattle.ug_policy.specs.declared.map_entry.MapEntry.{MapEntry}
use Rattle.ug_policy.specs.declared.mapped.Mapped.{Mapped}
use Rattle.ug_policy.specs.Rules.{MapRule, rule_of}
use Rattle.ug_policy.specs.Maps.{mapped_by, so_far, goes_to, map_walk}
use Rattle.ug_policy.specs.Refusals.{is_origin, sets_origin, SetOrigins}
use Prim.Native.Nat.{zero}

-- the entries from i on begin with the one at i
pub here : (es : List MapEntry) (i : ℕ) (e : MapEntry) → i < length es → e ≡ get_or es i e → drop i es ≡ e ∷ drop (i + 1) es
here es i e inside is = drop-cons es i e inside ∙ ap (λ (x : MapEntry). x ∷ drop (suc i) es) (sym is) ∙ ap (λ (k : ℕ). e ∷ drop k es) (sym (add-one i))

pub origin_at : (es : List MapEntry) (i : ℕ) (e : MapEntry) → i < length es → e ≡ get_or es i e → SetOrigins (map rule_of es) → is_origin e.set_origin ≡ true
origin_at [] i e inside is h = absurd (omega arith)
origin_at (f ∷ es) zero e inside is h = rw is (both (is_origin f.set_origin) (list_all sets_origin (map rule_of es)) h).0
origin_at (f ∷ es) (suc i) e inside is h = origin_at es i e (omega arith) is (both (is_origin f.set_origin) (list_all sets_origin (map rule_of es)) h).1

module _ (met : Attributes → MapRule → Bool) (given : Attributes) (least : ℕ) (mapped : Option Mapped) (r : MapRule) (rules : List MapRule) (m : Mapped) where
  -- after a permit entry that is met the walk goes on, or ends
  pub walk_goes_on : (next : ℕ) → nat_lt r.seq least ≡ false → met (so_far given mapped).attrs r ≡ true → r.permit ≡ true → m ≡ mapped_by r (so_far given mapped) → goes_to r.on_match least ≡ Some next
      → map_walk met given least mapped (r ∷ rules) ≡ map_walk met given next (Some m) rules
  walk_goes_on next ahead is_met permit is to = rw (ahead, is_met, permit, to) (ap (λ (n : Mapped). map_walk met given next (Some n) rules) (sym is))

  pub walk_ends : nat_lt r.seq least ≡ false → met (so_far given mapped).attrs r ≡ true → r.permit ≡ true → m ≡ mapped_by r (so_far given mapped) → goes_to r.on_match least ≡ None
      → map_walk met given least mapped (r ∷ rules) ≡ Some m
  walk_ends ahead is_met permit is to = rw (ahead, is_met, permit, to) (ap (λ (n : Mapped). Some n) (sym is))
