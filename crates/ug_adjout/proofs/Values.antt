-- The values of the announcements, by their places.
use Rattle.std.proofs.Common.{◌≡◌, ℕ, List, [], ◌∷◌, slice_get, Option, Some, None, refl, sym, ap, subst, ◌∙◌}
use Rattle.std.specs.Option.{option_map}
use Rattle.std.specs.Ordering.{nat_cmp}
use Rattle.std.specs.BTreeMap.{is_at}
use Rattle.std.specs.Cmp.{nat_cmp_total}
use Rattle.std.specs.List.Sorted.{IsStrictlySortedBy}
use Rattle.std.specs.FinMap.{nat_cmp-IsAntisymmetric}
use Rattle.ug_adjout.specs.Tables.{value_at, with_value}
use Rattle.ug_adjout.specs.TableLaws.{removed_nothing}
use Rattle.ug_adjout.specs.declared.slot.Slot.{Slot}
use Rattle.ug_adjout.specs.declared.waiting.Waiting.{Waiting}
use Rattle.ug_adjout.specs.Waits.{first_announced, value_or}
use Rattle.ug_adjout.specs.Stored.{projected, projected_with, of_row}
use Rattle.ug_adjout.specs.Places.{value_of, by_place, IsIndexed, IsLine}
use Rattle.ug_adjout.proofs.Lists.{value_at-projected, projected-with_value}
use Rattle.ug_adjout.proofs.ByPlace.{placed_is, indexed_itself}

first_step : {K V : Type 0} (f : V → Option ℕ) (p : K) (o : Option ℕ) (es : List (K × ℕ)) (rest : Option ℕ) → option_map (λ (e : K × ℕ). e.1) (slice_get es 0) ≡ rest
    → option_map (λ (e : K × ℕ). e.1) (slice_get (projected_with f p o es) 0) ≡ value_or o rest
first_step f p None es rest h = h
first_step f p (Some v) es rest h = refl

module _ {K : Type 0} where
  first_is : (waiting : List (ℕ × Waiting K)) → option_map (λ (e : ℕ × ℕ). e.1) (slice_get (projected (value_of {K = K}) waiting) 0) ≡ first_announced waiting
  first_is [] = refl
  first_is (e ∷ es) = first_step (value_of {K = K}) e.0 e.1.value (projected (value_of {K = K}) es) (first_announced es) (first_is es)

  nothing_indexed : IsIndexed {K = K} [] []
  unfolding IsStrictlySortedBy
  nothing_indexed = record { in_line = tt; in_order = tt; listed = λ value place. refl }

  -- a list in which nothing waits
  pub nothing_waits : (keys : List (Slot × K)) (announced : List (ℕ × ℕ)) → keys ≡ [] → announced ≡ [] → IsLine keys announced
  nothing_waits keys announced k a = subst (λ ks. IsLine ks announced) (sym k) (subst (IsLine []) (sym a) (record { indexed = nothing_indexed; values = refl }))

  module _ (keys : List (Slot × K)) (announced : List (ℕ × ℕ)) (s : IsLine keys announced) where
    pub first_told : option_map (λ (e : ℕ × ℕ). e.1) (slice_get announced 0) ≡ first_announced (by_place keys)
    first_told = ap (λ l. option_map (λ (x : ℕ × ℕ). x.1) (slice_get l 0)) s.values ∙ first_is (by_place keys)

    -- keys and announcements that change at one place
    pub line : (place : ℕ) (w : Option (Waiting K)) (later : List (Slot × K)) (now : List (ℕ × ℕ)) → IsIndexed later (with_value nat_cmp (by_place keys) place w) → now ≡ with_value nat_cmp announced place (of_row value_of w) → IsLine later now
    line place w later now i e = record {
      indexed = indexed_itself later _ i;
      values =
          e ∙ ap (λ l. with_value nat_cmp l place (of_row value_of w)) s.values ∙ sym (projected-with_value nat_cmp_total nat_cmp-IsAntisymmetric value_of (by_place keys) place w s.indexed.in_line)
          ∙ ap (projected value_of) (sym (placed_is later _ i));
    }

    -- where no announcement waits at a place none has to go
    pub none_there : (place : ℕ) (o : Option (Waiting K)) → value_at nat_cmp (by_place keys) place ≡ o → of_row value_of o ≡ None → announced ≡ with_value nat_cmp announced place None
    none_there place o is none =
        sym (removed_nothing nat_cmp_total nat_cmp-IsAntisymmetric (is_at (nat_cmp place)) announced
        (ap (λ l. value_at nat_cmp l place) s.values ∙ value_at-projected nat_cmp_total nat_cmp-IsAntisymmetric value_of (by_place keys) place s.indexed.in_line ∙ ap (of_row value_of) is ∙ none))
