-- Those of a class are changed, and all others stay as they are.
use Rattle.std.proofs.Common.{◌≡◌, ℕ, ◌<◌, ◌≤◌, ◌==◌, Bool, false, Option, Some, None, IfSome, IfNone, IsSome, length, drop, refl, sym, subst, ap, ◌∙◌, arith}
use Rattle.std.specs.Prelude.{if◌then◌else◌, slice_get}
use Rattle.std.specs.Option.{option_map}
use Rattle.std.proofs.lemmas.Option.{slice_get_within}
use Rattle.ug_intern.specs.Pools.{Pooled}
use Rattle.ug_types.specs.declared.route.OutAttrs.{OutAttrs}
use Rattle.ug_outbound.specs.declared.key.GroupKey.{GroupKey}
use Rattle.ug_group_rules.specs.Machine.{Subgroup}
use Rattle.ug_queue.specs.Spread.{value_of, flat}
use Rattle.ug_groups.specs.declared.entry.Entry.{Entry}
use Rattle.ug_groups.specs.Rows.{row_at, with_sub, of_key}
use Rattle.ug_groups.specs.Entries.{Entries, row_in, rows_in}
use Rattle.ug_groups.specs.Scans.{first_of}
use Rattle.ug_groups.specs.Sweeps.{IsClassOf, AreOthers}
use Rattle.ug_groups.proofs.Accounts.{row_at_is}
use Rattle.ug_groups.proofs.Scanned.{from_there, from_before, from_none}

-- one that is there is below the end
there_within : (xs : Entries) (g : ℕ) (e : Entry) → value_of g xs ≡ Some e → g < length xs
there_within xs g e is = by (slice_get xs g) refl is
  where
    by : (o : Option (Option Entry)) → slice_get xs g ≡ o → flat o ≡ Some e → g < length xs
    by None at is = absurd cc
    by (Some o) at is = slice_get_within xs g o at

module _ (class from : ℕ) (xs : Entries) where
  abbrev is_of : ℕ → Entry → Bool
  is_of g e = e.class == class

  pub there_in : (o : Option ℕ) → o ≡ first_of is_of from (drop from xs) → IfSome o (λ g. (from ≤ g) × IsSome (value_of g xs))
  there_in None is = tt
  there_in (Some g) is = let found = from_there is_of from g xs (sym is) in (found.0, subst IsSome (sym found.2) refl)

  pub below_in : (most : ℕ) → length xs ≤ most → (o : Option ℕ) → o ≡ first_of is_of from (drop from xs) → IfSome o (λ g. g < most)
  below_in most le None is = tt
  below_in most le (Some g) is = let found = from_there is_of from g xs (sym is) in let less = there_within xs g found.1 found.2 in omega (arith, less, le)

  pub skipped_in : (o : Option ℕ) → o ≡ first_of is_of from (drop from xs) → IfSome o (λ g. AreOthers from g class xs)
  skipped_in None is = tt
  skipped_in (Some g) is = λ k e low high there. from_before is_of from g k xs e (sym is) low high there

  pub none_in : (o : Option ℕ) → o ≡ first_of is_of from (drop from xs) → IfNone o (AreOthers from (length xs) class xs)
  none_in None is = λ k e low high there. from_none is_of from k xs e (sym is) low there
  none_in (Some g) is = tt

module _ (class : ℕ) (group : GroupKey) (change : Subgroup → Subgroup) (p : Pooled OutAttrs) (xs : Entries) (of_class : IsClassOf xs class group) where
  -- the row of one of another class
  pub row_passed : (k : ℕ) → ((e : Entry) → value_of k xs ≡ Some e → (e.class == class) ≡ false) → option_map (of_key group change) (row_at k (rows_in p xs)) ≡ row_at k (rows_in p xs)
  row_passed k others = by (value_of k xs) refl
    where
      at : row_at k (rows_in p xs) ≡ option_map (row_in p) (value_of k xs)
      at = row_at_is p xs k (rows_in p xs) refl

      by : (o : Option Entry) → value_of k xs ≡ o → option_map (of_key group change) (row_at k (rows_in p xs)) ≡ row_at k (rows_in p xs)
      by None e = let gone = at ∙ ap (option_map (row_in p)) e in ap (option_map (of_key group change)) gone ∙ sym gone
      by (Some x) e =
          let here = at ∙ ap (option_map (row_in p)) e in
          ap (option_map (of_key group change)) here
          ∙ ap (λ (b : Bool). Some (if b then with_sub change (row_in p x) else row_in p x)) (sym (of_class k x e) ∙ others x e)
          ∙ sym here
