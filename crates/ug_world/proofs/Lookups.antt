-- What is found among the routes of a speaker where some prefix has other paths, or none.
use Rattle.std.proofs.Common.{◌≡◌, ℕ, Bool, true, false, eqb, ◌&&◌, List, [], ◌∷◌, refl, ap, sym, subst, ◌∙◌, arith}
use Rattle.std.specs.Map.{lookup, remove_entry}
use Rattle.std.specs.BTreeMap.{insert_entry}
use Rattle.std.specs.Ordering.{eq_by_cmp, is_eq, nat_cmp, ordering_then, match_ordering}
use Rattle.std.specs.Cmp.{IsEquivalence, eq_by_cmp_equiv}
use Rattle.std.specs.declared.cmp.Ordering.{Ordering}
use Rattle.std.specs.declared.cmp.Ordering.TheVariants.{Less, Equal, Greater}
use Rattle.std.proofs.lemmas.Bool.Decides.{nat_tests}
use Rattle.ug_types.specs.Ip.{IpPrefix}
use Rattle.ug_types.specs.Keys.{prefix_cmp, prefix_cmp_total, same_prefix}
use Rattle.ug_types.specs.declared.family.Family.{Family}
use Rattle.ug_types.specs.declared.family.Family.TheVariants.{V4, V6}
use Rattle.ug_types.specs.declared.route.Path.{Path}
use Rattle.ug_world.specs.World.{Routes}

eq_is_same : (x y : ℕ) → is_eq (nat_cmp x y) ≡ eqb x y
eq_is_same x y = grind (arith, nat_tests)

then_eq : (x y : Ordering) → is_eq (ordering_then x y) ≡ (is_eq x && is_eq y)
then_eq Less y = refl
then_eq Equal y = refl
then_eq Greater y = refl

both_eq : (a b c d : ℕ) → is_eq (ordering_then (nat_cmp a b) (nat_cmp c d)) ≡ (eqb a b && eqb c d)
both_eq a b c d = then_eq (nat_cmp a b) (nat_cmp c d) ∙ ap (λ (x : Bool). x && is_eq (nat_cmp c d)) (eq_is_same a b) ∙ ap (λ (x : Bool). eqb a b && x) (eq_is_same c d)

tied_parts : (f g : Family) (a b c d : ℕ) → eq_by_cmp prefix_cmp (record { family = f; bits = a; len = c }) (record { family = g; bits = b; len = d }) ≡ same_prefix (record { family = f; bits = a; len = c }) (record { family = g; bits = b; len = d })
tied_parts V4 V4 a b c d = both_eq a b c d
tied_parts V6 V6 a b c d = both_eq a b c d
tied_parts V4 V6 a b c d = refl
tied_parts V6 V4 a b c d = refl

-- the order of prefixes ties the same ones
pub tied : (q k : IpPrefix) → eq_by_cmp prefix_cmp q k ≡ same_prefix q k
tied q k = tied_parts q.family k.family q.bits k.bits q.len k.len

pub same_prefix_equiv : IsEquivalence same_prefix
same_prefix_equiv = subst (λ (E : IpPrefix → IpPrefix → Bool). IsEquivalence E) (λ i q k. tied q k i) (eq_by_cmp_equiv prefix_cmp_total)

-- what is the same as another is apart from what the other is apart from
apart_alike : (q k x : IpPrefix) → same_prefix q k ≡ false → same_prefix k x ≡ true → same_prefix q x ≡ false
apart_alike q k x apart same = same_prefix_equiv.symm q x ∙ sym (same_prefix_equiv.congr k x q same) ∙ same_prefix_equiv.symm k q ∙ apart

module _ (q k : IpPrefix) (paths : List Path) (apart : same_prefix q k ≡ false) where
  pub lookup_inserted : (routes : Routes) → lookup (same_prefix q) (insert_entry prefix_cmp routes k paths) ≡ lookup (same_prefix q) routes
  lookup_inserted [] = rw apart refl
  lookup_inserted (e ∷ routes) = by_order (prefix_cmp k e.0) refl (lookup_inserted routes)
    where
      by_order : (o : Ordering) → prefix_cmp k e.0 ≡ o → lookup (same_prefix q) (insert_entry prefix_cmp routes k paths) ≡ lookup (same_prefix q) routes
          → lookup (same_prefix q) (match_ordering o ((k, paths) ∷ e ∷ routes) ((e.0, paths) ∷ routes) (e ∷ insert_entry prefix_cmp routes k paths)) ≡ lookup (same_prefix q) (e ∷ routes)
      by_order Less is h = rw apart refl
      by_order Equal is h = rw (apart_alike q k e.0 apart (sym (tied k e.0) ∙ ap is_eq is)) refl
      by_order Greater is h = rw h refl

  pub lookup_removed : (routes : Routes) → lookup (same_prefix q) (remove_entry (same_prefix k) routes) ≡ lookup (same_prefix q) routes
  lookup_removed [] = refl
  lookup_removed (e ∷ routes) = by_test (same_prefix k e.0) refl (lookup_removed routes)
    where
      by_test : (b : Bool) → same_prefix k e.0 ≡ b → lookup (same_prefix q) (remove_entry (same_prefix k) routes) ≡ lookup (same_prefix q) routes
          → lookup (same_prefix q) (remove_entry (same_prefix k) (e ∷ routes)) ≡ lookup (same_prefix q) (e ∷ routes)
      by_test true is h = rw (is, apart_alike q k e.0 apart is) refl
      by_test false is h = rw (is, h) refl
