-- A map's values, found by their keys.
use Rattle.std.proofs.Common.{◌≡◌, Bool, true, false, cond, List, [], ◌∷◌, Option, Some, None, Ordering, refl, sym, ◌∙◌, ap}
use Rattle.std.specs.Prelude.{if◌then◌else◌}
use Rattle.std.specs.Map.{lookup}
use Rattle.std.specs.BTreeMap.{is_at}
use Rattle.ug_types.specs.declared.key.Key.{Key}
use Rattle.ug_types.specs.Keys.{same_key}
use Rattle.ug_types.specs.Orders.{key_cmp}
use Rattle.ug_hearing.specs.Keyed.{value_for}
use Rattle.ug_hearing.proofs.Keys.{tied_by}

pub lookup-alike : {K X : Type 0} (f h : K → Bool) → ((k : K) → f k ≡ h k) → (es : List (K × X)) → lookup f es ≡ lookup h es
lookup-alike f h same [] = refl
lookup-alike {K} {X} f h same (e ∷ es) = by (f e.0) (h e.0) (same e.0) (lookup-alike f h same es)
  where
    by : (a b : Bool) → a ≡ b → lookup f es ≡ lookup h es → cond a (Some e.1) (lookup f es) ≡ cond b (Some e.1) (lookup h es)
    by true true s rest = refl
    by false false s rest = rest
    by true false s rest = absurd cc
    by false true s rest = absurd cc

module _ {X : Type 0} (cmp : Key → Key → Ordering) (same : (a b : Key) → cmp a b ≡ key_cmp a b) where
  pub found-by : (entries : List (Key × X)) (key : Key) → lookup (is_at (cmp key)) entries ≡ value_for entries key
  found-by entries key = lookup-alike (is_at (cmp key)) (same_key key) (λ q. tied_by cmp same key q) entries

  pub put-by : (old new : List (Key × X)) (key : Key) (v : X) → ((q : Key) → lookup (is_at (cmp q)) new ≡ cond (is_at (cmp key) q) (Some v) (lookup (is_at (cmp q)) old))
      → (q : Key) → value_for new q ≡ (if same_key key q then Some v else value_for old q)
  put-by old new key v h q =
      sym (found-by new q)
      ∙ (h q
      ∙ (ap (λ (b : Bool). cond b (Some v) (lookup (is_at (cmp q)) old)) (tied_by cmp same key q) ∙ ap (λ (o : Option X). if same_key key q then Some v else o) (found-by old q)))

  pub removed-by : (old new : List (Key × X)) (key : Key) → ((q : Key) → lookup (is_at (cmp q)) new ≡ cond (is_at (cmp key) q) None (lookup (is_at (cmp q)) old))
      → (q : Key) → value_for new q ≡ (if same_key key q then None else value_for old q)
  removed-by old new key h q =
      sym (found-by new q)
      ∙ (h q
      ∙ (ap (λ (b : Bool). cond b None (lookup (is_at (cmp q)) old)) (tied_by cmp same key q) ∙ ap (λ (o : Option X). if same_key key q then None else o) (found-by old q)))
