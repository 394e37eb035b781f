-- How many prefixes and paths there are after a change of one prefix.
use Rattle.std.proofs.Common.{◌≡◌, ℕ, ◌+◌, ◌-◌, ◌<◌, ◌≤◌, false, List, [], ◌∷◌, length, Bool, Option, Some, None, refl, ap, sym, ◌∙◌, arith}
use Rattle.std.specs.Prelude.{true, ◌||◌, nat_lt, unwrap_or, is_some, if◌then◌else◌, sum_by}
use Rattle.std.specs.Option.{option_map}
use Rattle.std.specs.Map.{lookup, remove_entry, keys_of, values_of}
use Rattle.std.specs.BTreeMap.{insert_entry, is_at}
use Rattle.std.specs.List.Sorted.{IsStrictlySortedBy}
use Rattle.std.proofs.lemmas.Map.Entries.{sum_by-insert_entry, sum_by-remove_entry, length-values_of}
use Rattle.std.proofs.lemmas.List.Sums.{sum_by-cons}
use Rattle.std.proofs.lemmas.Bool.{le-ltb, ltb-false}
use Rattle.ug_types.specs.Ip.{IpPrefix}
use Rattle.ug_types.specs.Keys.{prefix_cmp, prefix_cmp_total, same_prefix}
use Rattle.ug_types.specs.declared.route.Path.{Path}
use Rattle.ug_world.specs.World.{Routes, paths_to}
use Rattle.ug_world.specs.Verdicts.{path_count, is_overfull}
use Rattle.ug_world.proofs.Lookups.{tied}

abbrev one_each : List Path → ℕ
one_each paths = 1

ones : (xs : List (List Path)) → sum_by one_each xs ≡ length xs
ones [] = refl
ones (x ∷ xs) = sum_by-cons one_each x xs ∙ ap (λ (n : ℕ). 1 + n) (ones xs) ∙ omega arith

weight : (found : Option (List Path)) → unwrap_or (option_map length found) 0 ≡ length (unwrap_or found [])
weight None = refl
weight (Some paths) = refl

weight_one : (found : Option (List Path)) → unwrap_or (option_map one_each found) 0 ≡ (if is_some found then 1 else 0)
weight_one None = refl
weight_one (Some paths) = refl

-- the paths of a prefix are some of all
pub removed_paths : (routes : Routes) (k : IpPrefix) → path_count (remove_entry (same_prefix k) routes) + length (paths_to routes k) ≡ path_count routes
removed_paths routes k =
    ap (λ (n : ℕ). path_count (remove_entry (same_prefix k) routes) + n) (sym (weight (lookup (same_prefix k) routes)))
    ∙ sum_by-remove_entry length (same_prefix k) routes

pub few_paths : (routes : Routes) (k : IpPrefix) → length (paths_to routes k) ≤ path_count routes
few_paths routes k = omega (arith, removed_paths routes k)

at_same : (k : IpPrefix) → ◌≡◌ {A = IpPrefix → Bool} (is_at (prefix_cmp k)) (same_prefix k)
at_same k = λ i x. tied k x i

module _ (routes : Routes) (k : IpPrefix) (paths : List Path) (sorted : IsStrictlySortedBy prefix_cmp (keys_of routes)) where
  pub inserted_paths : path_count (insert_entry prefix_cmp routes k paths) + length (paths_to routes k) ≡ path_count routes + length paths
  inserted_paths =
      ap (λ (n : ℕ). path_count (insert_entry prefix_cmp routes k paths) + n) (sym (weight (lookup (same_prefix k) routes)))
      ∙ ap (λ (test : IpPrefix → Bool). path_count (insert_entry prefix_cmp routes k paths) + unwrap_or (option_map length (lookup test routes)) 0) (sym (at_same k))
      ∙ sum_by-insert_entry length prefix_cmp_total routes k paths sorted

  pub inserted_prefixes : length (insert_entry prefix_cmp routes k paths) + (if is_some (lookup (same_prefix k) routes) then 1 else 0) ≡ length routes + 1
  inserted_prefixes =
      let all = insert_entry prefix_cmp routes k paths in
      ap (λ (n : ℕ). n + (if is_some (lookup (same_prefix k) routes) then 1 else 0)) (sym (length-values_of all) ∙ sym (ones (values_of all)))
      ∙ ap (λ (n : ℕ). sum_by one_each (values_of all) + n) (sym (weight_one (lookup (same_prefix k) routes)))
      ∙ ap (λ (test : IpPrefix → Bool). sum_by one_each (values_of all) + unwrap_or (option_map one_each (lookup test routes)) 0) (sym (at_same k))
      ∙ sum_by-insert_entry one_each prefix_cmp_total routes k paths sorted
      ∙ ap (λ (n : ℕ). n + 1) (ones (values_of routes) ∙ length-values_of routes)

pub less : (paths count before all given there after : ℕ) → paths ≡ all → given ≡ count → before ≡ there → after + there ≡ all + given → paths + count - before ≡ after
less paths count before all given there after p g b e = omega (arith, p, g, b, e)

pub one_less : (rows one all there after : ℕ) → rows ≡ all → one ≡ there → after + there ≡ all + 1 → rows + 1 - one ≡ after
one_less rows one all there after r o e = omega (arith, r, o, e)

-- where there is room for one prefix more and so many paths
pub not_over : (routes : Routes) (k : IpPrefix) (given : List Path) (count prefixes paths : ℕ) → IsStrictlySortedBy prefix_cmp (keys_of routes) → prefixes ≡ length routes → paths ≡ path_count routes
    → prefixes < 1048576 → paths + count ≤ 2097152 → length given ≡ count → is_overfull (insert_entry prefix_cmp routes k given) ≡ false
not_over routes k given count prefixes paths sorted are hold few some is =
    let e1 = inserted_prefixes routes k given sorted in
    let e2 = inserted_paths routes k given sorted in
    let a : nat_lt 1048576 (length (insert_entry prefix_cmp routes k given)) ≡ false = le-ltb _ _ (omega arith) in
    let b : nat_lt 2097152 (path_count (insert_entry prefix_cmp routes k given)) ≡ false = le-ltb _ _ (omega arith) in
    rw (a, b) refl

-- the paths of a table that isn't overfull
pub few_in_all : (rows paths : ℕ) → (nat_lt 1048576 rows || nat_lt 2097152 paths) ≡ false → paths ≤ 2097152
few_in_all rows paths e = ltb-false 2097152 paths (second (nat_lt 1048576 rows) (nat_lt 2097152 paths) e)
  where
    second : (a b : Bool) → (a || b) ≡ false → b ≡ false
    second true b e = absurd cc
    second false b e = e

pub counted : (paths count before all given there after : ℕ) → paths ≡ all → given ≡ count → before ≡ there → there ≤ all → after + there ≡ all + given → paths - before + count ≡ after
counted paths count before all given there after p g b few e = omega (arith, p, g, b, few, e)
