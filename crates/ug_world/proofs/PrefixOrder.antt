-- The rows of a map by prefix are routes: what is found, put in, taken out and stands behind a prefix.
use Rattle.std.proofs.Common.{◌≡◌, Bool, List, Option, Some, ap, ◌∙◌}
use Rattle.std.specs.Prelude.{[], unwrap_or}
use Rattle.std.specs.List.{filter}
use Rattle.std.specs.Ordering.{is_lt}
use Rattle.std.proofs.Math.Bool.{and-true}
use Rattle.std.specs.declared.ops.Bound.TheVariants.{Excluded, Unbounded}
use Rattle.std.specs.Map.{lookup, remove_entry}
use Rattle.std.specs.BTreeMap.{is_at}
use Rattle.std.specs.BTreeMap.Range.{range_contains, entries_between}
use Rattle.ug_types.specs.Ip.{IpPrefix}
use Rattle.ug_types.specs.Keys.{prefix_cmp, same_prefix}
use Rattle.ug_types.specs.declared.route.Path.{Path}
use Rattle.ug_world.specs.World.{Routes, paths_to}
use Rattle.ug_world.specs.Rows.{is_behind, rows_behind}
use Rattle.ug_world.proofs.Lookups.{tied}

-- a query finds the same prefix, and no other
pub found_same : (q : IpPrefix) → ◌≡◌ {A = IpPrefix → Bool} (is_at (prefix_cmp q)) (same_prefix q)
found_same q = λ i k. tied q k i

pub removed_same : {V : Type 0} (rows new : List (IpPrefix × V)) (k : IpPrefix) → new ≡ remove_entry (is_at (prefix_cmp k)) rows → new ≡ remove_entry (same_prefix k) rows
removed_same {V} rows new k e = e ∙ ap (λ (test : IpPrefix → Bool). remove_entry test rows) (found_same k)

-- the paths that a prefix had
pub were_paths : (rows routes : Routes) (k : IpPrefix) (old : Option (List Path)) → rows ≡ routes → old ≡ lookup (is_at (prefix_cmp k)) rows → unwrap_or old [] ≡ paths_to routes k
were_paths rows routes k old is e =
    ap (λ (o : Option (List Path)). unwrap_or o []) (e ∙ ap (λ (test : IpPrefix → Bool). lookup test rows) (found_same k) ∙ ap (lookup (same_prefix k)) is)

-- what lies between a prefix and the end stands behind the prefix
between_same : (p q : IpPrefix) → range_contains prefix_cmp (Excluded p) Unbounded q ≡ is_behind (Some p) q
between_same p q = and-true (is_lt (prefix_cmp p q))

pub behind_same : (rows : Routes) (q p : IpPrefix) → q ≡ p → entries_between prefix_cmp (Excluded q) Unbounded rows ≡ rows_behind (Some p) rows
behind_same rows q p same = (λ i. filter (λ (row : IpPrefix × List Path). between_same q row.0 i) rows) ∙ ap (λ (k : IpPrefix). rows_behind (Some k) rows) same
