-- How much attributes grow on their way out.
use Rattle.std.proofs.Common.{◌≡◌, ℕ, ◌+◌, ◌≤◌, suc, Bool, true, false, not, nat_lt, List, [], ◌∷◌, ◌++◌, length, Option, Some, None, refl, sym, ◌∙◌, subst, arith, length-append}
use Rattle.std.specs.Prelude.{◌||◌, nat_le, unwrap_or, if◌then◌else◌}
use Rattle.std.specs.Option.{option_map}
use Rattle.std.proofs.lemmas.Bool.{ltb-false}
use Rattle.std.proofs.lemmas.Bool.Decides.{nat_tests}
use Rattle.std.proofs.lemmas.List.Sums.{sum_by-cons}
use Rattle.ug_types.specs.declared.family.Family.{Family}
use Rattle.ug_types.specs.declared.family.Family.TheVariants.{V4, V6}
use Rattle.ug_types.specs.Ip.{IpAddress, IpPrefix}
use Rattle.ug_types.specs.Attributes.{Attributes, numbers_in, is_well_formed, refusal_of}
use Rattle.ug_message.specs.Spelling.{attributes, attributes_but_next_hop}
use Rattle.ug_types.specs.declared.route.Learned.{Learned}
use Rattle.ug_types.specs.declared.route.Learned.TheVariants as learned
use Rattle.ug_types.specs.declared.route.Path.{Path}
use Rattle.ug_types.specs.declared.route.OutAttrs.{OutAttrs}
use Rattle.ug_policy.proofs.KeptSegments.{both}
use Rattle.ug_policy.specs.Named.{NamedList, value_named}
use Rattle.ug_policy.specs.declared.mapped.Mapped.{Mapped}
use Rattle.ug_policy.specs.Rules.{MapRule}
use Rattle.ug_policy.specs.Maps.{holds, is_met, added, with_sets, mapped_by, unmapped, so_far, goes_to, goes_on, map_walk}
use Rattle.ug_policy.specs.Refusals.{count_in, prepends_in, communities_in}
use Rattle.ug_outbound.specs.declared.settings.Local.{Local}
use Rattle.ug_outbound.specs.declared.kind.Kind.{Kind}
use Rattle.ug_outbound.specs.declared.kind.Kind.TheVariants.{External, Internal, Client}
use Rattle.ug_outbound.specs.declared.key.GroupKey.{GroupKey}
use Rattle.ug_outbound.specs.Tables.{Tables}
use Rattle.ug_outbound.specs.Outbound.{reflected, mapped_by_map, mapped, heeded, communities_out, finished, is_let_out, out}
use Rattle.ug_outbound.specs.Bounds.{FewSets, SetsFew}
use Rattle.ug_outbound.proofs.Mapping.{out_is_after, reflect}
use Rattle.ug_outbound.proofs.Paths.{behind, behind_at_most, behind_more, all_numbers, all_behind, out_numbers, out_length}
use Rattle.ug_outbound.proofs.Bytes.{few_bytes, length_but_next_hop}

-- attributes from within, with k numbers put in front and c communities set or added since
pub record Grown (k c : ℕ) (a : Attributes) : Type 0 where
  pub numbers : numbers_in a.path ≤ 300 + k
  pub segments : behind k a.path ≤ 16
  pub communities : length a.communities ≤ 128 + c
  pub clusters : length a.clusters ≤ 32

grown_more : (j k c d : ℕ) (a : Attributes) → j ≤ k → c ≤ d → Grown j c a → Grown k d a
grown_more j k c d a le lf g = record {
  numbers = omega (arith, g.numbers);
  segments = omega (arith, g.segments, behind_more j k a.path le);
  communities = omega (arith, g.communities);
  clusters = g.clusters;
}

length_added : (ns there : List ℕ) → length (added ns there) ≤ length there + length ns
length_added [] there = omega arith
length_added (n ∷ ns) there = one (holds n there) (length_added ns there) (length_added ns (there ++ n ∷ []))
  where
    one : (b : Bool) → length (added ns there) ≤ length there + length ns → length (added ns (there ++ n ∷ [])) ≤ length (there ++ n ∷ []) + length ns
        → length (added ns (if b then there else there ++ n ∷ [])) ≤ length there + length (n ∷ ns)
    one true held more = omega (arith, held)
    one false held more = omega (arith, more, length-append there (n ∷ []))

length_set : (given : Option (List ℕ)) (there : List ℕ) → length (unwrap_or given there) ≤ length there + count_in given
length_set None there = omega arith
length_set (Some ns) there = omega arith

sets_grow : (k c : ℕ) (r : MapRule) (a : Attributes) → k + count_in r.set_prepend ≤ 16 → Grown k c a
    → Grown (k + count_in r.set_prepend) (c + (count_in r.set_communities + count_in r.add_communities)) (with_sets r a)
sets_grow k c r a few g =
    let ns = unwrap_or r.set_prepend [] in
    let adds = unwrap_or r.add_communities [] in
    let there = unwrap_or r.set_communities a.communities in
    record {
      numbers = omega (arith, g.numbers, all_numbers ns a.path);
      segments = omega (arith, g.segments, all_behind k ns a.path (omega (arith, few)));
      communities = omega (arith, g.communities, length_added adds there, length_set r.set_communities a.communities);
      clusters = g.clusters;
    }

some_is : {X : Type 0} (x y : X) → Some x ≡ Some y → x ≡ y
some_is x y e = cc

prepends_cons : (r : MapRule) (rules : List MapRule) → prepends_in (r ∷ rules) ≡ count_in r.set_prepend + prepends_in rules
prepends_cons r rules = sum_by-cons (λ (q : MapRule). count_in q.set_prepend) r rules

communities_cons : (r : MapRule) (rules : List MapRule) → communities_in (r ∷ rules) ≡ count_in r.set_communities + count_in r.add_communities + communities_in rules
communities_cons r rules = sum_by-cons (λ (q : MapRule). count_in q.set_communities + count_in q.add_communities) r rules

walk_grows : (met : Attributes → MapRule → Bool) (given : Attributes) (least : ℕ) (before : Option Mapped) (rules : List MapRule) (k c : ℕ) (m : Mapped)
    → k + prepends_in rules ≤ 16 → c + communities_in rules ≤ 16 → Grown k c (so_far given before).attrs → map_walk met given least before rules ≡ Some m → Grown 16 16 m.attrs
walk_grows met given least None [] k c m few named g e = absurd cc
walk_grows met given least (Some n) [] k c m few named g e =
    subst (λ (x : Mapped). Grown 16 16 x.attrs) (some_is n m e) (grown_more k 16 c 16 n.attrs (omega (arith, few)) (omega (arith, named)) g)
walk_grows met given least before (r ∷ rules) k c m few named g e =
    let j = k + count_in r.set_prepend in
    let d = c + (count_in r.set_communities + count_in r.add_communities) in
    let grown : Grown j d (with_sets r (so_far given before).attrs) = sets_grow k c r (so_far given before).attrs (omega (arith, few, prepends_cons r rules)) g in
    let fewer : j + prepends_in rules ≤ 16 = omega (arith, few, prepends_cons r rules) in
    let fewer_named : d + communities_in rules ≤ 16 = omega (arith, named, communities_cons r rules) in
    one (nat_lt r.seq least || not (met (so_far given before).attrs r)) r.permit (goes_to r.on_match least)
    (λ h. walk_grows met given least before rules k c m (omega (arith, few, prepends_cons r rules)) (omega (arith, named, communities_cons r rules)) g h)
    (λ h. subst (λ (x : Mapped). Grown 16 16 x.attrs) (some_is (mapped_by r (so_far given before)) m h)
    (grown_more j 16 d 16 (with_sets r (so_far given before).attrs) (omega (arith, fewer)) (omega (arith, fewer_named)) grown))
    (λ n h. walk_grows met given n (Some (mapped_by r (so_far given before))) rules j d m fewer fewer_named grown h) e
  where
    one : (skip permit : Bool) (to : Option ℕ)
        → (map_walk met given least before rules ≡ Some m → Grown 16 16 m.attrs)
        → (Some (mapped_by r (so_far given before)) ≡ Some m → Grown 16 16 m.attrs)
        → ((n : ℕ) → map_walk met given n (Some (mapped_by r (so_far given before))) rules ≡ Some m → Grown 16 16 m.attrs)
        → (if skip then map_walk met given least before rules else (if permit then goes_on (λ n. map_walk met given n (Some (mapped_by r (so_far given before))) rules) (mapped_by r (so_far given before)) to else None)) ≡ Some m
        → Grown 16 16 m.attrs
    one true permit to skipped ended next h = skipped h
    one false false to skipped ended next h = absurd cc
    one false true None skipped ended next h = ended h
    one false true (Some n) skipped ended next h = next n h

within : (n : ℕ) → nat_le n 16 ≡ true → n ≤ 16
within n e = grind (arith, nat_tests)

by_map_grows : (lists : List NamedList) (rules : Option (List MapRule)) (a : Attributes) (p : IpPrefix) (m : Mapped) → FewSets rules → Grown 0 0 a → mapped_by_map lists rules a p ≡ Some m → Grown 16 16 m.attrs
by_map_grows lists None a p m few g e = absurd cc
by_map_grows lists (Some rules) a p m few g e =
    let parts = both (nat_le (prepends_in rules) 16) (nat_le (communities_in rules) 16) few in
    walk_grows (is_met lists p) a 0 None rules 0 0 m (omega (arith, within (prepends_in rules) parts.0)) (omega (arith, within (communities_in rules) parts.1)) g e

mapped_grows : (tables : Tables) (name : Option (List ℕ)) (a : Attributes) (p : IpPrefix) (m : Mapped) → SetsFew tables.maps name → Grown 0 0 a → mapped tables name a p ≡ Some m → Grown 16 16 m.attrs
mapped_grows tables None a p m few g e = subst (λ (x : Mapped). Grown 16 16 x.attrs) (some_is (unmapped a) m e) (grown_more 0 16 0 16 a (omega arith) (omega arith) g)
mapped_grows tables (Some name) a p m few g e = by_map_grows tables.lists (value_named tables.maps name) a p m few g e

-- ---- what nothing refuses from within

abbrev first_of_five : Bool → Bool → Bool → Bool → Bool → Option ℕ
first_of_five one two three four five = if one then Some 1 else if two then Some 2 else if three then Some 3 else if four then Some 4 else if five then Some 5 else None

none_of : (one two three four five : Bool) → first_of_five one two three four five ≡ None → (one ≡ false) × (two ≡ false) × (four ≡ false) × (five ≡ false)
none_of true two three four five e = absurd cc
none_of false true three four five e = absurd cc
none_of false false true four five e = absurd cc
none_of false false false true five e = absurd cc
none_of false false false false true e = absurd cc
none_of false false false false false e = (refl, refl, refl, refl)

pub not_grown : (a : Attributes) → refusal_of a ≡ None → Grown 0 0 a
not_grown a e =
    let parts = none_of (nat_lt 300 (numbers_in a.path)) (nat_lt 16 (length a.path)) (not (is_well_formed a)) (nat_lt 128 (length a.communities)) (nat_lt 32 (length a.clusters)) e in
    let numbers_few : numbers_in a.path ≤ 300 = ltb-false _ _ parts.0 in
    let segments_few : length a.path ≤ 16 = ltb-false _ _ parts.1 in
    let communities_few : length a.communities ≤ 128 = ltb-false _ _ parts.2 in
    let clusters_few : length a.clusters ≤ 32 = ltb-false _ _ parts.3 in
    record {
      numbers = omega arith;
      segments = omega (arith, behind_at_most 0 a.path);
      communities = omega arith;
      clusters = clusters_few;
    }

-- ---- the attributes that go out

path_reflected : (local : Local) (kind : Kind) (from : Learned) (a : Attributes) → (reflected local kind from a).path ≡ a.path
path_reflected local External from a = refl
path_reflected local Internal learned.Local a = refl
path_reflected local Internal learned.External a = refl
path_reflected local Internal (learned.Internal client router) a = refl
path_reflected local Client learned.Local a = refl
path_reflected local Client learned.External a = refl
path_reflected local Client (learned.Internal client router) a = refl

communities_reflected : (local : Local) (kind : Kind) (from : Learned) (a : Attributes) → (reflected local kind from a).communities ≡ a.communities
communities_reflected local External from a = refl
communities_reflected local Internal learned.Local a = refl
communities_reflected local Internal learned.External a = refl
communities_reflected local Internal (learned.Internal client router) a = refl
communities_reflected local Client learned.Local a = refl
communities_reflected local Client learned.External a = refl
communities_reflected local Client (learned.Internal client router) a = refl

clusters_reflected : (local : Local) (kind : Kind) (from : Learned) (a : Attributes) → length (reflected local kind from a).clusters ≤ suc (length a.clusters)
clusters_reflected local External from a = omega arith
clusters_reflected local Internal learned.Local a = omega arith
clusters_reflected local Internal learned.External a = omega arith
clusters_reflected local Internal (learned.Internal client router) a = omega arith
clusters_reflected local Client learned.Local a = omega arith
clusters_reflected local Client learned.External a = omega arith
clusters_reflected local Client (learned.Internal client router) a = omega arith

communities_sent : (send : Bool) (ns : List ℕ) → length (communities_out send ns) ≤ length ns
communities_sent true ns = omega arith
communities_sent false ns = omega arith

finished_bytes : (key : GroupKey) (local : Local) (from : Learned) (m : Mapped) → Grown 16 16 m.attrs → length (attributes (finished key local from (reflect local key.kind from m)).attrs) ≤ 2067
finished_bytes key local from m g =
    let a = reflected local key.kind from m.attrs in
    let path = a.path in
    let same : path ≡ m.attrs.path = path_reflected local key.kind from m.attrs in
    let numbers_few : numbers_in path ≤ 316 = rw same (omega (arith, g.numbers)) in
    let segments_few : behind 16 path ≤ 16 = rw same g.segments in
    let communities_few : length a.communities ≤ 144 = rw (communities_reflected local key.kind from m.attrs) (omega (arith, g.communities)) in
    few_bytes (finished key local from (reflect local key.kind from m)).attrs
    (omega (arith, out_numbers key local path))
    (omega (arith, out_length 16 key local path (omega arith)))
    (omega (arith, communities_sent key.send_community a.communities))
    (omega (arith, clusters_reflected local key.kind from m.attrs, g.clusters))

heeded_grows : (family : Family) (raw : IpAddress) (m : Mapped) → Grown 16 16 m.attrs → Grown 16 16 (heeded family raw m).attrs
heeded_grows V4 raw m g = g
heeded_grows V6 raw m g = record { numbers = g.numbers; segments = g.segments; communities = g.communities; clusters = g.clusters }

-- what goes out comes of something that was mapped
pub record Comes (x : Option Mapped) (g : Mapped → OutAttrs) (o : OutAttrs) : Type 0 where
  pub m : Mapped
  pub is : x ≡ Some m
  pub out : g m ≡ o

pub comes : (b : Bool) (x : Option Mapped) (g : Mapped → OutAttrs) (o : OutAttrs) → (if b then option_map g x else None) ≡ Some o → Comes x g o
comes true None g o e = absurd cc
comes true (Some m) g o e = record { m = m; is = refl; out = cc }
comes false x g o e = absurd cc

-- what the code comes to, by whether the path is let out and by what is mapped
pub kept_back : (b : Bool) (x : Option Mapped) (g : Mapped → OutAttrs) → b ≡ false → None ≡ (if b then option_map g x else None)
kept_back b x g e = rw e refl

pub not_mapped : (b : Bool) (x : Option Mapped) (g : Mapped → OutAttrs) → x ≡ None → None ≡ (if b then option_map g x else None)
not_mapped true x g e = rw e refl
not_mapped false x g e = refl

pub let_out : (b : Bool) (x : Option Mapped) (g : Mapped → OutAttrs) (m : Mapped) → b ≡ true → x ≡ Some m → Some (g m) ≡ (if b then option_map g x else None)
let_out b x g m e f = rw (e, f) refl

pub comes_of : (key : GroupKey) (tables : Tables) (local : Local) (p : IpPrefix) (path : Path) (o : OutAttrs) → out key tables local p path ≡ Some o
    → Comes (mapped tables key.map path.attrs p) (λ (m : Mapped). finished key local path.learned (reflect local key.kind path.learned (heeded key.family path.attrs.next_hop m))) o
comes_of key tables local p path o e =
    comes (is_let_out key tables p path) (mapped tables key.map path.attrs p) _ o (sym (out_is_after key tables local p path) ∙ e)

pub out_bytes : (key : GroupKey) (tables : Tables) (local : Local) (p : IpPrefix) (path : Path) (o : OutAttrs)
    → out key tables local p path ≡ Some o → refusal_of path.attrs ≡ None → SetsFew tables.maps key.map → length (attributes o.attrs) ≤ 2067
out_bytes key tables local p path o e refused few =
    let from = comes_of key tables local p path o e in
    subst (λ (x : OutAttrs). length (attributes x.attrs) ≤ 2067) from.out
    (finished_bytes key local path.learned (heeded key.family path.attrs.next_hop from.m)
    (heeded_grows key.family path.attrs.next_hop from.m (mapped_grows tables key.map path.attrs p from.m few (not_grown path.attrs refused) from.is)))

pub out_bytes_but_next_hop : (key : GroupKey) (tables : Tables) (local : Local) (p : IpPrefix) (path : Path) (o : OutAttrs)
    → out key tables local p path ≡ Some o → refusal_of path.attrs ≡ None → SetsFew tables.maps key.map → length (attributes_but_next_hop o.attrs) ≤ 2060
out_bytes_but_next_hop key tables local p path o e refused few =
    omega (arith, out_bytes key tables local p path o e refused few, length_but_next_hop o.attrs)
