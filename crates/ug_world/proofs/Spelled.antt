-- What goes out of attributes that can be spelled can be spelled.
use Rattle.std.proofs.Common.{◌≡◌, ℕ, Bool, true, false, List, [], ◌∷◌, ◌++◌, Option, Some, None, refl, subst}
use Rattle.std.specs.Prelude.{◌==◌, ◌&&◌, ◌||◌, not, nat_le, nat_lt, unwrap_or, if◌then◌else◌}
use Rattle.std.specs.List.{list_all}
use Rattle.std.specs.Option.{option_or}
use Rattle.ug_types.specs.declared.family.Family.{Family}
use Rattle.ug_types.specs.declared.family.Family.TheVariants.{V4, V6}
use Rattle.ug_types.specs.Ip.{IpAddress, IpPrefix, covers}
use Rattle.ug_types.specs.Attributes.{PathSegment, Attributes, is_segment, is_well_formed}
use Rattle.ug_types.specs.declared.route.Learned.{Learned}
use Rattle.ug_types.specs.declared.route.Learned.TheVariants as learned
use Rattle.ug_types.specs.declared.route.NhKind.{NhKind}
use Rattle.ug_types.specs.declared.route.NhKind.TheVariants as kinds
use Rattle.ug_types.specs.declared.route.OutAttrs.{OutAttrs}
use Rattle.ug_types.specs.declared.route.PeerEnds.{PeerEnds}
use Rattle.ug_types.specs.declared.route.Path.{Path}
use Rattle.ug_types.specs.Bytes.{same_bytes}
use Rattle.ug_policy.specs.Paths.{is_private, with_numbers, public_numbers, has_numbers as has_some, without_private, in_place_of, replaced, overridden, sequence, begins_with_room, prepended}
use Rattle.ug_policy.proofs.KeptSegments.{prepended_kept, overridden_kept, without_private_kept}
use Rattle.ug_policy.specs.Named.{value_named}
use Rattle.ug_policy.specs.declared.mapped.Mapped.{Mapped}
use Rattle.ug_policy.specs.Rules.{MapRule}
use Rattle.ug_policy.specs.NamedMaps.{NamedMap}
use Rattle.ug_policy.specs.Maps.{is_met, holds, all_prepended, with_one, added, with_sets, mapped_by, unmapped, so_far, goes_to, goes_on, map_walk}
use Rattle.ug_message.specs.NextHops.{address_alone, same_address, next_hop, told_to}
use Rattle.ug_outbound.specs.Tables.{Tables}
use Rattle.ug_outbound.specs.declared.settings.Local.{Local}
use Rattle.ug_outbound.specs.declared.kind.Kind.{Kind}
use Rattle.ug_outbound.specs.declared.kind.Kind.TheVariants.{External, Internal, Client}
use Rattle.ug_outbound.specs.declared.key.GroupKey.{GroupKey}
use Rattle.ug_outbound.specs.Outbound.{number_of_address, reflected, mapped, mapped_by_map, heeded, privates_removed, as_overridden, prepended_towards, local_pref_out, med_out, communities_out, attributes_out, out}
use Rattle.ug_outbound.proofs.Bounds.{comes_of}
use Rattle.ug_message.specs.Spellable.{is_number, is_address, is_aggregator, has_numbers, where_there, can_be_spelled}
use Rattle.ug_message.proofs.Formed.{both, and}
use Rattle.ug_world.specs.Good.{is_rule_in_range, is_map_in_range, is_learned_in_range}

-- ---- what can be spelled, but for the next hop

record IsFine (a : Attributes) : Type 0 where
  segments : list_all is_segment a.path ≡ true
  origin : nat_le a.origin 2 ≡ true
  path : list_all has_numbers a.path ≡ true
  med : where_there is_number a.med ≡ true
  local_pref : where_there is_number a.local_pref ≡ true
  aggregator : where_there is_aggregator a.aggregator ≡ true
  communities : list_all is_number a.communities ≡ true
  originator : where_there (is_address V4) a.originator ≡ true
  clusters : list_all is_number a.clusters ≡ true

fine_of : (family : Family) (a : Attributes) → can_be_spelled family a ≡ true → IsFine a × (is_address family a.next_hop ≡ true)
unfolding can_be_spelled
fine_of family a e =
    let c1 = is_well_formed a in
    let c2 = c1 && list_all has_numbers a.path in
    let c3 = c2 && is_address family a.next_hop in
    let c4 = c3 && where_there is_number a.med in
    let c5 = c4 && where_there is_number a.local_pref in
    let c6 = c5 && where_there is_aggregator a.aggregator in
    let c7 = c6 && list_all is_number a.communities in
    let c8 = c7 && where_there (is_address V4) a.originator in
    let p9 = both c8 (list_all is_number a.clusters) e in
    let p8 = both c7 (where_there (is_address V4) a.originator) p9.0 in
    let p7 = both c6 (list_all is_number a.communities) p8.0 in
    let p6 = both c5 (where_there is_aggregator a.aggregator) p7.0 in
    let p5 = both c4 (where_there is_number a.local_pref) p6.0 in
    let p4 = both c3 (where_there is_number a.med) p5.0 in
    let p3 = both c2 (is_address family a.next_hop) p4.0 in
    let p2 = both c1 (list_all has_numbers a.path) p3.0 in
    let p1 = both (list_all is_segment a.path) (nat_le a.origin 2) p2.0 in (
      record { segments = p1.0; origin = p1.1; path = p2.1; med = p4.1; local_pref = p5.1; aggregator = p6.1; communities = p7.1; originator = p8.1; clusters = p9.1 },
      p3.1,
    )

spelled_of : (family : Family) (a : Attributes) → IsFine a → is_address family a.next_hop ≡ true → can_be_spelled family a ≡ true
unfolding can_be_spelled
spelled_of family a f hop =
    let c1 = is_well_formed a in
    let c2 = c1 && list_all has_numbers a.path in
    let c3 = c2 && is_address family a.next_hop in
    let c4 = c3 && where_there is_number a.med in
    let c5 = c4 && where_there is_number a.local_pref in
    let c6 = c5 && where_there is_aggregator a.aggregator in
    let c7 = c6 && list_all is_number a.communities in
    let c8 = c7 && where_there (is_address V4) a.originator in
    and c8 (list_all is_number a.clusters)
    (and c7 (where_there (is_address V4) a.originator)
    (and c6 (list_all is_number a.communities)
    (and c5 (where_there is_aggregator a.aggregator)
    (and c4 (where_there is_number a.local_pref)
    (and c3 (where_there is_number a.med)
    (and c2 (is_address family a.next_hop) (and c1 (list_all has_numbers a.path) (and (list_all is_segment a.path) (nat_le a.origin 2) f.segments f.origin) f.path) hop) f.med)
    f.local_pref)
    f.aggregator)
    f.communities)
    f.originator)
    f.clusters

-- ---- paths

prepended_numbers : (n : ℕ) (path : List PathSegment) → is_number n ≡ true → list_all has_numbers path ≡ true → list_all has_numbers (prepended n path) ≡ true
prepended_numbers n [] e h = and (list_all is_number (n ∷ [])) true (and (is_number n) true e refl) refl
prepended_numbers n (s ∷ path) e h = by (begins_with_room (s ∷ path))
  where
    parts : (has_numbers s ≡ true) × (list_all has_numbers path ≡ true)
    parts = both (has_numbers s) (list_all has_numbers path) h

    by : (b : Bool) → list_all has_numbers (if b then sequence (n ∷ s.numbers) ∷ path else sequence (n ∷ []) ∷ s ∷ path) ≡ true
    by true = and (list_all is_number (n ∷ s.numbers)) (list_all has_numbers path) (and (is_number n) (list_all is_number s.numbers) e parts.0) parts.1
    by false = and (list_all is_number (n ∷ [])) (list_all has_numbers (s ∷ path)) (and (is_number n) true e refl) h

all_prepended_fine : (ns : List ℕ) (path : List PathSegment) → list_all is_number ns ≡ true → list_all is_segment path ≡ true → list_all has_numbers path ≡ true
    → (list_all is_segment (all_prepended ns path) ≡ true) × (list_all has_numbers (all_prepended ns path) ≡ true)
all_prepended_fine [] path e s h = (s, h)
all_prepended_fine (n ∷ ns) path e s h =
    let parts = both (is_number n) (list_all is_number ns) e in
    let rest = all_prepended_fine ns path parts.1 s h in
    (prepended_kept n (all_prepended ns path) rest.0, prepended_numbers n (all_prepended ns path) parts.0 rest.1)

one_replaced : (old new n : ℕ) → is_number new ≡ true → is_number n ≡ true → is_number (in_place_of old new n) ≡ true
one_replaced old new n e h = by (n == old)
  where
    by : (b : Bool) → is_number (if b then new else n) ≡ true
    by true = e
    by false = h

replaced_numbers : (old new : ℕ) (ns : List ℕ) → is_number new ≡ true → list_all is_number ns ≡ true → list_all is_number (replaced old new ns) ≡ true
replaced_numbers old new [] e h = refl
replaced_numbers old new (n ∷ ns) e h =
    let parts = both (is_number n) (list_all is_number ns) h in
    and (is_number (in_place_of old new n)) (list_all is_number (replaced old new ns)) (one_replaced old new n e parts.0) (replaced_numbers old new ns e parts.1)

overridden_numbers : (old new : ℕ) (path : List PathSegment) → is_number new ≡ true → list_all has_numbers path ≡ true → list_all has_numbers (overridden old new path) ≡ true
overridden_numbers old new [] e h = refl
overridden_numbers old new (s ∷ path) e h =
    let parts = both (has_numbers s) (list_all has_numbers path) h in
    and (list_all is_number (replaced old new s.numbers)) (list_all has_numbers (overridden old new path)) (replaced_numbers old new s.numbers e parts.0) (overridden_numbers old new path e parts.1)

public_fine : (ns : List ℕ) → list_all is_number ns ≡ true → list_all is_number (public_numbers ns) ≡ true
public_fine [] h = refl
public_fine (n ∷ ns) h = by (not (is_private n)) (public_fine ns (both (is_number n) (list_all is_number ns) h).1)
  where
    by : (b : Bool) → list_all is_number (public_numbers ns) ≡ true → list_all is_number (if b then n ∷ public_numbers ns else public_numbers ns) ≡ true
    by true rest = and (is_number n) (list_all is_number (public_numbers ns)) (both (is_number n) (list_all is_number ns) h).0 rest
    by false rest = rest

without_private_numbers : (path : List PathSegment) → list_all has_numbers path ≡ true → list_all has_numbers (without_private path) ≡ true
without_private_numbers [] h = refl
without_private_numbers (s ∷ path) h =
    by (has_some (with_numbers public_numbers s)) (public_fine s.numbers (both (has_numbers s) (list_all has_numbers path) h).0) (without_private_numbers path (both (has_numbers s) (list_all has_numbers path) h).1)
  where
    by : (b : Bool) → list_all is_number (public_numbers s.numbers) ≡ true → list_all has_numbers (without_private path) ≡ true
        → list_all has_numbers (if b then with_numbers public_numbers s ∷ without_private path else without_private path) ≡ true
    by true here rest = and (list_all is_number (public_numbers s.numbers)) (list_all has_numbers (without_private path)) here rest
    by false here rest = rest

abbrev Fine : List PathSegment → Type 0
Fine path = (list_all is_segment path ≡ true) × (list_all has_numbers path ≡ true)

privates_fine : (b : Bool) (path : List PathSegment) → Fine path → Fine (privates_removed b path)
privates_fine true path h = (without_private_kept path h.0, without_private_numbers path h.1)
privates_fine false path h = h

overridden_fine : (o : Option ℕ) (asn : ℕ) (path : List PathSegment) → is_number asn ≡ true → Fine path → Fine (as_overridden o asn path)
overridden_fine None asn path e h = h
overridden_fine (Some old) asn path e h = (overridden_kept old asn path h.0, overridden_numbers old asn path e h.1)

towards_fine : (kind : Kind) (asn : ℕ) (path : List PathSegment) → is_number asn ≡ true → Fine path → Fine (prepended_towards kind asn path)
towards_fine External asn path e h = (prepended_kept asn path h.0, prepended_numbers asn path e h.1)
towards_fine Internal asn path e h = h
towards_fine Client asn path e h = h

-- ---- what a route map sets

unwrap_there : {T : Type 0} (test : T → Bool) (o : Option T) (x : T) → where_there test o ≡ true → test x ≡ true → test (unwrap_or o x) ≡ true
unwrap_there test None x e h = h
unwrap_there test (Some y) x e h = e

or_there : {T : Type 0} (test : T → Bool) (o u : Option T) → where_there test o ≡ true → where_there test u ≡ true → where_there test (option_or o u) ≡ true
or_there test None u e h = h
or_there test (Some y) u e h = e

all_more : (ns : List ℕ) (n : ℕ) → list_all is_number ns ≡ true → is_number n ≡ true → list_all is_number (ns ++ n ∷ []) ≡ true
all_more [] n h e = and (is_number n) true e refl
all_more (m ∷ ns) n h e = let parts = both (is_number m) (list_all is_number ns) h in and (is_number m) (list_all is_number (ns ++ n ∷ [])) parts.0 (all_more ns n parts.1 e)

with_one_numbers : (n : ℕ) (there : List ℕ) → is_number n ≡ true → list_all is_number there ≡ true → list_all is_number (with_one n there) ≡ true
with_one_numbers n there e h = by (holds n there)
  where
    by : (b : Bool) → list_all is_number (if b then there else there ++ n ∷ []) ≡ true
    by true = h
    by false = all_more there n h e

added_numbers : (ns there : List ℕ) → list_all is_number ns ≡ true → list_all is_number there ≡ true → list_all is_number (added ns there) ≡ true
added_numbers [] there e h = h
added_numbers (n ∷ ns) there e h = let parts = both (is_number n) (list_all is_number ns) e in added_numbers ns (with_one n there) parts.1 (with_one_numbers n there parts.0 h)

-- what an entry sets is in range, fact by fact
record IsRuleInRange (r : MapRule) : Type 0 where
  origin : where_there (λ (n : ℕ). nat_le n 2) r.set_origin ≡ true
  next_hop : where_there (is_address V4) r.set_next_hop ≡ true
  med : where_there is_number r.set_med ≡ true
  local_pref : where_there is_number r.set_local_pref ≡ true
  prepend : where_there (list_all is_number) r.set_prepend ≡ true
  communities : where_there (list_all is_number) r.set_communities ≡ true
  added : where_there (list_all is_number) r.add_communities ≡ true

rule_ranges : (r : MapRule) → is_rule_in_range r ≡ true → IsRuleInRange r
rule_ranges r h =
    let p1 = both (where_there (λ (n : ℕ). nat_le n 2) r.set_origin) _ h in
    let p2 = both (where_there (is_address V4) r.set_next_hop) _ p1.1 in
    let p3 = both (where_there is_number r.set_med) _ p2.1 in
    let p4 = both (where_there is_number r.set_local_pref) _ p3.1 in
    let p5 = both (where_there (list_all is_number) r.set_prepend) _ p4.1 in
    let p6 = both (where_there (list_all is_number) r.set_communities) (where_there (list_all is_number) r.add_communities) p5.1 in
    record { origin = p1.0; next_hop = p2.0; med = p3.0; local_pref = p4.0; prepend = p5.0; communities = p6.0; added = p6.1 }

sets_fine : (r : MapRule) (a : Attributes) → IsRuleInRange r → IsFine a → IsFine (with_sets r a)
sets_fine r a in_range f =
    let path = all_prepended_fine (unwrap_or r.set_prepend []) a.path (unwrap_there (list_all is_number) r.set_prepend [] in_range.prepend refl) f.segments f.path in
    record {
      segments = path.0;
      origin = unwrap_there (λ n. nat_le n 2) r.set_origin a.origin in_range.origin f.origin;
      path = path.1;
      med = or_there is_number r.set_med a.med in_range.med f.med;
      local_pref = or_there is_number r.set_local_pref a.local_pref in_range.local_pref f.local_pref;
      aggregator = f.aggregator;
      communities =
          added_numbers (unwrap_or r.add_communities []) (unwrap_or r.set_communities a.communities) (unwrap_there (list_all is_number) r.add_communities [] in_range.added refl)
          (unwrap_there (list_all is_number) r.set_communities a.communities in_range.communities f.communities);
      originator = f.originator;
      clusters = f.clusters;
    }

-- what was mapped is fine, and its next hop an IPv4 address where the given one was
record IsMappedWell (given : Attributes) (m : Mapped) : Type 0 where
  fine : IsFine m.attrs
  hop : is_address V4 given.next_hop ≡ true → is_address V4 m.attrs.next_hop ≡ true

by_well : (given : Attributes) (r : MapRule) (m : Mapped) → IsRuleInRange r → IsMappedWell given m → IsMappedWell given (mapped_by r m)
by_well given r m in_range well = record {
  fine = sets_fine r m.attrs in_range well.fine;
  hop = λ e. unwrap_there (is_address V4) r.set_next_hop m.attrs.next_hop in_range.next_hop (well.hop e);
}

abbrev IsWellSoFar : Attributes → Option Mapped → Type 0
IsWellSoFar given None = Unit {0}
IsWellSoFar given (Some m) = IsMappedWell given m

module _ (met : Attributes → MapRule → Bool) (given : Attributes) (first : IsMappedWell given (unmapped given)) where
  far_well : (before : Option Mapped) → IsWellSoFar given before → IsMappedWell given (so_far given before)
  far_well None h = first
  far_well (Some m) h = h

  goes_well : (walk : ℕ → Option Mapped) (m : Mapped) (to : Option ℕ) → IsMappedWell given m → ((n : ℕ) → IsWellSoFar given (walk n)) → IsWellSoFar given (goes_on walk m to)
  goes_well walk m None h all = h
  goes_well walk m (Some n) h all = all n

  entry_well : (skip permit : Bool) (rest : Option Mapped) (on : Option Mapped) → IsWellSoFar given rest → IsWellSoFar given on → IsWellSoFar given (if skip then rest else (if permit then on else None))
  entry_well true permit rest on h k = h
  entry_well false true rest on h k = k
  entry_well false false rest on h k = tt

  walk_well : (rules : List MapRule) (least : ℕ) (before : Option Mapped) → list_all is_rule_in_range rules ≡ true → IsWellSoFar given before → IsWellSoFar given (map_walk met given least before rules)
  walk_well [] least before in_range h = h
  walk_well (r ∷ rules) least before in_range h =
      let m = so_far given before in
      let ranges = both (is_rule_in_range r) (list_all is_rule_in_range rules) in_range in
      let made = by_well given r m (rule_ranges r ranges.0) (far_well before h) in
      entry_well (nat_lt r.seq least || not (met m.attrs r)) r.permit (map_walk met given least before rules)
      (goes_on (λ n. map_walk met given n (Some (mapped_by r m)) rules) (mapped_by r m) (goes_to r.on_match least))
      (walk_well rules least before ranges.1 h)
      (goes_well (λ n. map_walk met given n (Some (mapped_by r m)) rules) (mapped_by r m) (goes_to r.on_match least) made (λ n. walk_well rules n (Some (mapped_by r m)) ranges.1 made))

rules_in_range : (maps : List NamedMap) (name : List ℕ) (rules : List MapRule) → list_all is_map_in_range maps ≡ true → value_named maps name ≡ Some rules → list_all is_rule_in_range rules ≡ true
rules_in_range [] name rules h e = absurd cc
rules_in_range (m ∷ maps) name rules h e = by (same_bytes m.name name) e (λ rest. rules_in_range maps name rules (both (is_map_in_range m) (list_all is_map_in_range maps) h).1 rest)
  where
    by : (b : Bool) → (if b then Some m.value else value_named maps name) ≡ Some rules → (value_named maps name ≡ Some rules → list_all is_rule_in_range rules ≡ true) → list_all is_rule_in_range rules ≡ true
    by true e rest =
        let same : m.value ≡ rules = cc in
        subst (λ (rs : List MapRule). list_all is_rule_in_range rs ≡ true) same (both (is_map_in_range m) (list_all is_map_in_range maps) h).0
    by false e rest = rest e

mapped_well : (tables : Tables) (name : Option (List ℕ)) (a : Attributes) (p : IpPrefix) (m : Mapped) → list_all is_map_in_range tables.maps ≡ true → IsFine a → mapped tables name a p ≡ Some m → IsMappedWell a m
mapped_well tables None a p m in_range f e = let same : unmapped a ≡ m = cc in subst (IsMappedWell a) same (record { fine = f; hop = λ h. h })
mapped_well tables (Some name) a p m in_range f e = by (value_named tables.maps name) refl e
  where
    by : (o : Option (List MapRule)) → value_named tables.maps name ≡ o → mapped_by_map tables.lists o a p ≡ Some m → IsMappedWell a m
    by None is e = absurd cc
    by (Some rules) is e =
        subst (λ (o : Option Mapped). IsWellSoFar a o) e
        (walk_well (is_met tables.lists p) a (record { fine = f; hop = λ h. h }) rules 0 None (rules_in_range tables.maps name rules in_range is) tt)

-- ---- then the rules

record IsOut (family : Family) (a : Attributes) : Type 0 where
  fine : IsFine a
  hop : is_address family a.next_hop ≡ true

heeded_out : (family : Family) (given : Attributes) (m : Mapped) → IsMappedWell given m → is_address family given.next_hop ≡ true → IsOut family (heeded family given.next_hop m).attrs
heeded_out V4 given m well hop = record { fine = well.fine; hop = well.hop hop }
heeded_out V6 given m well hop =
    let f = well.fine in
    record {
      fine = record { segments = f.segments; origin = f.origin; path = f.path; med = f.med; local_pref = f.local_pref; aggregator = f.aggregator; communities = f.communities; originator = f.originator; clusters = f.clusters };
      hop = hop;
    }

without_reflection : (family : Family) (a : Attributes) → IsOut family a → IsOut family (record a { originator = None; clusters = [] })
without_reflection family a o =
    let f = o.fine in
    record {
      fine = record { segments = f.segments; origin = f.origin; path = f.path; med = f.med; local_pref = f.local_pref; aggregator = f.aggregator; communities = f.communities; originator = refl; clusters = refl };
      hop = o.hop;
    }

with_router : (family : Family) (local : Local) (router : IpAddress) (a : Attributes) → is_number (number_of_address local.cluster_id) ≡ true → is_address V4 router ≡ true → IsOut family a
    → IsOut family (record a { originator = Some (unwrap_or a.originator router); clusters = number_of_address local.cluster_id ∷ a.clusters })
with_router family local router a cluster e o =
    let f = o.fine in
    record {
      fine = record {
        segments = f.segments;
        origin = f.origin;
        path = f.path;
        med = f.med;
        local_pref = f.local_pref;
        aggregator = f.aggregator;
        communities = f.communities;
        originator = unwrap_there (is_address V4) a.originator router f.originator e;
        clusters = and (is_number (number_of_address local.cluster_id)) (list_all is_number a.clusters) cluster f.clusters;
      };
      hop = o.hop;
    }

reflected_out : (family : Family) (local : Local) (kind : Kind) (from : Learned) (a : Attributes) → is_number (number_of_address local.cluster_id) ≡ true → is_learned_in_range from ≡ true → IsOut family a → IsOut family (reflected local kind from a)
reflected_out family local External from a cluster e o = without_reflection family a o
reflected_out family local Internal learned.Local a cluster e o = without_reflection family a o
reflected_out family local Internal learned.External a cluster e o = without_reflection family a o
reflected_out family local Internal (learned.Internal client router) a cluster e o = with_router family local router a cluster e o
reflected_out family local Client learned.Local a cluster e o = without_reflection family a o
reflected_out family local Client learned.External a cluster e o = without_reflection family a o
reflected_out family local Client (learned.Internal client router) a cluster e o = with_router family local router a cluster e o

med_fine : (kind : Kind) (ours : Bool) (med : Option ℕ) → where_there is_number med ≡ true → where_there is_number (med_out kind ours med) ≡ true
med_fine External true med e = e
med_fine External false med e = refl
med_fine Internal ours med e = e
med_fine Client ours med e = e

pref_fine : (kind : Kind) (pref : Option ℕ) → where_there is_number pref ≡ true → where_there is_number (local_pref_out kind pref) ≡ true
pref_fine External pref e = refl
pref_fine Internal pref e = unwrap_there is_number pref 100 e refl
pref_fine Client pref e = unwrap_there is_number pref 100 e refl

communities_fine : (send : Bool) (ns : List ℕ) → list_all is_number ns ≡ true → list_all is_number (communities_out send ns) ≡ true
communities_fine true ns e = e
communities_fine false ns e = refl

finished_out : (family : Family) (key : GroupKey) (local : Local) (from : Learned) (set_med : Bool) (a : Attributes) → is_number local.asn ≡ true → IsOut family a → IsOut family (attributes_out key local from set_med a)
finished_out family key local from set_med a asn o =
    let f = o.fine in
    let path = towards_fine key.kind local.asn (as_overridden key.as_override local.asn (privates_removed key.remove_private_as a.path)) asn
    (overridden_fine key.as_override local.asn (privates_removed key.remove_private_as a.path) asn (privates_fine key.remove_private_as a.path (f.segments, f.path)))
    in
    record {
      fine = record {
        segments = path.0;
        origin = f.origin;
        path = path.1;
        med = med_fine key.kind _ a.med f.med;
        local_pref = pref_fine key.kind a.local_pref f.local_pref;
        aggregator = f.aggregator;
        communities = communities_fine key.send_community a.communities f.communities;
        originator = f.originator;
        clusters = f.clusters;
      };
      hop = o.hop;
    }

hop_told : (family : Family) (kind : NhKind) (raw : IpAddress) (ends : PeerEnds) → is_address family raw ≡ true → is_address family ends.local ≡ true → is_address family (next_hop kind raw ends) ≡ true
hop_told family kinds.Fixed raw ends e h = e
hop_told family kinds.Keep raw ends e h = e
hop_told family kinds.Own raw ends e h = h
hop_told family kinds.Auto raw ends e h = by (covers ends.subnet (address_alone raw) && not (same_address raw ends.address))
  where
    by : (b : Bool) → is_address family (if b then raw else ends.local) ≡ true
    by true = e
    by false = h

-- What a peer is told of attributes that can be spelled in its family can be spelled, where its own address is of that.
pub told-spelled : (family : Family) (ends : PeerEnds) (o : OutAttrs) → can_be_spelled family o.attrs ≡ true → is_address family ends.local ≡ true → can_be_spelled family (told_to ends o) ≡ true
told-spelled family ends o spelled h =
    let parts = fine_of family o.attrs spelled in
    let f = parts.0 in
    spelled_of family (told_to ends o)
    (record { segments = f.segments; origin = f.origin; path = f.path; med = f.med; local_pref = f.local_pref; aggregator = f.aggregator; communities = f.communities; originator = f.originator; clusters = f.clusters })
    (hop_told family o.nh_kind o.attrs.next_hop ends parts.1 h)

-- What goes out of a path to a prefix of the key's family can be spelled in a session of that family.
pub out-spelled : (key : GroupKey) (tables : Tables) (local : Local) (p : IpPrefix) (path : Path) (o : OutAttrs)
    → out key tables local p path ≡ Some o → can_be_spelled key.family path.attrs ≡ true → is_number local.asn ≡ true → is_number (number_of_address local.cluster_id) ≡ true
    → list_all is_map_in_range tables.maps ≡ true → is_learned_in_range path.learned ≡ true → can_be_spelled key.family o.attrs ≡ true
out-spelled key tables local p path o e spelled asn cluster maps from =
    let given = fine_of key.family path.attrs spelled in
    let comes = comes_of key tables local p path o e in
    let well = mapped_well tables key.map path.attrs p comes.m maps given.0 comes.is in
    let first = heeded_out key.family path.attrs comes.m well given.1 in
    let second = reflected_out key.family local key.kind path.learned (heeded key.family path.attrs.next_hop comes.m).attrs cluster from first in
    let sent : IsOut key.family o.attrs =
    subst (λ (x : OutAttrs). IsOut key.family x.attrs) comes.out
    (finished_out key.family key local path.learned (heeded key.family path.attrs.next_hop comes.m).set_med (reflected local key.kind path.learned (heeded key.family path.attrs.next_hop comes.m).attrs) asn second)
    in
    spelled_of key.family o.attrs sent.fine sent.hop
