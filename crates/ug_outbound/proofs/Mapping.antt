-- A route map sees nothing of what reflection changes, so that it may be told before the map or after it.
use Rattle.std.proofs.Common.{◌≡◌, ℕ, Bool, true, false, not, nat_lt, List, [], ◌∷◌, Option, Some, None, refl, ap, ◌∙◌}
use Rattle.std.specs.Prelude.{◌||◌, if◌then◌else◌}
use Rattle.std.specs.Option.{option_map}
use Rattle.ug_types.specs.declared.family.Family.{Family}
use Rattle.ug_types.specs.declared.family.Family.TheVariants.{V4, V6}
use Rattle.ug_types.specs.Ip.{IpAddress, IpPrefix}
use Rattle.ug_types.specs.Attributes.{Attributes}
use Rattle.ug_types.specs.declared.route.Learned.{Learned}
use Rattle.ug_types.specs.declared.route.Learned.TheVariants as learned
use Rattle.ug_types.specs.declared.route.Path.{Path}
use Rattle.ug_types.specs.declared.route.OutAttrs.{OutAttrs}
use Rattle.ug_policy.specs.Named.{NamedList, value_named}
use Rattle.ug_policy.specs.declared.mapped.Mapped.{Mapped}
use Rattle.ug_policy.specs.Rules.{MapRule}
use Rattle.ug_policy.specs.Maps.{is_met, with_sets, mapped_by, so_far, goes_to, goes_on, map_walk}
use Rattle.ug_outbound.specs.declared.settings.Local.{Local}
use Rattle.ug_outbound.specs.declared.kind.Kind.{Kind}
use Rattle.ug_outbound.specs.declared.kind.Kind.TheVariants.{External, Internal, Client}
use Rattle.ug_outbound.specs.declared.key.GroupKey.{GroupKey}
use Rattle.ug_outbound.specs.Tables.{Tables}
use Rattle.ug_outbound.specs.Outbound.{reflected, mapped_by_map, mapped, heeded, mapped_towards, finished, is_let_out, out}

module _ (f : Attributes → Attributes) (met : Attributes → MapRule → Bool) (met_same : (a : Attributes) (r : MapRule) → met (f a) r ≡ met a r) (sets_same : (r : MapRule) (a : Attributes) → f (with_sets r a) ≡ with_sets r (f a)) where
  abbrev changed : Mapped → Mapped
  changed m = record m { attrs = f m.attrs }

  so_far_changed : (given : Attributes) (before : Option Mapped) → so_far (f given) (option_map changed before) ≡ changed (so_far given before)
  so_far_changed given None = refl
  so_far_changed given (Some m) = refl

  by_changed : (r : MapRule) (m : Mapped) → mapped_by r (changed m) ≡ changed (mapped_by r m)
  by_changed r m = rw (sets_same r m.attrs) refl

  one_entry : (skip permit : Bool) (to : Option ℕ) (m : Mapped) (rest rest' : Option Mapped) (walk walk' : ℕ → Option Mapped)
      → rest ≡ option_map changed rest' → ((n : ℕ) → walk n ≡ option_map changed (walk' n))
      → (if skip then rest else (if permit then goes_on walk (changed m) to else None)) ≡ option_map changed (if skip then rest' else (if permit then goes_on walk' m to else None))
  one_entry true permit to m rest rest' walk walk' e h = e
  one_entry false true None m rest rest' walk walk' e h = refl
  one_entry false true (Some n) m rest rest' walk walk' e h = h n
  one_entry false false to m rest rest' walk walk' e h = refl

  -- an entry at what was mapped so far
  abbrev at_entry : Attributes → ℕ → Option Mapped → MapRule → List MapRule → Bool → Mapped → Option Mapped
  at_entry given least before r rules is_met m =
      if nat_lt r.seq least || not is_met then map_walk met given least before rules
      else (if r.permit then goes_on (λ n. map_walk met given n (Some m) rules) m (goes_to r.on_match least) else None)

  pub walk_changed : (given : Attributes) (least : ℕ) (before : Option Mapped) (rules : List MapRule)
      → map_walk met (f given) least (option_map changed before) rules ≡ option_map changed (map_walk met given least before rules)
  walk_changed given least before [] = refl
  walk_changed given least before (r ∷ rules) =
      let m = so_far given before in
      ap (λ (n : Mapped). at_entry (f given) least (option_map changed before) r rules (met n.attrs r) (mapped_by r n)) (so_far_changed given before)
      ∙ ap (λ (b : Bool). at_entry (f given) least (option_map changed before) r rules b (mapped_by r (changed m))) (met_same m.attrs r)
      ∙ ap (λ (n : Mapped). at_entry (f given) least (option_map changed before) r rules (met m.attrs r) n) (by_changed r m)
      ∙ one_entry (nat_lt r.seq least || not (met m.attrs r)) r.permit (goes_to r.on_match least) (mapped_by r m)
      (map_walk met (f given) least (option_map changed before) rules) (map_walk met given least before rules)
      (λ n. map_walk met (f given) n (Some (changed (mapped_by r m))) rules) (λ n. map_walk met given n (Some (mapped_by r m)) rules)
      (walk_changed given least before rules) (λ n. walk_changed given n (Some (mapped_by r m)) rules)

module _ (local : Local) (kind : Kind) (from : Learned) where
  abbrev pub reflect : Mapped → Mapped
  reflect m = record m { attrs = reflected local kind from m.attrs }

sets_reflected : (local : Local) (kind : Kind) (from : Learned) (r : MapRule) (a : Attributes) → reflected local kind from (with_sets r a) ≡ with_sets r (reflected local kind from a)
sets_reflected local External from r a = refl
sets_reflected local Internal learned.Local r a = refl
sets_reflected local Internal learned.External r a = refl
sets_reflected local Internal (learned.Internal client router) r a = refl
sets_reflected local Client learned.Local r a = refl
sets_reflected local Client learned.External r a = refl
sets_reflected local Client (learned.Internal client router) r a = refl

met_reflected : (local : Local) (kind : Kind) (from : Learned) (lists : List NamedList) (p : IpPrefix) (a : Attributes) (r : MapRule) → is_met lists p (reflected local kind from a) r ≡ is_met lists p a r
met_reflected local External from lists p a r = refl
met_reflected local Internal learned.Local lists p a r = refl
met_reflected local Internal learned.External lists p a r = refl
met_reflected local Internal (learned.Internal client router) lists p a r = refl
met_reflected local Client learned.Local lists p a r = refl
met_reflected local Client learned.External lists p a r = refl
met_reflected local Client (learned.Internal client router) lists p a r = refl

by_map_reflected : (local : Local) (kind : Kind) (from : Learned) (lists : List NamedList) (rules : Option (List MapRule)) (a : Attributes) (p : IpPrefix)
    → mapped_by_map lists rules (reflected local kind from a) p ≡ option_map (reflect local kind from) (mapped_by_map lists rules a p)
by_map_reflected local kind from lists None a p = refl
by_map_reflected local kind from lists (Some rules) a p =
    walk_changed (reflected local kind from) (is_met lists p) (met_reflected local kind from lists p) (sets_reflected local kind from) a 0 None rules

pub mapped_reflected : (local : Local) (kind : Kind) (from : Learned) (tables : Tables) (name : Option (List ℕ)) (a : Attributes) (p : IpPrefix)
    → mapped tables name (reflected local kind from a) p ≡ option_map (reflect local kind from) (mapped tables name a p)
mapped_reflected local kind from tables None a p = refl
mapped_reflected local kind from tables (Some name) a p = by_map_reflected local kind from tables.lists (value_named tables.maps name) a p

-- the rules with reflection told after the map
abbrev pub out_after : GroupKey → Tables → Local → IpPrefix → Path → Option OutAttrs
out_after key tables local p path =
    if is_let_out key tables p path
    then option_map (λ (m : Mapped). finished key local path.learned (reflect local key.kind path.learned (heeded key.family path.attrs.next_hop m))) (mapped tables key.map path.attrs p)
    else None

then_finished : {X Y Z : Type 0} (g : Y → Z) (h : X → Y) (x : Option X) → option_map g (option_map h x) ≡ option_map (λ (y : X). g (h y)) x
then_finished g h None = refl
then_finished g h (Some x) = refl

-- reflection changes no next hop
next_hop_reflected : (local : Local) (kind : Kind) (from : Learned) (a : Attributes) → (reflected local kind from a).next_hop ≡ a.next_hop
next_hop_reflected local External from a = refl
next_hop_reflected local Internal learned.Local a = refl
next_hop_reflected local Internal learned.External a = refl
next_hop_reflected local Internal (learned.Internal client router) a = refl
next_hop_reflected local Client learned.Local a = refl
next_hop_reflected local Client learned.External a = refl
next_hop_reflected local Client (learned.Internal client router) a = refl

with_next_hop_reflected : (local : Local) (kind : Kind) (from : Learned) (raw : IpAddress) (a : Attributes)
    → record (reflected local kind from a) { next_hop = raw } ≡ reflected local kind from (record a { next_hop = raw })
with_next_hop_reflected local External from raw a = refl
with_next_hop_reflected local Internal learned.Local raw a = refl
with_next_hop_reflected local Internal learned.External raw a = refl
with_next_hop_reflected local Internal (learned.Internal client router) raw a = refl
with_next_hop_reflected local Client learned.Local raw a = refl
with_next_hop_reflected local Client learned.External raw a = refl
with_next_hop_reflected local Client (learned.Internal client router) raw a = refl

heeded_reflected : (family : Family) (local : Local) (kind : Kind) (from : Learned) (raw : IpAddress) (m : Mapped)
    → heeded family raw (reflect local kind from m) ≡ reflect local kind from (heeded family raw m)
heeded_reflected V4 local kind from raw m = refl
heeded_reflected V6 local kind from raw m =
    ap (λ (a : Attributes). record { attrs = a; set_next_hop = false; set_med = m.set_med }) (with_next_hop_reflected local kind from raw m.attrs)

same_map_of : {X Y : Type 0} (g h : X → Y) → ((x : X) → g x ≡ h x) → (x : Option X) → option_map g x ≡ option_map h x
same_map_of g h e None = refl
same_map_of g h e (Some x) = ap Some (e x)

towards_reflected : (family : Family) (local : Local) (kind : Kind) (from : Learned) (tables : Tables) (name : Option (List ℕ)) (a : Attributes) (p : IpPrefix)
    → mapped_towards family tables name (reflected local kind from a) p ≡ option_map (λ (m : Mapped). reflect local kind from (heeded family a.next_hop m)) (mapped tables name a p)
towards_reflected family local kind from tables name a p =
    ap (λ (raw : IpAddress). option_map (heeded family raw) (mapped tables name (reflected local kind from a) p)) (next_hop_reflected local kind from a)
    ∙ ap (option_map (heeded family a.next_hop)) (mapped_reflected local kind from tables name a p)
    ∙ then_finished (heeded family a.next_hop) (reflect local kind from) (mapped tables name a p)
    ∙ same_map_of (λ (m : Mapped). heeded family a.next_hop (reflect local kind from m)) (λ (m : Mapped). reflect local kind from (heeded family a.next_hop m))
    (heeded_reflected family local kind from a.next_hop) (mapped tables name a p)

pub out_is_after : (key : GroupKey) (tables : Tables) (local : Local) (p : IpPrefix) (path : Path) → out key tables local p path ≡ out_after key tables local p path
unfolding out
out_is_after key tables local p path =
    ap (λ (x : Option OutAttrs). if is_let_out key tables p path then x else None)
    (ap (option_map (finished key local path.learned)) (towards_reflected key.family local key.kind path.learned tables key.map path.attrs p)
    ∙ then_finished (finished key local path.learned) (λ (m : Mapped). reflect local key.kind path.learned (heeded key.family path.attrs.next_hop m)) (mapped tables key.map path.attrs p))
