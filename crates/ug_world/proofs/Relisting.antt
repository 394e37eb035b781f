-- What another list in place of one that nobody asks changes: nothing.
use Rattle.std.proofs.Common.{◌≡◌, ℕ, Bool, true, false, ◌&&◌, ◌||◌, not, nat_lt, List, [], ◌∷◌, map, Option, Some, None, refl, ap, ◌∙◌}
use Rattle.std.specs.Prelude.{if◌then◌else◌}
use Rattle.std.specs.List.{list_any}
use Rattle.std.specs.Option.{option_map}
use Rattle.std.specs.Cmp.Lexicographic.{nat_list_eq_equiv}
use Rattle.ug_types.specs.Ip.{IpPrefix}
use Rattle.ug_types.specs.Attributes.{Attributes}
use Rattle.ug_types.specs.declared.route.Path.{Path}
use Rattle.ug_types.specs.Bytes.{same_bytes}
use Rattle.ug_policy.specs.declared.list_entry.ListEntry.{ListEntry}
use Rattle.ug_policy.specs.Named.{NamedList, value_named, list_permits, is_permitted}
use Rattle.ug_policy.specs.declared.mapped.Mapped.{Mapped}
use Rattle.ug_policy.specs.Rules.{MapRule}
use Rattle.ug_policy.specs.Maps.{is_met, is_met_by, mapped_by, so_far, goes_to, goes_on, map_walk}
use Rattle.ug_outbound.specs.Tables.{Tables}
use Rattle.ug_outbound.specs.declared.settings.Local.{Local}
use Rattle.ug_outbound.specs.declared.key.GroupKey.{GroupKey}
use Rattle.ug_outbound.specs.Outbound.{reflected, mapped_by_map, mapped, heeded, finished, is_let_out, out}
use Rattle.ug_world.specs.After.{relisted}
use Rattle.ug_world.specs.Touches.{is_called, asks, is_asked_by, is_asked_in, decides_for}

pub neither : (a b : Bool) → (a || b) ≡ false → (a ≡ false) × (b ≡ false)
neither true b e = absurd cc
neither false b e = (refl, e)

-- an entry at what was mapped so far
abbrev at_entry : (Attributes → MapRule → Bool) → Attributes → ℕ → Option Mapped → MapRule → List MapRule → Bool → Mapped → Option Mapped
at_entry met given least before r rules is_met m =
    if nat_lt r.seq least || not is_met then map_walk met given least before rules
    else (if r.permit then goes_on (λ n. map_walk met given n (Some m) rules) m (goes_to r.on_match least) else None)

one_entry : (skip permit : Bool) (to : Option ℕ) (m : Mapped) (rest rest' : Option Mapped) (walk walk' : ℕ → Option Mapped)
    → rest ≡ rest' → ((n : ℕ) → walk n ≡ walk' n)
    → (if skip then rest else (if permit then goes_on walk m to else None)) ≡ (if skip then rest' else (if permit then goes_on walk' m to else None))
one_entry true permit to m rest rest' walk walk' e h = e
one_entry false true None m rest rest' walk walk' e h = refl
one_entry false true (Some n) m rest rest' walk walk' e h = h n
one_entry false false to m rest rest' walk walk' e h = refl

-- a walk over entries of which none asks sees no difference
module _ (met met' : Attributes → MapRule → Bool) (ask : MapRule → Bool) (alike : (a : Attributes) (r : MapRule) → ask r ≡ false → met a r ≡ met' a r) where
  pub walk_alike : (given : Attributes) (least : ℕ) (before : Option Mapped) (rules : List MapRule) → list_any ask rules ≡ false
      → map_walk met given least before rules ≡ map_walk met' given least before rules
  walk_alike given least before [] none = refl
  walk_alike given least before (r ∷ rules) none =
      let m = so_far given before in
      let parts = neither (ask r) (list_any ask rules) none in
      ap (λ (b : Bool). at_entry met given least before r rules b (mapped_by r m)) (alike m.attrs r parts.0)
      ∙ one_entry (nat_lt r.seq least || not (met' m.attrs r)) r.permit (goes_to r.on_match least) (mapped_by r m)
      (map_walk met given least before rules) (map_walk met' given least before rules)
      (λ n. map_walk met given n (Some (mapped_by r m)) rules) (λ n. map_walk met' given n (Some (mapped_by r m)) rules)
      (walk_alike given least before rules parts.1) (λ n. walk_alike given n (Some (mapped_by r m)) rules parts.1)

module _ (name : List ℕ) (entries : List ListEntry) where
  abbrev relist : List NamedList → List NamedList
  relist lists = map (relisted name entries) lists

  value_relisted : (n : List ℕ) (lists : List NamedList) → same_bytes n name ≡ false → value_named (relist lists) n ≡ value_named lists n
  value_relisted n [] apart = refl
  value_relisted n (l ∷ lists) apart = by_name (same_bytes l.name name) refl (value_relisted n lists apart)
    where
      by_name : (b : Bool) → same_bytes l.name name ≡ b → value_named (relist lists) n ≡ value_named lists n → value_named (relist (l ∷ lists)) n ≡ value_named (l ∷ lists) n
      by_name true is h =
          let other : same_bytes l.name n ≡ false = nat_list_eq_equiv.congr l.name name n is ∙ nat_list_eq_equiv.symm name n ∙ apart in
          rw (is, other, h) refl
      by_name false is h = rw (is, h) refl

  permitted_relisted : (lists : List NamedList) (p : IpPrefix) (asked : Option (List ℕ)) → is_called name asked ≡ false → is_permitted (relist lists) p asked ≡ is_permitted lists p asked
  permitted_relisted lists p None none = refl
  permitted_relisted lists p (Some n) none = ap (λ (l : Option (List ListEntry)). list_permits l p) (value_relisted n lists none)

  met_relisted : (lists : List NamedList) (p : IpPrefix) (a : Attributes) (r : MapRule) → asks name r ≡ false → is_met (relist lists) p a r ≡ is_met lists p a r
  met_relisted lists p a r none = ap (λ (b : Bool). b && is_met_by a r) (permitted_relisted lists p r.match_prefix_list none)

  by_map_relisted : (lists : List NamedList) (rules : Option (List MapRule)) (a : Attributes) (p : IpPrefix) → is_asked_by name rules ≡ false
      → mapped_by_map (relist lists) rules a p ≡ mapped_by_map lists rules a p
  by_map_relisted lists None a p none = refl
  by_map_relisted lists (Some rules) a p none = walk_alike (is_met (relist lists) p) (is_met lists p) (asks name) (met_relisted lists p) a 0 None rules none

  abbrev pub relisted_tables : Tables → Tables
  relisted_tables tables = record { lists = relist tables.lists; maps = tables.maps }

  mapped_relisted : (tables : Tables) (given : Option (List ℕ)) (a : Attributes) (p : IpPrefix) → is_asked_in tables name given ≡ false
      → mapped (relisted_tables tables) given a p ≡ mapped tables given a p
  mapped_relisted tables None a p none = refl
  mapped_relisted tables (Some map_name) a p none = by_map_relisted tables.lists (value_named tables.maps map_name) a p none

  pub out_relisted : (group : GroupKey) (tables : Tables) (local : Local) (p : IpPrefix) (path : Path) → decides_for tables group name ≡ false
      → out group (relisted_tables tables) local p path ≡ out group tables local p path
  unfolding out
  out_relisted group tables local p path none =
      let parts = neither (is_called name group.list) (is_asked_in tables name group.map) none in
      let given = reflected local group.kind path.learned path.attrs in
      let let_out : is_let_out group (relisted_tables tables) p path ≡ is_let_out group tables p path =
      rw (permitted_relisted tables.lists p group.list parts.0) refl in
      ap (λ (b : Bool). if b then option_map (finished group local path.learned) (option_map (heeded group.family given.next_hop) (mapped (relisted_tables tables) group.map given p)) else None) let_out
      ∙ ap (λ (m : Option Mapped). if is_let_out group tables p path then option_map (finished group local path.learned) (option_map (heeded group.family given.next_hop) m) else None)
      (mapped_relisted tables group.map given p parts.1)
