-- What never goes out.
use Rattle.std.proofs.Common.{◌≡◌, ℕ, Bool, true, false, ◌&&◌, ◌||◌, List, [], ◌∷◌, Some, None, refl, ap, ◌∙◌, subst}
use Rattle.std.specs.Prelude.{if◌then◌else◌}
use Rattle.ug_types.specs.Ip.{IpAddress, IpPrefix, same_family}
use Rattle.ug_types.specs.Attributes.{PathSegment}
use Rattle.ug_types.specs.declared.route.Learned.{Learned}
use Rattle.ug_types.specs.declared.route.Learned.TheVariants as learned
use Rattle.ug_types.specs.declared.route.Path.{Path}
use Rattle.ug_types.specs.declared.route.OutAttrs.{OutAttrs}
use Rattle.ug_policy.specs.Paths.{begins_with_room, sequence, prepended}
use Rattle.ug_policy.specs.declared.mapped.Mapped.{Mapped}
use Rattle.ug_policy.specs.Maps.{holds}
use Rattle.ug_outbound.specs.declared.settings.Local.{Local}
use Rattle.ug_outbound.specs.declared.kind.Kind.{Kind}
use Rattle.ug_outbound.specs.declared.kind.Kind.TheVariants.{External, Internal, Client}
use Rattle.ug_outbound.specs.declared.key.GroupKey.{GroupKey}
use Rattle.ug_outbound.specs.Tables.{Tables}
use Rattle.ug_outbound.specs.Outbound.{communities_allow, reflection_allows, reflected, heeded, prepended_towards, local_pref_out, finished, is_let_out, out}
use Rattle.ug_outbound.specs.Bounds.{first_number}
use Rattle.ug_outbound.proofs.Mapping.{reflect}
use Rattle.ug_outbound.proofs.Bounds.{comes_of}

and_false : (a : Bool) → (a && false) ≡ false
and_false true = refl
and_false false = refl

not_first : (a b : Bool) → a ≡ false → (a && b) ≡ false
not_first a b e = rw e refl

not_second : (a b : Bool) → b ≡ false → (a && b) ≡ false
not_second a b e = rw e (and_false a)

-- a path that its communities keep back
kept_back : (key : GroupKey) (tables : Tables) (p : IpPrefix) (path : Path) → communities_allow key.kind path.attrs.communities ≡ false → is_let_out key tables p path ≡ false
kept_back key tables p path e = not_second (same_family key.family p.family) _ (not_first (communities_allow key.kind path.attrs.communities) _ e)

or_true : (a : Bool) → (a || true) ≡ true
or_true true = refl
or_true false = refl

pub kept : (key : GroupKey) (tables : Tables) (local : Local) (p : IpPrefix) (path : Path) → is_let_out key tables p path ≡ false → out key tables local p path ≡ None
unfolding out
kept key tables local p path e = rw e refl

advertised_to_none : (kind : Kind) (ns : List ℕ) → holds 4294967042 ns ≡ true → communities_allow kind ns ≡ false
advertised_to_none External ns h = rw h refl
advertised_to_none Internal ns h = rw h refl
advertised_to_none Client ns h = rw h refl

pub no_advertise : (key : GroupKey) (tables : Tables) (local : Local) (p : IpPrefix) (path : Path) → holds 4294967042 path.attrs.communities ≡ true → out key tables local p path ≡ None
no_advertise key tables local p path h = kept key tables local p path (kept_back key tables p path (advertised_to_none key.kind path.attrs.communities h))

exported_to_none : (ns : List ℕ) → holds 4294967041 ns ≡ true → communities_allow External ns ≡ false
exported_to_none ns h = rw (h, or_true (holds 4294967042 ns)) refl

pub no_export : (key : GroupKey) (tables : Tables) (local : Local) (p : IpPrefix) (path : Path) → key.kind ≡ External → holds 4294967041 path.attrs.communities ≡ true → out key tables local p path ≡ None
no_export key tables local p path k h =
    kept key tables local p path
    (kept_back key tables p path (ap (λ (kind : Kind). communities_allow kind path.attrs.communities) k ∙ exported_to_none path.attrs.communities h))

subconfed_to_none : (ns : List ℕ) → holds 4294967043 ns ≡ true → communities_allow External ns ≡ false
subconfed_to_none ns h = rw (h, or_true (holds 4294967042 ns || holds 4294967041 ns)) refl

pub no_export_subconfed : (key : GroupKey) (tables : Tables) (local : Local) (p : IpPrefix) (path : Path) → key.kind ≡ External → holds 4294967043 path.attrs.communities ≡ true → out key tables local p path ≡ None
no_export_subconfed key tables local p path k h =
    kept key tables local p path
    (kept_back key tables p path (ap (λ (kind : Kind). communities_allow kind path.attrs.communities) k ∙ subconfed_to_none path.attrs.communities h))

pub reflection : (key : GroupKey) (tables : Tables) (local : Local) (p : IpPrefix) (path : Path) (router : IpAddress) → key.kind ≡ Internal → path.learned ≡ learned.Internal false router → out key tables local p path ≡ None
reflection key tables local p path router k l =
    let no : reflection_allows key.kind path.learned ≡ false = ap (λ (kind : Kind). reflection_allows kind path.learned) k ∙ ap (reflection_allows Internal) l in
    kept key tables local p path
    (not_second (same_family key.family p.family) _ (not_second (communities_allow key.kind path.attrs.communities) _ (not_first (reflection_allows key.kind path.learned) _ no)))

-- what an external peer is told

abbrev ToldNothingInternal : OutAttrs → Type 0
ToldNothingInternal o = (o.attrs.local_pref ≡ None) × (o.attrs.originator ≡ None) × (o.attrs.clusters ≡ [])

told_outside : (kind : Kind) (key : GroupKey) (local : Local) (from : Learned) (m : Mapped) → kind ≡ External → key.kind ≡ kind → ToldNothingInternal (finished key local from (reflect local key.kind from m))
told_outside kind key local from m e k =
    let x : key.kind ≡ External = k ∙ e in (
      ap (λ (c : Kind). local_pref_out c (reflected local key.kind from m.attrs).local_pref) x,
      ap (λ (c : Kind). (reflected local c from m.attrs).originator) x,
      ap (λ (c : Kind). (reflected local c from m.attrs).clusters) x,
    )

pub external : (key : GroupKey) (tables : Tables) (local : Local) (p : IpPrefix) (path : Path) (o : OutAttrs) → out key tables local p path ≡ Some o → key.kind ≡ External → ToldNothingInternal o
external key tables local p path o e k =
    let from = comes_of key tables local p path o e in
    subst ToldNothingInternal from.out (told_outside External key local path.learned (heeded key.family path.attrs.next_hop from.m) refl k)

first_prepended : (asn : ℕ) (path : List PathSegment) → first_number (prepended asn path) ≡ Some asn
first_prepended asn [] = refl
first_prepended asn (s ∷ path) = one (begins_with_room (s ∷ path))
  where
    one : (b : Bool) → first_number (if b then sequence (asn ∷ s.numbers) ∷ path else sequence (asn ∷ []) ∷ s ∷ path) ≡ Some asn
    one true = refl
    one false = refl

first_towards : (kind : Kind) (asn : ℕ) (path : List PathSegment) → kind ≡ External → first_number (prepended_towards kind asn path) ≡ Some asn
first_towards kind asn path k = ap (λ (c : Kind). first_number (prepended_towards c asn path)) k ∙ first_prepended asn path

pub first : (key : GroupKey) (tables : Tables) (local : Local) (p : IpPrefix) (path : Path) (o : OutAttrs) → out key tables local p path ≡ Some o → key.kind ≡ External → first_number o.attrs.path ≡ Some local.asn
first key tables local p path o e k =
    let from = comes_of key tables local p path o e in
    subst (λ (x : OutAttrs). first_number x.attrs.path ≡ Some local.asn) from.out (first_towards key.kind local.asn _ k)
