-- Attributes stay well formed on their way out.
use Rattle.std.proofs.Common.{◌≡◌, ℕ, Bool, true, false, List, Option, Some, None, refl}
use Rattle.std.specs.Prelude.{nat_le}
use Rattle.std.specs.List.{list_all}
use Rattle.ug_types.specs.Attributes.{PathSegment, Attributes, is_segment, is_well_formed}
use Rattle.ug_types.specs.declared.route.Learned.{Learned}
use Rattle.ug_types.specs.declared.route.Learned.TheVariants as learned
use Rattle.ug_policy.specs.Paths.{AreSegments}
use Rattle.ug_policy.proofs.KeptSegments.{both, and_true, prepended_kept, overridden_kept, without_private_kept}
use Rattle.ug_outbound.specs.declared.settings.Local.{Local}
use Rattle.ug_outbound.specs.declared.kind.Kind.{Kind}
use Rattle.ug_outbound.specs.declared.kind.Kind.TheVariants.{External, Internal, Client}
use Rattle.ug_outbound.specs.declared.key.GroupKey.{GroupKey}
use Rattle.ug_outbound.specs.Outbound.{reflected, privates_removed, as_overridden, prepended_towards, path_out, attributes_out}

reflected_kept : (local : Local) (kind : Kind) (from : Learned) (a : Attributes) → is_well_formed (reflected local kind from a) ≡ is_well_formed a
reflected_kept local External from a = refl
reflected_kept local Internal learned.Local a = refl
reflected_kept local Internal learned.External a = refl
reflected_kept local Internal (learned.Internal client router) a = refl
reflected_kept local Client learned.Local a = refl
reflected_kept local Client learned.External a = refl
reflected_kept local Client (learned.Internal client router) a = refl

removed_kept : (remove : Bool) (path : List PathSegment) → AreSegments path → AreSegments (privates_removed remove path)
removed_kept true path h = without_private_kept path h
removed_kept false path h = h

as_overridden_kept : (old : Option ℕ) (asn : ℕ) (path : List PathSegment) → AreSegments path → AreSegments (as_overridden old asn path)
as_overridden_kept None asn path h = h
as_overridden_kept (Some old) asn path h = overridden_kept old asn path h

towards_kept : (kind : Kind) (asn : ℕ) (path : List PathSegment) → AreSegments path → AreSegments (prepended_towards kind asn path)
towards_kept External asn path h = prepended_kept asn path h
towards_kept Internal asn path h = h
towards_kept Client asn path h = h

pub out_kept : (key : GroupKey) (local : Local) (from : Learned) (set_med : Bool) (a : Attributes) → is_well_formed a ≡ true → is_well_formed (attributes_out key local from set_med a) ≡ true
out_kept key local from set_med a h =
    let parts = both (list_all is_segment a.path) (nat_le a.origin 2) h in
    and_true (list_all is_segment (path_out key local a.path)) (nat_le a.origin 2)
    (towards_kept key.kind local.asn _ (as_overridden_kept key.as_override local.asn _ (removed_kept key.remove_private_as a.path parts.0))) parts.1

pub reflected_formed : (local : Local) (kind : Kind) (from : Learned) (a : Attributes) → is_well_formed a ≡ true → is_well_formed (reflected local kind from a) ≡ true
reflected_formed local kind from a h = rw (reflected_kept local kind from a) h
