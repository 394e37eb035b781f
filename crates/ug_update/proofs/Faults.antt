-- What can't be read is the fault of the whole.
use Rattle.std.proofs.Common.{◌≡◌, ℕ, ◌<◌, Bool, Option, Ok, List, length, drop, Result, sym, ap, ◌∙◌}
use Rattle.ug_types.specs.declared.family.Family.{Family}
use Rattle.ug_types.specs.declared.family.Family.TheVariants.{V6}
use Rattle.ug_types.specs.Ip.{IpAddress}
use Rattle.ug_types.specs.Attributes.{PathSegment, Attributes}
use Rattle.ug_update.specs.declared.attrs_fault.AttrFault.{AttrFault}
use Rattle.ug_update.specs.declared.attrs_fault.AttrFault.TheVariants as faults
use Rattle.ug_update.specs.declared.attrs_fault.AttributeFault.{AttributeFault}
use Rattle.ug_update.specs.declared.attrs_fault.AttributeFault.TheVariants as one
use Rattle.ug_message.specs.Walking.{Fault, fault, ◌>>=◌, at, walk, walk_all, with_one}
use Rattle.ug_message.specs.Kind.{ReadSoFar, nothing_read}
use Rattle.ug_message.specs.AttributeTable.{segment_at, path_in}
use Rattle.ug_message.specs.AttributesRead.{one_attribute, attribute_step, Multiprotocol, with_mandatory, next_hop_in, attributes_in, at_end, has_routes, announced_in, withdrawn_in, is_alone_in, read_multiprotocol}
use Rattle.ug_update.specs.AttrsViews.{Fails, FailsOne, placed}
use Rattle.ug_message.proofs.Walks.{collect_stops, walk_stops}

pub path_fails : (e : AttributeFault) (place : ℕ) (so_far : List PathSegment) (bytes rest : List ℕ) → rest ≡ drop place bytes → 0 < length rest
    → walk (with_one (λ place. segment_at)) 0 place so_far (drop place bytes) ≡ path_in bytes → FailsOne e (segment_at rest) → FailsOne e (path_in bytes)
path_fails one.NoMemory place so_far bytes rest at some same is = tt
path_fails (one.Refused number) place so_far bytes rest at some same is = sym same ∙ collect_stops (λ place. segment_at) place place so_far number bytes rest at some is

-- An attribute that can't be read is the fault of all, at its place.
pub attributes_fail : (family : Family) (e : AttributeFault) (place : ℕ) (r : ReadSoFar) (bytes rest : List ℕ) → rest ≡ drop place bytes → 0 < length rest
    → walk (attribute_step family) 0 place r (drop place bytes) ≡ walk_all (attribute_step family) nothing_read bytes → FailsOne e (one_attribute family place r rest)
    → Fails (placed e place) (walk_all (attribute_step family) nothing_read bytes)
attributes_fail family one.NoMemory place r bytes rest is_rest some same is = tt
attributes_fail family (one.Refused number) place r bytes rest is_rest some same is =
    sym same ∙ walk_stops (attribute_step family) place place r (fault number place) bytes rest is_rest some (ap (λ (x : Result (ReadSoFar × ℕ) ℕ). at place x) is)

-- what is missing at the end is the fault of all
pub multiprotocol_fails : (e : AttrFault) (bytes : List ℕ) (r : ReadSoFar) (need : Bool) (hop : Option IpAddress) → walk_all (attribute_step V6) nothing_read bytes ≡ Ok r → need ≡ has_routes (announced_in r)
    → hop ≡ next_hop_in V6 r → Fails e (at_end need (with_mandatory r.origin r.path hop r)) → Fails e (read_multiprotocol bytes)
unfolding read_multiprotocol
multiprotocol_fails faults.NoMemory bytes r need hop read needed found is = tt
multiprotocol_fails (faults.Refused number place) bytes r need hop read needed found is =
    let made : Option Attributes → Result Multiprotocol Fault = λ attrs. Ok (record { attrs = attrs; withdrawn = withdrawn_in r; announced = announced_in r; is_alone = is_alone_in r.types (withdrawn_in r) }) in
    ap (λ (x : Result ReadSoFar Fault). x >>= λ r. (at_end (has_routes (announced_in r)) (attributes_in V6 r) >>= λ attrs. Ok (record { attrs = attrs; withdrawn = withdrawn_in r; announced = announced_in r; is_alone = is_alone_in r.types (withdrawn_in r) }))) read
    ∙ ap (λ (b : Bool). at_end b (attributes_in V6 r) >>= made) (sym needed)
    ∙ ap (λ (h : Option IpAddress). at_end need (with_mandatory r.origin r.path h r) >>= made) (sym found)
    ∙ ap (λ (y : Result (Option Attributes) Fault). y >>= made) is
