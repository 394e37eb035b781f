-- What the reader's own values stand for, and how its answers stand to what reading gives.
use Rattle.std.specs.Prelude.{◌≡◌, ℕ, ◌≤◌, List, length, take, drop, map, option_map, Result, Ok, Err}
use Rattle.ug_types.specs.declared.attrs.Segment.{Segment}
use Rattle.ug_types.specs.Listed.{Listed}
use Rattle.ug_types.specs.Attributes.{segment_of}
use Rattle.ug_update.specs.declared.attrs_fault.AttrFault.{AttrFault}
use Rattle.ug_update.specs.declared.attrs_fault.AttrFault.TheVariants as faults
use Rattle.ug_update.specs.declared.attrs_fault.AttributeFault.{AttributeFault}
use Rattle.ug_update.specs.declared.attrs_fault.AttributeFault.TheVariants as one
use Rattle.ug_update.specs.declared.found.Found.{Found}
use Rattle.ug_update.specs.declared.found.Standing.{Standing}
use Rattle.ug_message.specs.Walking.{Fault, fault}
use Rattle.ug_update.specs.declared.multiprotocol.Placed.{Placed}
use Rattle.ug_update.specs.declared.multiprotocol.Reach.{Reach}
use Rattle.ug_update.specs.declared.multiprotocol.Multiprotocol.{Multiprotocol}
use Rattle.ug_message.specs.Attribute.{Attribute}
use Rattle.ug_message.specs.Kind.{ReadSoFar}
use Rattle.ug_message.specs.Kind as kinds
use Rattle.ug_message.specs.AttributesRead as reading

-- routes at a place of all bytes
abbrev pub placed_of : List ℕ → Placed → kinds.Placed
placed_of all p = record { place = p.place; routes = take p.size (drop p.place all) }

abbrev pub reach_of : List ℕ → Reach → kinds.Reach
reach_of all r = record { next_hop = r.next_hop; routes = placed_of all r.routes }

abbrev pub so_far : List ℕ → Found → ReadSoFar
so_far all f = record {
  types = f.types.items;
  origin = f.origin;
  path = option_map (λ (p : Listed Segment). map segment_of p.items) f.path;
  next_hop = f.next_hop;
  med = f.med;
  local_pref = f.local_pref;
  atomic = f.atomic;
  aggregator = f.aggregator;
  communities = f.communities.items;
  originator = f.originator;
  clusters = f.clusters.items;
  reach = option_map (reach_of all) f.reach;
  unreach = option_map (placed_of all) f.unreach;
}

abbrev pub standing : Standing → Attribute
standing a = record { flags = a.flags; type = a.kind; place = a.place; value = a.value.now }

-- Out of memory says nothing of the bytes.
abbrev pub Fails : {Y : Type 0} → AttrFault → Result Y Fault → Type 0
Fails faults.NoMemory read = Unit {0}
Fails (faults.Refused number place) read = read ≡ Err (fault number place)

-- What a function returned, seen by view, is what reading gives, unless memory ran out.
abbrev pub Gives : {X Y : Type 0} → (X → Y) → Result X AttrFault → Result Y Fault → Type 0
Gives view (Ok x) read = read ≡ Ok (view x)
Gives view (Err e) read = Fails e read

-- the same of one attribute, whose faults have no place
abbrev pub FailsOne : {Y : Type 0} → AttributeFault → Result Y ℕ → Type 0
FailsOne one.NoMemory read = Unit {0}
FailsOne (one.Refused number) read = read ≡ Err number

abbrev pub GivesOne : {X Y : Type 0} → (X → Y) → Result X AttributeFault → Result Y ℕ → Type 0
GivesOne view (Ok x) read = read ≡ Ok (view x)
GivesOne view (Err e) read = FailsOne e read

-- an attribute's fault at its place
abbrev pub placed : AttributeFault → ℕ → AttrFault
placed one.NoMemory place = faults.NoMemory
placed (one.Refused number) place = faults.Refused number place

-- a fault from 1 to 9
abbrev pub HasNumber : AttributeFault → Type 0
HasNumber one.NoMemory = Unit {0}
HasNumber (one.Refused number) = number ≤ 9

-- a fault from 1 to 9, no further back than so many bytes
abbrev pub IsWithin : ℕ → AttrFault → Type 0
IsWithin len faults.NoMemory = Unit {0}
IsWithin len (faults.Refused number place) = (number ≤ 9) × (place ≤ len)

-- what the attributes say where routes stand among them
abbrev pub multiprotocol_of : List ℕ → Multiprotocol → reading.Multiprotocol
multiprotocol_of all m = record { attrs = m.attrs; withdrawn = placed_of all m.withdrawn; announced = placed_of all m.announced; is_alone = m.is_alone }

-- the value stands at that place of all bytes
abbrev pub StandsAt : List ℕ → ℕ → List ℕ → Type 0
StandsAt all place value = value ≡ take (length value) (drop place all)
