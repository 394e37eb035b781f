-- What the reader's own values stand for, and how its answers stand to what reading gives.
use Rattle.std.specs.Prelude.{◌≡◌, ℕ, ◌≤◌, Result, Ok, Err}
use Rattle.ug_update.specs.declared.fault.Fault.{Fault}
use Rattle.ug_update.specs.declared.fault.MessageFault.{MessageFault}
use Rattle.ug_update.specs.declared.fault.MessageFault.TheVariants as faults
use Rattle.ug_update.specs.declared.parts.Parts.{Parts}
use Rattle.ug_message.specs.Walking as walking
use Rattle.ug_message.specs.Reading as reading

abbrev pub fault_of : Fault → walking.Fault
fault_of f = walking.fault f.cause f.place

abbrev pub parts_of : Parts → reading.Parts
parts_of p = record { withdrawn = p.withdrawn.now; attributes = p.attributes.now; announced = p.announced.now }

-- Out of memory says nothing of the bytes.
abbrev pub Fails : {Y : Type 0} → MessageFault → Result Y walking.Fault → Type 0
Fails faults.NoMemory read = Unit {0}
Fails (faults.Refused f) read = read ≡ Err (fault_of f)

-- What a function returned, seen by view, is what reading gives, unless memory ran out.
abbrev pub Gives : {X Y : Type 0} → (X → Y) → Result X MessageFault → Result Y walking.Fault → Type 0
Gives view (Ok x) read = read ≡ Ok (view x)
Gives view (Err e) read = Fails e read

-- a fault no further back than so many bytes
abbrev pub IsWithin : ℕ → MessageFault → Type 0
IsWithin len faults.NoMemory = Unit {0}
IsWithin len (faults.Refused f) = f.place ≤ len
