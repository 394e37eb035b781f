-- A source that was read whole, and what it stands for.
use Rattle.std.proofs.Common.{◌≡◌, ℕ, ◌≤◌, List, length, Option, Some, Err, Ok, ap, subst}
use Rattle.ug_edge.specs.Told.{IsEnded}
use Rattle.ug_pieces.specs.Pieces.{HasRead}
use Rattle.ug_config.specs.Reads.{Reads, Refusal, fault_of}
use Rattle.ug_world.specs.World.{World}
use Rattle.ug_config.specs.Worlds.{config}
use Rattle.ug_commands.specs.Grouped.{most_bytes, IsWholly}

pub wholly : (left now : Option (List ℕ)) (bytes : List ℕ) (x : Reads World) → HasRead left now (λ read. IsEnded now × (length read ≤ 1048576) × (bytes ≡ read)) → config bytes ≡ x → IsWholly left now x
unfolding most_bytes
wholly left now bytes x h is = record { read = h.read; taken = h.taken; so = (h.so.0, h.so.1, subst (λ (r : List ℕ). config r ≡ x) h.so.2 is) }

some_is : {X : Type 0} (x y : X) → Some x ≡ Some y → x ≡ y
some_is x y e = cc

-- the fault that a reading has is what it gives
pub fault_is : {A : Type 0} (r : Reads A) (refusal : Refusal) → fault_of r ≡ Some refusal → r ≡ Err refusal
fault_is (Ok x) refusal e = absurd cc
fault_is (Err x) refusal e = ap (λ y. Err y) (some_is x refusal e)
