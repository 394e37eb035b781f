-- A peer's name is a name.
use Rattle.std.proofs.Common.{◌≡◌, ℕ, ◌≤◌, true, refl}
use Rattle.std.specs.Fmt.{digits}
use Rattle.ug_types.specs.Names.{is_name}
use Rattle.ug_selfrun.specs.Configuration.{peer_name}
use Rattle.ug_selfrun.proofs.Counted.{at_each}

pub peer_name_is : (i : ℕ) → i ≤ 16 → is_name (peer_name i) ≡ true
unfolding peer_name digits
peer_name_is i h = at_each (λ (k : ℕ). is_name (peer_name k)) 16 i refl h
