-- Where a machine stands, and that what it keeps is so.
use Rattle.std.specs.Prelude.{◌≡◌, ℕ, Bool, List}
use Rattle.ug_world.specs.World.{World}
use Rattle.ug_group_rules.specs.Machine.{System}
use Rattle.ug_groups.specs.Rows.{Rows}
use Rattle.ug_groups.specs.declared.member.Member.{Member}
use Rattle.ug_groups.specs.Members.{system}
use Rattle.ug_groups.specs.Kept.{IsKept}

-- These are the parts of the system.
pub record IsAt (s : System) (w : World) (closed : Bool) (made : ℕ) (rows : Rows) (members : List Member) : Type 0 where
  pub state : system w closed made rows members ≡ s
  pub kept : IsKept w closed made rows members
