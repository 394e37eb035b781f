-- What the steps of a lane leave.
use Rattle.std.specs.Prelude.{◌≡◌, ℕ, Bool, List}
use Rattle.ug_board.specs.declared.steps.LaneStep.TheVariants.{Next}
use Rattle.ug_board.specs.declared.steps.LaneSaid.{LaneSaid}
use Rattle.ug_board.specs.Rules.{LeavesHanded}
use Rattle.ug_world.specs.World.{World}
use Rattle.ug_group_rules.specs.Machine.{System, with_loss, after_next, after_loss}
use Rattle.ug_speaker.specs.Places.{change_at}
use Rattle.ug_group_rules.specs.Rules.{group_rules, lane_reply}
use Rattle.ug_groups.specs.Rows.{Rows}
use Rattle.ug_groups.specs.declared.member.Member.{Member}
use Rattle.ug_groups.specs.Members.{members_from, system, sub_at}
use Rattle.ug_groups.specs.Kept.{IsKept}

-- What is next for a peer is done: this is said, and these are the subgroups and the members then, and the buffer.
pub record IsStepped (w : World) (closed : Bool) (made p : ℕ) (old : System) (said : LaneSaid) (rows : Rows) (members : List Member) (buf : List ℕ) : Type 0 where
  pub said_is : said ≡ lane_reply (Next p) old
  pub state : system w closed made rows members ≡ after_next p old
  pub handed : LeavesHanded group_rules (Next p) said old buf
  pub kept : IsKept w closed made rows members

-- what each of these steps keeps, whatever is formatted, and whether there will be more jobs
abbrev pub StaysKept : World → Rows → List Member → Rows → List Member → Type 0
StaysKept w rows members new now = (closed : Bool) (made : ℕ) → IsKept w closed made rows members → IsKept w closed made new now

abbrev pub WereKept : World → Rows → List Member → Type 0
WereKept w rows members = (closed : Bool) × (made : ℕ) × IsKept w closed made rows members

-- The loss of a session of a peer is noted at the member,
pub record IsNoted (p n : ℕ) (members now : List Member) : Type 0 where
  pub view : (rows : Rows) → members_from rows 0 now ≡ change_at (with_loss n) p (members_from rows 0 members)
  pub subs : (q : ℕ) → sub_at q now ≡ sub_at q members
  pub kept : (w : World) (rows : Rows) → StaysKept w rows members rows now

-- and then it has no seat, if it is the present one.
pub record IsLost (w : World) (p n : ℕ) (rows : Rows) (members : List Member) (new : Rows) (now : List Member) : Type 0 where
  pub state : (closed : Bool) (made : ℕ) → system w closed made new now ≡ after_loss p n (system w closed made rows members)
  pub kept : StaysKept w rows members new now
