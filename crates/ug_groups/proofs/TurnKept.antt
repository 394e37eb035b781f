-- What is kept, as entering asks for it.
use Rattle.std.proofs.Common.{◌≡◌, ℕ, Bool, List, Option, Some, None, slice_get, refl, ap, ◌∙◌}
use Rattle.std.specs.Option.{option_map}
use Rattle.ug_world.specs.World.{World}
use Rattle.ug_group_rules.specs.Machine.{Subgroup, seat_at, seat_of, there}
use Rattle.ug_groups.specs.Rows.{Row, Rows, row_at, sub_of, subs_of}
use Rattle.ug_groups.specs.Entered.{AreKept}
use Rattle.ug_groups.specs.declared.member.Member.{Member}
use Rattle.ug_groups.specs.Members.{seat_in, member_of, system, sub_in, sub_at}
use Rattle.ug_groups.specs.Kept.{AreTabled, AreRows}
use Rattle.ug_groups.proofs.MemberViews.{member-get}
use Rattle.ug_groups.proofs.RowsAt.{sub-at}

pub kept-of : (w : World) (rows : Rows) → AreRows rows → AreTabled w rows → AreKept w rows
kept-of w rows each tabled g r is = let row = each g r is in record { exact = row.exact; shown = row.shown; desires = (tabled g r is).desires }

-- the seat of a peer
pub seat-view : (p : ℕ) (w : World) (closed : Bool) (made : ℕ) (rows : Rows) (members : List Member) → seat_at p (system w closed made rows members) ≡ option_map (seat_in rows p) (sub_at p members)
seat-view p w closed made rows members = ap seat_of (member-get rows p members) ∙ by (slice_get members p)
  where
    by : (o : Option Member) → seat_of (option_map (member_of rows p) o) ≡ option_map (seat_in rows p) (sub_in o)
    by None = refl
    by (Some m) = refl

-- the subgroup of a row
pub subs-at : (rows : Rows) (g : ℕ) (r : Row) → row_at g rows ≡ Some r → slice_get (subs_of rows) g ≡ Some (Some r.sub)
subs-at rows g r is = by (slice_get (subs_of rows) g) (sub-at g rows ∙ ap (option_map sub_of) is)
  where
    by : (o : Option (Option Subgroup)) → there o ≡ Some r.sub → o ≡ Some (Some r.sub)
    by None e = absurd cc
    by (Some None) e = absurd cc
    by (Some (Some y)) e = cc
