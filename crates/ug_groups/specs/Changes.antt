-- What a peer that comes, goes or moves makes of the subgroups and of the members.
use Rattle.std.specs.Prelude.{ℕ, nat_lt, ◌==◌, Bool, List, [], ◌∷◌, length, Option, Some, None, if◌then◌else◌}
use Rattle.std.specs.Option.{option_map}
use Rattle.ug_speaker.specs.Places.{change_at}
use Rattle.ug_groups.specs.Rows.{Row, Rows, row_at, any_at, with_row, without_row, left_row}
use Rattle.ug_groups.specs.declared.member.Member.{Member}

-- it sits there now, or nowhere
abbrev pub with_sub : Option ℕ → Member → Member
with_sub sub m = record m { sub = sub }

abbrev pub has_places : Row → Bool
has_places r = nat_lt 0 (length r.queue.places)

-- a subgroup without members is gone
abbrev pub unless_left : ℕ → Rows → Rows
unless_left g rows = if any_at has_places (row_at g rows) then rows else without_row g rows

-- the peer leaves its subgroup
abbrev pub left_rows : ℕ → Option ℕ → Rows → Rows
left_rows p None rows = rows
left_rows p (Some g) rows = unless_left g (with_row g (left_row p) rows)

-- ---- several move

-- who sat in one subgroup sits in another
abbrev pub moved_sub : ℕ → ℕ → ℕ → ℕ
moved_sub from to g = if g == from then to else g

abbrev pub moved_member : ℕ → ℕ → Member → Member
moved_member from to m = record m { sub = option_map (moved_sub from to) m.sub }

-- those listed sit there
abbrev pub seat_listed : ℕ → List ℕ → List Member → List Member
seat_listed g [] members = members
seat_listed g (p ∷ ps) members = seat_listed g ps (change_at (with_sub (Some g)) p members)
