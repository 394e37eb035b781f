-- The rows of the Loc-RIB behind a prefix.
use Rattle.std.specs.Borrow.{Bor}
use Rattle.std.specs.Prelude.{Bool, true, List, Option, Some, None}
use Rattle.std.specs.List.{filter}
use Rattle.std.specs.Ordering.{is_lt}
use Rattle.ug_types.specs.Ip.{IpPrefix}
use Rattle.ug_types.specs.Keys.{prefix_cmp}
use Rattle.ug_types.specs.declared.route.Path.{Path}
use Rattle.ug_world.specs.World.{Routes}

-- a prefix stands behind another; each stands behind none
abbrev pub is_behind : Option IpPrefix → IpPrefix → Bool
is_behind None q = true
is_behind (Some p) q = is_lt (prefix_cmp p q)

-- the rows whose prefixes stand behind one, in their order; all rows, where none is given
abbrev pub rows_behind : Option IpPrefix → Routes → Routes
rows_behind from routes = filter (λ (row : IpPrefix × List Path). is_behind from row.0) routes

-- a row that is lent
abbrev pub row_lent : IpPrefix × Bor (List Path) → IpPrefix × List Path
row_lent row = (row.0, row.1.now)
