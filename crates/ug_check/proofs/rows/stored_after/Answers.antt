use Rattle.std.specs.Prelude.{option_copied}
use Rattle.std.specs.Option.{option_map}
use Rattle.ug_check.specs.Stored.{row_lent}
use Rattle.ug_check.proofs.After.{first_v4, first_v6}
use Rattle.ug_check.proofs.rows.stored_after.Goals as goal

pub returns-in-Some : goal.returns-in-Some
returns-in-Some c =
    first_v4 c.requires.0 c.args.v4.now.entries c.args.v6.now.entries (option_copied c.args.key) (c.in-Some.row.0, c.in-Some.row.1.now) c.requires.1 c.in-Some.ensures

pub returns-in-None : goal.returns-in-None
returns-in-None c =
    first_v6 c.requires.0 c.args.v4.now.entries c.args.v6.now.entries (option_copied c.args.key) (option_map row_lent c.v6_after.result) c.requires.1 c.in-None.ensures c.v6_after.ensures
