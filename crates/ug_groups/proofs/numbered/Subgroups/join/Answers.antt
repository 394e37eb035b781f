use Rattle.std.specs.Prelude.{None}
use Rattle.ug_groups.specs.Rows.{joined_row}
use Rattle.ug_groups.proofs.Accounts.{kept_after, rows_after, done_in, same_pool}
use Rattle.ug_groups.proofs.numbered.Subgroups.join.Goals as goal

pub invariant_of-self : goal.invariant_of-self
invariant_of-self c =
    let i = c.self.inside in let change = joined_row c.args.member in
    kept_after i.pool i.pool i.live c.join.new.live c.args.g change i.classes None c.self.invariant c.join.result (done_in i.pool i.live c.join.new.live c.args.g change c.join.result c.join.ensures.ok) c.join.ensures.err (same_pool i.pool c.join.result)

pub returns-clause-ok : goal.returns-clause-ok
returns-clause-ok c =
    let i = c.self.inside in let change = joined_row c.args.member in
    rows_after i.pool i.pool i.live c.join.new.live c.args.g change i.classes None c.self.invariant c.join.result c.args.self.now c.self.view_is (done_in i.pool i.live c.join.new.live c.args.g change c.join.result c.join.ensures.ok)
