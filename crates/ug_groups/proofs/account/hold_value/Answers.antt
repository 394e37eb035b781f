use Rattle.std.proofs.Common.{refl}
use Rattle.ug_intern.specs.Pools.{held}
use Rattle.ug_groups.proofs.Holders.{value_uses, value_known, value_fresh, value_others}
use Rattle.ug_groups.proofs.account.hold_value.Goals as goal

pub returns-clause-uses : goal.returns-clause-uses
returns-clause-uses c = let old = c.args.pool.now in let id = c.in_ok-id.id in
    value_uses old c.hold.new.self id c.args.value (held old id) refl c.in_ok-id.ensures.known c.in_ok-id.ensures.fresh

pub returns-clause-known : goal.returns-clause-known
returns-clause-known c = let old = c.args.pool.now in let id = c.in_ok-id.id in
    value_known old c.hold.new.self id c.args.value (held old id) c.in_ok-id.ensures.known

pub returns-clause-fresh : goal.returns-clause-fresh
returns-clause-fresh c = let old = c.args.pool.now in let id = c.in_ok-id.id in
    value_fresh old c.hold.new.self id c.args.value (held old id) c.in_ok-id.ensures.fresh

pub returns-clause-others : goal.returns-clause-others
returns-clause-others c = let old = c.args.pool.now in let id = c.in_ok-id.id in
    value_others old c.hold.new.self id c.args.value (held old id) c.in_ok-id.ensures.known c.in_ok-id.ensures.fresh
