use Rattle.std.proofs.Common.{sym, subst, ap, ◌∙◌}
use Rattle.ug_groups.specs.Holders.{IsMoved}
use Rattle.ug_groups.specs.Standings.{Standing, seen}
use Rattle.ug_groups.proofs.Holders.{desired_used}
use Rattle.ug_groups.proofs.Formats.{desired_seen, desired_moved}
use Rattle.ug_groups.proofs.point.Point.desire.Goals as goal

pub exchange-requires-clause-was : goal.exchange-requires-clause-was
exchange-requires-clause-was c = desired_used c.args.pool.now c.args.self.now.adj c.args.key.now c.in_ok-was.was' c.requires.counted c.in_ok-was.ensures.was

pub returns-clause-point : goal.returns-clause-point
returns-clause-point c =
    let k = c.args.self.now in
    ap (seen c.exchange.new.pool) c.in_ok-was.ensures.ok
    ∙ desired_seen c.args.pool.now c.know_ids.ensures k k.key.family c.know_kept.ensures c.requires.counted c.exchange.new.pool c.args.key.now c.args.id c.in_ok-was.was' c.requires.used c.in_ok-was.ensures.was c.exchange.ensures.exchanged

pub returns-clause-moved : goal.returns-clause-moved
returns-clause-moved c =
    let k = c.args.self.now in
    subst (λ (x : Standing). IsMoved c.args.pool.now c.exchange.new.pool k.adj x.adj) (sym c.in_ok-was.ensures.ok)
    (desired_moved c.args.pool.now c.know_ids.ensures k k.key.family c.know_kept.ensures c.requires.counted c.exchange.new.pool c.args.key.now c.args.id c.in_ok-was.was' c.in_ok-was.ensures.was c.exchange.ensures.exchanged)
