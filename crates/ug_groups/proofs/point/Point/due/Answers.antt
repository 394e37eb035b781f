use Rattle.std.specs.Prelude.{IfOk}
use Rattle.std.proofs.Common.{sym, subst}
use Rattle.ug_types.specs.declared.family.Family.{Family}
use Rattle.ug_group_rules.specs.Packets.{routes_due}
use Rattle.ug_groups.specs.Values.{out_in}
use Rattle.ug_groups.specs.Holders.{IsCounted}
use Rattle.ug_groups.specs.Sent.{IsRouted}
use Rattle.ug_groups.specs.Standings.{Standing, IsFit, seen}
use Rattle.ug_groups.proofs.Holders.{desired_live}
use Rattle.ug_groups.proofs.Formats.{ready}
use Rattle.ug_groups.proofs.point.Point.due.Goals as goal

pub routed-requires-clause-live : goal.routed-requires-clause-live
routed-requires-clause-live c = desired_live c.args.pool.now c.self.inside.out.adj (subst (λ (k : Standing). IsCounted c.args.pool.now k.adj) (sym c.self.view_is) c.requires.counted)

pub routed-requires-clause-ready : goal.routed-requires-clause-ready
routed-requires-clause-ready c =
    let i = c.self.inside in let pool = c.args.pool.now in
    let k : Standing = record { key = i.key; adj = i.out.adj; ending = i.ending; fresh = i.fresh; phase = i.phase; stuck = i.stuck } in
    ready pool k i.out.family c.self.invariant (subst (λ (x : Standing). IsCounted pool x.adj) (sym c.self.view_is) c.requires.counted) (subst (λ (x : Standing). IsFit (seen pool x)) (sym c.self.view_is) c.requires.fit)

pub returns : goal.returns
returns c =
    let i = c.self.inside in let pool = c.args.pool.now in
    subst (λ (k : Standing). IfOk c.routed.result (IsRouted k.key c.args.made (record { family = k.key.family; adj = k.adj }) (routes_due k.key (out_in pool k.adj)))) c.self.view_is
    (subst (λ (f : Family). IfOk c.routed.result (IsRouted i.key c.args.made (record { family = f; adj = i.out.adj }) (routes_due i.key (out_in pool i.out.adj)))) c.self.invariant.family_is c.routed.ensures)
