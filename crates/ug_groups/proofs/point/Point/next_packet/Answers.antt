use Rattle.std.specs.Prelude.{Option}
use Rattle.std.proofs.Common.{◌≡◌, sym, subst, ap, ◌∙◌}
use Rattle.ug_group_rules.specs.Packets.{routes_due}
use Rattle.ug_groups.specs.declared.routed.Routed.{Routed}
use Rattle.ug_groups.specs.Values.{out_in}
use Rattle.ug_groups.specs.Holders.{IsMoved}
use Rattle.ug_groups.specs.FamilyRibs.{FamilyRib}
use Rattle.ug_groups.specs.Sent.{IsRouted}
use Rattle.ug_groups.specs.Standings.{Standing, seen, told}
use Rattle.ug_groups.proofs.Formats.{begun_seen, told_sent, told_seen}
use Rattle.ug_groups.proofs.point.Point.next_packet.Goals as goal

pub returns-then-begins-clause-point : goal.returns-then-begins-clause-point
returns-then-begins-clause-point c =
    let k = c.args.self.now in
    ap (seen c.args.pool.now) c.in_ok-packet.ensures.point
    ∙ begun_seen c.args.pool.now k k.key.family c.know_kept.ensures c.requires.counted c.know_ids.ensures (sym c.begins.ensures ∙ c.if-begins.true)

pub returns-clause-sent : goal.returns-clause-sent
returns-clause-sent c =
    let k = c.args.self.now in let o : FamilyRib = record { family = k.key.family; adj = k.adj } in
    told_sent c.args.pool.now k k.key.family c.know_kept.ensures c.requires.counted c.args.made o (sym c.begins.ensures ∙ c.if-begins.false) c.in-Some.due
    (subst (λ (r : Option Routed). IsRouted k.key c.args.made o (routes_due k.key (out_in c.args.pool.now k.adj)) r) c.in-Some.is c.in_ok-due.ensures)

pub returns-clause-point : goal.returns-clause-point
returns-clause-point c =
    let k = c.args.self.now in let o : FamilyRib = record { family = k.key.family; adj = k.adj } in
    let later : c.tell.new.self ≡ told c.in-Some.due.keys.items k = c.tell.ensures.point ∙ ap (λ keys. told keys k) c.as_slice.ensures in
    ap (seen c.tell.new.pool) later
    ∙ told_seen c.args.pool.now k k.key.family c.know_kept.ensures c.requires.counted c.args.made o (sym c.begins.ensures ∙ c.if-begins.false) c.in-Some.due
    (subst (λ (r : Option Routed). IsRouted k.key c.args.made o (routes_due k.key (out_in c.args.pool.now k.adj)) r) c.in-Some.is c.in_ok-due.ensures)
    c.know_ids.ensures c.tell.new.pool (subst (λ (x : Standing). IsMoved c.args.pool.now c.tell.new.pool k.adj x.adj) later c.tell.ensures.moved)
