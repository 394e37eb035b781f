use Rattle.std.proofs.Common.{◌++◌, List, ap, subst, sym, ◌∙◌, arith}
use Rattle.std.specs.Vec.{with_items}
use Rattle.std.specs.Prelude.{true, false}
use Rattle.ug_types.specs.declared.key.Key.{Key}
use Rattle.ug_events.specs.Views.{event_of}
use Rattle.ug_world.specs.World.{World}
use Rattle.ug_audit_rules.specs.declared.group.Group.{Group}
use Rattle.ug_audit_rules.specs.declared.seat.Seat.{Seat}
use Rattle.ug_audit_rules.specs.Touched.{keys_touched}
use Rattle.ug_audit_rules.specs.Histories.{AreNotedFor, AreTurned}
use Rattle.ug_audit_rules.proofs.Coming.{version-after}
use Rattle.ug_audit_rules.proofs.HistorySteps.{as_many_seats, as_many_groups, items-are, history-goes-on}
use Rattle.ug_audit_rules.proofs.history.History.go_on.Goals as goal

pub note_groups-requires : goal.note_groups-requires
note_groups-requires g c = let v = ap (λ (x : World). x.version) c.in_ok-take.ensures.ok ∙ version-after (event_of c.args.event.now) c.args.world.now in let few = c.requires.version in omega (arith, v, few)

pub turn_all-requires : goal.turn_all-requires
turn_all-requires g c = let v = ap (λ (x : World). x.version) c.in_ok-take.ensures.ok ∙ version-after (event_of c.args.event.now) c.args.world.now in let few = c.requires.version in omega (arith, v, few)

pub returns-clause-history : goal.returns-clause-history
returns-clause-history g c = λ ws h.
    let e = event_of c.args.event.now in
    let w = c.args.world.now in
    let w' = c.take.new.self in
    let plain =
    c.in_ok-add.ensures.plain ∙ (ap (λ (ks : List Key). ks ++ c.in_ok-before.before.plain.items) c.in_ok-touched.ensures.plain ∙ ap (λ (ks : List Key). keys_touched e false w' ++ ks) c.in_ok-before.ensures.plain)
    in
    let own =
    c.in_ok-add.ensures.own ∙ (ap (λ (ks : List Key). ks ++ c.in_ok-before.before.own.items) c.in_ok-touched.ensures.own ∙ ap (λ (ks : List Key). keys_touched e true w' ++ ks) c.in_ok-before.ensures.own)
    in
    let olds = c.args.self.now.groups.items in
    let mids = c.note_groups.new.groups in
    let noted = subst (λ (gs : List Group). AreNotedFor w' c.add.new.self gs mids) c.as_mut_slice.ensures.value c.in_ok-note_groups.ensures in
    let groups = items-are c.args.self.now.groups mids (as_many_groups w' c.add.new.self olds mids noted) in
    let turned =
    subst (λ (gs : List Group). AreTurned w' e gs c.turn_all.new.groups.items c.args.self.now.seats.items c.turn_all.new.seats) groups
    (subst (λ (ss : List Seat). AreTurned w' e (with_items c.args.self.now.groups mids).items c.turn_all.new.groups.items ss c.turn_all.new.seats) c.as_mut_slice-2.ensures.value c.in_ok-turn_all.ensures)
    in
    let seats = items-are c.args.self.now.seats c.turn_all.new.seats (as_many_seats 0 w' e mids c.turn_all.new.groups.items c.args.self.now.seats.items c.turn_all.new.seats turned) in
    history-goes-on e ws w w' c.add.new.self mids c.args.self.now _ c.requires.accepted c.in_ok-take.ensures.ok plain own noted
    (subst (λ (ss : List Seat). AreTurned w' e mids c.turn_all.new.groups.items c.args.self.now.seats.items ss) (sym seats) turned) h
