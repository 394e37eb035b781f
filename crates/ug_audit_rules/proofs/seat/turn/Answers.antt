use Rattle.std.proofs.Common.{inl, inr, false, subst, sym, ◌∙◌, refl, slice_get}
use Rattle.ug_events.specs.Views.{event_of}
use Rattle.ug_world.specs.declared.peer_state.PeerState.{PeerState}
use Rattle.ug_world.specs.Touches.{is_about}
use Rattle.ug_audit_rules.specs.declared.progress.Progress.{Progress}
use Rattle.ug_audit_rules.specs.Seats.{Rises}
use Rattle.ug_audit_rules.specs.Standing.{IsMarked}
use Rattle.ug_audit_rules.proofs.SeatTurns.{of-peer, turned-quietly, turned-down, turned-up}
use Rattle.ug_audit_rules.proofs.seat.turn.Goals as goal

pub returns-then-not-asked-clause-turned : goal.returns-then-not-asked-clause-turned
returns-then-not-asked-clause-turned g c = λ s there.
    let asked = c.is_about-asked.ensures s (of-peer (λ (t : PeerState). t.peer) (slice_get c.args.world.now.peers c.args.id) s c.peer.result.now c.peer.ensures there) in
    turned-quietly c.args.world.now s (is_about (event_of c.args.event.now) s) c.args.groups.now.items c.args.seat.now _ (c.in_ok-mark.ensures s there) refl refl refl refl (inl (sym asked ∙ c.if-not-asked.true))

pub returns-then-not-seat-clause-turned : goal.returns-then-not-seat-clause-turned
returns-then-not-seat-clause-turned g c = λ s there.
    turned-quietly c.args.world.now s (is_about (event_of c.args.event.now) s) c.args.groups.now.items c.args.seat.now _ (c.in_ok-mark.ensures s there) refl refl refl refl (inr c.if-not-seat.true)

pub returns-then-not-is_up-clause-turned : goal.returns-then-not-is_up-clause-turned
returns-then-not-is_up-clause-turned g c = λ s there.
    let asked = c.is_about-asked.ensures s (of-peer (λ (t : PeerState). t.peer) (slice_get c.args.world.now.peers c.args.id) s c.peer.result.now c.peer.ensures there) in
    let low = of-peer (λ (t : PeerState). t.up) (slice_get c.args.world.now.peers c.args.id) s c.is_up.result c.is_up.ensures there ∙ c.if-not-is_up.true in
    turned-down c.args.world.now s (is_about (event_of c.args.event.now) s) c.args.groups.now.items c.args.seat.now c.rise.new.self (subst (λ (t : Progress). IsMarked s c.args.world.now.version c.args.seat.now.sessions t) (sym c.rise.ensures.sessions) (c.in_ok-mark.ensures s there)) c.rise.ensures.ends c.rise.ensures.shared
    (sym asked ∙ c.if-not-asked.false) low (subst (λ n. Rises n false c.args.seat.now.ups.items c.rise.new.self.ups.items) c.version-version.ensures c.in_ok-rise.ensures.ups) c.rise.ensures.group

pub returns-clause-turned : goal.returns-clause-turned
returns-clause-turned g c = λ s there.
    let w = c.args.world.now in
    let asked = c.is_about-asked.ensures s (of-peer (λ (t : PeerState). t.peer) (slice_get w.peers c.args.id) s c.peer.result.now c.peer.ensures there) in
    let high = of-peer (λ (t : PeerState). t.up) (slice_get w.peers c.args.id) s c.is_up.result c.is_up.ensures there ∙ c.if-not-is_up.false in
    turned-up w s (is_about (event_of c.args.event.now) s) c.seat_up.new.groups.items c.args.seat.now c.seat_up.new.seat
    (subst (λ (t : Progress). IsMarked s w.version c.args.seat.now.sessions t) (sym c.in_ok-seat_up.ensures.sessions) (c.in_ok-mark.ensures s there)) c.in_ok-seat_up.ensures.ends c.in_ok-seat_up.ensures.shared (sym asked ∙ c.if-not-asked.false) high
    (λ on. (let u = c.in_ok-seat_up.ensures.up s there on in record { place = u.place; group = u.group; same = u.same; keyed = u.keyed; ups = u.ups }))

pub returns-then-not-asked-clause-groups : goal.returns-then-not-asked-clause-groups
returns-then-not-asked-clause-groups g c = inl refl

pub returns-then-not-seat-clause-groups : goal.returns-then-not-seat-clause-groups
returns-then-not-seat-clause-groups g c = inl refl

pub returns-then-not-is_up-clause-groups : goal.returns-then-not-is_up-clause-groups
returns-then-not-is_up-clause-groups g c = inl refl
