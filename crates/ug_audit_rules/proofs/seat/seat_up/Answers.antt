use Rattle.std.proofs.Common.{◌≡◌, true, false, Option, subst, ◌∙◌, slice_get, ℕ}
use Rattle.std.specs.Prelude.{IfSome}
use Rattle.ug_outbound.specs.declared.key.GroupKey.{GroupKey}
use Rattle.ug_audit_rules.specs.Seats.{Rises, IsKeyed, IsSameOrNone}
use Rattle.ug_audit_rules.proofs.SeatTurns.{key-is}
use Rattle.ug_audit_rules.proofs.seat.seat_up.Goals as goal

pub returns-clause-up : goal.returns-clause-up
returns-clause-up g c = λ s there on.
    let w = c.args.world.now in
    let groups = c.place_for.new.groups.items in
    let key = key-is w (slice_get w.peers c.args.id) s c.local.result.now c.peer.result.now c.policy.result.now c.filter.result.now.items there c.local.ensures c.peer.ensures c.policy.ensures c.filter.ensures.entries in
    let keyed = subst (λ (o : Option ℕ). IfSome o (λ p. IsKeyed c.in_ok-key.key (slice_get groups p))) c.in-Some.is c.in_ok-found.ensures.keyed in
    let same = subst (λ (o : Option ℕ). IfSome o (IsSameOrNone c.args.seat.now.group)) c.in-Some.is c.in_ok-found.ensures.same in
    record {
      place = c.in-Some.place;
      group = c.rise.ensures.group;
      same = same;
      keyed = subst (λ (k : GroupKey). IsKeyed k (slice_get groups c.in-Some.place)) (c.in_ok-key.ensures ∙ key) keyed;
      ups = subst (λ n. Rises n true c.args.seat.now.ups.items c.rise.new.self.ups.items) c.version-version.ensures c.in_ok-rise.ensures.ups;
    }

pub returns-in_default-clause-up : goal.returns-in_default-clause-up
returns-in_default-clause-up g c = λ s there on. absurd (let clash : false ≡ true = on in cc)
