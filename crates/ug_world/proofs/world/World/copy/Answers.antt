use Rattle.std.proofs.Common.{◌≡◌, ◌∙◌, List, sym, subst}
use Rattle.ug_outbound.specs.Tables.{Tables}
use Rattle.ug_outbound.specs.declared.policy.Policy.{Policy}
use Rattle.ug_world.specs.declared.peer_state.PeerState.{PeerState}
use Rattle.ug_world.specs.World.{World}
use Rattle.ug_world.specs.Kept.{IsWorld}
use Rattle.ug_world.proofs.world.World.copy.Goals as goal

pub invariant_of-result : goal.invariant_of-result
invariant_of-result c =
    subst (λ (t : Tables). IsWorld c.in_ok-none.none c.self.inside.version c.in_ok-peers.peers t.lists) (sym c.in_ok-policies.ensures)
    (subst (λ (p : Policy). IsWorld p c.self.inside.version c.in_ok-peers.peers c.self.inside.policies.lists) (sym c.in_ok-none.ensures)
    (subst (λ (ps : List PeerState). IsWorld c.self.inside.none c.self.inside.version ps c.self.inside.policies.lists) (sym c.in_ok-peers.ensures) c.self.invariant))

pub returns : goal.returns
returns c =
    let same : ◌≡◌ {A = World}
    (record { local = c.self.inside.local; tables = c.in_ok-policies.policies; policies = c.in_ok-named.named.items; peers = c.in_ok-peers.peers; routes = c.in_ok-routes.routes; version = c.self.inside.version })
    (record { local = c.self.inside.local; tables = c.self.inside.policies; policies = c.self.inside.named.items; peers = c.self.inside.peers; routes = c.self.inside.routes; version = c.self.inside.version }) =
    λ i. record { local = c.self.inside.local; tables = c.in_ok-policies.ensures i; policies = c.in_ok-named.ensures i; peers = c.in_ok-peers.ensures i; routes = c.in_ok-routes.ensures i; version = c.self.inside.version } in
    same ∙ c.self.view_is
