use Rattle.std.proofs.Common.{◌≡◌, None, List, map, refl, ap, subst, ◌∙◌}
use Rattle.ug_world.specs.declared.peer_state.PeerState.{PeerState}
use Rattle.ug_world.specs.World.{peer_named}
use Rattle.ug_world.specs.After.{gone_down, changed_peer}
use Rattle.ug_world.specs.Kept.{IsPlaceOf}
use Rattle.ug_world.proofs.Changing.{peers_as_they_were, peer_changed, are_peers_changed}
use Rattle.ug_world.proofs.peers.Peers.go_down.Goals as goal

pub returns-in_default : goal.returns-in_default
returns-in_default c =
    peers_as_they_were c.args.self.now c.args.name.now (gone_down)
    (subst (λ (xs : List PeerState). peer_named xs c.args.name.now ≡ None) (c.deref.ensures.value ∙ c.self.view_is) c.in_default.ensures)

pub invariant_of-self : goal.invariant_of-self
invariant_of-self c =
    are_peers_changed c.self.inside.seats.items c.args.name.now c.in-Some.place c.self.invariant
    (subst (λ (xs : List PeerState). IsPlaceOf xs c.args.name.now c.in-Some.place) c.deref.ensures.value c.in-Some.ensures)
    (gone_down) c.index_mut.result.now c.go_down.new.seat c.index_mut.ensures.value c.go_down.ensures (λ (s : PeerState). refl)

pub returns-in-Some : goal.returns-in-Some
returns-in-Some c =
    peer_changed c.self.inside.seats.items c.args.name.now c.in-Some.place c.self.invariant
    (subst (λ (xs : List PeerState). IsPlaceOf xs c.args.name.now c.in-Some.place) c.deref.ensures.value c.in-Some.ensures)
    (gone_down) c.index_mut.result.now c.go_down.new.seat c.index_mut.ensures.value c.go_down.ensures
    ∙ ap (map (changed_peer c.args.name.now (gone_down))) c.self.view_is
