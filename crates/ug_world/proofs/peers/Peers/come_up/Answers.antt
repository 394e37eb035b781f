use Rattle.std.proofs.Common.{◌≡◌, true, None, List, map, refl, ap, sym, subst, ◌∙◌}
use Rattle.ug_world.specs.declared.peer_state.PeerState.{PeerState}
use Rattle.ug_world.specs.World.{peer_named}
use Rattle.ug_world.specs.After.{come_up, changed_peer}
use Rattle.ug_world.specs.Kept.{IsPlaceOf, are_sessions_within}
use Rattle.ug_world.proofs.Changing.{peers_as_they_were, peer_changed, are_peers_changed, sessions_at, below}
use Rattle.ug_world.proofs.peers.Peers.come_up.Goals as goal

pub returns-in_default : goal.returns-in_default
returns-in_default c =
    peers_as_they_were c.args.self.now c.args.name.now (come_up)
    (subst (λ (xs : List PeerState). peer_named xs c.args.name.now ≡ None) (c.deref.ensures.value ∙ c.self.view_is) c.in_default.ensures)

pub invariant_of-self : goal.invariant_of-self
invariant_of-self c =
    are_peers_changed c.self.inside.seats.items c.args.name.now c.in-Some.place c.self.invariant
    (subst (λ (xs : List PeerState). IsPlaceOf xs c.args.name.now c.in-Some.place) c.deref.ensures.value c.in-Some.ensures)
    (come_up) c.index_mut.result.now c.come_up.new.seat c.index_mut.ensures.value c.come_up.ensures (λ (s : PeerState). refl)

pub returns-in-Some : goal.returns-in-Some
returns-in-Some c =
    peer_changed c.self.inside.seats.items c.args.name.now c.in-Some.place c.self.invariant
    (subst (λ (xs : List PeerState). IsPlaceOf xs c.args.name.now c.in-Some.place) c.deref.ensures.value c.in-Some.ensures)
    (come_up) c.index_mut.result.now c.come_up.new.seat c.index_mut.ensures.value c.come_up.ensures
    ∙ ap (map (changed_peer c.args.name.now (come_up))) c.self.view_is

pub come_up-requires : goal.come_up-requires
come_up-requires c =
    let place = subst (λ (xs : List PeerState). IsPlaceOf xs c.args.name.now c.in-Some.place) c.deref.ensures.value c.in-Some.ensures in
    below (sessions_at 4294967294 c.self.inside.seats.items c.in-Some.place c.index_mut.result.now
    (subst (λ (xs : List PeerState). are_sessions_within 4294967294 xs ≡ true) (sym c.self.view_is) c.requires.sessions) place.inside c.index_mut.ensures.value)
