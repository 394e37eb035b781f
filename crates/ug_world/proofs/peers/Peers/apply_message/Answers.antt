use Rattle.std.proofs.Common.{◌≡◌, None, List, map, refl, ap, subst, ◌∙◌}
use Rattle.ug_world.specs.declared.peer_state.PeerState.{PeerState}
use Rattle.ug_policy.specs.OrfViews.{orf_seen}
use Rattle.ug_world.specs.World.{peer_named}
use Rattle.ug_world.specs.After.{with_orf, changed_peer}
use Rattle.ug_world.specs.Kept.{IsPlaceOf}
use Rattle.ug_world.proofs.Changing.{peers_as_they_were, peer_changed, are_peers_changed}
use Rattle.ug_world.proofs.peers.Peers.apply_message.Goals as goal

pub returns-in_default-clause-ok : goal.returns-in_default-clause-ok
returns-in_default-clause-ok c =
    peers_as_they_were c.args.self.now c.args.name.now (with_orf (orf_seen c.args.message.now))
    (subst (λ (xs : List PeerState). peer_named xs c.args.name.now ≡ None) (c.deref.ensures.value ∙ c.self.view_is) c.in_default.ensures)

pub invariant_of-self-2 : goal.invariant_of-self-2
invariant_of-self-2 c =
    are_peers_changed c.self.inside.seats.items c.args.name.now c.in-Some.place c.self.invariant
    (subst (λ (xs : List PeerState). IsPlaceOf xs c.args.name.now c.in-Some.place) c.deref.ensures.value c.in-Some.ensures)
    (with_orf (orf_seen c.args.message.now)) c.index_mut.result.now c.apply_message.new.seat c.index_mut.ensures.value c.in_ok-apply_message.ensures.ok (λ (s : PeerState). refl)

pub returns-clause-ok : goal.returns-clause-ok
returns-clause-ok c =
    peer_changed c.self.inside.seats.items c.args.name.now c.in-Some.place c.self.invariant
    (subst (λ (xs : List PeerState). IsPlaceOf xs c.args.name.now c.in-Some.place) c.deref.ensures.value c.in-Some.ensures)
    (with_orf (orf_seen c.args.message.now)) c.index_mut.result.now c.apply_message.new.seat c.index_mut.ensures.value c.in_ok-apply_message.ensures.ok
    ∙ ap (map (changed_peer c.args.name.now (with_orf (orf_seen c.args.message.now)))) c.self.view_is
