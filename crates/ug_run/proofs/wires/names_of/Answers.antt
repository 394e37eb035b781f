use Rattle.std.proofs.Common.{ℕ, List, [], ◌∷◌, ◌++◌, map, take, sym, ◌∙◌, ap}
use Rattle.ug_world.specs.declared.peer_state.PeerState.{PeerState}
use Rattle.ug_run.proofs.Wired.{names_so_far}
use Rattle.ug_run.proofs.wires.names_of.Goals as goal

pub loop-place-preserved : goal.loop-place-preserved
loop-place-preserved c =
    let peers = c.args.world.now.peers in
    let place = c.loop-place.place in
    let named = names_so_far (λ (s : PeerState). s.peer) (λ p. p.name) peers place c.peer.result.now c.peer.ensures in
    c.in-Ok.ensures.ok
    ∙ (ap (λ (ns : List (List ℕ)). ns ++ c.in_ok-name.name ∷ []) c.loop-place.invariant
    ∙ (ap (λ (n : List ℕ). map (λ (s : PeerState). s.peer.name) (take place peers) ++ n ∷ []) c.in_ok-name.ensures
    ∙ sym named))
