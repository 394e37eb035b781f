-- The lines of the peers, one after the other.
use Rattle.std.proofs.Common.{◌≡◌, ℕ, zero, suc, ◌+◌, Bool, List, [], ◌∷◌, ◌++◌, length, drop, map, Option, Some, None, refl, sym, ◌∙◌, ap, subst, append_assoc, arith}
use Rattle.std.specs.Prelude.{slice_get}
use Rattle.std.proofs.lemmas.List.{append-nil, drop_all}
use Rattle.std.specs.Option.{option_map}
use Rattle.ug_outbound.specs.declared.peer.Peer.{Peer}
use Rattle.ug_world.specs.declared.peer_state.PeerState.{PeerState}
use Rattle.ug_world.specs.World.{World}
use Rattle.ug_selfrun.specs.Standings.{IsStanding, AreStandings, HoldsTable, HoldTables}
use Rattle.ug_selfrun.specs.Summary.{peer_text, peers_text}

next_on : {A : Type 0} (xs : List A) (k : ℕ) (x : A) → slice_get xs k ≡ Some x → drop k xs ≡ x ∷ drop (suc k) xs
next_on [] k x is = absurd cc
next_on {A} (y ∷ xs) zero x is = let same : y ≡ x = cc in ap (λ (z : A). z ∷ xs) same
next_on (y ∷ xs) (suc k) x is = next_on xs k x is

one_on : {A : Type 0} (xs : List A) (k : ℕ) (x : A) → slice_get xs k ≡ Some x → drop k xs ≡ x ∷ drop (k + 1) xs
one_on xs k x is = let one : suc k ≡ k + 1 = omega arith in next_on xs k x is ∙ ap (λ (n : ℕ). x ∷ drop n xs) one

module _ (w : World) (peers : List PeerState) (wires : List (List (List ℕ))) (before : List ℕ) where
  -- Where the lines of the peers from a place on follow, all of them are there.
  pub record GoesOn (p : ℕ) (text : List ℕ) : Type 0 where
    pub holds : HoldTables w p (drop p peers) (drop p wires)
    pub more : (xs : List (Option ℕ)) → AreStandings w p (drop p peers) xs → (all : List (Option ℕ)) × AreStandings w 0 peers all × (text ++ peers_text (drop p peers) xs ≡ before ++ peers_text peers all)

  pub goes_first : HoldTables w 0 peers wires → GoesOn 0 before
  goes_first holds = record { holds = holds; more = λ xs are. (xs, are, refl) }

  pub goes_more : (p : ℕ) (s : PeerState) (wire : List (List ℕ)) (x : Option ℕ) (text text' : List ℕ) → slice_get peers p ≡ Some s → slice_get wires p ≡ Some wire
      → (HoldsTable w p s wire → IsStanding w p s.up x) → text' ≡ text ++ peer_text s.peer.name x → GoesOn p text → GoesOn (p + 1) text'
  goes_more p s wire x text text' at at' stands is was =
      let rest = drop (p + 1) peers in
      let here : HoldTables w p (s ∷ rest) (wire ∷ drop (p + 1) wires) =
      subst (λ (ws : List (List (List ℕ))). HoldTables w p (s ∷ rest) ws) (one_on wires p wire at') (subst (λ (ps : List PeerState). HoldTables w p ps (drop p wires)) (one_on peers p s at) was.holds) in
      record {
        holds = here.1;
        more = λ xs are.
            let all = was.more (x ∷ xs) (subst (λ (ps : List PeerState). AreStandings w p ps (x ∷ xs)) (sym (one_on peers p s at)) (stands here.0, are)) in (
              all.0,
              all.1,
              ap (λ (t : List ℕ). t ++ peers_text rest xs) is
                  ∙ (append_assoc text (peer_text s.peer.name x) (peers_text rest xs)
                  ∙ (ap (λ (ps : List PeerState). text ++ peers_text ps (x ∷ xs)) (sym (one_on peers p s at)) ∙ all.2)),
            );
      }

  pub goes_last : (p : ℕ) (text : List ℕ) → p ≡ length peers → GoesOn p text → (all : List (Option ℕ)) × AreStandings w 0 peers all × (text ≡ before ++ peers_text peers all)
  goes_last p text is was =
      let none : drop p peers ≡ [] = drop_all p peers (omega arith) in
      let all = was.more [] (subst (λ (ps : List PeerState). AreStandings w p ps []) (sym none) tt) in
      (all.0, all.1, sym (append-nil text) ∙ (ap (λ (ps : List PeerState). text ++ peers_text ps []) (sym none) ∙ all.2))

  pub goes_step : (p : ℕ) (peer : Peer) (up : Bool) (wire : List (List ℕ)) (x : Option ℕ) (text text' : List ℕ)
      → option_map (λ (s : PeerState). s.peer) (slice_get peers p) ≡ Some peer → option_map (λ (s : PeerState). s.up) (slice_get peers p) ≡ Some up → slice_get wires p ≡ Some wire
      → ((s : PeerState) → s.peer ≡ peer → s.up ≡ up → HoldsTable w p s wire → IsStanding w p s.up x) → text' ≡ text ++ peer_text peer.name x → GoesOn p text → GoesOn (p + 1) text'
  goes_step p peer up wire x text text' is_peer is_up at stands is was = by (slice_get peers p) refl is_peer is_up
    where
      by : (o : Option PeerState) → slice_get peers p ≡ o → option_map (λ (s : PeerState). s.peer) o ≡ Some peer → option_map (λ (s : PeerState). s.up) o ≡ Some up → GoesOn (p + 1) text'
      by None e f g = absurd cc
      by (Some s) e f g =
          let same : s.peer ≡ peer = cc in
          let live : s.up ≡ up = cc in
          goes_more p s wire x text text' e at (stands s same live) (is ∙ ap (λ (q : Peer). text ++ peer_text q.name x) (sym same)) was
