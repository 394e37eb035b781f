-- What a peer should have, by what the readers of a world tell of it.
use Rattle.std.proofs.Common.{◌≡◌, ℕ, Bool, true, false, Option, Some, None, refl, sym, ap, ◌∙◌}
use Rattle.std.specs.Prelude.{slice_get, option_and_then, if◌then◌else◌}
use Rattle.std.specs.Option.{option_map}
use Rattle.ug_types.specs.declared.key.Key.{Key}
use Rattle.ug_types.specs.declared.route.Path.{Path}
use Rattle.ug_message.specs.NextHops.{told_to}
use Rattle.ug_outbound.specs.Outbound.{out}
use Rattle.ug_outbound.specs.Keys.{ends_of}
use Rattle.ug_outbound.specs.declared.peer.Peer.{Peer}
use Rattle.ug_outbound.specs.declared.key.GroupKey.{GroupKey}
use Rattle.ug_world.specs.declared.peer_state.PeerState.{PeerState}
use Rattle.ug_world.specs.World.{World, key_in, paths_to}
use Rattle.ug_world.specs.Private.{path_at, told_of, table_of_peer, private_table}

pub some_is : {X : Type 0} (x y : X) → Some x ≡ Some y → x ≡ y
some_is x y e = cc

module _ (w : World) (key : Key) where
  down_by : (x : Option PeerState) → option_map (λ s. s.up) x ≡ Some false → table_of_peer w x key ≡ None
  down_by None e = absurd cc
  down_by (Some s) e = rw (some_is s.up false e) refl

  pub down_is : (p : ℕ) → option_map (λ s. s.up) (slice_get w.peers p) ≡ Some false → private_table p w key ≡ None
  unfolding private_table
  down_is p e = down_by (slice_get w.peers p) e

  no_path_by : (x : Option PeerState) (peer : Peer) → option_map (λ s. s.peer) x ≡ Some peer → path_at peer.add_path key.id (paths_to w.routes key.prefix) ≡ None → table_of_peer w x key ≡ None
  no_path_by None peer e none = absurd cc
  no_path_by (Some s) peer e none = one s.up
    where
      here : path_at s.peer.add_path key.id (paths_to w.routes key.prefix) ≡ None
      here = ap (λ (q : Peer). path_at q.add_path key.id (paths_to w.routes key.prefix)) (some_is s.peer peer e) ∙ none

      one : (up : Bool) → (if up then option_and_then (told_of w s key) (path_at s.peer.add_path key.id (paths_to w.routes key.prefix)) else None) ≡ None
      one true = rw here refl
      one false = refl

  pub no_path_is : (p : ℕ) (peer : Peer) → option_map (λ s. s.peer) (slice_get w.peers p) ≡ Some peer → path_at peer.add_path key.id (paths_to w.routes key.prefix) ≡ None → private_table p w key ≡ None
  unfolding private_table
  no_path_is p peer e none = no_path_by (slice_get w.peers p) peer e none

  told_by : (x : Option PeerState) (peer : Peer) (path : Path) (group : GroupKey) → option_map (λ s. s.up) x ≡ Some true → option_map (λ s. s.peer) x ≡ Some peer
      → option_map (key_in w) x ≡ Some group → path_at peer.add_path key.id (paths_to w.routes key.prefix) ≡ Some path
      → option_map (told_to (ends_of peer)) (out group w.tables w.local key.prefix path) ≡ table_of_peer w x key
  told_by None peer path group e1 e2 e3 found = absurd cc
  told_by (Some s) peer path group e1 e2 e3 found =
      let up = some_is s.up true e1 in
      let same = some_is s.peer peer e2 in
      let grouped = some_is (key_in w s) group e3 in
      ap (λ (q : Peer). option_map (told_to (ends_of q)) (out group w.tables w.local key.prefix path)) (sym same)
      ∙ ap (λ (g : GroupKey). option_map (told_to (ends_of s.peer)) (out g w.tables w.local key.prefix path)) (sym grouped)
      ∙ ap (λ (found' : Option Path). option_and_then (told_of w s key) found') (sym (ap (λ (q : Peer). path_at q.add_path key.id (paths_to w.routes key.prefix)) same ∙ found))
      ∙ ap (λ (b : Bool). if b then option_and_then (told_of w s key) (path_at s.peer.add_path key.id (paths_to w.routes key.prefix)) else None) (sym up)

  pub answer_is : (p : ℕ) (peer : Peer) (path : Path) (group : GroupKey) → option_map (λ s. s.up) (slice_get w.peers p) ≡ Some true → option_map (λ s. s.peer) (slice_get w.peers p) ≡ Some peer
      → option_map (key_in w) (slice_get w.peers p) ≡ Some group → path_at peer.add_path key.id (paths_to w.routes key.prefix) ≡ Some path
      → option_map (told_to (ends_of peer)) (out group w.tables w.local key.prefix path) ≡ private_table p w key
  unfolding private_table
  answer_is p peer path group e1 e2 e3 found = told_by (slice_get w.peers p) peer path group e1 e2 e3 found
