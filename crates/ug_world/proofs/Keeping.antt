-- What an event leaves as it was.
use Rattle.std.proofs.Common.{◌≡◌, ℕ, ◌+◌, Bool, true, false, List, [], map, slice_get, Option, Some, None, refl, ap, sym, ◌∙◌}
use Rattle.std.specs.Prelude.{option_and_then, unwrap_or, if◌then◌else◌}
use Rattle.std.specs.Option.{option_map}
use Rattle.std.proofs.lemmas.Option.{slice_get-map}
use Rattle.ug_types.specs.declared.key.Key.{Key}
use Rattle.ug_types.specs.declared.route.Path.{Path}
use Rattle.ug_types.specs.Bytes.{same_bytes}
use Rattle.ug_message.specs.NextHops.{told_to}
use Rattle.ug_outbound.specs.Keys.{ends_of}
use Rattle.ug_outbound.specs.Outbound.{out}
use Rattle.ug_outbound.specs.declared.key.GroupKey.{GroupKey}
use Rattle.ug_events.specs.Events.{Happening, ComesUp, GoesDown, HasPaths, HasNone, HasPolicy, HasEntries, AsksAgain, SendsRequest, SendsList}
use Rattle.ug_world.specs.declared.peer_state.PeerState.{PeerState}
use Rattle.ug_world.specs.World.{World, paths_to, key_in}
use Rattle.ug_world.specs.Private.{path_at, wanted, told_of, table_of_peer, private_table}
use Rattle.ug_world.specs.Verdicts.{path_of}
use Rattle.ug_world.specs.After.{come_up, gone_down, with_policy, refiltered, with_orf, changed_peer, after}
use Rattle.ug_world.specs.Touches.{is_about, touches}
use Rattle.ug_world.proofs.Lookups.{lookup_inserted, lookup_removed}
use Rattle.ug_world.proofs.Relisting.{relisted_tables, out_relisted}

then_map : {X Y Z : Type 0} (f : Y → Z) (g : X → Option Y) (x : Option X) → option_and_then (λ y. option_map f (g y)) x ≡ option_map f (option_and_then g x)
then_map f g None = refl
then_map f g (Some x) = refl

up_case : {X : Type 0} (b : Bool) (x : Option X) → b ≡ true → (if b then x else None) ≡ x
up_case b x e = rw e refl

down_case : {X : Type 0} (b : Bool) (x : Option X) → b ≡ false → (if b then x else None) ≡ None
down_case b x e = rw e refl

pub shared : (w : World) (p : ℕ) (s : PeerState) (key : Key) → slice_get w.peers p ≡ Some s → s.up ≡ true → private_table p w key ≡ option_map (told_to (ends_of s.peer)) (wanted (key_in w s) w key)
unfolding private_table wanted
shared w p s key is up =
    let path = path_at s.peer.add_path key.id (paths_to w.routes key.prefix) in
    ap (λ (o : Option PeerState). table_of_peer w o key) is
    ∙ up_case s.up (option_and_then (told_of w s key) path) up
    ∙ then_map (told_to (ends_of s.peer)) (out (key_in w s) w.tables w.local key.prefix) path

pub down : (w : World) (p : ℕ) (s : PeerState) (key : Key) → slice_get w.peers p ≡ Some s → s.up ≡ false → private_table p w key ≡ None
unfolding private_table
down w p s key is up =
    ap (λ (o : Option PeerState). table_of_peer w o key) is
    ∙ down_case s.up (option_and_then (told_of w s key) (path_at s.peer.add_path key.id (paths_to w.routes key.prefix))) up

-- ---- peers

module _ (w : World) (name : List ℕ) (change : PeerState → PeerState) (p : ℕ) (s : PeerState) (is : slice_get w.peers p ≡ Some s) where
  there : slice_get (map (changed_peer name change) w.peers) p ≡ Some (changed_peer name change s)
  there = slice_get-map (changed_peer name change) w.peers p ∙ ap (option_map (changed_peer name change)) is

  pub other_peer : same_bytes s.peer.name name ≡ false → slice_get (map (changed_peer name change) w.peers) p ≡ Some s
  other_peer e = there ∙ ap (λ (b : Bool). Some (if b then change s else s)) e

  pub that_peer : same_bytes s.peer.name name ≡ true → slice_get (map (changed_peer name change) w.peers) p ≡ Some (change s)
  that_peer e = there ∙ ap (λ (b : Bool). Some (if b then change s else s)) e

pub fresh : (w : World) (name : List ℕ) (p : ℕ) (s : PeerState) → slice_get w.peers p ≡ Some s → same_bytes s.peer.name name ≡ true
    → slice_get (after w (ComesUp name)).peers p ≡ Some (record s { up = true; sessions = s.sessions + 1; filter = []; waiting = [] })
unfolding after
fresh w name p s is e = that_peer w name come_up p s is e

pub others : (w : World) (e : Happening) (p : ℕ) (s : PeerState) → slice_get w.peers p ≡ Some s → is_about e s ≡ false → slice_get (after w e).peers p ≡ Some s
unfolding after
others w (ComesUp name) p s is e = other_peer w name come_up p s is e
others w (GoesDown name) p s is e = other_peer w name gone_down p s is e
others w (AsksAgain name) p s is e = other_peer w name refiltered p s is e
others w (SendsRequest name) p s is e = other_peer w name refiltered p s is e
others w (SendsList name request) p s is e = other_peer w name (with_orf request) p s is e
others w (HasPolicy name policy) p s is e = other_peer w name (with_policy policy) p s is e
others w (HasEntries name entries) p s is e = is
others w (HasPaths prefix paths) p s is e = is
others w (HasNone prefix) p s is e = is

-- ---- routes

then_alike : {X Y : Type 0} (f g : X → Option Y) → ((x : X) → f x ≡ g x) → (x : Option X) → option_and_then f x ≡ option_and_then g x
then_alike f g alike None = refl
then_alike f g alike (Some x) = alike x

pub kept : (w : World) (e : Happening) (group : GroupKey) (key : Key) → touches e w.tables group key ≡ false → wanted group (after w e) key ≡ wanted group w key
unfolding after wanted
kept w (ComesUp name) group key e = refl
kept w (GoesDown name) group key e = refl
kept w (AsksAgain name) group key e = refl
kept w (SendsRequest name) group key e = refl
kept w (SendsList name request) group key e = refl
kept w (HasPolicy name policy) group key e = refl
kept w (HasEntries name entries) group key e =
    then_alike (out group (relisted_tables name entries w.tables) w.local key.prefix) (out group w.tables w.local key.prefix)
    (λ path. out_relisted name entries group w.tables w.local key.prefix path e) (path_at group.add_path key.id (paths_to w.routes key.prefix))
kept w (HasPaths prefix paths) group key e =
    ap (λ (found : Option (List Path)). option_and_then (out group w.tables w.local key.prefix) (path_at group.add_path key.id (unwrap_or found [])))
    (lookup_inserted key.prefix prefix (map (path_of w) paths) e w.routes)
kept w (HasNone prefix) group key e =
    ap (λ (found : Option (List Path)). option_and_then (out group w.tables w.local key.prefix) (path_at group.add_path key.id (unwrap_or found [])))
    (lookup_removed key.prefix prefix [] e w.routes)

key_kept : (w : World) (e : Happening) (s : PeerState) → key_in (after w e) s ≡ key_in w s
unfolding after
key_kept w (ComesUp name) s = refl
key_kept w (GoesDown name) s = refl
key_kept w (AsksAgain name) s = refl
key_kept w (SendsRequest name) s = refl
key_kept w (SendsList name request) s = refl
key_kept w (HasPolicy name policy) s = refl
key_kept w (HasEntries name entries) s = refl
key_kept w (HasPaths prefix paths) s = refl
key_kept w (HasNone prefix) s = refl

pub untouched : (w : World) (e : Happening) (p : ℕ) (s : PeerState) (key : Key) → slice_get w.peers p ≡ Some s → is_about e s ≡ false
    → touches e w.tables (key_in w s) key ≡ false → private_table p (after w e) key ≡ private_table p w key
untouched w e p s key is about touched = by_up s.up refl
  where
    by_up : (b : Bool) → s.up ≡ b → private_table p (after w e) key ≡ private_table p w key
    by_up true up =
        shared (after w e) p s key (others w e p s is about) up
        ∙ ap (λ (group : GroupKey). option_map (told_to (ends_of s.peer)) (wanted group (after w e) key)) (key_kept w e s)
        ∙ ap (option_map (told_to (ends_of s.peer))) (kept w e (key_in w s) key touched)
        ∙ sym (shared w p s key is up)
    by_up false up = down (after w e) p s key (others w e p s is about) up ∙ sym (down w p s key is up)
