-- What is kept of a peer goes on with a world.
use Rattle.std.proofs.Common.{◌≡◌, ◌⊎◌, inl, inr, Bool, true, false, List, Option, Some, sym, ◌∙◌, ap}
use Rattle.std.specs.Option.{option_map}
use Rattle.ug_policy.specs.declared.list_entry.ListEntry.{ListEntry}
use Rattle.ug_outbound.specs.declared.settings.Local.{Local}
use Rattle.ug_outbound.specs.declared.policy.Policy.{Policy}
use Rattle.ug_outbound.specs.declared.peer.Peer.{Peer}
use Rattle.ug_outbound.specs.Keys.{group_key_of}
use Rattle.ug_world.specs.declared.peer_state.PeerState.{PeerState}
use Rattle.ug_world.specs.World.{World, policy_named, key_in}
use Rattle.ug_audit_rules.specs.declared.group.Group.{Group}
use Rattle.ug_audit_rules.specs.declared.seat.Seat.{Seat}
use Rattle.ug_audit_rules.specs.Seats.{Rises, IsSeatedUp, IsTurned}
use Rattle.ug_audit_rules.specs.Standing.{IsMarked}
use Rattle.ug_audit_rules.proofs.GroupTables.{same-one}

not_both : (b : Bool) → b ≡ true → b ≡ false → ⊥
not_both true is isnt = absurd cc
not_both false is isnt = absurd cc

-- what is asked of the peer at a place
pub of-peer : {T : Type 0} (f : PeerState → T) (o : Option PeerState) (s : PeerState) (x : T) → option_map f o ≡ Some x → o ≡ Some s → f s ≡ x
of-peer f o s x of is = same-one (f s) x (sym (ap (option_map f) is) ∙ of)

module _ (w : World) (s : PeerState) (asked : Bool) (groups : List Group) (old new : Seat) (marked : IsMarked s w.version old.sessions new.sessions) (ends : new.ends ≡ old.ends) where
  pub turned-quietly : new.shared ≡ old.shared → new.ups ≡ old.ups → new.group ≡ old.group → (asked ≡ false) ⊎ (old.shared ≡ false) → IsTurned w s asked groups old new
  turned-quietly shared ups group why = record {
    marked = marked;
    ends = ends;
    shared = λ on. sym shared ∙ on;
    quiet = λ isnt. (ups, group);
    down = λ is on low. absurd (never is on why);
    up = λ is on high. absurd (never is on why);
  }
    where
      never : asked ≡ true → new.shared ≡ true → (asked ≡ false) ⊎ (old.shared ≡ false) → ⊥
      never is on (inl isnt) = not_both asked is isnt
      never is on (inr off) = not_both old.shared (sym shared ∙ on) off

  pub turned-down : new.shared ≡ old.shared → asked ≡ true → s.up ≡ false → Rises w.version false old.ups.items new.ups.items → new.group ≡ old.group → IsTurned w s asked groups old new
  turned-down shared is low rises group = record {
    marked = marked;
    ends = ends;
    shared = λ on. sym shared ∙ on;
    quiet = λ isnt. absurd (not_both asked is isnt);
    down = λ also on down. (rises, group);
    up = λ also on high. absurd (not_both s.up high low);
  }

  pub turned-up : (new.shared ≡ true → old.shared ≡ true) → asked ≡ true → s.up ≡ true → (new.shared ≡ true → IsSeatedUp w s groups old new) → IsTurned w s asked groups old new
  turned-up shared is high up = record {
    marked = marked;
    ends = ends;
    shared = shared;
    quiet = λ isnt. absurd (not_both asked is isnt);
    down = λ also on low. absurd (not_both s.up high low);
    up = λ also on up_is. up on;
  }

-- the key of the peer at a place
pub key-is : (w : World) (o : Option PeerState) (s : PeerState) (local : Local) (peer : Peer) (policy : Policy) (filter : List ListEntry) → o ≡ Some s → local ≡ w.local → option_map (λ (t : PeerState). t.peer) o ≡ Some peer
    → option_map (λ (t : PeerState). policy_named w.policies t.peer.policy) o ≡ Some policy → option_map (λ (t : PeerState). t.filter) o ≡ Some filter → group_key_of local peer policy filter ≡ key_in w s
key-is w o s local peer policy filter there local_is peer_is policy_is filter_is =
    ap (λ (l : Local). group_key_of l peer policy filter) local_is
    ∙ (ap (λ (p : Peer). group_key_of w.local p policy filter) (sym (of-peer (λ (t : PeerState). t.peer) o s peer peer_is there))
    ∙ (ap (λ (p : Policy). group_key_of w.local s.peer p filter) (sym (of-peer (λ (t : PeerState). policy_named w.policies t.peer.policy) o s policy policy_is there))
    ∙ ap (λ (f : List ListEntry). group_key_of w.local s.peer (policy_named w.policies s.peer.policy) f) (sym (of-peer (λ (t : PeerState). t.filter) o s filter filter_is there))))
