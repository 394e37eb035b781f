-- The place of a name.
use Rattle.std.proofs.Common.{◌≡◌, ℕ, zero, suc, ◌+◌, ◌<◌, ◌≤◌, Bool, true, false, List, [], ◌∷◌, length, map, drop, slice_get, Some, refl, sym, ap, subst, ◌∙◌, arith}
use Rattle.std.specs.Prelude.{nat_le, ◌&&◌, if◌then◌else◌}
use Rattle.std.specs.List.{list_all}
use Rattle.std.proofs.lemmas.Bool.{leb-true}
use Rattle.ug_types.specs.Names.{is_name, begins_with_letter, is_name_byte}
use Rattle.std.specs.Option.{option_map}
use Rattle.ug_types.specs.Bytes.{same_bytes}
use Rattle.ug_outbound.specs.declared.peer.Peer.{Peer}
use Rattle.ug_world.specs.declared.peer_state.PeerState.{PeerState}
use Rattle.ug_audit_rules.specs.Reports.{place_from}

abbrev name_of : PeerState → List ℕ
name_of s = s.peer.name

-- the names from a place on begin with that of the peer there
names_behind : (peers : List PeerState) (id : ℕ) (peer : Peer) → option_map (λ (s : PeerState). s.peer) (slice_get peers id) ≡ Some peer
    → drop id (map (λ (s : PeerState). s.peer.name) peers) ≡ peer.name ∷ drop (suc id) (map (λ (s : PeerState). s.peer.name) peers)
names_behind [] id peer e = absurd cc
names_behind (s ∷ peers) zero peer e = let same : s.peer ≡ peer = cc in ap (λ (p : Peer). p.name ∷ map (λ (s : PeerState). s.peer.name) peers) same
names_behind (s ∷ peers) (suc id) peer e = names_behind peers id peer e

pub names_at : (peers : List PeerState) (id : ℕ) (peer : Peer) → option_map (λ (s : PeerState). s.peer) (slice_get peers id) ≡ Some peer
    → drop id (map (λ (s : PeerState). s.peer.name) peers) ≡ peer.name ∷ drop (id + 1) (map (λ (s : PeerState). s.peer.name) peers)
names_at peers id peer e = let next : suc id ≡ id + 1 = omega arith in names_behind peers id peer e ∙ ap (λ (k : ℕ). peer.name ∷ drop k (map (λ (s : PeerState). s.peer.name) peers)) next

pub names_end : (peers : List PeerState) (id : ℕ) → length peers ≤ id → drop id (map (λ (s : PeerState). s.peer.name) peers) ≡ []
names_end [] zero far = refl
names_end [] (suc id) far = refl
names_end (s ∷ peers) zero far = absurd (omega arith)
names_end (s ∷ peers) (suc id) far = names_end peers id (omega arith)

pub found_at : (id : ℕ) (left : List (List ℕ)) (own name : List ℕ) (more : List (List ℕ)) → left ≡ own ∷ more → same_bytes own name ≡ true → place_from id left name ≡ Some id
found_at id left own name more is same = ap (λ (l : List (List ℕ)). place_from id l name) is ∙ ap (λ (b : Bool). if b then Some id else place_from (id + 1) more name) same

pub not_at : (id : ℕ) (left : List (List ℕ)) (own name : List ℕ) (more : List (List ℕ)) → left ≡ own ∷ more → same_bytes own name ≡ false → place_from id left name ≡ place_from (id + 1) more name
not_at id left own name more is other = ap (λ (l : List (List ℕ)). place_from id l name) is ∙ ap (λ (b : Bool). if b then Some id else place_from (id + 1) more name) other

-- ---- the name at a place

pub own_name : (peers : List PeerState) (id : ℕ) (peer : Peer) (name : List ℕ) → option_map (λ (s : PeerState). s.peer) (slice_get peers id) ≡ Some peer → slice_get (map (λ (s : PeerState). s.peer.name) peers) id ≡ Some name → name ≡ peer.name
own_name [] id peer name e is = absurd cc
own_name (s ∷ peers) zero peer name e is = let same : s.peer ≡ peer = cc in let own : s.peer.name ≡ name = cc in sym own ∙ ap (λ (p : Peer). p.name) same
own_name (s ∷ peers) (suc id) peer name e is = own_name peers id peer name e is

pub name_within : (peers : List PeerState) (id : ℕ) (name : List ℕ) → slice_get (map (λ (s : PeerState). s.peer.name) peers) id ≡ Some name → id < length peers
name_within [] id name is = absurd cc
name_within (s ∷ peers) zero name is = omega arith
name_within (s ∷ peers) (suc id) name is = let rest = name_within peers id name is in omega arith

pub name_short : (text own : List ℕ) → text ≡ own → is_name own ≡ true → length text ≤ 32
name_short text own same is = subst (λ (n : List ℕ). length n ≤ 32) (sym same) (by (begins_with_letter own) (nat_le (length own) 32) (list_all is_name_byte own) refl is)
  where
    by : (a b c : Bool) → nat_le (length own) 32 ≡ b → (a && b && c) ≡ true → length own ≤ 32
    by true true c e f = leb-true (length own) 32 e
    by true false c e f = absurd cc
    by false b c e f = absurd cc
