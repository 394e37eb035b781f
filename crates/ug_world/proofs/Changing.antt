-- One of several things that have different names is changed.
use Rattle.std.proofs.Common.{◌≡◌, ℕ, zero, suc, ◌<◌, Bool, true, false, ◌&&◌, ◌||◌, not, List, [], ◌∷◌, length, map, Some, None, refl, ap, sym, ◌∙◌, subst, arith}
use Rattle.std.specs.Prelude.{slice_get, slice_set, slice_index_or, nat_le, if◌then◌else◌}
use Rattle.std.specs.List.{list_all}
use Rattle.std.specs.Cmp.Lexicographic.{nat_list_eq_equiv}
use Rattle.std.proofs.lemmas.List.{length-map}
use Rattle.std.proofs.lemmas.Bool.Decides.{nat_tests}
use Rattle.ug_types.specs.Bytes.{same_bytes}
use Rattle.ug_world.specs.declared.peer_state.PeerState.{PeerState}
use Rattle.ug_world.specs.World.{peer_named}
use Rattle.ug_world.specs.Names.{is_name_among, are_distinct, where_named}
use Rattle.ug_world.specs.After.{changed_peer}
use Rattle.ug_world.specs.Kept.{peer_name, ArePeers, IsPlaceOf}
use Rattle.ug_world.proofs.Relisting.{neither}

both_so : (a b : Bool) → (a && b) ≡ true → (a ≡ true) × (b ≡ true)
both_so true b e = (refl, e)
both_so false b e = absurd cc

not_so : (a : Bool) → not a ≡ true → a ≡ false
not_so true e = absurd cc
not_so false e = refl

-- two names that a third is the same as are the same to every other
alike : (x name y : List ℕ) → same_bytes x name ≡ true → same_bytes y x ≡ same_bytes y name
alike x name y e = nat_list_eq_equiv.symm y x ∙ nat_list_eq_equiv.congr x name y e ∙ nat_list_eq_equiv.symm name y

among_alike : (x name : List ℕ) (names : List (List ℕ)) → same_bytes x name ≡ true → is_name_among names x ≡ is_name_among names name
among_alike x name [] e = refl
among_alike x name (n ∷ names) e = ap (λ (b : Bool). b || is_name_among names x) (alike x name n e) ∙ ap (λ (b : Bool). same_bytes n name || b) (among_alike x name names e)

true_or : (a b : Bool) → a ≡ true → (a || b) ≡ true
true_or a b e = rw e refl

or_true : (a b : Bool) → b ≡ true → (a || b) ≡ true
or_true true b e = refl
or_true false b e = e

-- the item at a place is the same whatever stands for one past the end
pub index_any : {T : Type 0} (xs : List T) (i : ℕ) (d e : T) → i < length xs → slice_index_or xs i d ≡ slice_index_or xs i e
index_any [] i d e h = absurd (omega arith)
index_any (x ∷ xs) zero d e h = refl
index_any (x ∷ xs) (suc i) d e h = index_any xs i d e (omega arith)

-- what stands there is put back
pub set_back : {T : Type 0} (xs : List T) (i : ℕ) (old : T) → old ≡ slice_index_or xs i old → slice_set xs i old ≡ xs
set_back {T} [] i old e = refl
set_back {T} (x ∷ xs) zero old e = ap (λ (h : T). h ∷ xs) e
set_back {T} (x ∷ xs) (suc i) old e = ap (λ (t : List T). x ∷ t) (set_back xs i old e)

module _ {T : Type 0} (name_of : T → List ℕ) (name : List ℕ) (change : T → T) where
  pub none_changed : (xs : List T) → is_name_among (map name_of xs) name ≡ false → map (where_named name_of name change) xs ≡ xs
  none_changed [] e = refl
  none_changed (x ∷ xs) e =
      let parts = neither (same_bytes (name_of x) name) (is_name_among (map name_of xs) name) e in
      ap (λ (b : Bool). (if b then change x else x) ∷ map (where_named name_of name change) xs) parts.0 ∙ ap (λ (t : List T). x ∷ t) (none_changed xs parts.1)

  is_in : (xs : List T) (i : ℕ) (old : T) → i < length xs → old ≡ slice_index_or xs i old → same_bytes (name_of old) name ≡ true → is_name_among (map name_of xs) name ≡ true
  is_in [] i old h e named = absurd (omega arith)
  is_in (x ∷ xs) zero old h e named = true_or (same_bytes (name_of x) name) (is_name_among (map name_of xs) name) (subst (λ (y : T). same_bytes (name_of y) name ≡ true) e named)
  is_in (x ∷ xs) (suc i) old h e named = or_true (same_bytes (name_of x) name) (is_name_among (map name_of xs) name) (is_in xs i old (omega arith) e named)

  -- where the names are distinct, changing what has the name is changing the one that stands at a place
  pub one_changed : (xs : List T) (i : ℕ) (old new : T) → are_distinct (map name_of xs) ≡ true → i < length xs → old ≡ slice_index_or xs i old → same_bytes (name_of old) name ≡ true → new ≡ change old
      → slice_set xs i new ≡ map (where_named name_of name change) xs
  one_changed [] i old new distinct h e named is = absurd (omega arith)
  one_changed (x ∷ xs) zero old new distinct h e named is =
      let parts = both_so (not (is_name_among (map name_of xs) (name_of x))) (are_distinct (map name_of xs)) distinct in
      let here : same_bytes (name_of x) name ≡ true = subst (λ (y : T). same_bytes (name_of y) name ≡ true) e named in
      let apart : is_name_among (map name_of xs) name ≡ false = sym (among_alike (name_of x) name (map name_of xs) here) ∙ not_so (is_name_among (map name_of xs) (name_of x)) parts.0 in
      ap (λ (t : T). t ∷ xs) (is ∙ ap change e)
      ∙ ap (λ (t : List T). change x ∷ t) (sym (none_changed xs apart))
      ∙ ap (λ (b : Bool). (if b then change x else x) ∷ map (where_named name_of name change) xs) (sym here)
  one_changed (x ∷ xs) (suc i) old new distinct h e named is =
      let parts = both_so (not (is_name_among (map name_of xs) (name_of x))) (are_distinct (map name_of xs)) distinct in
      let later : is_name_among (map name_of xs) name ≡ true = is_in xs i old (omega arith) e named in
      by_name (same_bytes (name_of x) name) refl (not_so (is_name_among (map name_of xs) (name_of x)) parts.0) later
      (one_changed xs i old new parts.1 (omega arith) e named is)
    where
      by_name : (b : Bool) → same_bytes (name_of x) name ≡ b → is_name_among (map name_of xs) (name_of x) ≡ false → is_name_among (map name_of xs) name ≡ true
          → slice_set xs i new ≡ map (where_named name_of name change) xs
          → slice_set (x ∷ xs) (suc i) new ≡ map (where_named name_of name change) (x ∷ xs)
      by_name true b apart later rest = absurd (clash (sym (among_alike (name_of x) name (map name_of xs) b) ∙ apart) later)
        where
          clash : is_name_among (map name_of xs) name ≡ false → is_name_among (map name_of xs) name ≡ true → ⊥
          clash none some = absurd cc
      by_name false b apart later rest = ap (λ (t : List T). x ∷ t) rest ∙ ap (λ (b : Bool). (if b then change x else x) ∷ map (where_named name_of name change) xs) (sym b)

  pub names_kept : (xs : List T) → ((x : T) → name_of (change x) ≡ name_of x) → map name_of (map (where_named name_of name change) xs) ≡ map name_of xs
  names_kept [] keeps = refl
  names_kept (x ∷ xs) keeps = ap (λ (n : List ℕ). n ∷ map name_of (map (where_named name_of name change) xs)) (one (same_bytes (name_of x) name)) ∙ ap (λ (t : List (List ℕ)). name_of x ∷ t) (names_kept xs keeps)
    where
      one : (b : Bool) → name_of (if b then change x else x) ≡ name_of x
      one true = keeps x
      one false = refl

-- ---- peers

pub none_named : (xs : List PeerState) (name : List ℕ) → peer_named xs name ≡ None → is_name_among (map peer_name xs) name ≡ false
none_named [] name e = refl
none_named (x ∷ xs) name e = one (same_bytes x.peer.name name) (none_named xs name) e
  where
    one : (b : Bool) → (peer_named xs name ≡ None → is_name_among (map peer_name xs) name ≡ false) → (if b then Some x else peer_named xs name) ≡ None → (b || is_name_among (map peer_name xs) name) ≡ false
    one true rest h = absurd cc
    one false rest h = rest h

pub peers_as_they_were : (xs : List PeerState) (name : List ℕ) (change : PeerState → PeerState) → peer_named xs name ≡ None → xs ≡ map (changed_peer name change) xs
peers_as_they_were xs name change e = sym (none_changed peer_name name change xs (none_named xs name e))

module _ (xs : List PeerState) (name : List ℕ) (i : ℕ) (kept : ArePeers xs) (place : IsPlaceOf xs name i) where
  pub peer_changed : (change : PeerState → PeerState) (old new : PeerState) → old ≡ slice_index_or xs i old → new ≡ change old → slice_set xs i new ≡ map (changed_peer name change) xs
  peer_changed change old new e is =
      let parts = both_so (are_distinct (map peer_name xs)) (nat_le (length xs) 64) kept in
      one_changed peer_name name change xs i old new parts.0 place.inside e (subst (λ (s : PeerState). same_bytes s.peer.name name ≡ true) (sym e) (place.named old)) is

  pub are_peers_changed : (change : PeerState → PeerState) (old new : PeerState) → old ≡ slice_index_or xs i old → new ≡ change old → ((s : PeerState) → peer_name (change s) ≡ peer_name s) → ArePeers (slice_set xs i new)
  are_peers_changed change old new e is keeps =
      subst ArePeers (sym (peer_changed change old new e is))
      (ap (λ (names : List (List ℕ)). are_distinct names && nat_le (length (map (changed_peer name change) xs)) 64) (names_kept peer_name name change xs keeps)
      ∙ ap (λ (n : ℕ). are_distinct (map peer_name xs) && nat_le n 64) (length-map xs (changed_peer name change))
      ∙ kept)

  pub are_peers_back : (old new : PeerState) → old ≡ slice_index_or xs i old → new ≡ old → ArePeers (slice_set xs i new)
  are_peers_back old new e is = subst (λ (s : PeerState). ArePeers (slice_set xs i s)) (sym is) (subst ArePeers (sym (set_back xs i old e)) kept)

pub sessions_at : (limit : ℕ) (xs : List PeerState) (i : ℕ) (old : PeerState) → list_all (λ (s : PeerState). nat_le s.sessions limit) xs ≡ true → i < length xs → old ≡ slice_index_or xs i old → nat_le old.sessions limit ≡ true
sessions_at limit [] i old all h e = absurd (omega arith)
sessions_at limit (x ∷ xs) zero old all h e =
    ap (λ (s : PeerState). nat_le s.sessions limit) e ∙ (both_so (nat_le x.sessions limit) (list_all (λ (s : PeerState). nat_le s.sessions limit) xs) all).0
sessions_at limit (x ∷ xs) (suc i) old all h e =
    sessions_at limit xs i old (both_so (nat_le x.sessions limit) (list_all (λ (s : PeerState). nat_le s.sessions limit) xs) all).1 (omega arith) e

pub below : {n : ℕ} → nat_le n 4294967294 ≡ true → n < 4294967295
below {n} e = grind (arith, nat_tests)

pub got : {T : Type 0} (xs : List T) (i : ℕ) (x : T) → slice_get xs i ≡ Some x → x ≡ slice_index_or xs i x
got [] i x e = absurd cc
got (y ∷ xs) zero x e = cc
got (y ∷ xs) (suc i) x e = got xs i x e
