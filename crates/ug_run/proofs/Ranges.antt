-- What the numbers and the names of worlds come to.
use Rattle.std.proofs.Common.{◌≡◌, ℕ, zero, suc, ◌+◌, ◌≤◌, inl, inr, Bool, true, false, ◌==◌, List, [], ◌∷◌, map, length, slice_get, Option, Some, None, Ok, Err, refl, sym, ◌∙◌, ap, subst, arith}
use Rattle.std.specs.Prelude.{◌&&◌, ◌||◌, nat_le, not, unwrap_or, if◌then◌else◌}
use Rattle.std.specs.List.{list_all}
use Rattle.std.specs.Option.{option_map}
use Rattle.std.proofs.lemmas.Bool.Decides.{nat_tests}
use Rattle.std.proofs.lemmas.Option.{slice_get-map}
use Rattle.ug_types.specs.Bytes.{same_bytes}
use Rattle.ug_board.specs.Deeds.{Each}
use Rattle.ug_events.specs.Events.{Happening, ComesUp, GoesDown, HasPaths, HasNone, HasPolicy, HasEntries, AsksAgain, SendsRequest, SendsList, Saying, SaysNothing, SaysSync, Says}
use Rattle.ug_events.specs.Reads.{Reads}
use Rattle.ug_outbound.specs.declared.peer.Peer.{Peer}
use Rattle.ug_world.specs.declared.peer_state.PeerState.{PeerState}
use Rattle.ug_world.specs.declared.parts.WorldParts.{WorldParts}
use Rattle.ug_world.specs.Names.{is_name_among, are_distinct}
use Rattle.ug_world.specs.Parts.{fresh, first_world, peer_names, is_local_good, are_few, names_of, is_map_good, is_policy_good, is_peer_good, is_good}
use Rattle.ug_world.specs.World.{World}
use Rattle.ug_world.specs.Verdicts.{verdict}
use Rattle.ug_world.specs.After.{after, changed_peer, come_up, gone_down, refiltered, with_orf, with_policy}
use Rattle.ug_world.specs.Worlds.{judged, outcome, world_after, last_world}
use Rattle.ug_report.specs.Report.{names_in, name_at}
use Rattle.ug_speaker.proofs.Peers.{peer_after, peers-after, next-of}
use Rattle.ug_audit_rules.specs.Reports.{IsWord, place_from}
use Rattle.ug_run.proofs.Worlds.{IsNamed, EachHad}
use Rattle.ug_run.proofs.Words.{same-self}
use Rattle.ug_run.proofs.Good.{sooner}

-- ---- names stay

abbrev pub name_here : PeerState → List ℕ
name_here s = s.peer.name

changed_name : (name : List ℕ) (change : PeerState → PeerState) (s : PeerState) → (change s).peer.name ≡ s.peer.name → (changed_peer name change s).peer.name ≡ s.peer.name
changed_name name change s same = by (same_bytes s.peer.name name)
  where
    by : (b : Bool) → (if b then change s else s).peer.name ≡ s.peer.name
    by true = same
    by false = refl

mapped_names : (change : PeerState → PeerState) → ((s : PeerState) → (change s).peer.name ≡ s.peer.name) → (peers : List PeerState) → map name_here (map change peers) ≡ map name_here peers
mapped_names change same [] = refl
mapped_names change same (s ∷ peers) = let here = same s in let rest = mapped_names change same peers in cc

names_after : (e : Happening) (w : World) → names_in (after w e) ≡ names_in w
unfolding after
names_after (ComesUp name) w = mapped_names (changed_peer name come_up) (λ s. changed_name name come_up s refl) w.peers
names_after (GoesDown name) w = mapped_names (changed_peer name gone_down) (λ s. changed_name name gone_down s refl) w.peers
names_after (AsksAgain name) w = mapped_names (changed_peer name refiltered) (λ s. changed_name name refiltered s refl) w.peers
names_after (SendsRequest name) w = mapped_names (changed_peer name refiltered) (λ s. changed_name name refiltered s refl) w.peers
names_after (SendsList name request) w = mapped_names (changed_peer name (with_orf request)) (λ s. changed_name name (with_orf request) s refl) w.peers
names_after (HasPolicy name policy) w = mapped_names (changed_peer name (with_policy policy)) (λ s. changed_name name (with_policy policy) s refl) w.peers
names_after (HasEntries name entries) w = refl
names_after (HasPaths prefix paths) w = refl
names_after (HasNone prefix) w = refl

names_by : (lines : List (Reads Saying)) → ((u : World) → names_in (last_world u lines) ≡ names_in u) → (w : World) (e : Happening) (v : Option ℕ) → names_in (last_world (world_after w (judged w e v)) lines) ≡ names_in w
names_by lines rest w e None = rest (after w e) ∙ names_after e w
names_by lines rest w e (Some number) = rest w

pub names-stay : (lines : List (Reads Saying)) (w : World) → names_in (last_world w lines) ≡ names_in w
names-stay [] w = refl
names-stay (Ok SaysNothing ∷ lines) w = names-stay lines w
names-stay (Ok SaysSync ∷ lines) w = names-stay lines w
names-stay (Ok (Says e) ∷ lines) w = names_by lines (names-stay lines) w e (verdict w e)
names-stay (Err refusal ∷ lines) w = names-stay lines w

-- ---- sessions are no more than events

few_more : (e : Happening) (s : PeerState) → (peer_after e s).sessions ≤ s.sessions + 1
few_more e s =
    elim (next-of e s).moved [
      | inl stays ↦ let same = stays.1 in omega arith
      | inr other ↦ elim other [ inl down ↦ let same = down.1 in omega arith | inr comes ↦ let more = comes.1 in omega arith ]
    ]

-- So many events were accepted, and no peer had more sessions.
pub record IsWithin (most : ℕ) (w : World) : Type 0 where
  pub version : w.version ≤ most
  pub sessions : (p : ℕ) (s : PeerState) → slice_get w.peers p ≡ Some s → s.sessions ≤ w.version

within_after : (most : ℕ) (w : World) (e : Happening) → IsWithin most w → IsWithin (most + 1) (after w e)
unfolding after
within_after most w e h = record {
  version = (let v = h.version in omega arith);
  sessions = λ p s' there.
      let first = sooner (peer_after e) (slice_get w.peers p) s' (sym (peers-after e w p) ∙ there) in
      let few = h.sessions p first.0 first.1 in
      let more = subst (λ (t : PeerState). t.sessions ≤ first.0.sessions + 1) first.2 (few_more e first.0) in omega arith;
}

wider : (most : ℕ) (w : World) → IsWithin most w → IsWithin (most + 1) w
wider most w h = record { version = (let v = h.version in omega arith); sessions = h.sessions }

within_by : (most : ℕ) (w : World) (e : Happening) (v : Option ℕ) → IsWithin most w → IsWithin (most + 1) (world_after w (judged w e v))
within_by most w e None h = within_after most w e h
within_by most w e (Some number) h = wider most w h

within_line : (most : ℕ) (w : World) (line : Reads Saying) → IsWithin most w → IsWithin (most + 1) (world_after w (outcome w line))
within_line most w (Ok SaysNothing) h = wider most w h
within_line most w (Ok SaysSync) h = wider most w h
within_line most w (Ok (Says e)) h = within_by most w e (verdict w e) h
within_line most w (Err refusal) h = wider most w h

pub within-lines : (most : ℕ) (lines : List (Reads Saying)) (w : World) → IsWithin most w → IsWithin (most + length lines) (last_world w lines)
within-lines most [] w h = let same : most ≡ most + 0 = omega arith in subst (λ k. IsWithin k w) same h
within-lines most (line ∷ lines) w h =
    let same : most + 1 + length lines ≡ most + suc (length lines) = omega arith in
    subst (λ k. IsWithin k (last_world w (line ∷ lines))) same (within-lines (most + 1) lines (world_after w (outcome w line)) (within_line most w line h))

-- ---- a first world

fresh_there : (peers : List Peer) (p : ℕ) (s : PeerState) → slice_get (map fresh peers) p ≡ Some s → (s.up ≡ false) × (s.sessions ≡ 0)
fresh_there [] p s is = absurd cc
fresh_there (x ∷ peers) zero s is =
    let same : fresh x ≡ s = cc in (ap (λ (t : PeerState). t.up) (sym same), ap (λ (t : PeerState). t.sessions) (sym same))
fresh_there (x ∷ peers) (suc p) s is = fresh_there peers p s is

pub first-had : (parts : WorldParts) → EachHad (first_world parts)
first-had parts p s there up = let down = (fresh_there parts.peers.items p s there).0 in absurd cc

pub first-within : (parts : WorldParts) → IsWithin 0 (first_world parts)
first-within parts = record { version = omega arith; sessions = λ p s there. let none = (fresh_there parts.peers.items p s there).1 in omega arith }

-- ---- names are found

names_fresh : (peers : List Peer) → map name_here (map fresh peers) ≡ peer_names peers
names_fresh [] = refl
names_fresh (x ∷ peers) = ap (λ (ns : List (List ℕ)). x.name ∷ ns) (names_fresh peers)

both_true : (a b : Bool) → (a && b) ≡ true → (a ≡ true) × (b ≡ true)
both_true true b e = (refl, e)
both_true false b e = absurd cc

is_not : (b : Bool) → not b ≡ true → b ≡ false
is_not true e = absurd cc
is_not false e = refl

neither : (a b : Bool) → (a || b) ≡ false → (a ≡ false) × (b ≡ false)
neither true b e = absurd cc
neither false b e = (refl, e)

turned_one : (m n : ℕ) → (m == n) ≡ (n == m)
turned_one m n = grind (arith, nat_tests)

turned : (x y : List ℕ) → same_bytes x y ≡ same_bytes y x
turned [] [] = refl
turned [] (b ∷ y) = refl
turned (a ∷ x) [] = refl
turned (a ∷ x) (b ∷ y) = let one = turned_one a b in let rest = turned x y in cc

not_there : (names : List (List ℕ)) (name other : List ℕ) (p : ℕ) → is_name_among names name ≡ false → slice_get names p ≡ Some other → same_bytes other name ≡ false
not_there [] name other p none there = absurd cc
not_there (n ∷ names) name other zero none there = let same : n ≡ other = cc in subst (λ (x : List ℕ). same_bytes x name ≡ false) same (neither (same_bytes n name) (is_name_among names name) none).0
not_there (n ∷ names) name other (suc p) none there = not_there names name other p (neither (same_bytes n name) (is_name_among names name) none).1 there

found_from : (q : ℕ) (names : List (List ℕ)) (p : ℕ) (name : List ℕ) → are_distinct names ≡ true → slice_get names p ≡ Some name → place_from q names name ≡ Some (q + p)
found_from q [] p name distinct there = absurd cc
found_from q (n ∷ names) zero name distinct there =
    let same : n ≡ name = cc in
    let here : same_bytes n name ≡ true = subst (λ (x : List ℕ). same_bytes n x ≡ true) same (same-self n) in
    let none : q ≡ q + 0 = omega arith in
    ap (λ (b : Bool). if b then Some q else place_from (q + 1) names name) here ∙ ap Some none
found_from q (n ∷ names) (suc p) name distinct there =
    let parts = both_true (not (is_name_among names n)) (are_distinct names) distinct in
    let other : same_bytes n name ≡ false = turned n name ∙ not_there names n name p (is_not (is_name_among names n) parts.0) there in
    let one : q + 1 + p ≡ q + suc p = omega arith in
    ap (λ (b : Bool). if b then Some q else place_from (q + 1) names name) other ∙ (found_from (q + 1) names p name parts.1 there ∙ ap Some one)

word_at : (names : List (List ℕ)) (p : ℕ) (name : List ℕ) → Each IsWord names → slice_get names p ≡ Some name → IsWord name
word_at [] p name h there = absurd cc
word_at (n ∷ names) zero name h there = let same : n ≡ name = cc in subst (λ (x : List ℕ). IsWord x) same h.0
word_at (n ∷ names) (suc p) name h there = word_at names p name h.1 there

-- Where names are words and distinct each peer is named.
pub is-named : (last : World) (p : ℕ) (s : PeerState) → Each IsWord (names_in last) → are_distinct (names_in last) ≡ true → slice_get last.peers p ≡ Some s → IsNamed last p
is-named last p s words distinct there =
    let at : slice_get (names_in last) p ≡ Some s.peer.name = slice_get-map name_here last.peers p ∙ ap (λ o. option_map name_here o) there in
    let name : name_at (names_in last) p ≡ s.peer.name = ap (λ o. unwrap_or o []) at in
    let none : 0 + p ≡ p = omega arith in
    record {
      word = subst (λ (x : List ℕ). IsWord x) (sym name) (word_at (names_in last) p s.peer.name words at);
      found = ap (λ (x : List ℕ). place_from 0 (names_in last) x) name ∙ (found_from 0 (names_in last) p s.peer.name distinct at ∙ ap Some none);
    }

fifth : (a b c d e f g : Bool) → (a && (b && (c && (d && ((e && f) && g))))) ≡ true → e ≡ true
fifth true true true true true f g h = refl
fifth true true true true false f g h = absurd cc
fifth true true true false e f g h = absurd cc
fifth true true false d e f g h = absurd cc
fifth true false c d e f g h = absurd cc
fifth false b c d e f g h = absurd cc

-- the names of the peers of good parts are distinct
pub first-distinct : (parts : WorldParts) → is_good parts ≡ true → are_distinct (names_in (first_world parts)) ≡ true
first-distinct p good =
    ap are_distinct (names_fresh p.peers.items)
    ∙ fifth (is_local_good p.local) (are_few (names_of p.lists.items)) (are_few (names_of p.maps.items)) (are_few (names_of p.policies.items)) (are_distinct (peer_names p.peers.items)) (nat_le (length (peer_names p.peers.items)) 64)
    (list_all (is_map_good (names_of p.lists.items)) p.maps.items
    && (list_all (is_policy_good (names_of p.lists.items) (names_of p.maps.items)) p.policies.items && list_all (is_peer_good (names_of p.policies.items)) p.peers.items)) good
