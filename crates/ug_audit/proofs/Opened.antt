-- The worlds of a run: the first, and the last.
use Rattle.std.proofs.Common.{◌≡◌, ℕ, ◌+◌, ◌<◌, ◌≤◌, Bool, true, false, List, [], ◌∷◌, length, map, slice_get, Option, Some, None, Ok, Err, refl, sym, ap, subst, ◌∙◌, arith}
use Rattle.std.specs.Prelude.{nat_le, ◌&&◌}
use Rattle.std.specs.Option.{option_map}
use Rattle.std.specs.List.{list_all}
use Rattle.std.proofs.lemmas.List.{length-map}
use Rattle.std.proofs.lemmas.Option.{slice_get-map}
use Rattle.ug_outbound.specs.declared.peer.Peer.{Peer}
use Rattle.ug_events.specs.Events.{Happening, Saying, SaysNothing, SaysSync, Says}
use Rattle.ug_events.specs.Reads.{Reads}
use Rattle.ug_events.specs.Grammar.{line_of}
use Rattle.ug_pieces.specs.Lines.{lines_of}
use Rattle.ug_world.specs.declared.parts.WorldParts.{WorldParts}
use Rattle.ug_world.specs.declared.peer_state.PeerState.{PeerState}
use Rattle.ug_world.specs.World.{World}
use Rattle.ug_world.specs.Names.{are_distinct}
use Rattle.ug_world.specs.Kept.{peer_name}
use Rattle.ug_world.specs.Parts.{IsGood, fresh, are_few, peer_names, is_local_good, names_of, is_map_good, is_policy_good, is_peer_good}
use Rattle.ug_world.specs.Verdicts.{verdict}
use Rattle.ug_world.specs.After.{after}
use Rattle.ug_world.specs.Worlds.{judged, world_after, last_world}
use Rattle.ug_speaker.specs.Owes.{IsOpening}
use Rattle.ug_audit_rules.specs.Lines.{said_in}
use Rattle.ug_audit_rules.specs.Timelines.{IsFirst}
use Rattle.ug_audit_rules.proofs.Naming.{names-after}
use Rattle.ug_audit_rules.specs.Told.{most_lines}
use Rattle.ug_audit.specs.Files.{IsWithin}
use Rattle.ug_audit.specs.Auditing.{last_of}

-- ---- the first

fresh_is : {T : Type 0} (f : PeerState → T) (x : T) (same : (p : Peer) → f (fresh p) ≡ x) (peers : List Peer) (p : ℕ) (s : PeerState) → slice_get (map fresh peers) p ≡ Some s → f s ≡ x
fresh_is {T} f x same peers p s is = by (slice_get peers p) (sym (slice_get-map fresh peers p) ∙ is)
  where
    by : (o : Option Peer) → option_map fresh o ≡ Some s → f s ≡ x
    by (Some peer) is = (let one : fresh peer ≡ s = cc in ap f (sym one) ∙ same peer)
    by None is = absurd cc

fresh_names : (peers : List Peer) → map peer_name (map fresh peers) ≡ peer_names peers
fresh_names [] = refl
fresh_names (p ∷ peers) = ap (λ (ns : List (List ℕ)). p.name ∷ ns) (fresh_names peers)

first_and : (a b : Bool) → (a && b) ≡ true → a ≡ true
first_and true b is = refl
first_and false b is = absurd cc

second_and : (a b : Bool) → (a && b) ≡ true → b ≡ true
second_and true b is = is
second_and false b is = absurd cc

fifth_and : (a b c d e f : Bool) → (a && (b && (c && (d && (e && f))))) ≡ true → e ≡ true
fifth_and a b c d e f is = first_and e f (second_and d (e && f) (second_and c (d && (e && f)) (second_and b (c && (d && (e && f))) (second_and a (b && (c && (d && (e && f)))) is))))

distinct_names : (parts : WorldParts) → IsGood parts → are_distinct (peer_names parts.peers.items) ≡ true
distinct_names parts good =
    first_and (are_distinct (peer_names parts.peers.items)) (nat_le (length (peer_names parts.peers.items)) 64)
    (fifth_and (is_local_good parts.local) (are_few (names_of parts.lists.items)) (are_few (names_of parts.maps.items)) (are_few (names_of parts.policies.items)) (are_few (peer_names parts.peers.items))
    (list_all (is_map_good (names_of parts.lists.items)) parts.maps.items && (list_all (is_policy_good (names_of parts.lists.items) (names_of parts.maps.items)) parts.policies.items && list_all (is_peer_good (names_of parts.policies.items)) parts.peers.items)) good)

pub is-first : (w : World) → IsOpening w → IsFirst w
is-first w opens = subst IsFirst (sym opens.first) (record {
  version = refl;
  down = fresh_is (λ (s : PeerState). s.up) false (λ p. refl) opens.parts.peers.items;
  none = fresh_is (λ (s : PeerState). s.sessions) 0 (λ p. refl) opens.parts.peers.items;
  distinct = ap are_distinct (fresh_names opens.parts.peers.items) ∙ distinct_names opens.parts opens.good;
})

-- ---- the last

version-after : (e : Happening) (w : World) → (after w e).version ≡ w.version + 1
unfolding after
version-after e w = refl

-- so many lines lead to it
record IsLed (w last : World) (n : ℕ) : Type 0 where
  version : last.version ≤ w.version + n
  names : map peer_name last.peers ≡ map peer_name w.peers

by_verdict : (w last : World) (e : Happening) (n : ℕ) (v : Option ℕ) → IsLed (world_after w (judged w e v)) last n → IsLed w last (n + 1)
by_verdict w last e n None h = (let v = version-after e w in let few = h.version in record { version = omega (arith, v, few); names = h.names ∙ names-after e w })
by_verdict w last e n (Some number) h = (let few = h.version in record { version = omega (arith, few); names = h.names })

one_more : (w last : World) (n : ℕ) → IsLed w last n → IsLed w last (n + 1)
one_more w last n h = (let few = h.version in record { version = omega (arith, few); names = h.names })

led : (w : World) (lines : List (Reads Saying)) → IsLed w (last_world w lines) (length lines)
led w [] = record { version = omega arith; names = refl }
led w (Ok SaysNothing ∷ lines) = subst (IsLed w (last_world w lines)) (omega arith) (one_more w (last_world w lines) (length lines) (led w lines))
led w (Ok SaysSync ∷ lines) = subst (IsLed w (last_world w lines)) (omega arith) (one_more w (last_world w lines) (length lines) (led w lines))
led w (Ok (Says e) ∷ lines) = subst (IsLed w (last_world w (Ok (Says e) ∷ lines))) (omega arith)
    (by_verdict w (last_world w (Ok (Says e) ∷ lines)) e (length lines) (verdict w e) (led (world_after w (judged w e (verdict w e))) lines))
led w (Err refusal ∷ lines) = subst (IsLed w (last_world w lines)) (omega arith) (one_more w (last_world w lines) (length lines) (led w lines))

pub last_version : (w : World) (events : List ℕ) → w.version ≡ 0 → (last_of w events).version ≤ length (lines_of events)
last_version w events zero_is =
    let few = (led w (said_in events)).version in
    let size = length-map (lines_of events) line_of in
    omega (arith, few, size, zero_is)

pub last_peers : (w : World) (events : List ℕ) → length (last_of w events).peers ≡ length w.peers
last_peers w events =
    sym (length-map (last_of w events).peers peer_name) ∙ ap (λ (ns : List (List ℕ)). length ns) (led w (said_in events)).names ∙ length-map w.peers peer_name

-- so few lines are no more than this
pub few_lines : (events bytes : List ℕ) → bytes ≡ events → IsWithin events → length (lines_of bytes) ≤ 2000000
unfolding most_lines
few_lines events bytes is h = subst (λ (b : List ℕ). length (lines_of b) ≤ 2000000) (sym is) h.few_lines
