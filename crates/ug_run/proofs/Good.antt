-- The marks and the losses of a run are ones of which a report can tell.
use Rattle.std.proofs.Common.{◌≡◌, ℕ, ◌+◌, ◌<◌, ◌≤◌, inl, inr, Bool, true, false, ◌==◌, List, [], ◌∷◌, ◌++◌, map, slice_get, Option, Some, None, Ok, Err, refl, sym, ◌∙◌, ap, subst, arith}
use Rattle.std.specs.Prelude.{◌&&◌, ◌||◌, nat_lt, nat_le}
use Rattle.std.specs.Option.{option_map}
use Rattle.std.specs.List.{list_all}
use Rattle.std.proofs.lemmas.Bool.{ltb-true}
use Rattle.std.proofs.lemmas.Bool.Decides.{nat_tests}
use Rattle.ug_types.specs.declared.mark.Mark.{Mark}
use Rattle.ug_board.specs.Deeds.{Each}
use Rattle.ug_events.specs.Events.{Happening, Saying, SaysNothing, SaysSync, Says}
use Rattle.ug_events.specs.Reads.{Reads}
use Rattle.ug_world.specs.declared.peer_state.PeerState.{PeerState}
use Rattle.ug_world.specs.World.{World}
use Rattle.ug_world.specs.Verdicts.{verdict}
use Rattle.ug_world.specs.After.{after}
use Rattle.ug_world.specs.Worlds.{judged, outcome, world_after, last_world}
use Rattle.ug_speaker.specs.Right.{IsAmong}
use Rattle.ug_report.specs.declared.endings.Loss.{Loss}
use Rattle.ug_report.specs.Report.{is_of_64, AreOf64, losses_from}
use Rattle.ug_event_loop.specs.Contents.{WireTold, Content, has_number, RiseFrom}
use Rattle.ug_event_loop.proofs.EachWires.{EachWireFrom}
use Rattle.ug_event_loop.specs.Marks.{asks_mark, AreMarks}
use Rattle.ug_event_loop.specs.Kept.{IsWireOf}
use Rattle.ug_speaker.proofs.Peers.{peer_after, peers-after, next-of, sessions-rise}
use Rattle.ug_audit_rules.specs.Reports.{is_number_of}
use Rattle.ug_run.proofs.Worlds.{IsNamed, CanBeTold, EachHad}
use Rattle.ug_run.proofs.Assembled.{IsGoodMark, IsGoodLoss}
use Rattle.ug_run.proofs.Marked.{IsMarked, mark-of}

-- ---- sessions only grow in number, and a peer that is up had one

-- Behind an event a peer has no fewer sessions, and if it is up it had one.
record IsLater (s s' : PeerState) : Type 0 where
  more : s.sessions ≤ s'.sessions
  had : (s.up ≡ true → 0 < s.sessions) → s'.up ≡ true → 0 < s'.sessions

later : (e : Happening) (s : PeerState) → IsLater s (peer_after e s)
later e s =
    let next = next-of e s in
    record {
      more = sessions-rise s (peer_after e s) next;
      had = λ h up. elim next.moved [
        | inl stays ↦ let one = h (sym stays.0 ∙ up) in let same = stays.1 in omega arith
        | inr other ↦ elim other [ inl down ↦ let here = down.0 in absurd cc | inr comes ↦ let more = comes.1 in omega arith ]
      ];
    }

pub sooner : (change : PeerState → PeerState) (o : Option PeerState) (s' : PeerState) → option_map change o ≡ Some s' → (s : PeerState) × (o ≡ Some s) × (change s ≡ s')
sooner change None s' is = absurd cc
sooner change (Some s) s' is = (s, refl, cc)

had_after : (w : World) (e : Happening) → EachHad w → EachHad (after w e)
had_after w e had p s' there up =
    let first = sooner (peer_after e) (slice_get w.peers p) s' (sym (peers-after e w p) ∙ there) in
    let rest = (later e first.0).had (had p first.0 first.1) in
    subst (λ (t : PeerState). t.up ≡ true → 0 < t.sessions) first.2 rest up

-- What stays of a world behind it: its version and its peers' sessions only grow.
record Grows (w v : World) : Type 0 where
  version : w.version ≤ v.version
  peers : (p : ℕ) (s : PeerState) → slice_get w.peers p ≡ Some s → (s' : PeerState) × (slice_get v.peers p ≡ Some s') × (s.sessions ≤ s'.sessions)

still : (w : World) → Grows w w
still w = record { version = omega arith; peers = λ p s there. (s, there, omega arith) }

event_grows : (w : World) (e : Happening) (v : World) → Grows (after w e) v → Grows w v
unfolding after
event_grows w e v g = record {
  version = (let next = g.version in omega arith);
  peers = λ p s there.
      let next = g.peers p (peer_after e s) (peers-after e w p ∙ ap (option_map (peer_after e)) there) in
      let more = (later e s).more in
      let further = next.2 in (next.0, next.1, omega arith);
}

module _ (lines : List (Reads Saying)) (rest : (u : World) → Grows u (last_world u lines)) where
  grows_by : (w : World) (e : Happening) (v : Option ℕ) → Grows w (last_world (world_after w (judged w e v)) lines)
  grows_by w e None = event_grows w e (last_world (after w e) lines) (rest (after w e))
  grows_by w e (Some number) = rest w

grows : (lines : List (Reads Saying)) (w : World) → Grows w (last_world w lines)
grows [] w = still w
grows (Ok SaysNothing ∷ lines) w = grows lines w
grows (Ok SaysSync ∷ lines) w = grows lines w
grows (Ok (Says e) ∷ lines) w = grows_by lines (grows lines) w e (verdict w e)
grows (Err refusal ∷ lines) w = grows lines w

had_by : (w : World) (e : Happening) (v : Option ℕ) → EachHad w → EachHad (world_after w (judged w e v))
had_by w e None had = had_after w e had
had_by w e (Some number) had = had

had_next : (w : World) (line : Reads Saying) → EachHad w → EachHad (world_after w (outcome w line))
had_next w (Ok SaysNothing) had = had
had_next w (Ok SaysSync) had = had
had_next w (Ok (Says e)) had = had_by w e (verdict w e) had
had_next w (Err refusal) had = had

-- ---- marks

has_number_of : (n : ℕ) (s : PeerState) → 0 < n → n ≤ s.sessions → is_number_of n (Some s) ≡ true
has_number_of n s low high =
    let one : nat_lt 0 n ≡ true = grind (arith, nat_tests, low) in
    let other : nat_le n s.sessions ≡ true = grind (arith, nat_tests, high) in cc

both_true : (a b : Bool) → (a && b) ≡ true → (a ≡ true) × (b ≡ true)
both_true true b e = (refl, e)
both_true false b e = absurd cc

module _ (last : World) (can : CanBeTold last) where
  good_mark : (w : World) (m : Mark) → EachHad w → Grows w last → IsMarked w 0 w.peers m → is_of_64 m ≡ true → IsGoodMark last m
  good_mark w m had g is small =
      let next = g.peers is.place is.state is.there in
      let peer : m.peer ≡ is.place = is.mark.peer ∙ omega arith in
      let one = had is.place is.state is.there is.up in
      let session = is.mark.session in
      let version = is.mark.version in
      let newer = g.version in
      let most = can.version in
      let more = next.2 in
      let sessions = can.sessions is.place next.0 next.1 in
      record {
        named = subst (λ p. IsNamed last p) (sym peer) (can.named is.place next.0 next.1);
        writable = record { version = omega arith; session = omega arith; handed = ltb-true m.handed 18446744073709551616 small };
        early = omega arith;
        had = ap (λ p. is_number_of m.session (slice_get last.peers p)) peer ∙ (ap (λ o. is_number_of m.session o) next.1 ∙ has_number_of m.session next.0 (omega arith) (omega arith));
      }

  each_good : (w : World) (all ms : List Mark) → EachHad w → Grows w last → ((m : Mark) → IsAmong m ms → IsMarked w 0 w.peers m) → AreOf64 ms → Each (IsGoodMark last) ms
  each_good w all [] had g are small = tt
  each_good w all (m ∷ ms) had g are small =
      let parts = both_true (is_of_64 m) (list_all is_of_64 ms) small in
      (good_mark w m had g (are m (inl refl)) parts.0, each_good w all ms had g (λ n among. are n (inr among)) parts.1)

  -- all marks of all lines
  pub marks-good : (is_lost : ℕ → ℕ → Bool) (w : World) (lines : List (Reads Saying)) (marks : List (List Mark)) → EachHad w → last ≡ last_world w lines → AreMarks is_lost w lines marks → Each AreOf64 marks
      → Each (Each (IsGoodMark last)) marks
  marks-good is_lost w [] [] had is are small = tt
  marks-good is_lost w [] (ms ∷ marks) had is are small = absurd are
  marks-good is_lost w (line ∷ lines) [] had is are small = tt
  marks-good is_lost w (line ∷ lines) (ms ∷ marks) had is are small =
      let next = world_after w (outcome w line) in
      let had' = had_next w line had in (
        each_good next ms ms had' (subst (λ (v : World). Grows next v) (sym is) (grows lines next)) (λ m among. mark-of (asks_mark w line) is_lost next m 0 next.peers ms are.0 among) small.0,
        marks-good is_lost next lines marks had' is are.1 small.1,
      )

  -- ---- losses

  numbers_good : (p low : ℕ) (s : PeerState) (all numbers : List ℕ) → slice_get last.peers p ≡ Some s → RiseFrom low numbers → ((n : ℕ) → has_number all n ≡ true → n ≤ s.sessions)
      → ((n : ℕ) → has_number numbers n ≡ true → has_number all n ≡ true) → Each (IsGoodLoss last) (map (λ (n : ℕ). record { peer = p; session = n }) numbers)
  numbers_good p low s all [] there rise were sub = tt
  numbers_good p low s all (n ∷ numbers) there rise were sub =
      let self : (n == n) ≡ true = grind (arith, nat_tests) in
      let among : has_number (n ∷ numbers) n ≡ true = ap (λ (b : Bool). b || has_number numbers n) self in
      let few = were n (sub n among) in
      let low' = rise.0 in
      let most = can.sessions p s there in (
        record {
          named = can.named p s there;
          small = omega arith;
          had = ap (λ o. is_number_of n o) there ∙ has_number_of n s (omega arith) few;
        },
        numbers_good p n s all numbers there rise.1 were (λ k h. sub k (or_true (n == k) (has_number numbers k) h)),
      )
    where
      or_true : (a b : Bool) → b ≡ true → (a || b) ≡ true
      or_true true b h = refl
      or_true false b h = h

  losses_join : (xs ys : List Loss) → Each (IsGoodLoss last) xs → Each (IsGoodLoss last) ys → Each (IsGoodLoss last) (xs ++ ys)
  losses_join [] ys h k = k
  losses_join (x ∷ xs) ys h k = (h.0, losses_join xs ys h.1 k)

  pub losses-good : (ws : List World) (complete : Bool) (q : ℕ) (wires : List WireTold) (contents : List (List Content)) (lost : List (List ℕ)) → EachWireFrom (IsWireOf ws last complete) q wires contents lost → Each (IsGoodLoss last) (losses_from q lost)
  losses-good ws complete q [] [] [] h = tt
  losses-good ws complete q [] [] (l ∷ lost) h = absurd h
  losses-good ws complete q [] (c ∷ contents) lost h = absurd h
  losses-good ws complete q (wire ∷ wires) [] lost h = absurd h
  losses-good ws complete q (wire ∷ wires) (c ∷ contents) [] h = tt
  losses-good ws complete q (wire ∷ wires) (c ∷ contents) (l ∷ lost) h =
      losses_join (map (λ (n : ℕ). record { peer = q; session = n }) l) (losses_from (q + 1) lost) (numbers_good q 0 h.0.0 l l h.0.1 h.0.2.rise h.0.2.were (λ n is. is))
      (losses-good ws complete (q + 1) wires contents lost h.1)
