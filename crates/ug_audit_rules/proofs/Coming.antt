-- A timeline after one event more.
use Rattle.std.proofs.Common.{◌≡◌, ℕ, zero, suc, ◌+◌, ◌-◌, ◌<◌, ◌≤◌, inl, inr, Bool, true, false, List, [], ◌∷◌, ◌++◌, length, map, filter, slice_get, Option, Some, None, refl, sym, ◌∙◌, ap, subst, arith, length-append}
use Rattle.std.specs.Prelude.{nat_lt, ◌&&◌, not, if◌then◌else◌}
use Rattle.std.specs.Global.{Vec}
use Rattle.std.specs.Option.{option_map}
use Rattle.std.proofs.lemmas.List.{map-append, length-map}
use Rattle.std.proofs.lemmas.Bool.{lt-ltb, le-ltb, cases_lt}
use Rattle.ug_types.specs.declared.key.Key.{Key}
use Rattle.ug_message.specs.Tables.{Table, among}
use Rattle.ug_hearing.specs.declared.change.Change.{Change}
use Rattle.ug_hearing.specs.Pasts.{value_before}
use Rattle.ug_hearing.specs.Courses.{changes_of}
use Rattle.ug_hearing.specs.declared.log.Log.{Log}
use Rattle.ug_hearing.specs.Logs.{IsLog}
use Rattle.ug_hearing.proofs.Logged.{noted-last}
use Rattle.ug_events.specs.Events.{Happening}
use Rattle.ug_world.specs.declared.peer_state.PeerState.{PeerState}
use Rattle.ug_world.specs.World.{World}
use Rattle.ug_world.specs.Names.{are_distinct}
use Rattle.ug_world.specs.Kept.{peer_name}
use Rattle.ug_world.specs.Verdicts.{verdict}
use Rattle.ug_world.specs.After.{after}
use Rattle.ug_world.specs.Private.{private_table}
use Rattle.ug_world.specs.Worlds.{in_session}
use Rattle.ug_world.proofs.Keeping.{down}
use Rattle.ug_speaker.proofs.Peers.{Moved, peer_after, peers-after, next-of}
use Rattle.ug_audit_rules.specs.declared.progress.Progress.{Progress}
use Rattle.ug_audit_rules.specs.Touched.{keys_at}
use Rattle.ug_audit_rules.specs.Timelines.{IsSpan, end_of}
use Rattle.ug_audit_rules.specs.Standing.{over, StandsBy, StandsAt, IsMarked, IsNotedFor}
use Rattle.ug_audit_rules.proofs.Touching.{stays}
use Rattle.ug_audit_rules.proofs.Naming.{names-after, comes_from_down}
use Rattle.ug_audit_rules.proofs.Spanning.{get_before, get_at, get_inside, same_item, end_is_over, end_is_open, end_before, end_at, none_more, span_stays, span_grows, span_begins, is_in, is_down, is_other}

pub version-after : (e : Happening) (w : World) → (after w e).version ≡ w.version + 1
unfolding after
version-after e w = refl

-- ---- the log

log_more : (e : Happening) (p : ℕ) (ws front : List World) (w w' : World) (s s' : PeerState) (keys : List Key) (old new : List (Key × List Change))
    → ws ≡ front ++ w ∷ [] → w.version ≡ length front → w' ≡ after w e → slice_get w.peers p ≡ Some s → slice_get w'.peers p ≡ Some s' → s' ≡ peer_after e s → keys ≡ keys_at e s.peer w ++ keys_at e s'.peer w'
    → IsLog old (map (private_table p) ws) → IsNotedFor p w' keys old new → IsLog new (map (private_table p) (ws ++ w' ∷ []))
log_more e p ws front w w' s s' keys old new parts version led is later is_next keys_are log noted =
    let tables = map (private_table p) ws in
    let size : length (map (private_table p) ws) ≡ w'.version =
    (let len = length-map ws (private_table p) in let both = ap (λ (xs : List World). length xs) parts ∙ length-append front (w ∷ []) in let v = ap (λ (x : World). x.version) led ∙ version-after e w in omega (arith, len, both, v, version)) in
    subst (λ (ts : List Table). IsLog new ts) (sym (map-append (private_table p) ws (w' ∷ []))) (noted tables (private_table p w') log size refl (λ q out. last q ∙ same q out))
  where
    split : map (private_table p) ws ≡ map (private_table p) front ++ private_table p w ∷ []
    split = ap (λ (xs : List World). map (private_table p) xs) parts ∙ map-append (private_table p) front (w ∷ [])

    last : (q : Key) → value_before (length (changes_of old q)) (changes_of old q) ≡ private_table p w q
    last q = noted-last old (map (private_table p) front) (private_table p w) q ((subst (λ (ts : List Table). IsLog old ts) (ap (λ (xs : List World). map (private_table p) xs) parts ∙ map-append (private_table p) front (w ∷ [])) log) q)

    same : (q : Key) → among keys q ≡ false → private_table p w q ≡ private_table p w' q
    same q out =
        stays e w p s s' q is (ap (λ (x : World). slice_get x.peers p) (sym led) ∙ later) is_next
        (sym (ap (λ (ks : List Key). among ks q) (keys_are ∙ ap (λ (x : World). keys_at e s.peer w ++ keys_at e s'.peer x) led)) ∙ out)
        ∙ ap (λ (x : World). private_table p x q) (sym led)

-- ---- sessions

over_up : (s : PeerState) → s.up ≡ true → over s ≡ s.sessions - 1
over_up s up = ap (λ (b : Bool). if b then s.sessions - 1 else s.sessions) up

over_down : (s : PeerState) → s.up ≡ false → over s ≡ s.sessions
over_down s up = ap (λ (b : Bool). if b then s.sessions - 1 else s.sessions) up

-- what the spans of all sessions were, and are with one more world
module _ (p : ℕ) (ws front : List World) (w w' : World) (s s' : PeerState) (begun ended begun' ended' : List ℕ)
    (parts : ws ≡ front ++ w ∷ []) (version : w'.version ≡ length ws) (is : slice_get w.peers p ≡ Some s) (later : slice_get w'.peers p ≡ Some s')
    (was_some : s.up ≡ true → 0 < s.sessions) (was_begun : length begun ≡ s.sessions) (was_ended : length ended ≡ over s)
    (none : (n : ℕ) → s.sessions < n → filter (in_session p n) ws ≡ [])
    (was_spans : (i from : ℕ) → slice_get begun i ≡ Some from → IsSpan p (suc i) ws from (end_of ended i (length ws)))
    (now_begun : begun' ≡ (if nat_lt (length begun) s'.sessions then begun ++ (w'.version - 1) ∷ [] else begun))
    (now_ended : ended' ≡ (if not s'.up && nat_lt (length ended) (length begun') then ended ++ w'.version ∷ [] else ended)) where
  pub record AreSpans : Type 0 where
    pub some : s'.up ≡ true → 0 < s'.sessions
    pub begun_is : length begun' ≡ s'.sessions
    pub ended_is : length ended' ≡ over s'
    pub spans : (i from : ℕ) → slice_get begun' i ≡ Some from → IsSpan p (suc i) (ws ++ w' ∷ []) from (end_of ended' i (length (ws ++ w' ∷ [])))

  size : length (ws ++ w' ∷ []) ≡ length ws + 1
  size = length-append ws (w' ∷ [])

  begun_same : s'.sessions ≡ s.sessions → begun' ≡ begun
  begun_same same = now_begun ∙ ap (λ (b : Bool). if b then begun ++ (w'.version - 1) ∷ [] else begun) (le-ltb (length begun) s'.sessions (omega (arith, was_begun, same)))

  ended_same : (not s'.up && nat_lt (length ended) (length begun')) ≡ false → ended' ≡ ended
  ended_same off = now_ended ∙ ap (λ (b : Bool). if b then ended ++ w'.version ∷ [] else ended) off

  ended_up : s'.up ≡ true → ended' ≡ ended
  ended_up up = ended_same (ap (λ (b : Bool). not b && nat_lt (length ended) (length begun')) up)

  -- a session that was over stays so
  stays_over : (i from : ℕ) → slice_get begun i ≡ Some from → i < length ended → in_session p (suc i) w' ≡ false → IsSpan p (suc i) (ws ++ w' ∷ []) from (end_of ended i (length (ws ++ w' ∷ [])))
  stays_over i from there less out =
      subst (λ (to : ℕ). IsSpan p (suc i) (ws ++ w' ∷ []) from to) (end_is_over ended i (length ws) (length (ws ++ w' ∷ [])) less) (span_stays p (suc i) ws w' from (end_of ended i (length ws)) out (was_spans i from there))

  -- the peer is still down
  pub still_down : s.up ≡ false → s'.up ≡ false → s'.sessions ≡ s.sessions → AreSpans
  still_down was now same =
      let few : length ended ≡ s.sessions = was_ended ∙ over_down s was in
      let same_begun = begun_same same in
      let test : nat_lt (length ended) (length begun') ≡ false = le-ltb (length ended) (length begun') (omega (arith, few, was_begun, ap (λ (xs : List ℕ). length xs) same_begun)) in
      let same_ended = ended_same (ap (λ (b : Bool). not s'.up && b) test ∙ and_false (not s'.up)) in
      record {
        some = λ up. absurd (let clash = sym up ∙ now in cc);
        begun_is = ap (λ (xs : List ℕ). length xs) same_begun ∙ was_begun ∙ sym same;
        ended_is = ap (λ (xs : List ℕ). length xs) same_ended ∙ few ∙ sym same ∙ sym (over_down s' now);
        spans = λ i from there.
            let was_there = ap (λ (xs : List ℕ). slice_get xs i) (sym same_begun) ∙ there in
            subst (λ (xs : List ℕ). IsSpan p (suc i) (ws ++ w' ∷ []) from (end_of xs i (length (ws ++ w' ∷ [])))) (sym same_ended)
            (stays_over i from was_there (let inside = get_inside begun i from was_there in omega (arith, inside, few, was_begun)) (is_down p (suc i) w' s' later now));
      }
    where
      and_false : (b : Bool) → (b && false) ≡ false
      and_false true = refl
      and_false false = refl

  -- the session goes on
  pub still_up : s.up ≡ true → s'.up ≡ true → s'.sessions ≡ s.sessions → AreSpans
  still_up was now same =
      let few : length ended ≡ s.sessions - 1 = was_ended ∙ over_up s was in
      let one = was_some was in
      let same_begun = begun_same same in
      let same_ended = ended_up now in
      record {
        some = λ up. omega (arith, one, same);
        begun_is = ap (λ (xs : List ℕ). length xs) same_begun ∙ was_begun ∙ sym same;
        ended_is = ap (λ (xs : List ℕ). length xs) same_ended ∙ few ∙ ap (λ (k : ℕ). k - 1) (sym same) ∙ sym (over_up s' now);
        spans = λ i from there.
            let was_there = ap (λ (xs : List ℕ). slice_get xs i) (sym same_begun) ∙ there in
            subst (λ (xs : List ℕ). IsSpan p (suc i) (ws ++ w' ∷ []) from (end_of xs i (length (ws ++ w' ∷ [])))) (sym same_ended)
            (elim (cases_lt i (length ended)) [
              | inl less ↦ stays_over i from was_there less (is_other p (suc i) w' s' later (λ e. absurd (omega (arith, e, same, less, few))))
              | inr late ↦ (
                  let inside = get_inside begun i from was_there in
                  let n : s'.sessions ≡ suc i = omega (arith, inside, was_begun, few, one, late, same) in
                  let old_end = end_is_open ended i (length ws) late in
                  let new_end = end_is_open ended i (length (ws ++ w' ∷ [])) late in
                  let grown = span_grows p (suc i) ws w' from (length ws) (is_in p (suc i) w' s' later now n) refl (subst (λ (to : ℕ). IsSpan p (suc i) ws from to) old_end (was_spans i from was_there)) in
                  subst (λ (to : ℕ). IsSpan p (suc i) (ws ++ w' ∷ []) from to) (sym (new_end ∙ size)) grown)
            ]);
      }

  -- the session is over
  pub goes_down : s.up ≡ true → s'.up ≡ false → s'.sessions ≡ s.sessions → AreSpans
  goes_down was now same =
      let few : length ended ≡ s.sessions - 1 = was_ended ∙ over_up s was in
      let one = was_some was in
      let same_begun = begun_same same in
      let begun_size : length begun' ≡ s.sessions = ap (λ (xs : List ℕ). length xs) same_begun ∙ was_begun in
      let test : nat_lt (length ended) (length begun') ≡ true = lt-ltb (length ended) (length begun') (omega (arith, few, begun_size, one)) in
      let more : ended' ≡ ended ++ w'.version ∷ [] = now_ended ∙ ap (λ (b : Bool). if not b && nat_lt (length ended) (length begun') then ended ++ w'.version ∷ [] else ended) now ∙ ap (λ (b : Bool). if true && b then ended ++ w'.version ∷ [] else ended) test in
      record {
        some = λ up. absurd (let clash = sym up ∙ now in cc);
        begun_is = begun_size ∙ sym same;
        ended_is = (let len = ap (λ (xs : List ℕ). length xs) more ∙ length-append ended (w'.version ∷ []) in let all = over_down s' now in omega (arith, len, few, one, same, all));
        spans = λ i from there.
            let was_there = ap (λ (xs : List ℕ). slice_get xs i) (sym same_begun) ∙ there in
            let out = is_down p (suc i) w' s' later now in
            subst (λ (xs : List ℕ). IsSpan p (suc i) (ws ++ w' ∷ []) from (end_of xs i (length (ws ++ w' ∷ [])))) (sym more)
            (elim (cases_lt i (length ended)) [
              | inl less ↦ subst (λ (to : ℕ). IsSpan p (suc i) (ws ++ w' ∷ []) from to) (sym (end_before ended w'.version i (length (ws ++ w' ∷ [])) less)) (stays_over i from was_there less out)
              | inr late ↦ (
                  let inside = get_inside begun i from was_there in
                  let at : i ≡ length ended = omega (arith, inside, was_begun, few, one, late) in
                  let old_end = end_is_open ended i (length ws) late in
                  subst (λ (to : ℕ). IsSpan p (suc i) (ws ++ w' ∷ []) from to) (sym (end_at ended w'.version i (length (ws ++ w' ∷ [])) at ∙ version))
                  (span_stays p (suc i) ws w' from (length ws) out (subst (λ (to : ℕ). IsSpan p (suc i) ws from to) old_end (was_spans i from was_there))))
            ]);
      }

  -- a session begins
  pub comes_up : s.up ≡ false → s'.up ≡ true → s'.sessions ≡ s.sessions + 1 → AreSpans
  comes_up was now next =
      let few : length ended ≡ s.sessions = was_ended ∙ over_down s was in
      let test : nat_lt (length begun) s'.sessions ≡ true = lt-ltb (length begun) s'.sessions (omega (arith, was_begun, next)) in
      let more : begun' ≡ begun ++ (w'.version - 1) ∷ [] = now_begun ∙ ap (λ (b : Bool). if b then begun ++ (w'.version - 1) ∷ [] else begun) test in
      let same_ended = ended_up now in
      record {
        some = λ up. omega (arith, next);
        begun_is = (let len = ap (λ (xs : List ℕ). length xs) more ∙ length-append begun ((w'.version - 1) ∷ []) in omega (arith, len, was_begun, next));
        ended_is = ap (λ (xs : List ℕ). length xs) same_ended ∙ few ∙ (let all = over_up s' now in omega (arith, all, next));
        spans = λ i from there.
            subst (λ (xs : List ℕ). IsSpan p (suc i) (ws ++ w' ∷ []) from (end_of xs i (length (ws ++ w' ∷ [])))) (sym same_ended)
            (elim (cases_lt i (length begun)) [
              | inl less ↦ (
                  let was_there = sym (get_before begun (w'.version - 1) i less) ∙ ap (λ (xs : List ℕ). slice_get xs i) (sym more) ∙ there in
                  stays_over i from was_there (omega (arith, less, was_begun, few)) (is_other p (suc i) w' s' later (λ e. absurd (omega (arith, e, next, less, was_begun)))))
              | inr new ↦ (
                  let inside = get_inside begun' i from there in
                  let len = ap (λ (xs : List ℕ). length xs) more ∙ length-append begun ((w'.version - 1) ∷ []) in
                  let at : i ≡ length begun = omega (arith, inside, len, new) in
                  let front_size = ap (λ (xs : List World). length xs) parts ∙ length-append front (w ∷ []) in
                  let from_is : from ≡ length front = sym (same_item (w'.version - 1) from (sym (get_at begun (w'.version - 1) i at) ∙ ap (λ (xs : List ℕ). slice_get xs i) (sym more) ∙ there)) ∙ (omega (arith, version, front_size)) in
                  let n : s'.sessions ≡ suc i = omega (arith, at, was_begun, next) in
                  let end = end_is_open ended i (length (ws ++ w' ∷ [])) (omega (arith, at, was_begun, few)) in
                  let begins = span_begins p (suc i) front w w' ws parts (is_in p (suc i) w' s' later now n) (none (suc i) (omega (arith, at, was_begun))) (λ key. down w p s key is was) in
                  subst (λ (f : ℕ). IsSpan p (suc i) (ws ++ w' ∷ []) f (end_of ended i (length (ws ++ w' ∷ [])))) (sym from_is)
                  (subst (λ (to : ℕ). IsSpan p (suc i) (ws ++ w' ∷ []) (length front) to) (sym (end ∙ size)) begins))
            ]);
      }

  pub spans_by : (t : PeerState) → s' ≡ t → (t.sessions ≡ s.sessions + 1 → s.up ≡ false) → Moved s t → AreSpans
  spans_by t same from_down moved = by s.up refl moved
    where
      up_is : t.up ≡ s'.up
      up_is = ap (λ (u : PeerState). u.up) (sym same)

      count_is : t.sessions ≡ s'.sessions
      count_is = ap (λ (u : PeerState). u.sessions) (sym same)

      by : (b : Bool) → s.up ≡ b → Moved s t → AreSpans
      by true was (inl stays) = still_up was (ap (λ (u : PeerState). u.up) same ∙ stays.0 ∙ was) (ap (λ (u : PeerState). u.sessions) same ∙ stays.1)
      by false was (inl stays) = still_down was (ap (λ (u : PeerState). u.up) same ∙ stays.0 ∙ was) (ap (λ (u : PeerState). u.sessions) same ∙ stays.1)
      by true was (inr (inl gone)) = goes_down was (ap (λ (u : PeerState). u.up) same ∙ gone.0) (ap (λ (u : PeerState). u.sessions) same ∙ gone.1)
      by false was (inr (inl gone)) = still_down was (ap (λ (u : PeerState). u.up) same ∙ gone.0) (ap (λ (u : PeerState). u.sessions) same ∙ gone.1)
      by b was (inr (inr came)) = comes_up (from_down came.1) (ap (λ (u : PeerState). u.up) same ∙ came.0) (ap (λ (u : PeerState). u.sessions) same ∙ came.1)

-- ---- all of it

out_of : (p n : ℕ) (w : World) (s : PeerState) → slice_get w.peers p ≡ Some s → s.sessions < n → in_session p n w ≡ false
out_of p n w s there few = is_other p n w s there (λ e. absurd (omega (arith, e, few)))

moves-few : (s t : PeerState) → Moved s t → s.sessions ≤ t.sessions
moves-few s t (inl stays) = omega (arith, stays.1)
moves-few s t (inr (inl gone)) = omega (arith, gone.1)
moves-few s t (inr (inr came)) = omega (arith, came.1)

at_peer : (e : Happening) (p : ℕ) (w w' : World) (s s' : PeerState) → w' ≡ after w e → slice_get w.peers p ≡ Some s → slice_get w'.peers p ≡ Some s' → s' ≡ peer_after e s
at_peer e p w w' s s' led is later =
    some_same s' (peer_after e s) (sym later ∙ (ap (λ (x : World). slice_get x.peers p) led ∙ (peers-after e w p ∙ ap (option_map (peer_after e)) is)))
  where
    some_same : (a b : PeerState) → Some a ≡ Some b → a ≡ b
    some_same a b same = cc

-- the sessions
pub marked-comes :
    (e : Happening) (p : ℕ) (ws : List World) (w w' : World) (s' : PeerState) (old new : Progress)
    → verdict w e ≡ None → w' ≡ after w e → StandsBy p ws w old → slice_get w'.peers p ≡ Some s'
    → new.begun.items ≡ (if nat_lt (length old.begun.items) s'.sessions then old.begun.items ++ (w'.version - 1) ∷ [] else old.begun.items)
    → new.ended.items ≡ (if not s'.up && nat_lt (length old.ended.items) (length new.begun.items) then old.ended.items ++ w'.version ∷ [] else old.ended.items)
    → StandsBy p (ws ++ w' ∷ []) w' new
marked-comes e p ws w w' s' old new accepted led h later begun ended =
    let next = at_peer e p w w' h.state s' led h.there later in
    let size = ap (λ (xs : List World). length xs) h.parts ∙ length-append h.front (w ∷ []) in
    let version : w'.version ≡ length ws = (let v = ap (λ (x : World). x.version) led ∙ version-after e w in let before = h.version in omega (arith, v, before, size)) in
    let moved = (next-of e h.state).moved in
    let spans = spans_by p ws h.front w w' h.state s' old.begun.items old.ended.items new.begun.items new.ended.items h.parts version h.there later h.some h.begun h.ended h.later h.spans begun ended
    (peer_after e h.state) next (comes_from_down e w p h.state h.distinct h.there accepted) moved
    in
    let few : h.state.sessions ≤ s'.sessions = (let f = moves-few h.state (peer_after e h.state) moved in let n = ap (λ (u : PeerState). u.sessions) next in omega (arith, f, n)) in
    record {
      spans = spans.spans;
      front = ws;
      parts = refl;
      version = version;
      state = s';
      there = later;
      some = spans.some;
      begun = spans.begun_is;
      ended = spans.ended_is;
      later = λ n more. none_more p n ws w' (out_of p n w' s' later more) (h.later n (omega (arith, few, more)));
      distinct = ap are_distinct (ap (λ (x : World). map peer_name x.peers) led ∙ names-after e w) ∙ h.distinct;
    }

pub comes :
    (e : Happening) (p : ℕ) (ws : List World) (w w' : World) (s' : PeerState) (keys : List Key) (old new : Progress)
    → verdict w e ≡ None → w' ≡ after w e → StandsAt p ws w old
    → ((s : PeerState) → slice_get w.peers p ≡ Some s → slice_get w'.peers p ≡ Some s' → keys ≡ keys_at e s.peer w ++ keys_at e s'.peer w')
    → slice_get w'.peers p ≡ Some s' → IsNotedFor p w' keys old.log.changes new.log.changes
    → new.begun.items ≡ (if nat_lt (length old.begun.items) s'.sessions then old.begun.items ++ (w'.version - 1) ∷ [] else old.begun.items)
    → new.ended.items ≡ (if not s'.up && nat_lt (length old.ended.items) (length new.begun.items) then old.ended.items ++ w'.version ∷ [] else old.ended.items)
    → StandsAt p (ws ++ w' ∷ []) w' new
comes e p ws w w' s' keys old new accepted led h keys_are later noted begun ended =
    let next = at_peer e p w w' h.by.state s' led h.by.there later in
    record {
      log = log_more e p ws h.by.front w w' h.by.state s' keys old.log.changes new.log.changes h.by.parts h.by.version led h.by.there later next (keys_are h.by.state h.by.there later) h.log noted;
      by = marked-comes e p ws w w' s' old new accepted led h.by later begun ended;
    }

-- an event leaves as many peers
pub as-many : (e : Happening) (w w' : World) → w' ≡ after w e → length w'.peers ≡ length w.peers
as-many e w w' led =
    ap (λ (x : World). length x.peers) led ∙ sym (length-map (after w e).peers peer_name) ∙ ap (λ (names : List (List ℕ)). length names) (names-after e w) ∙ length-map w.peers peer_name

pub some_there : (peers : List PeerState) (p : ℕ) → p < length peers → (s : PeerState) × (slice_get peers p ≡ Some s)
some_there [] p inside = absurd (omega arith)
some_there (s ∷ peers) zero inside = (s, refl)
some_there (s ∷ peers) (suc p) inside = some_there peers p (omega arith)

-- the keys that a world was asked for
pub asked_for : (f : PeerState → List Key) (o : Option PeerState) (s : PeerState) (keys : List Key) → option_map f o ≡ Some keys → o ≡ Some s → keys ≡ f s
asked_for f None s keys e is = absurd cc
asked_for f (Some t) s keys e is = let one : t ≡ s = cc in let got : f t ≡ keys = cc in sym got ∙ ap f one

-- noted, and then marked
pub comes-by :
    (e : Happening) (p : ℕ) (ws : List World) (w w' : World) (s' : PeerState) (keys : List Key) (old mid new : Progress)
    → verdict w e ≡ None → w' ≡ after w e → StandsAt p ws w old
    → ((s : PeerState) → slice_get w.peers p ≡ Some s → slice_get w'.peers p ≡ Some s' → keys ≡ keys_at e s.peer w ++ keys_at e s'.peer w')
    → slice_get w'.peers p ≡ Some s' → IsNotedFor p w' keys old.log.changes mid.log.changes → mid.begun ≡ old.begun → mid.ended ≡ old.ended → IsMarked s' w'.version mid new
    → StandsAt p (ws ++ w' ∷ []) w' new
comes-by e p ws w w' s' keys old mid new accepted led h keys_are later noted begun ended marked =
    comes e p ws w w' s' keys old new accepted led h keys_are later (subst (λ (l : Log). IsNotedFor p w' keys old.log.changes l.changes) (sym marked.log) noted)
    (marked.begun ∙ ap (λ (v : Vec ℕ). if nat_lt (length v.items) s'.sessions then v.items ++ (w'.version - 1) ∷ [] else v.items) begun)
    (marked.ended ∙ ap (λ (v : Vec ℕ). if not s'.up && nat_lt (length v.items) (length new.begun.items) then v.items ++ w'.version ∷ [] else v.items) ended)
