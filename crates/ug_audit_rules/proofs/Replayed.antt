-- A world after one line more, and after all.
use Rattle.std.proofs.Common.{◌≡◌, ℕ, suc, ◌+◌, ◌-◌, ◌<◌, ◌≤◌, Bool, List, [], ◌∷◌, ◌++◌, length, map, slice_get, Some, None, refl, sym, ◌∙◌, ap, subst, arith, append_assoc}
use Rattle.std.specs.Prelude.{if◌then◌else◌}
use Rattle.std.specs.Global.{Vec}
use Rattle.std.proofs.lemmas.List.{append-nil}
use Rattle.ug_types.specs.declared.key.Key.{Key}
use Rattle.ug_message.specs.Climbing.{values_at}
use Rattle.ug_hearing.specs.declared.change.Change.{Change}
use Rattle.ug_hearing.specs.Logs.{IsLog}
use Rattle.ug_events.specs.Events.{Happening, Saying}
use Rattle.ug_events.specs.Reads.{Reads}
use Rattle.ug_world.specs.declared.peer_state.PeerState.{PeerState}
use Rattle.ug_world.specs.World.{World}
use Rattle.ug_world.specs.After.{after}
use Rattle.ug_world.specs.Private.{private_table}
use Rattle.ug_world.specs.Worlds.{Outcome, Passes, Accepts, Refuses, judged, outcome, world_after, where_accepted, accepted_worlds, worlds, last_world}
use Rattle.ug_world.proofs.Keeping.{down}
use Rattle.ug_audit_rules.specs.declared.progress.Progress.{Progress}
use Rattle.ug_audit_rules.specs.declared.timeline.Timeline.{Timeline}
use Rattle.ug_audit_rules.specs.Lines.{IsAccepted, IsPassed}
use Rattle.ug_audit_rules.specs.Timelines.{IsFirst, IsSpan, end_of, IsTimeline, HasSessions}
use Rattle.ug_audit_rules.specs.Standing.{StandsBy, StandsAt}
use Rattle.ug_audit_rules.proofs.Spanning.{is_down}
use Rattle.ug_audit_rules.proofs.Coming.{version-after, some_there}

-- ---- a line

-- what an accepted line comes to
pub accepts : (w : World) (line : Reads Saying) (e : Happening) → IsAccepted w line e → outcome w line ≡ Accepts (after w e)
accepts w line e is = ap (outcome w) is.said ∙ ap (judged w e) is.accepted

pub led_to : (w w' : World) (line : Reads Saying) (e : Happening) → IsAccepted w line e → w' ≡ after w e → w' ≡ world_after w (outcome w line)
led_to w w' line e is led = led ∙ sym (ap (world_after w) (accepts w line e is))

pub goes_to : (p : ℕ) (ws : List World) (w w' : World) (t : Progress) (line : Reads Saying) (e : Happening) → IsAccepted w line e → w' ≡ after w e → StandsAt p (ws ++ w' ∷ []) w' t → StandsAt p (ws ++ where_accepted (outcome w line) []) w' t
goes_to p ws w w' t line e is led h = subst (λ (xs : List World). StandsAt p (ws ++ xs) w' t) (ap (λ (x : World). x ∷ []) led ∙ sym (ap (λ (o : Outcome). where_accepted o []) (accepts w line e is))) h

pub stays_there : (p : ℕ) (ws : List World) (w : World) (t : Progress) (o : Outcome) → IsPassed w o → StandsAt p ws w t → StandsAt p (ws ++ where_accepted o []) w t
stays_there p ws w t o is h = subst (λ (xs : List World). StandsAt p xs w t) (sym (ap (λ (xs : List World). ws ++ xs) (is.none []) ∙ append-nil ws)) h

pub version-rises : (w w' : World) (e : Happening) → w' ≡ after w e → w'.version ≤ w.version + 1
version-rises w w' e led = let v = ap (λ (x : World). x.version) led ∙ version-after e w in omega (arith, v)

-- ---- all lines

-- These lines were passed of all, and these are left.
pub record IsReplayed (p : ℕ) (first w : World) (t : Progress) (left all : List (Reads Saying)) : Type 0 where
  pub ws : List World
  pub at : StandsAt p ws w t
  pub worlds_are : ws ++ accepted_worlds w left ≡ worlds first all
  pub last_is : last_world w left ≡ last_world first all

pub before : (o : Outcome) (xs : List World) → where_accepted o xs ≡ where_accepted o [] ++ xs
before Passes xs = refl
before (Accepts next) xs = refl
before (Refuses refusal) xs = refl

pub replays_on : (p : ℕ) (first w w' : World) (t t' : Progress) (line : Reads Saying) (left more all : List (Reads Saying)) → left ≡ line ∷ more → w' ≡ world_after w (outcome w line)
    → ((ws : List World) → StandsAt p ws w t → StandsAt p (ws ++ where_accepted (outcome w line) []) w' t') → IsReplayed p first w t left all → IsReplayed p first w' t' more all
replays_on p first w w' t t' line left more all is led goes r = record {
  ws = r.ws ++ where_accepted (outcome w line) [];
  at = goes r.ws r.at;
  worlds_are = append_assoc r.ws (where_accepted (outcome w line) []) (accepted_worlds w' more)
      ∙ (ap (λ (xs : List World). r.ws ++ xs)
      (ap (λ (x : World). where_accepted (outcome w line) [] ++ accepted_worlds x more) led ∙ sym (before (outcome w line) (accepted_worlds (world_after w (outcome w line)) more)) ∙ sym (ap (accepted_worlds w) is))
      ∙ r.worlds_are);
  last_is = ap (λ (x : World). last_world x more) led ∙ (sym (ap (last_world w) is) ∙ r.last_is);
}

nothing_told : (p : ℕ) (w : World) → ((key : Key) → private_table p w key ≡ None) → (entries : List (Key × List Change)) → entries ≡ [] → IsLog entries (map (private_table p) (w ∷ []))
nothing_told p w none entries is =
    subst (λ (es : List (Key × List Change)). IsLog es (map (private_table p) (w ∷ []))) (sym is)
    (λ key. (omega arith, λ n low less. (let zero_is : n ≡ 0 = omega (arith, less) in ap (λ (k : ℕ). slice_get (values_at key (map (private_table p) (w ∷ []))) k) zero_is ∙ ap (λ v. Some v) (none key))))

pub sessions_begin : (p : ℕ) (first : World) (t : Progress) (s : PeerState) → slice_get first.peers p ≡ Some s → IsFirst first → t.begun.items ≡ [] → t.ended.items ≡ [] → StandsBy p (first ∷ []) first t
sessions_begin p first t s there is begun ended =
    let up = is.down p s there in
    let none_had = is.none p s there in
    record {
      spans = λ i from begins. absurd (let none : slice_get [] i ≡ Some from = ap (λ (xs : List ℕ). slice_get xs i) (sym begun) ∙ begins in cc);
      front = [];
      parts = refl;
      version = is.version;
      state = s;
      there = there;
      some = λ yes. absurd (let clash = sym yes ∙ up in cc);
      begun = ap (λ (xs : List ℕ). length xs) begun ∙ sym none_had;
      ended = ap (λ (xs : List ℕ). length xs) ended ∙ sym (ap (λ (b : Bool). if b then s.sessions - 1 else s.sessions) up ∙ none_had);
      later = λ n more. ap (λ (b : Bool). if b then first ∷ [] else []) (is_down p n first s there up);
      distinct = is.distinct;
    }

pub replay_begins : (p : ℕ) (first w : World) (t : Progress) (all : List (Reads Saying)) → p < length first.peers → IsFirst first → w ≡ first → t.log.changes ≡ [] → t.begun.items ≡ [] → t.ended.items ≡ [] → IsReplayed p first w t all all
replay_begins p first w t all inside is same log begun ended =
    let peer = some_there first.peers p inside in
    let up = is.down p peer.0 peer.1 in
    let start : StandsAt p (first ∷ []) first t = record {
      log = nothing_told p first (λ key. down first p peer.0 key peer.1 up) t.log.changes log;
      by = sessions_begin p first t peer.0 peer.1 is begun ended;
    }
    in
    subst (λ (x : World). IsReplayed p first x t all all) (sym same) (record { ws = first ∷ []; at = start; worlds_are = refl; last_is = refl })

pub replay_ends : (p : ℕ) (first w : World) (t : Progress) (end : Timeline) (left all : List (Reads Saying)) → left ≡ [] → end.changes ≡ t.log.changes → end.begun ≡ t.begun → end.ended ≡ t.ended → IsReplayed p first w t left all
    → IsTimeline p (worlds first all) end × HasSessions p (last_world first all) end
replay_ends p first w t end left all none changes begun ended r =
    let whole : r.ws ≡ worlds first all = sym (append-nil r.ws) ∙ (sym (ap (λ (ls : List (Reads Saying)). r.ws ++ accepted_worlds w ls) none) ∙ r.worlds_are) in
    let last : w ≡ last_world first all = sym (ap (last_world w) none) ∙ r.last_is in
    let spans = subst (λ (es : Vec ℕ). (i from : ℕ) → slice_get end.begun.items i ≡ Some from → IsSpan p (suc i) r.ws from (end_of es.items i (length r.ws))) (sym ended)
    (subst (λ (bs : Vec ℕ). (i from : ℕ) → slice_get bs.items i ≡ Some from → IsSpan p (suc i) r.ws from (end_of t.ended.items i (length r.ws))) (sym begun) r.at.by.spans) in (
      subst (λ (xs : List World). IsTimeline p xs end) whole (record { log = subst (λ (es : List (Key × List Change)). IsLog es (map (private_table p) r.ws)) (sym changes) r.at.log; spans = spans }),
      subst (λ (x : World). HasSessions p x end) last
          (λ s there. ap (λ (bs : Vec ℕ). length bs.items) begun ∙ (r.at.by.begun ∙ ap (λ (u : PeerState). u.sessions) (same_state r.at.by.state s (sym r.at.by.there ∙ there)))),
    )
  where
    same_state : (a b : PeerState) → Some a ≡ Some b → a ≡ b
    same_state a b same = cc
