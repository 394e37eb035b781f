-- What is kept can be audited.
use Rattle.std.proofs.Common.{◌≡◌, ℕ, zero, suc, ◌+◌, ◌≤◌, inl, inr, Bool, true, false, List, [], ◌∷◌, length, slice_get, Some, Ok, refl, sym, ◌∙◌, ap, subst, arith}
use Rattle.std.specs.Prelude.{take, option_and_then}
use Rattle.ug_types.specs.declared.mark.Mark.{Mark}
use Rattle.ug_message.proofs.Sent.{sent_is_received}
use Rattle.ug_events.specs.Events.{Saying, SaysSync}
use Rattle.ug_events.specs.Reads.{Reads}
use Rattle.ug_world.specs.declared.peer_state.PeerState.{PeerState}
use Rattle.ug_world.specs.World.{World}
use Rattle.ug_world.specs.Worlds.{worlds, last_world}
use Rattle.ug_speaker.specs.Right.{IsAmong}
use Rattle.ug_event_loop.specs.Contents.{WireTold, Content, has_rest, EachSession, session_at, content_at, has_number, is_lost_of, is_lost_at}
use Rattle.ug_event_loop.specs.Marks.{asks_mark}
use Rattle.ug_event_loop.specs.Kept.{IsSent, IsSessionRight, IsSessionWhole, AreCounted, IsWireRight, IsWireOf, IsKept}
use Rattle.ug_event_loop.proofs.Lists.{some-same}
use Rattle.ug_hearing.specs.Breaches.{IsOneOf}
use Rattle.ug_audit_rules.specs.declared.entry.Entry.{Entry}
use Rattle.ug_audit_rules.specs.Audited.{opened_with, marks_in, is_lost_in, IsSynced, IsSound, IsAudited}
use Rattle.ug_run.specs.Files.{bytes_of, held_by, all_syncs, TellAll}
use Rattle.ug_run.specs.Reports.{AreTold}
use Rattle.ug_run.proofs.Versions.{world-there}
use Rattle.ug_run.proofs.Marked.{mark-of, marks-at, sync-line}
use Rattle.ug_event_loop.proofs.EachWires.{one-by-one}
use Rattle.ug_run.proofs.AuditedWires.{peer-there, IsWireAt, wire-at, IsSessionAt, session-at}

one_among : (m : Mark) (ms : List Mark) → IsOneOf m ms → IsAmong m ms
one_among m [] h = h
one_among m (x ∷ ms) h = elim h [ inl here ↦ inl here | inr later ↦ inr (one_among m ms later) ]

module _ (w : World) (lines : List (Reads Saying)) (marks : List (List Mark)) (wires : List WireTold) (contents : List (List Content)) (lost : List (List ℕ))
    (told : List Entry) (first : w.version ≡ 0) (tell : TellAll wires) (is : IsKept w lines marks true wires contents lost) (are : AreTold told (all_syncs lines marks) lost) where
  abbrev last : World
  last = last_world w lines

  -- the rest of a session that wasn't lost is empty
  no_rest : (c : Content) (lost_is : Bool) → (has_rest c ≡ true → lost_is ≡ true) → lost_is ≡ false → c.rest ≡ []
  no_rest c lost_is cut whole = by c.rest cut
    where
      by : (rest : List ℕ) → (has_rest (record { messages = c.messages; rest = rest }) ≡ true → lost_is ≡ true) → rest ≡ []
      by [] h = refl
      by (b ∷ bytes) h = let never = h refl in absurd cc

  module _ (p k : ℕ) (s : PeerState) (there : slice_get last.peers p ≡ Some s) (few : suc k ≤ s.sessions) where
    at : IsWireAt (IsWireOf (worlds w lines) last true) 0 wires contents lost p
    at = wire-at (IsWireOf (worlds w lines) last true) 0 wires contents lost p (one-by-one (IsWireOf (worlds w lines) last true) wires contents lost is.each) (let less = peer-there w lines p s there in let all = is.all in omega arith)

    right : IsWireRight (worlds w lines) last true p s at.wire at.content at.numbers
    right =
        let same : 0 + p ≡ p = omega arith in
        let of : IsWireOf (worlds w lines) last true p at.wire at.content at.numbers = subst (λ q. IsWireOf (worlds w lines) last true q at.wire at.content at.numbers) same at.is in
        let state : of.0 ≡ s = some-same of.0 s (sym of.1 ∙ there) in
        subst (λ (t : PeerState). IsWireRight (worlds w lines) last true p t at.wire at.content at.numbers) state of.2

    abbrev sessions : List (List ℕ)
    sessions = (tell p at.wire at.there).0

    tells : at.wire.sessions ≡ Some sessions
    tells = (tell p at.wire at.there).1

    each : (P : ℕ → List ℕ → Content → Type 0) → EachSession P at.wire.sessions at.content → IsSessionAt P 1 sessions at.content k
    each P h =
        let count : length sessions ≡ s.sessions = subst (λ o. AreCounted true s.sessions o) tells right.counted in
        session-at P 1 sessions at.content k (subst (λ o. EachSession P o at.content) tells h) (omega arith)

    found : IsSessionAt (IsSessionRight (worlds w lines) p s at.numbers) 1 sessions at.content k
    found = each (IsSessionRight (worlds w lines) p s at.numbers) right.each

    abbrev c : Content
    c = found.content

    here : 1 + k ≡ suc k
    here = omega arith

    session : IsSessionRight (worlds w lines) p s at.numbers (suc k) found.bytes c
    session = subst (λ n. IsSessionRight (worlds w lines) p s at.numbers n found.bytes c) here found.is

    lost_at : is_lost_at lost p (suc k) ≡ has_number at.numbers (suc k)
    lost_at = ap (λ o. is_lost_of o (suc k)) at.loses

    lost_as : is_lost_in told p (suc k) ≡ has_number at.numbers (suc k)
    lost_as = are.losses_are p (suc k) ∙ lost_at

    held : held_by wires p (suc k) ≡ Some found.bytes
    held = ap (λ o. option_and_then (λ (wire : WireTold). bytes_of (suc k) wire.sessions) o) at.there ∙ (ap (λ o. bytes_of (suc k) o) tells ∙ found.there)

    content : content_at contents p (suc k) ≡ Some c
    content = ap (λ o. option_and_then (session_at (suc k)) o) at.holds ∙ found.holds

    at_sync : (m : Mark) → IsAmong m (all_syncs lines marks) → m.peer ≡ p → m.session ≡ suc k → IsSynced (worlds w lines) c.messages (is_lost_in told p (suc k)) m
    at_sync m among peer number =
        let line = sync-line lines marks m among in
        let world = world-there w lines line.place in
        let had = marks-at (is_lost_at lost) w lines marks line.place (Ok SaysSync) line.has.all is.marked line.line line.has.of_line in
        let mark = mark-of (asks_mark (last_world w (take line.place lines)) (Ok SaysSync)) (is_lost_at lost) (last_world w (take line.place lines)) m 0 (last_world w (take line.place lines)).peers line.has.all had line.has.among in
        let version : m.version ≡ world.place = mark.mark.version ∙ (world.version ∙ ap (λ v. v + world.place) first ∙ omega arith) in
        let which : content_at contents m.peer m.session ≡ Some c = ap (λ q. content_at contents q m.session) peer ∙ (ap (λ n. content_at contents p n) number ∙ content) in
        let lost_is : is_lost_at lost m.peer m.session ≡ is_lost_in told p (suc k) =
        ap (λ q. is_lost_at lost q m.session) peer ∙ (ap (λ n. is_lost_at lost p n) number ∙ sym (are.losses_are p (suc k)))
        in
        elim (is.sync line.place m c line.line line.has which) [
          | inl whole ↦
              inl (record { within = whole.0; world = last_world w (take line.place lines); of_version = ap (λ v. slice_get (worlds w lines) v) version ∙ world.there; whole = whole.1.whole })
          | inr fewer ↦ inr (fewer.0, sym lost_is ∙ fewer.1)
        ]

    synced : (m : Mark) → IsOneOf m (marks_in told) → m.peer ≡ p → m.session ≡ suc k → IsSynced (worlds w lines) c.messages (is_lost_in told p (suc k)) m
    synced m among = at_sync m (one_among m (all_syncs lines marks) (subst (λ (ms : List Mark). IsOneOf m ms) are.syncs_are among))

    ends : s.up ≡ true → s.sessions ≡ suc k → is_lost_in told p (suc k) ≡ false → IsSessionWhole last p c
    ends up latest whole =
        let spared : has_number at.numbers s.sessions ≡ false = ap (λ n. has_number at.numbers n) latest ∙ (sym lost_as ∙ whole) in
        let end = each (λ n bytes d. n ≡ s.sessions → IsSessionWhole last p d) (right.end refl up spared) in
        let same : end.content ≡ c = some-same end.content c (sym end.holds ∙ found.holds) in
        subst (λ (d : Content). IsSessionWhole last p d) same (end.is (here ∙ sym latest))

    sound : IsSound (worlds w lines) last p (suc k) s (marks_in told) (is_lost_in told p (suc k)) found.bytes
    sound = record {
      messages = c.messages;
      rest = c.rest;
      read = sent_is_received (opened_with s.peer) (IsSent s.peer.enhanced_refresh) found.bytes c.messages c.rest session.messages;
      cut = no_rest c (is_lost_in told p (suc k)) (λ rest. lost_as ∙ session.cut rest);
      never_back = session.right.never_back;
      synced = synced;
      end = λ up latest whole. (ends up latest whole).told.whole;
    }

  pub kept-audited : IsAudited w lines told (held_by wires)
  kept-audited p zero s there some few = absurd (omega arith)
  kept-audited p (suc k) s there some few = ((found p k s there few).bytes, held p k s there few, sound p k s there few)
