-- The sessions of a run at their places.
use Rattle.std.proofs.Common.{◌≡◌, ℕ, zero, suc, ◌+◌, ◌-◌, ◌<◌, ◌≤◌, inl, inr, List, [], ◌∷◌, ◌++◌, length, drop, slice_get, Option, Some, Ok, refl, sym, ap, subst, ◌∙◌, arith}
use Rattle.std.specs.Prelude.{◌⊎◌, ◌==◌, ◌&&◌, Bool}
use Rattle.std.specs.Option.{option_map}
use Rattle.std.proofs.lemmas.List.{drop_more}
use Rattle.std.proofs.lemmas.Option.{slice_get_within, get_or_from_slice_get}
use Rattle.ug_edge.specs.Told.{AppendsAll, FileTold, FileText, file_told}
use Rattle.ug_world.specs.declared.peer_state.PeerState.{PeerState}
use Rattle.ug_world.specs.World.{World}
use Rattle.ug_hearing.specs.declared.breach.Breach.{Breach}
use Rattle.ug_audit_rules.specs.declared.entry.Entry.{Entry}
use Rattle.ug_audit_rules.specs.Audited.{opened_with}
use Rattle.ug_hearing.specs.declared.session.Session.{Session}
use Rattle.ug_hearing.specs.declared.judge.Judge.{Judge}
use Rattle.ug_audit.specs.declared.verdict.Verdict.{Verdict}
use Rattle.ug_audit.specs.declared.verdict.Verdict.TheVariants as verdicts
use Rattle.ug_audit.specs.Verdicts.{most_bytes, IsVerdictOn}
use Rattle.ug_audit.specs.Texts.{session_text}
use Rattle.ug_audit.specs.Certified.{AddsSession}
use Rattle.ug_audit.specs.declared.asked.Asked.{Asked}
use Rattle.ug_audit.specs.Asked.{IsAsked, IsAimed, IsAimedBy}
use Rattle.ug_commands.specs.Words.{AuditCommand}
use Rattle.ug_audit.specs.Files.{IsFile}
use Rattle.ug_audit.specs.Sessions.{SessionOf, sessions_from, sessions_of, sessions_of_peers, file_name, file_of}
use Rattle.ug_config.specs.Reads.{Reads}
use Rattle.ug_audit.specs.Auditing.{worlds_of, last_of, told_by, StandsFor, HasEvents, HasReport, IsRight}
use Rattle.ug_audit.specs.Auditing as audits
use Rattle.ug_audit.specs.declared.last.LastPeer.{LastPeer}
use Rattle.ug_audit.specs.declared.last.Last.{Last}
use Rattle.ug_audit.specs.Last.{last_peer, IsLast}
use Rattle.ug_audit_rules.specs.Timelines.{end_of}
use Rattle.ug_audit_rules.proofs.GroupTables.{which-world, same-one}
use Rattle.ug_audit.specs.declared.stop.Stop.{Stop}
use Rattle.ug_audit.specs.declared.stop.Stop.TheVariants as stops
use Rattle.ug_audit.specs.declared.run.Run.{Run}
use Rattle.ug_audit_rules.specs.Told.{TellsAsMuch}
use Rattle.ug_audit.specs.Stopping.{IsFileStop, IsRefutedBy, IsStopped, last_in, IsRun, IsOf, IsAt}
use Rattle.ug_audit.proofs.FilesTold.{more_names}
use Rattle.ug_audit.proofs.Steps.{at_first, at_last, goes_on, starves_before, starves_behind, session_stop, refuted_stop}
use Rattle.ug_audit.proofs.Opened.{last_version, last_peers}
use Rattle.ug_audit.proofs.Judged.{heard_right, heard_broken}

-- ---- the world

pub version_few : (run : Run) → IsRun run → run.last.version < 4294967295
version_few run r =
    let few = last_version run.first run.events.items r.first.version in
    let lines = r.few in
    let same = r.last.version in
    omega (arith, few, lines, same)

pub peer_first : (run : Run) (id : ℕ) → id < length (last_in run).peers → id < length run.first.peers
peer_first run id inside = let all = last_peers run.first run.events.items in omega (arith, inside, all)

pub first_peer : (run : Run) (id : ℕ) → id < length run.first.peers → id < length (last_in run).peers
first_peer run id inside = let all = last_peers run.first run.events.items in omega (arith, inside, all)

pub past_last : (run : Run) (id : ℕ) → length run.first.peers ≤ id → length (last_in run).peers ≤ id
past_last run id far = let all = last_peers run.first run.events.items in omega (arith, far, all)

pub peer_last : (run : Run) (id : ℕ) → IsRun run → id < length (last_in run).peers → id < length run.last.peers.items
peer_last run id r inside = let many = r.last.many in omega (arith, inside, many)

-- what is kept of a peer
pub kept_of : (run : Run) (id : ℕ) (s : PeerState) (kept : LastPeer) → IsRun run → slice_get (last_in run).peers id ≡ Some s → slice_get run.last.peers.items id ≡ Some kept → kept ≡ last_peer s
kept_of run id s kept r there got = r.last.each id s kept there got

pub sessions_of_kept : (s : PeerState) (kept : LastPeer) → kept ≡ last_peer s → s.sessions ≡ kept.sessions
sessions_of_kept s kept is = sym (ap (λ (x : LastPeer). x.sessions) is)

-- one peer more
pub kept_too : (peers : List PeerState) (keeps : List LastPeer) (new : LastPeer) (id : ℕ) → length keeps ≡ id → option_map last_peer (slice_get peers id) ≡ Some new
    → ((p : ℕ) (s : PeerState) (kept : LastPeer) → slice_get peers p ≡ Some s → slice_get keeps p ≡ Some kept → kept ≡ last_peer s)
    → (p : ℕ) (s : PeerState) (kept : LastPeer) → slice_get peers p ≡ Some s → slice_get (keeps ++ new ∷ []) p ≡ Some kept → kept ≡ last_peer s
kept_too peers keeps new id many is each p s kept there got = by (which-world keeps new p kept got)
  where
    by : ((p < length keeps) × (slice_get keeps p ≡ Some kept)) ⊎ ((p ≡ length keeps) × (kept ≡ new)) → kept ≡ last_peer s
    by (inl early) = each p s kept there early.1
    by (inr last) =
        let here : slice_get peers id ≡ Some s = ap (λ (k : ℕ). slice_get peers k) (sym (last.0 ∙ many)) ∙ there in
        last.1 ∙ same-one new (last_peer s) (sym is ∙ ap (option_map last_peer) here)

-- a session that is aimed at by what is kept
pub aims_by : (p n : ℕ) (w : World) (last : Last) (s : PeerState) (kept : LastPeer) (up : Bool) (told : List Entry) (a : Asked) (session : Session) → IsLast w last → kept ≡ last_peer s → up ≡ (kept.up && (kept.sessions == n))
    → IsAimedBy p n last.version up told a session → IsAimed p n w s told a session
aims_by p n w last s kept up told a session is same is_open h = record {
  changes = h.changes;
  from = h.from;
  to = h.to ∙ ap (λ (v : ℕ). end_of a.ended.items (n - 1) (v + 1)) is.version;
  syncs = h.syncs;
  rise = h.rise;
  lost = h.lost;
  is_open = h.open_is ∙ is_open ∙ ap (λ (x : LastPeer). x.up && (x.sessions == n)) same;
  last_is = h.last_is ∙ is.version;
}

-- ---- one session

-- what is found of a session of a peer, by the name of its file
abbrev pub IsFound : (List ℕ → FileTold) → List ℕ → LastPeer → Session → Verdict → Type 0
IsFound files name peer session verdict = (bytes : List ℕ) × IsFile (files name) bytes × (length bytes ≤ most_bytes) × IsVerdictOn peer.capabilities session bytes verdict

module _ (command : AuditCommand) (files : List ℕ → FileTold) (run : Run) (names mid names' : Option (List (List ℕ))) (p n : ℕ) (s : PeerState) (left : List SessionOf) (text dir : List ℕ) (peer : LastPeer)
    (same : command.dir ≡ dir) (peer_is : peer ≡ last_peer s)
    (at : IsAt command files run names mid (record { place = p; state = s; number = n } ∷ left) text) where
  abbrev x : SessionOf
  x = record { place = p; state = s; number = n }

  name_is : file_name dir peer.name n ≡ file_of command.dir x
  name_is = ap (λ (d : List ℕ). file_name d peer.name n) (sym same) ∙ ap (λ (q : LastPeer). file_name command.dir q.name n) peer_is

  picked_is : AppendsAll mid names' (file_name dir peer.name n ∷ []) → AppendsAll mid names' (file_of command.dir x ∷ [])
  picked_is h = subst (λ (f : List ℕ). AppendsAll mid names' (f ∷ [])) name_is h

  pub file_stops : (stop : Stop) → IsFileStop (files (file_name dir peer.name n)) (λ (bytes : List ℕ). most_bytes < length bytes) (AppendsAll mid names' (file_name dir peer.name n ∷ [])) (names' ≡ mid) stop
      → IsStopped command files (AppendsAll names names') stop
  file_stops stop h =
      session_stop command files run names mid names' x left text at stop
      (subst (λ (f : List ℕ). IsFileStop (files f) (λ (bytes : List ℕ). most_bytes < length bytes) (AppendsAll mid names' (f ∷ [])) (names' ≡ mid) stop) name_is h)

  pub starves_unpicked : names' ≡ mid → IsStopped command files (AppendsAll names names') stops.NoMemory
  starves_unpicked h = starves_before command files run names mid names' x left text at h

  pub starves_picked : AppendsAll mid names' (file_name dir peer.name n ∷ []) → IsStopped command files (AppendsAll names names') stops.NoMemory
  starves_picked h = starves_behind command files run names mid names' x left text at (picked_is h)

  module _ (r : IsRun run) (some : 0 < n) (a : Asked) (session : Session) (entries : List Entry) (told : entries ≡ run.entries.items) (asked : IsAsked p (worlds_of run.first run.events.items) a) (aimed : IsAimed p n (last_in run) s entries a session)
      (verdict : Verdict) (found : IsFound files (file_name dir peer.name n) peer session verdict) (picked : AppendsAll mid names' (file_name dir peer.name n ∷ [])) (name : List ℕ) (named : name ≡ peer.name) where
    aimed_at : IsAimed p n (last_in run) s run.entries.items a session
    aimed_at = subst (λ (es : List Entry). IsAimed p n (last_in run) s es a session) told aimed

    file : IsFile (files (file_of command.dir x)) found.0
    file = subst (λ (f : List ℕ). IsFile (files f) found.0) name_is found.1

    on : IsVerdictOn (opened_with s.peer) session found.0 verdict
    on = subst (λ (q : LastPeer). IsVerdictOn q.capabilities session found.0 verdict) peer_is found.3

    name_of : name ≡ s.peer.name
    name_of = named ∙ ap (λ (q : LastPeer). q.name) peer_is

    pub broken_stops : (b : Breach) (stop : Stop) → verdict ≡ verdicts.Broken b → IsRefutedBy p n name b stop → IsStopped command files (AppendsAll names names') stop
    broken_stops b stop is h =
        refuted_stop command files run names mid names' x left text at b stop (picked_is picked)
        (heard_broken run at.report r at.is_of.tells p n s a session some asked aimed_at command files found.0 file found.2 b (subst (λ (v : Verdict). IsVerdictOn (opened_with s.peer) session found.0 v) is on))
        (subst (λ (nm : List ℕ). IsRefutedBy p n nm b stop) name_of h)

    pub right_goes_on : (judge : Judge) (text' : List ℕ) → verdict ≡ verdicts.Right judge → AddsSession name n judge text text' → IsAt command files run names names' left text'
    right_goes_on judge text' is h =
        let more = session_text s.peer.name n judge.messages h.climbs in
        goes_on command files run names mid names' x left text at more text' (picked_is picked)
        (heard_right run at.report r at.is_of.tells p n s a session some asked aimed_at command files found.0 file found.2 judge h.climbs more h.all refl (subst (λ (v : Verdict). IsVerdictOn (opened_with s.peer) session found.0 v) is on))
        (h.added ∙ ap (λ (nm : List ℕ). text ++ session_text nm n judge.messages h.climbs) name_of)

-- ---- all sessions

-- the next of them
pub next_number : (p : ℕ) (s : PeerState) (before count : ℕ) → s.sessions ≡ count → before < count
    → sessions_from p s (before + 1) (s.sessions - before) ≡ record { place = p; state = s; number = before + 1 } ∷ sessions_from p s (before + 1 + 1) (s.sessions - (before + 1))
next_number p s before count is less =
    let one : s.sessions - before ≡ suc (s.sessions - (before + 1)) = omega (arith, is, less) in
    ap (λ (k : ℕ). sessions_from p s (before + 1) k) one

pub no_number : (p : ℕ) (s : PeerState) (before count : ℕ) → s.sessions ≡ count → count ≤ before → sessions_from p s (before + 1) (s.sessions - before) ≡ []
no_number p s before count is all =
    let none : s.sessions - before ≡ 0 = omega (arith, is, all) in
    ap (λ (k : ℕ). sessions_from p s (before + 1) k) none

-- a peer and those behind it
peer_there : (peers : List PeerState) (id : ℕ) → id < length peers → (s : PeerState) × (slice_get peers id ≡ Some s)
peer_there [] id inside = absurd (omega arith)
peer_there (s ∷ peers) zero inside = (s, refl)
peer_there (s ∷ peers) (suc id) inside = peer_there peers id (omega arith)

pub next_peer : (peers : List PeerState) (id : ℕ) → id < length peers → (s : PeerState) × (slice_get peers id ≡ Some s) × (drop id peers ≡ s ∷ drop (id + 1) peers)
next_peer peers id inside =
    let h = peer_there peers id inside in
    (h.0, h.1, drop_more peers id h.0 (slice_get_within peers id h.0 h.1) ∙ ap (λ (z : PeerState). z ∷ drop (id + 1) peers) (get_or_from_slice_get peers id h.0 h.0 h.1))

pub no_peer : (peers : List PeerState) (id : ℕ) → length peers ≤ id → drop id peers ≡ []
no_peer [] zero far = refl
no_peer [] (suc id) far = refl
no_peer (s ∷ peers) zero far = absurd (omega (arith, far))
no_peer (s ∷ peers) (suc id) far = no_peer peers id (omega (arith, far))

-- ---- where the files are told alike

module _ (command : AuditCommand) (told told' : Option (List FileText)) (same : told' ≡ told) where
  pub at_now : (run : Run) (names mid : Option (List (List ℕ))) (left : List SessionOf) (text : List ℕ) → IsAt command (file_told told) run names mid left text → IsAt command (file_told told') run names mid left text
  at_now run names mid left text h = subst (λ (t : Option (List FileText)). IsAt command (file_told t) run names mid left text) (sym same) h

  pub at_then : (run : Run) (names mid : Option (List (List ℕ))) (left : List SessionOf) (text : List ℕ) → IsAt command (file_told told') run names mid left text → IsAt command (file_told told) run names mid left text
  at_then run names mid left text h = subst (λ (t : Option (List FileText)). IsAt command (file_told t) run names mid left text) same h

  pub stopped_then : (picks : List (List ℕ) → Type 0) (stop : Stop) → IsStopped command (file_told told') picks stop → IsStopped command (file_told told) picks stop
  stopped_then picks stop h = subst (λ (t : Option (List FileText)). IsStopped command (file_told t) picks stop) same h

  pub stands_now : (x : Reads World) → StandsFor command (file_told told) x → StandsFor command (file_told told') x
  stands_now x h = subst (λ (t : Option (List FileText)). StandsFor command (file_told t) x) (sym same) h

  pub events_then : (w : World) (events : List ℕ) → HasEvents command (file_told told') w events → HasEvents command (file_told told) w events
  events_then w events h = subst (λ (t : Option (List FileText)). HasEvents command (file_told t) w events) same h

  pub events_now : (w : World) (events : List ℕ) → HasEvents command (file_told told) w events → HasEvents command (file_told told') w events
  events_now w events h = subst (λ (t : Option (List FileText)). HasEvents command (file_told t) w events) (sym same) h

  pub report_then : (w : World) (events report : List ℕ) → HasReport command (file_told told') w events report → HasReport command (file_told told) w events report
  report_then w events report h = subst (λ (t : Option (List FileText)). HasReport command (file_told t) w events report) same h

  -- the next session of a peer
  pub at_number : (run : Run) (names mid : Option (List (List ℕ))) (p : ℕ) (s : PeerState) (before count : ℕ) (left : List SessionOf) (text : List ℕ) → s.sessions ≡ count → before < count
      → IsAt command (file_told told) run names mid (sessions_from p s (before + 1) (s.sessions - before) ++ left) text
      → IsAt command (file_told told') run names mid (record { place = p; state = s; number = before + 1 } ∷ (sessions_from p s (before + 1 + 1) (s.sessions - (before + 1)) ++ left)) text
  at_number run names mid p s before count left text is less h =
      at_now run names mid (record { place = p; state = s; number = before + 1 } ∷ (sessions_from p s (before + 1 + 1) (s.sessions - (before + 1)) ++ left)) text
      (subst (λ (xs : List SessionOf). IsAt command (file_told told) run names mid (xs ++ left) text) (next_number p s before count is less) h)

  -- the next peer
  pub at_peer : (run : Run) (names mid : Option (List (List ℕ))) (id : ℕ) (s : PeerState) (text : List ℕ) → drop id (last_in run).peers ≡ s ∷ drop (id + 1) (last_in run).peers
      → IsAt command (file_told told) run names mid (sessions_of_peers id (drop id (last_in run).peers)) text
      → IsAt command (file_told told') run names mid (sessions_from id s 1 s.sessions ++ sessions_of_peers (id + 1) (drop (id + 1) (last_in run).peers)) text
  at_peer run names mid id s text is h =
      at_now run names mid (sessions_from id s 1 s.sessions ++ sessions_of_peers (id + 1) (drop (id + 1) (last_in run).peers)) text
      (subst (λ (xs : List PeerState). IsAt command (file_told told) run names mid (sessions_of_peers id xs) text) is h)

-- before the first session of a peer
pub at_begin : (command : AuditCommand) (files : List ℕ → FileTold) (run : Run) (names mid : Option (List (List ℕ))) (p : ℕ) (s : PeerState) (left : List SessionOf) (text : List ℕ)
    → IsAt command files run names mid (sessions_from p s 1 s.sessions ++ left) text → IsAt command files run names mid (sessions_from p s (0 + 1) (s.sessions - 0) ++ left) text
at_begin command files run names mid p s left text h =
    let all : s.sessions ≡ s.sessions - 0 = omega arith in
    subst (λ (k : ℕ). IsAt command files run names mid (sessions_from p s 1 k ++ left) text) all h

-- behind the last
pub at_end : (command : AuditCommand) (files : List ℕ → FileTold) (run : Run) (names mid : Option (List (List ℕ))) (p : ℕ) (s : PeerState) (before count : ℕ) (left : List SessionOf) (text : List ℕ) → s.sessions ≡ count → count ≤ before
    → IsAt command files run names mid (sessions_from p s (before + 1) (s.sessions - before) ++ left) text → IsAt command files run names mid left text
at_end command files run names mid p s before count left text is all h = subst (λ (xs : List SessionOf). IsAt command files run names mid (xs ++ left) text) (no_number p s before count is all) h

-- ---- from the report to the sessions

module _ (command : AuditCommand) (told told1 told2 : Option (List FileText)) (same1 : told1 ≡ told) (same2 : told2 ≡ told1) (names names1 names2 : Option (List (List ℕ))) (first last : World) (events : List ℕ)
    (stands : StandsFor command (file_told told) (Ok first)) (named1 : AppendsAll names names1 (command.config ∷ [])) (named2 : AppendsAll names1 names2 (command.events ∷ []))
    (has : (w : World) → StandsFor command (file_told told1) (Ok w) → HasEvents command (file_told told1) w events) (last_is : last ≡ last_of first events) where
  pub both_named : AppendsAll names names2 (command.config ∷ command.events ∷ [])
  both_named = more_names names names1 names2 (command.config ∷ []) (command.events ∷ []) named1 named2

  pub has_now : HasEvents command (file_told told) first events
  has_now = events_then command told told1 same1 first events (has first (stands_now command told told1 same1 (Ok first) stands))

  pub has_later : HasEvents command (file_told told2) first events
  has_later = events_now command told told2 (same2 ∙ same1) first events has_now

  -- memory ran out behind the report
  pub starves_behind_report : (names3 : Option (List (List ℕ))) → AppendsAll names2 names3 (command.report ∷ []) → IsStopped command (file_told told) (AppendsAll names names3) stops.NoMemory
  starves_behind_report names3 named3 = audits.IsStarved.Report first events has_now (more_names names names2 names3 (command.config ∷ command.events ∷ []) (command.report ∷ []) both_named named3)

  module _ (run : Run) (r : IsRun run) (is_first : run.first ≡ first) (are_events : run.events.items ≡ events) (told3 : Option (List FileText)) (same3 : told3 ≡ told2) (names3 : Option (List (List ℕ))) (named3 : AppendsAll names2 names3 (command.report ∷ []))
      (found : (report : List ℕ) × HasReport command (file_told told2) first events report × TellsAsMuch run.entries.items (told_by first events report)) where
    is_of : IsOf command (file_told told) found.0 run
    is_of = record {
      before = subst (λ (w : World). HasReport command (file_told told) w run.events.items found.0) (sym is_first)
          (subst (λ (es : List ℕ). HasReport command (file_told told) first es found.0) (sym are_events) (report_then command told told2 (same2 ∙ same1) first events found.0 found.1));
      tells = subst (λ (w : World). TellsAsMuch run.entries.items (told_by w run.events.items found.0)) (sym is_first)
          (subst (λ (es : List ℕ). TellsAsMuch run.entries.items (told_by first es found.0)) (sym are_events) found.2);
    }

    pub begins : IsAt command (file_told told3) run names names3 (sessions_of (last_in run)) []
    begins = at_now command told told3 (same3 ∙ same2 ∙ same1) run names names3 (sessions_of (last_in run)) []
        (at_first command (file_told told) run names names3 found.0 r is_of (more_names names names2 names3 (command.config ∷ command.events ∷ []) (command.report ∷ []) both_named named3))

    pub ends_right : (names4 : Option (List (List ℕ))) (text : List ℕ) → IsAt command (file_told told3) run names names4 [] text → IsRight command (file_told told) (AppendsAll names names4) (λ (certificate : List ℕ). text ≡ certificate)
    ends_right names4 text h = at_last command (file_told told) run names names4 text (at_then command told told3 (same3 ∙ same2 ∙ same1) run names names4 [] text h)

    pub ends_stopped : (names4 : Option (List (List ℕ))) (stop : Stop) → IsStopped command (file_told told3) (AppendsAll names names4) stop → IsStopped command (file_told told) (AppendsAll names names4) stop
    ends_stopped names4 stop h = stopped_then command told told3 (same3 ∙ same2 ∙ same1) (AppendsAll names names4) stop h
