-- What is found of a session is what an auditor asks of it.
use Rattle.std.proofs.Common.{◌≡◌, ℕ, zero, suc, ◌<◌, ◌≤◌, inl, inr, Bool, true, false, nat_le, List, [], ◌∷◌, ◌++◌, length, map, slice_get, codes, Option, Some, None, refl, sym, ap, subst, ◌∙◌, arith}
use Rattle.std.specs.Prelude.{◌&&◌, if◌then◌else◌}
use Rattle.ug_types.specs.Bytes.{same_bytes}
use Rattle.ug_types.specs.declared.mark.Mark.{Mark}
use Rattle.ug_text.specs.Cutting.{pieces, ◌>>=◌}
use Rattle.ug_pieces.specs.Lines.{lines_of}
use Rattle.ug_world.specs.declared.peer_state.PeerState.{PeerState}
use Rattle.ug_world.specs.World.{World}
use Rattle.ug_world.specs.Private.{private_table}
use Rattle.ug_world.specs.Worlds.{past}
use Rattle.ug_hearing.specs.declared.breach.Breach.{Breach}
use Rattle.ug_hearing.specs.Breaches.{IsOneOf, IsReadAs}
use Rattle.ug_audit_rules.specs.declared.entry.Entry.{Entry}
use Rattle.ug_audit_rules.specs.declared.entry.Entry.TheVariants.{Passes, Sync, Lost, Unclear}
use Rattle.ug_audit_rules.specs.Audited.{opened_with, mark_in, marks_in, is_lost_in, IsHeardRight, IsFirstBreach}
use Rattle.ug_audit_rules.specs.Reports.{entry_by, entry_of, entries_of, mark_or, mark_said, loss_or, loss_said, peer_names_in, place_from, written_number, where_true, had_session}
use Rattle.ug_audit_rules.specs.Told.{TellsAsMuch}
use Rattle.ug_hearing.specs.Certificates.{KeyClimb}
use Rattle.ug_hearing.specs.declared.session.Session.{Session}
use Rattle.ug_hearing.specs.declared.judge.Judge.{Judge}
use Rattle.ug_hearing.specs.Judged.{IsSession}
use Rattle.ug_hearing.specs.Climbed.{AreOfJudged}
use Rattle.ug_audit.specs.declared.verdict.Verdict.TheVariants as verdicts
use Rattle.ug_audit.specs.Verdicts.{most_bytes, IsVerdictOn}
use Rattle.ug_audit.specs.Texts.{session_text}
use Rattle.ug_audit.specs.declared.asked.Asked.{Asked}
use Rattle.ug_audit.specs.Asked.{IsAsked, IsAimed, AreWithin, EndsWith}
use Rattle.ug_audit.proofs.Aims.{is_session, is_right, is_first}
use Rattle.ug_audit.proofs.Worlds.{ends_with}
use Rattle.ug_edge.specs.Told.{FileTold}
use Rattle.ug_audit_rules.specs.Lines.{said_in}
use Rattle.ug_commands.specs.Words.{AuditCommand}
use Rattle.ug_audit.specs.Files.{IsFile}
use Rattle.ug_audit.specs.Sessions.{SessionOf, file_of}
use Rattle.ug_audit.specs.Auditing.{worlds_of, last_of, told_by, IsCertified, IsBroken, IsHeard}
use Rattle.ug_audit.specs.declared.run.Run.{Run}
use Rattle.ug_audit.specs.Stopping.{IsRun}

-- ---- a mark is of no version behind the last

abbrev HasVersion : ℕ → Entry → Type 0
HasVersion last Passes = Unit {0}
HasVersion last (Sync m) = m.version ≤ last
HasVersion last (Lost peer session) = Unit {0}
HasVersion last Unclear = Unit {0}

le_of : (a b : ℕ) → nat_le a b ≡ true → a ≤ b
le_of a b is = grind (arith, is)

of_mark : (last v : ℕ) (b : Bool) (m : Mark) → m.version ≡ v → HasVersion last (mark_or (where_true (nat_le v last && b) m))
of_mark last v b m is = by (nat_le v last) refl b
  where
    by : (t : Bool) → nat_le v last ≡ t → (b : Bool) → HasVersion last (mark_or (where_true (nat_le v last && b) m))
    by true t true = rw t (rw is (le_of v last t))
    by true t false = rw t tt
    by false t b = rw t tt

mark_within : (last : World) (words : List (List ℕ)) → HasVersion last.version (mark_or (mark_said last words))
mark_within last [] = tt
mark_within last (a ∷ []) = tt
mark_within last (a ∷ b ∷ []) = tt
mark_within last (a ∷ b ∷ c ∷ []) = tt
mark_within last (a ∷ b ∷ c ∷ d ∷ []) = by (written_number a) (place_from 0 (peer_names_in last) b) (written_number c) (written_number d)
  where
    by : (v p n m : Option ℕ) → HasVersion last.version (mark_or (v >>= λ v. p >>= λ p. n >>= λ n. m >>= λ m. where_true (nat_le v last.version && had_session last p n) (record { version = v; peer = p; session = n; handed = m })))
    by None p n m = tt
    by (Some v) None n m = tt
    by (Some v) (Some p) None m = tt
    by (Some v) (Some p) (Some n) None = tt
    by (Some v) (Some p) (Some n) (Some m) = of_mark last.version v (had_session last p n) (record { version = v; peer = p; session = n; handed = m }) refl
mark_within last (a ∷ b ∷ c ∷ d ∷ e ∷ words) = tt

loss_within : (last : World) (words : List (List ℕ)) → HasVersion last.version (loss_or (loss_said last words))
loss_within last [] = tt
loss_within last (a ∷ []) = tt
loss_within last (a ∷ b ∷ []) = by (place_from 0 (peer_names_in last) a) (written_number b)
  where
    found : (t : Bool) (p n : ℕ) → HasVersion last.version (loss_or (where_true t (Lost p n)))
    found true p n = tt
    found false p n = tt

    by : (p n : Option ℕ) → HasVersion last.version (loss_or (p >>= λ p. n >>= λ n. where_true (had_session last p n) (Lost p n)))
    by None n = tt
    by (Some p) None = tt
    by (Some p) (Some n) = found (had_session last p n) p n
loss_within last (a ∷ b ∷ c ∷ words) = tt

entry_within : (last : World) (line : List ℕ) → HasVersion last.version (entry_of last line)
unfolding entry_of
entry_within last line = by_words (pieces 32 line)
  where
    by_tests : (words : List (List ℕ)) (s l : Bool) → HasVersion last.version (if s then mark_or (mark_said last words) else if l then loss_or (loss_said last words) else Passes)
    by_tests words true l = mark_within last words
    by_tests words false true = loss_within last words
    by_tests words false false = tt

    by_words : (words : List (List ℕ)) → HasVersion last.version (entry_by last words)
    by_words [] = tt
    by_words (word ∷ words) = by_tests words (same_bytes word (codes "sync")) (same_bytes word (codes "lost"))

one_within : (last : ℕ) (e : Entry) (ms : List Mark) (m : Mark) → HasVersion last e → (IsOneOf m ms → m.version ≤ last) → IsOneOf m (mark_in e ++ ms) → m.version ≤ last
one_within last Passes ms m h later k = later k
one_within last (Sync n) ms m h later (inl is) = subst (λ (x : Mark). x.version ≤ last) (sym is) h
one_within last (Sync n) ms m h later (inr k) = later k
one_within last (Lost peer session) ms m h later k = later k
one_within last Unclear ms m h later k = later k

marks_within : (last : ℕ) (es : List Entry) → ((i : ℕ) (e : Entry) → slice_get es i ≡ Some e → HasVersion last e) → AreWithin last (marks_in es)
marks_within last [] all m h = absurd h
marks_within last (e ∷ es) all m h = one_within last e (marks_in es) m (all 0 e refl) (λ k. marks_within last es (λ i x is. all (suc i) x is) m k) h

entries_within : (last : World) (lines : List (List ℕ)) (i : ℕ) (e : Entry) → slice_get (map (entry_of last) lines) i ≡ Some e → HasVersion last.version e
entries_within last [] i e is = absurd cc
entries_within last (line ∷ lines) zero e is = (let same : entry_of last line ≡ e = cc in subst (HasVersion last.version) same (entry_within last line))
entries_within last (line ∷ lines) (suc i) e is = entries_within last lines i e is

pub are-within : (last : World) (report : List ℕ) → AreWithin last.version (marks_in (entries_of last report))
are-within last report = marks_within last.version (entries_of last report) (entries_within last (lines_of report))

-- ---- a session

module _ (run : Run) (report : List ℕ) (r : IsRun run) (tells : TellsAsMuch run.entries.items (told_by run.first run.events.items report)) (p n : ℕ) (s : PeerState) (a : Asked) (session : Session) (some : 0 < n)
    (asked : IsAsked p (worlds_of run.first run.events.items) a) (aimed : IsAimed p n (last_of run.first run.events.items) s run.entries.items a session) where
  abbrev ws : List World
  ws = worlds_of run.first run.events.items

  abbrev last : World
  last = last_of run.first run.events.items

  abbrev told : List Entry
  told = told_by run.first run.events.items report

  abbrev x : SessionOf
  x = record { place = p; state = s; number = n }

  end : EndsWith ws last
  end = ends_with run.first (said_in run.events.items) r.first.version

  within : AreWithin last.version (marks_in run.entries.items)
  within = subst (AreWithin last.version) (sym tells.marks) (are-within last report)

  is_it : IsSession session (past p n ws) (map (private_table p) ws)
  is_it = is_session p n ws last s run.entries.items a session end aimed some within asked

  pub certified : (bytes : List ℕ) (judge : Judge) (climbs : List KeyClimb) (text : List ℕ) → AreOfJudged judge climbs → text ≡ session_text s.peer.name n judge.messages climbs
      → (v : IsVerdictOn (opened_with s.peer) session bytes (verdicts.Right judge)) → IsReadAs (opened_with s.peer) bytes v.messages v.ending × IsCertified run.first run.events.items report x text v.messages v.ending
  certified bytes judge climbs text all is v =
      let found = v.agrees (past p n ws) (map (private_table p) ws) is_it in
      let right = is_right p n ws last s run.entries.items a session end aimed v.messages v.ending found.0 in (
        v.is,
        record {
          right = subst (λ (ms : List Mark). IsHeardRight ws last p n s ms (is_lost_in told p n) v.messages v.ending) tells.marks
              (subst (λ (b : Bool). IsHeardRight ws last p n s (marks_in run.entries.items) b v.messages v.ending) (tells.losses p n) right);
          climbs = climbs;
          climbing = all session (past p n ws) (map (private_table p) ws) v.messages is_it found.1 found.2;
          text_is = is ∙ ap (λ (k : ℕ). session_text s.peer.name n k climbs) found.1.count;
        },
      )

  pub broken : (bytes : List ℕ) (b : Breach) → (v : IsVerdictOn (opened_with s.peer) session bytes (verdicts.Broken b))
      → IsReadAs (opened_with s.peer) bytes v.messages v.ending × IsBroken run.first run.events.items report x b v.messages v.ending
  broken bytes b v =
      let found = v.agrees (past p n ws) (map (private_table p) ws) is_it in
      let first = is_first p n ws last s run.entries.items a session end aimed v.messages v.ending b found in (
        v.is,
        subst (λ (ms : List Mark). IsFirstBreach ws last p n s ms (is_lost_in told p n) v.messages v.ending b) tells.marks
            (subst (λ (l : Bool). IsFirstBreach ws last p n s (marks_in run.entries.items) l v.messages v.ending b) (tells.losses p n) first),
      )

  module _ (command : AuditCommand) (files : List ℕ → FileTold) (bytes : List ℕ) (file : IsFile (files (file_of command.dir (record { place = p; state = s; number = n }))) bytes) (few : length bytes ≤ most_bytes) where
    pub heard_right : (judge : Judge) (climbs : List KeyClimb) (text : List ℕ) → AreOfJudged judge climbs → text ≡ session_text s.peer.name n judge.messages climbs
        → IsVerdictOn (opened_with s.peer) session bytes (verdicts.Right judge)
        → IsHeard command files (record { place = p; state = s; number = n }) (IsCertified run.first run.events.items report (record { place = p; state = s; number = n }) text)
    heard_right judge climbs text all is v = (let h = certified bytes judge climbs text all is v in record { bytes = bytes; file = file; within = few; messages = v.messages; ending = v.ending; read = h.0; it = h.1 })

    pub heard_broken : (b : Breach) → IsVerdictOn (opened_with s.peer) session bytes (verdicts.Broken b)
        → IsHeard command files (record { place = p; state = s; number = n }) (IsBroken run.first run.events.items report (record { place = p; state = s; number = n }) b)
    heard_broken b v = (let h = broken bytes b v in record { bytes = bytes; file = file; within = few; messages = v.messages; ending = v.ending; read = h.0; it = h.1 })
