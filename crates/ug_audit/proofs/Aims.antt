-- A session that is aimed at is one of the run.
use Rattle.std.proofs.Common.{◌≡◌, ℕ, suc, ◌+◌, ◌-◌, ◌<◌, inl, inr, Bool, List, [], ◌∷◌, length, map, slice_get, Option, None, sym, ap, subst, ◌∙◌, arith, length-append}
use Rattle.std.specs.Prelude.{◌==◌, ◌&&◌, if◌then◌else◌}
use Rattle.std.proofs.lemmas.List.{length-map}
use Rattle.ug_types.specs.declared.key.Key.{Key}
use Rattle.ug_types.specs.declared.mark.Mark.{Mark}
use Rattle.ug_types.specs.Messages.{Message}
use Rattle.ug_message.specs.Tables.{Table}
use Rattle.ug_hearing.specs.declared.change.Change.{Change}
use Rattle.ug_hearing.specs.Courses.{IsCourse}
use Rattle.ug_hearing.specs.Logs.{IsLog}
use Rattle.ug_world.specs.declared.peer_state.PeerState.{PeerState}
use Rattle.ug_world.specs.World.{World}
use Rattle.ug_world.specs.Private.{private_table}
use Rattle.ug_world.specs.Worlds.{past}
use Rattle.ug_hearing.specs.declared.breach.Ending.{Ending}
use Rattle.ug_hearing.specs.declared.breach.Breach.{Breach}
use Rattle.ug_hearing.specs.Breaches as breaches
use Rattle.ug_hearing.specs.Breaches.{IsOneOf, Unread, Stuck, Amiss, Short, Off}
use Rattle.ug_audit_rules.specs.declared.entry.Entry.{Entry}
use Rattle.ug_audit_rules.specs.Audited.{is_lost_in, marks_in, marks_to, open_table, IsHeardRight, IsFirstBreach}
use Rattle.ug_audit_rules.proofs.InAList.{right-by, first-by}
use Rattle.ug_hearing.specs.declared.session.Session.{Session}
use Rattle.ug_hearing.specs.Judged.{IsSession, table_in, last_table}
use Rattle.ug_audit_rules.specs.Timelines.{IsSpan, end_of}
use Rattle.ug_audit_rules.proofs.Following.{course}
use Rattle.ug_audit.specs.declared.asked.Asked.{Asked}
use Rattle.ug_audit.specs.Asked.{IsAsked, IsAimed, AreWithin, EndsWith}
use Rattle.ug_audit.proofs.Marks.{one-sorted, one-unsorted, one_there, one_of_all, rises}
use Rattle.ug_audit.proofs.Worlds.{last_private}

-- ---- the same marks in another order

module _ (past : List Table) (at : ℕ → Option Table) (xs ys : List Mark) (lost : Bool) (last : Option Table) (ms : List Message) (ending : Ending) where
  swap-right : ((m : Mark) → IsOneOf m ys → IsOneOf m xs) → breaches.IsHeardRight past at xs lost last ms ending → breaches.IsHeardRight past at ys lost last ms ending
  swap-right there h = record {
    read = h.read;
    never_back = h.never_back;
    synced = λ m one. elim (h.synced m (there m one)) [
      | inl whole ↦ inl (record { within = whole.within; table = whole.table; of_version = whole.of_version; whole = whole.whole })
      | inr short ↦ inr short
    ];
    end = h.end;
  }

  swap-breach : ((m : Mark) → IsOneOf m xs → IsOneOf m ys) → (b : Breach) → breaches.IsBreach past at xs lost last ms ending b → breaches.IsBreach past at ys lost last ms ending b
  swap-breach there b (Unread u) = Unread u
  swap-breach there b (Stuck key m s) = Stuck key m (record { before = s.before; stuck = s.stuck; there = s.there })
  swap-breach there b (Amiss key m a) =
      Amiss key m (record { mark = a.mark; among = there a.mark a.among; handed = a.handed; within = a.within; table = a.table; of_version = a.of_version; differs = a.differs })
  swap-breach there b (Short s) = Short (record { mark = s.mark; among = there s.mark s.among; short = s.short; whole = s.whole })
  swap-breach there b (Off key o) = Off key (record { table = o.table; is_open = o.is_open; whole = o.whole; differs = o.differs })

swap-first : (past : List Table) (at : ℕ → Option Table) (xs ys : List Mark) (lost : Bool) (last : Option Table) (ms : List Message) (ending : Ending) (b : Breach) → ((m : Mark) → IsOneOf m xs → IsOneOf m ys) → ((m : Mark) → IsOneOf m ys → IsOneOf m xs)
    → breaches.IsFirstBreach past at xs lost last ms ending b → breaches.IsFirstBreach past at ys lost last ms ending b
swap-first past at xs ys lost last ms ending b there back h = record {
  is = swap-breach past at xs ys lost last ms ending there b h.is;
  first = λ other is. h.first other (swap-breach past at ys xs lost last ms ending back other is);
}

-- ---- the session

same_count : (n : ℕ) → 0 < n → suc (n - 1) ≡ n
same_count n some = omega (arith, some)

follows : (es : List (Key × List Change)) (p n : ℕ) (ws : List World) (from to : ℕ) → 0 < n → IsLog es (map (private_table p) ws) → IsSpan p (suc (n - 1)) ws from to → IsCourse es from to (past p n ws) (map (private_table p) ws)
follows es p n ws from to some log span = course es p n ws from to log (subst (λ (k : ℕ). IsSpan p k ws from to) (same_count n some) span)

module _ (p n : ℕ) (ws : List World) (last : World) (s : PeerState) (told : List Entry) (a : Asked) (session : Session) (end : EndsWith ws last) (h : IsAimed p n last s told a session) where
  count : length ws ≡ last.version + 1
  count = (let all = ap (λ (xs : List World). length xs) end.parts in let both = length-append end.front (last ∷ []) in let v = end.version in omega (arith, all, both, v))

  open_is : last_table session (map (private_table p) ws) ≡ open_table last p n s
  open_is =
      ap (λ (b : Bool). if b then slice_get (map (private_table p) ws) session.last else None) h.is_open
      ∙ ap (λ (o : Option Table). if s.up && (s.sessions == n) then o else None) (ap (λ (k : ℕ). slice_get (map (private_table p) ws) k) h.last_is ∙ last_private p ws last end)

  pub is_session : 0 < n → AreWithin last.version (marks_in told) → IsAsked p ws a → IsSession session (past p n ws) (map (private_table p) ws)
  is_session some within asked = record {
    course = subst (λ (es : List (Key × List Change)). IsCourse es session.course.from session.course.to (past p n ws) (map (private_table p) ws)) (sym h.changes)
        (subst (λ (to : ℕ). IsCourse a.session.course.changes session.course.from to (past p n ws) (map (private_table p) ws))
        (ap (λ (k : ℕ). end_of a.ended.items (n - 1) k) count ∙ sym h.to)
        (follows a.session.course.changes p n ws session.course.from (end_of a.ended.items (n - 1) (length ws)) some asked.log (asked.spans (n - 1) session.course.from h.from)));
    rise = rises session.syncs.items h.rise;
    versions = λ i m is.
        let few = within m (one_of_all p n (marks_in told) m (one-unsorted (marks_to p n (marks_in told)) session.syncs.items m h.syncs (one_there session.syncs.items i m is))) in
        let size = length-map ws (private_table p) in
        let c = count in
        omega (arith, few, size, c);
    last = (let size = length-map ws (private_table p) in let c = count in let l = h.last_is in omega (arith, size, c, l));
  }

  pub is_right : (ms : List Message) (ending : Ending) → breaches.IsHeardRight (past p n ws) (table_in (map (private_table p) ws)) session.syncs.items session.lost (last_table session (map (private_table p) ws)) ms ending
      → IsHeardRight ws last p n s (marks_in told) (is_lost_in told p n) ms ending
  is_right ms ending right =
      right-by ws last p n s (marks_in told) (is_lost_in told p n) ms ending
      (swap-right (past p n ws) (table_in (map (private_table p) ws)) session.syncs.items (marks_to p n (marks_in told)) (is_lost_in told p n) (open_table last p n s) ms ending
      (λ m one. one-sorted (marks_to p n (marks_in told)) session.syncs.items m h.syncs one)
      (subst (λ (l : Bool). breaches.IsHeardRight (past p n ws) (table_in (map (private_table p) ws)) session.syncs.items l (open_table last p n s) ms ending) h.lost
      (subst (λ (t : Option Table). breaches.IsHeardRight (past p n ws) (table_in (map (private_table p) ws)) session.syncs.items session.lost t ms ending) open_is right)))

  pub is_first : (ms : List Message) (ending : Ending) (b : Breach) → breaches.IsFirstBreach (past p n ws) (table_in (map (private_table p) ws)) session.syncs.items session.lost (last_table session (map (private_table p) ws)) ms ending b
      → IsFirstBreach ws last p n s (marks_in told) (is_lost_in told p n) ms ending b
  is_first ms ending b first =
      first-by ws last p n s (marks_in told) (is_lost_in told p n) ms ending b
      (swap-first (past p n ws) (table_in (map (private_table p) ws)) session.syncs.items (marks_to p n (marks_in told)) (is_lost_in told p n) (open_table last p n s) ms ending b
      (λ m one. one-unsorted (marks_to p n (marks_in told)) session.syncs.items m h.syncs one)
      (λ m one. one-sorted (marks_to p n (marks_in told)) session.syncs.items m h.syncs one)
      (subst (λ (l : Bool). breaches.IsFirstBreach (past p n ws) (table_in (map (private_table p) ws)) session.syncs.items l (open_table last p n s) ms ending b) h.lost
      (subst (λ (t : Option Table). breaches.IsFirstBreach (past p n ws) (table_in (map (private_table p) ws)) session.syncs.items session.lost t ms ending b) open_is first)))
