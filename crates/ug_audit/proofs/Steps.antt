-- An audit goes from one file to the next.
use Rattle.std.proofs.Common.{◌≡◌, ℕ, ◌<◌, ◌⊎◌, inl, inr, List, [], ◌∷◌, ◌++◌, length, map, Option, Ok, refl, sym, ap, subst, ◌∙◌, append_assoc}
use Rattle.std.proofs.lemmas.List.{append-nil, map-append}
use Rattle.ug_edge.specs.Told.{AppendsAll, FileTold}
use Rattle.ug_world.specs.World.{World}
use Rattle.ug_hearing.specs.declared.breach.Breach.{Breach}
use Rattle.ug_hearing.specs.Breaches.{kind_number}
use Rattle.ug_audit.specs.Verdicts as verdicts
use Rattle.ug_commands.specs.Words.{AuditCommand}
use Rattle.ug_audit.specs.Files.{IsPast}
use Rattle.ug_audit.specs.Sessions.{SessionOf, sessions_of, file_of}
use Rattle.ug_audit.specs.Auditing.{last_of, StandsFor, HasEvents, IsHeard, IsCertified, IsBroken, AreRight, files_before, files_to, CameTo, IsRight}
use Rattle.ug_audit.specs.Auditing as audits
use Rattle.ug_audit.specs.declared.stop.Stop.{Stop}
use Rattle.ug_audit.specs.declared.stop.Stop.TheVariants as stops
use Rattle.ug_audit.specs.declared.run.Run.{Run}
use Rattle.ug_audit.specs.Stopping.{IsFileStop, IsToldStop, IsRefutedBy, IsStopped, last_in, IsRun, IsOf, IsAt}
use Rattle.ug_audit.proofs.FilesTold.{more_names, same_names}

-- ---- before the sessions

pub events_stop : (command : AuditCommand) (files : List ℕ → FileTold) (names mid names' : Option (List (List ℕ))) (w : World) (stop : Stop) → StandsFor command files (Ok w) → AppendsAll names mid (command.config ∷ [])
    → IsFileStop (files command.events) IsPast (AppendsAll mid names' (command.events ∷ [])) (names' ≡ mid) stop → IsStopped command files (AppendsAll names names') stop
events_stop command files names mid names' w stops.Read first picked h = audits.IsUnread.Events w first (more_names names mid names' (command.config ∷ []) (command.events ∷ []) picked h)
events_stop command files names mid names' w stops.NoMemory first picked (inl h) = audits.IsStarved.Events w first (more_names names mid names' (command.config ∷ []) (command.events ∷ []) picked h)
events_stop command files names mid names' w stops.NoMemory first picked (inr h) = audits.IsStarved.Config (same_names names mid names' (command.config ∷ []) picked h)
events_stop command files names mid names' w stops.TooLong first picked h =
    audits.IsTooLong.Events w h.1 first h.2 h.3 (more_names names mid names' (command.config ∷ []) (command.events ∷ []) picked h.0)
events_stop command files names mid names' w (stops.Config number field) first picked h = absurd h
events_stop command files names mid names' w (stops.Unclear line) first picked h = absurd h
events_stop command files names mid names' w (stops.Refuted peer session breach text) first picked h = absurd h

pub told_stop : (command : AuditCommand) (files : List ℕ → FileTold) (names mid names' : Option (List (List ℕ))) (w last : World) (events : List ℕ) (stop : Stop) → last ≡ last_of w events → HasEvents command files w events
    → AppendsAll names mid (command.config ∷ command.events ∷ []) → IsToldStop (files command.report) last (AppendsAll mid names' (command.report ∷ [])) (names' ≡ mid) stop → IsStopped command files (AppendsAll names names') stop
told_stop command files names mid names' w last events stop is before picked h = by stop (subst (λ (l : World). IsToldStop (files command.report) l (AppendsAll mid names' (command.report ∷ [])) (names' ≡ mid) stop) is h)
  where
    all : AppendsAll mid names' (command.report ∷ []) → AppendsAll names names' (files_before command)
    all more = more_names names mid names' (command.config ∷ command.events ∷ []) (command.report ∷ []) picked more

    by : (stop : Stop) → IsToldStop (files command.report) (last_of w events) (AppendsAll mid names' (command.report ∷ [])) (names' ≡ mid) stop → IsStopped command files (AppendsAll names names') stop
    by stops.Read h = audits.IsUnread.Report w events h.1 h.2 before h.3 h.4 (all h.0)
    by stops.NoMemory (inl h) = audits.IsStarved.Report w events before (all h)
    by stops.NoMemory (inr h) = audits.IsStarved.Events w before.first (same_names names mid names' (command.config ∷ command.events ∷ []) picked h)
    by stops.TooLong h = audits.IsTooLong.Report w events h.1 before h.2 h.3 h.4 (all h.0)
    by (stops.Config number field) h = absurd h
    by (stops.Unclear line) h = record { w = w; events = events; report = h.1; before = before; file = h.2; first = h.3; picked = all h.0 }
    by (stops.Refuted peer session breach text) h = absurd h

-- ---- at the first session

pub at_first : (command : AuditCommand) (files : List ℕ → FileTold) (run : Run) (names names' : Option (List (List ℕ))) (report : List ℕ) → IsRun run → IsOf command files report run
    → AppendsAll names names' (files_before command) → IsAt command files run names names' (sessions_of (last_in run)) []
at_first command files run names names' report is of picked = record {
  report = report;
  is_of = of;
  front = [];
  heard = record { before = of.before; parts = refl; right = refl };
  picked = picked;
}

-- ---- behind the last

pub at_last : (command : AuditCommand) (files : List ℕ → FileTold) (run : Run) (names names' : Option (List (List ℕ))) (text : List ℕ) → IsAt command files run names names' [] text
    → IsRight command files (AppendsAll names names') (λ (certificate : List ℕ). text ≡ certificate)
at_last command files run names names' text at =
    let all : at.front ≡ sessions_of (last_of run.first run.events.items) = sym (at.heard.parts ∙ append-nil at.front) in
    record {
      w = run.first;
      events = run.events.items;
      report = at.report;
      text = text;
      before = at.heard.before;
      right = subst (λ (xs : List SessionOf). AreRight command files run.first run.events.items at.report xs text) all at.heard.right;
      picked = subst (λ (xs : List SessionOf). AppendsAll names names' (files_to command xs)) all at.picked;
      so = refl;
    }

-- ---- at a session

module _ (command : AuditCommand) (files : List ℕ → FileTold) (w : World) (events report : List ℕ) where
  right_more : (front : List SessionOf) (x : SessionOf) (text more : List ℕ) → AreRight command files w events report front text → IsHeard command files x (IsCertified w events report x more)
      → AreRight command files w events report (front ++ x ∷ []) (text ++ more)
  right_more [] x text more h one = (more, [], ap (λ (t : List ℕ). t ++ more) h ∙ sym (append-nil more), one, refl)
  right_more (y ∷ front) x text more h one = (h.0, h.1 ++ more, ap (λ (t : List ℕ). t ++ more) h.2 ∙ append_assoc h.0 h.1 more, h.3, right_more front x h.1 more h.4 one)

files_more : (command : AuditCommand) (front : List SessionOf) (x : SessionOf) → files_to command front ++ file_of command.dir x ∷ [] ≡ files_to command (front ++ x ∷ [])
files_more command front x =
    append_assoc (files_before command) (map (file_of command.dir) front) (file_of command.dir x ∷ [])
    ∙ ap (λ (fs : List (List ℕ)). files_before command ++ fs) (sym (map-append (file_of command.dir) front (x ∷ [])))

module _ (command : AuditCommand) (files : List ℕ → FileTold) (run : Run) (names mid names' : Option (List (List ℕ))) (x : SessionOf) (left : List SessionOf) (text : List ℕ) (at : IsAt command files run names mid (x ∷ left) text) where
  all_picked : AppendsAll mid names' (file_of command.dir x ∷ []) → AppendsAll names names' (files_to command (at.front ++ x ∷ []))
  all_picked more = subst (AppendsAll names names') (files_more command at.front x) (more_names names mid names' (files_to command at.front) (file_of command.dir x ∷ []) at.picked more)

  came : AppendsAll mid names' (file_of command.dir x ∷ []) → CameTo command files (AppendsAll names names') run.first run.events.items at.report x
  came more = record { front = at.front; more = left; text = text; heard = at.heard; picked = all_picked more }

  -- it is right
  pub goes_on : (more text' : List ℕ) → AppendsAll mid names' (file_of command.dir x ∷ []) → IsHeard command files x (IsCertified run.first run.events.items at.report x more) → text' ≡ text ++ more
      → IsAt command files run names names' left text'
  goes_on more text' picked one is = record {
    report = at.report;
    is_of = at.is_of;
    front = at.front ++ x ∷ [];
    heard = record {
      before = at.heard.before;
      parts = at.heard.parts ∙ sym (append_assoc at.front (x ∷ []) left);
      right = subst (AreRight command files run.first run.events.items at.report (at.front ++ x ∷ [])) (sym is) (right_more command files run.first run.events.items at.report at.front x text more at.heard.right one);
    };
    picked = all_picked picked;
  }

  -- memory runs out before its file is picked, and behind it
  pub starves_before : names' ≡ mid → IsStopped command files (AppendsAll names names') stops.NoMemory
  starves_before same = audits.IsStarved.Between run.first run.events.items at.report at.front (x ∷ left) text at.heard (same_names names mid names' (files_to command at.front) at.picked same)

  pub starves_behind : AppendsAll mid names' (file_of command.dir x ∷ []) → IsStopped command files (AppendsAll names names') stops.NoMemory
  starves_behind picked = audits.IsStarved.Session run.first run.events.items at.report x (came picked)

  -- its file isn't read whole
  pub session_stop : (stop : Stop) → IsFileStop (files (file_of command.dir x)) (λ (bytes : List ℕ). verdicts.most_bytes < length bytes) (AppendsAll mid names' (file_of command.dir x ∷ [])) (names' ≡ mid) stop
      → IsStopped command files (AppendsAll names names') stop
  session_stop stops.Read h = audits.IsUnread.Session run.first run.events.items at.report x (came h)
  session_stop stops.NoMemory (inl h) = starves_behind h
  session_stop stops.NoMemory (inr h) = starves_before h
  session_stop stops.TooLong h = audits.IsTooLong.Session run.first run.events.items at.report h.1 x (came h.0) h.2 h.3
  session_stop (stops.Config number field) h = absurd h
  session_stop (stops.Unclear line) h = absurd h
  session_stop (stops.Refuted peer session breach text) h = absurd h

  -- it isn't right
  pub refuted_stop : (b : Breach) (stop : Stop) → AppendsAll mid names' (file_of command.dir x ∷ []) → IsHeard command files x (IsBroken run.first run.events.items at.report x b)
      → IsRefutedBy x.place x.number x.state.peer.name b stop → IsStopped command files (AppendsAll names names') stop
  refuted_stop b stops.Read picked broken h = absurd h
  refuted_stop b stops.NoMemory picked broken h = starves_behind picked
  refuted_stop b stops.TooLong picked broken h = absurd h
  refuted_stop b (stops.Config number field) picked broken h = absurd h
  refuted_stop b (stops.Unclear line) picked broken h = absurd h
  refuted_stop b (stops.Refuted peer session breach text') picked broken h = record {
    w = run.first;
    events = run.events.items;
    report = at.report;
    x = x;
    b = b;
    came = came picked;
    broken = broken;
    place_is = h.0;
    number_is = h.1;
    kind_is = ap (λ (y : Breach). kind_number y.kind) h.2;
    message_is = ap (λ (y : Breach). y.message) h.2;
    key_is = ap (λ (y : Breach). y.key) h.2;
    so = h.3;
  }

-- before any file of these sessions is picked
pub starves_between : (command : AuditCommand) (files : List ℕ → FileTold) (run : Run) (names names' : Option (List (List ℕ))) (left : List SessionOf) (text : List ℕ) → IsAt command files run names names' left text
    → IsStopped command files (AppendsAll names names') stops.NoMemory
starves_between command files run names names' left text at = audits.IsStarved.Between run.first run.events.items at.report at.front left text at.heard at.picked

-- before the report is picked
pub starves_after_events : (command : AuditCommand) (files : List ℕ → FileTold) (names mid names' : Option (List (List ℕ))) (w : World) → StandsFor command files (Ok w) → AppendsAll names mid (command.config ∷ []) → AppendsAll mid names' (command.events ∷ [])
    → IsStopped command files (AppendsAll names names') stops.NoMemory
starves_after_events command files names mid names' w first before picked = audits.IsStarved.Events w first (more_names names mid names' (command.config ∷ []) (command.events ∷ []) before picked)
