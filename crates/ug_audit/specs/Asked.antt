-- What is asked of the sessions of a peer.
use Rattle.std.specs.Prelude.{◌≡◌, ℕ, Bool, suc, ◌+◌, ◌-◌, ◌≤◌, ◌==◌, ◌&&◌, List, [], ◌∷◌, ◌++◌, length, map, slice_get, Some}
use Rattle.std.specs.List.Sorted.{IsPermutation, IsNonDecreasingBy}
use Rattle.ug_types.specs.declared.mark.Mark.{Mark}
use Rattle.ug_hearing.specs.Logs.{IsLog}
use Rattle.ug_world.specs.declared.peer_state.PeerState.{PeerState}
use Rattle.ug_world.specs.World.{World}
use Rattle.ug_world.specs.Private.{private_table}
use Rattle.ug_hearing.specs.declared.session.Session.{Session}
use Rattle.ug_hearing.specs.Breaches.{IsOneOf}
use Rattle.ug_audit_rules.specs.declared.entry.Entry.{Entry}
use Rattle.ug_audit_rules.specs.Audited.{is_lost_in, marks_in, marks_to}
use Rattle.ug_audit_rules.specs.Timelines.{IsSpan, end_of}
use Rattle.ug_audit.specs.declared.asked.Asked.{Asked}

-- What the peer should have over these worlds is known, and when its sessions were.
pub record IsAsked (p : ℕ) (ws : List World) (a : Asked) : Type 0 where
  pub log : IsLog a.session.course.changes (map (private_table p) ws)
  pub spans : (i from : ℕ) → slice_get a.begun.items i ≡ Some from → IsSpan p (suc i) ws from (end_of a.ended.items i (length ws))

-- The session is the one of that number, by what the lines tell.
pub record IsAimed (p n : ℕ) (last : World) (s : PeerState) (told : List Entry) (a : Asked) (session : Session) : Type 0 where
  pub changes : session.course.changes ≡ a.session.course.changes
  pub from : slice_get a.begun.items (n - 1) ≡ Some session.course.from
  pub to : session.course.to ≡ end_of a.ended.items (n - 1) (last.version + 1)
  pub syncs : IsPermutation (marks_to p n (marks_in told)) session.syncs.items
  pub rise : IsNonDecreasingBy (λ (m : Mark). m.handed) session.syncs.items
  pub lost : session.lost ≡ is_lost_in told p n
  pub is_open : session.is_open ≡ (s.up && (s.sessions == n))
  pub last_is : session.last ≡ last.version

-- So it is, by the last version and whether it is open there.
pub record IsAimedBy (p n last : ℕ) (is_open : Bool) (told : List Entry) (a : Asked) (session : Session) : Type 0 where
  pub changes : session.course.changes ≡ a.session.course.changes
  pub from : slice_get a.begun.items (n - 1) ≡ Some session.course.from
  pub to : session.course.to ≡ end_of a.ended.items (n - 1) (last + 1)
  pub syncs : IsPermutation (marks_to p n (marks_in told)) session.syncs.items
  pub rise : IsNonDecreasingBy (λ (m : Mark). m.handed) session.syncs.items
  pub lost : session.lost ≡ is_lost_in told p n
  pub open_is : session.is_open ≡ is_open
  pub last_is : session.last ≡ last

-- No mark is of a version behind the last.
abbrev pub AreWithin : ℕ → List Mark → Type 0
AreWithin last marks = (m : Mark) → IsOneOf m marks → m.version ≤ last

-- The last of these worlds is this, and its version is how many came before it.
pub record EndsWith (ws : List World) (last : World) : Type 0 where
  pub front : List World
  pub parts : ws ≡ front ++ last ∷ []
  pub version : last.version ≡ length front
