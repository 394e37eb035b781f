-- What became of the sessions that a lane began: what its wire holds of each, and which of them are lost.
use Rattle.std.specs.Prelude.{◌≡◌, ℕ, ◌+◌, ◌≤◌, ◌||◌, Bool, true, false, List, [], ◌∷◌, ◌++◌, length, map, Option, Some, None}
use Rattle.std.specs.List.{concat}
use Rattle.ug_board.specs.Deeds.{Deed, losses}
use Rattle.ug_board.specs.Sessions.{Session, sessions_of}

-- How the calls of the wire went in a session: none failed; one failed and the loss is an entry of the history; or one
-- failed and the loss was not taken.
pub data Fate : Type 0 where
  Whole : Fate
  Noted : Fate
  Unnoted : Fate

-- how a session in which a call failed ends, by whether its loss was noted
abbrev pub fate_of : Bool → Fate
fate_of true = Noted
fate_of false = Unnoted

-- a session, as it was handed out, and how its calls went
pub record Course : Type 0 where
  pub session : Session (List ℕ)
  pub fate : Fate

-- These bytes are the front of those.
pub record IsFront (bytes whole : List ℕ) : Type 0 where
  pub rest : List ℕ
  pub parts : whole ≡ bytes ++ rest

-- What a session holds of what was handed out in it: all of it where no call failed, and else a front.
abbrev pub HoldsOf : Fate → List (List ℕ) → List ℕ → Type 0
HoldsOf Whole handed bytes = bytes ≡ concat handed
HoldsOf Noted handed bytes = IsFront bytes (concat handed)
HoldsOf Unnoted handed bytes = IsFront bytes (concat handed)

-- The sessions of a wire are these, one by one.
abbrev pub HoldsAll : List Course → List (List ℕ) → Type 0
HoldsAll [] [] = Unit {0}
HoldsAll [] (bytes ∷ sessions) = ⊥
HoldsAll (course ∷ courses) [] = ⊥
HoldsAll (course ∷ courses) (bytes ∷ sessions) = HoldsOf course.fate course.session.handed bytes × HoldsAll courses sessions

-- the same, where the wire tells its sessions
abbrev pub Holds : List Course → Option (List (List ℕ)) → Type 0
Holds courses None = Unit {0}
Holds courses (Some sessions) = HoldsAll courses sessions

-- how many sessions a call failed in
abbrev pub failures : Fate → ℕ
failures Whole = 0
failures Noted = 1
failures Unnoted = 1

abbrev pub failed : List Course → ℕ
failed [] = 0
failed (course ∷ courses) = failures course.fate + failed courses

-- the numbers of the sessions whose loss is an entry
abbrev pub when_noted : Fate → ℕ → List ℕ
when_noted Whole number = []
when_noted Noted number = number ∷ []
when_noted Unnoted number = []

abbrev pub noted : List Course → List ℕ
noted [] = []
noted (course ∷ courses) = when_noted course.fate course.session.number ++ noted courses

-- The loss of a session was not taken.
abbrev pub is_unnoted : Fate → Bool
is_unnoted Whole = false
is_unnoted Noted = false
is_unnoted Unnoted = true

abbrev pub has_unnoted : List Course → Bool
has_unnoted [] = false
has_unnoted (course ∷ courses) = is_unnoted course.fate || has_unnoted courses

-- the session that is open: the last, where no call failed in it
abbrev pub when_whole : Fate → ℕ → Option ℕ
when_whole Whole number = Some number
when_whole Noted number = None
when_whole Unnoted number = None

abbrev pub open_session : List Course → Option ℕ
open_session [] = None
open_session (course ∷ []) = when_whole course.fate course.session.number
open_session (course ∷ next ∷ courses) = open_session (next ∷ courses)

-- What a wire holds of what its pass was handed: its sessions are those that the pass's entries begin, in order, each
-- with a front of what was handed out in it, and all of it where no call failed; no more sessions failed than the wire
-- has faults, and it has none where no session failed; and exactly the losses of the noted ones are entries of the pass.
pub record KeepsWire (courses : List Course) (deeds : List (Deed (List ℕ))) (told : Option (List (List ℕ))) (session_count fault_count : ℕ) (current : Option ℕ) (some_unnoted : Bool) : Type 0 where
  pub sessions : map (λ c. c.session) courses ≡ sessions_of deeds
  pub noted_losses : noted courses ≡ losses deeds
  pub begun : session_count ≡ length courses
  pub numbered : session_count ≤ 4294967295
  pub bytes : Holds courses told
  pub faults : failed courses ≤ fault_count
  pub harmless : failed courses ≡ 0 → fault_count ≡ 0
  pub latest : current ≡ open_session courses
  pub unnoted : some_unnoted ≡ has_unnoted courses
