-- What the calls of a lane tell.
use Rattle.std.specs.Prelude.{◌≡◌, ℕ, ◌<◌, ◌≤◌, Bool, true, false, List, [], ◌∷◌, ◌++◌, take, Option, Some, None}
use Rattle.ug_board.specs.declared.steps.LaneSaid.{LaneSaid}
use Rattle.ug_board.specs.declared.steps.LaneSaid.TheVariants.{Begun, Hand, Idle, Stop, Noted}
use Rattle.std.specs.Prelude.{◌||◌}
use Rattle.ug_sender.specs.declared.pumped.Pumped.{Pumped}
use Rattle.ug_sender.specs.declared.pumped.Pumped.TheVariants.{Begun as DidBegin, Sent as DidSend, Idle as WasIdle, Lost as WasLost, Stopped as WasStopped}
use Rattle.ug_sender.specs.Courses.{is_unnoted, fate_of}
use Rattle.ug_board.specs.Deeds.{Deed, Begins, Hands, Loses, begins}

-- What the answer to what is next adds to the deeds of a pass. What is handed out stands at the front of the buffer.
abbrev pub TellsNext : LaneSaid → List ℕ → List (Deed (List ℕ)) → List (Deed (List ℕ)) → Type 0
TellsNext (Begun session) buf old new = (new ≡ old ++ Begins session ∷ []) × (begins old < session)
TellsNext (Hand session made len) buf old new = (new ≡ old ++ Hands session (take len buf) ∷ []) × (len ≤ 65535)
TellsNext Idle buf old new = new ≡ old
TellsNext Stop buf old new = new ≡ old
TellsNext Noted buf old new = ⊥

-- What the loss of a session adds to them, if it was noted.
abbrev pub TellsLoss : Bool → ℕ → List (Deed (List ℕ)) → List (Deed (List ℕ)) → Type 0
TellsLoss true session old new = new ≡ old ++ Loses session ∷ []
TellsLoss false session old new = new ≡ old

-- the session of a deed
abbrev pub session_of : {X : Type 0} → Deed X → ℕ
session_of (Begins session) = session
session_of (Hands session item) = session
session_of (Loses session) = session

-- What a lane shows of one step: the deeds of its pass, the session that is open, and whether a loss was not taken.
pub record Shown : Type 0 where
  pub deeds : List (Deed (List ℕ))
  pub latest : Option ℕ
  pub unnoted : Bool

-- what each answer of a lane's step tells
abbrev pub TellsPump : Pumped → Shown → Shown → Type 0
TellsPump DidBegin old new = (session : ℕ) × (new.deeds ≡ old.deeds ++ Begins session ∷ []) × (new.latest ≡ Some session) × (new.unnoted ≡ old.unnoted)
TellsPump DidSend old new = (session : ℕ) × (bytes : List ℕ) × (new.deeds ≡ old.deeds ++ Hands session bytes ∷ []) × (new.latest ≡ old.latest) × (new.unnoted ≡ old.unnoted)
TellsPump WasIdle old new = new ≡ old
TellsPump WasStopped old new = new ≡ old
TellsPump WasLost old new =
    (first : Deed (List ℕ)) × (noted : Bool) × TellsLoss noted (session_of first) (old.deeds ++ first ∷ []) new.deeds
    × (new.latest ≡ None) × (new.unnoted ≡ (old.unnoted || is_unnoted (fate_of noted)))

-- the wire has the same sessions, with the same bytes, and as many
abbrev pub IsSameWire : Option (List (List ℕ)) → ℕ → Option (List (List ℕ)) → ℕ → Type 0
IsSameWire sessions begun sessions' begun' = (sessions' ≡ sessions) × (begun' ≡ begun)
