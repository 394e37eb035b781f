-- The marks that a run tells: for each line that asks for some, how much each peer was told by then.
use Rattle.std.specs.Prelude.{◌≡◌, ℕ, ◌+◌, ◌⊎◌, Bool, true, false, ◌&&◌, List, [], ◌∷◌, Option, Some, None, Ok, Err}
use Rattle.ug_types.specs.declared.mark.Mark.{Mark}
use Rattle.ug_events.specs.Events.{Happening, Saying, SaysNothing, SaysSync, Says}
use Rattle.ug_events.specs.Reads.{Reads}
use Rattle.ug_world.specs.declared.peer_state.PeerState.{PeerState}
use Rattle.ug_world.specs.World.{World}
use Rattle.ug_world.specs.Verdicts.{verdict}
use Rattle.ug_world.specs.Touches.{is_about}
use Rattle.ug_world.specs.Worlds.{outcome, world_after}
use Rattle.ug_speaker.specs.Speech.{is_request}

-- the peers of which an event asks a mark, where it is accepted: the one that asks for all routes again
abbrev pub asks_by : Option ℕ → Happening → PeerState → Bool
asks_by None e s = is_request e && is_about e s
asks_by (Some number) e s = false

-- The peers of which a line asks a mark: `sync` of all, and an accepted request of the one that asks.
abbrev pub asks_mark : World → Reads Saying → PeerState → Bool
asks_mark w (Ok SaysNothing) s = false
asks_mark w (Ok SaysSync) s = true
asks_mark w (Ok (Says e)) s = asks_by (verdict w e) e s
asks_mark w (Err refusal) s = false

-- The mark is that of the peer's present session, in this world.
pub record IsMarkOf (w : World) (p : ℕ) (s : PeerState) (m : Mark) : Type 0 where
  pub version : m.version ≡ w.version
  pub peer : m.peer ≡ p
  pub session : m.session ≡ s.sessions

-- The first of these marks is the peer's, and of the others this holds.
abbrev pub FirstIs : (Mark → Type 0) → (List Mark → Type 0) → List Mark → Type 0
FirstIs is others [] = ⊥
FirstIs is others (m ∷ ms) = is m × others ms

-- A peer of which a mark is asked has its mark, where it is up and its session isn't lost; any other has none.
abbrev pub HasMarkOr : Bool → Type 0 → (Mark → Type 0) → (List Mark → Type 0) → List Mark → Type 0
HasMarkOr true excused is others ms = FirstIs is others ms ⊎ (excused × others ms)
HasMarkOr false excused is others ms = others ms

abbrev pub IsEmptyOf : {T : Type 0} → List T → Type 0
IsEmptyOf xs = xs ≡ []

-- The marks of these peers, of which the first stands at place `p`, in configured order.
abbrev pub AreMarksFrom : (asked : PeerState → Bool) (is_lost : ℕ → ℕ → Bool) (w : World) → ℕ → List PeerState → List Mark → Type 0
AreMarksFrom asked is_lost w p [] ms = IsEmptyOf ms
AreMarksFrom asked is_lost w p (s ∷ peers) ms =
    HasMarkOr (asked s && s.up) (is_lost p s.sessions ≡ true) (IsMarkOf w p s) (AreMarksFrom asked is_lost w (p + 1) peers) ms

-- The marks of a line, with the world before it. They are of the world after it.
abbrev pub AreMarksOf : (ℕ → ℕ → Bool) → World → Reads Saying → List Mark → Type 0
AreMarksOf is_lost w line ms =
    AreMarksFrom (asks_mark w line) is_lost (world_after w (outcome w line)) 0 (world_after w (outcome w line)).peers ms

-- The marks of each line, in order, the first of which comes to this world.
abbrev pub AreMarks : (ℕ → ℕ → Bool) → World → List (Reads Saying) → List (List Mark) → Type 0
AreMarks is_lost w [] [] = Unit {0}
AreMarks is_lost w [] (ms ∷ marks) = ⊥
AreMarks is_lost w (line ∷ lines) [] = ⊥
AreMarks is_lost w (line ∷ lines) (ms ∷ marks) = AreMarksOf is_lost w line ms × AreMarks is_lost (world_after w (outcome w line)) lines marks
