-- What the certificate of a session adds to a text.
use Rattle.std.specs.Prelude.{◌≡◌, ℕ, Bool, true, false, List, [], ◌∷◌, ◌++◌}
use Rattle.std.specs.List.{flat_map}
use Rattle.ug_hearing.specs.Certificates.{KeyClimb}
use Rattle.ug_hearing.specs.declared.judge.Judge.{Judge}
use Rattle.ug_hearing.specs.declared.climbs.Climbs.{Climbs}
use Rattle.ug_hearing.specs.Climbed.{HandedOut, AreOfJudged}
use Rattle.ug_audit.specs.Texts.{climb_text, session_text}

-- A line for each climb of the session behind whose messages the judge stands.
pub record AddsClimbs (j : Judge) (old new : List ℕ) : Type 0 where
  pub climbs : List KeyClimb
  pub all : AreOfJudged j climbs
  pub added : new ≡ old ++ flat_map climb_text climbs

-- The same behind the line that names the session.
pub record AddsSession (peer : List ℕ) (number : ℕ) (j : Judge) (old new : List ℕ) : Type 0 where
  pub climbs : List KeyClimb
  pub all : AreOfJudged j climbs
  pub added : new ≡ old ++ session_text peer number j.messages climbs

-- A line for each climb that was handed out so far.
pub record HasAdded (j : Judge) (c : Climbs) (old new : List ℕ) : Type 0 where
  pub done : List KeyClimb
  pub handed : HandedOut j c done
  pub added : new ≡ old ++ flat_map climb_text done

-- A line for the climb that was handed out behind these, or that there is none.
abbrev pub IsNext : Judge → Climbs → List KeyClimb → List ℕ → List ℕ → Bool → Type 0
IsNext j c done old new false = (new ≡ old) × AreOfJudged j done
IsNext j c done old new true = (k : KeyClimb) × HandedOut j c (done ++ k ∷ []) × (new ≡ old ++ climb_text k)
