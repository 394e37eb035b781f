-- The wires of a run.
use Rattle.std.specs.Prelude.{◌≡◌, ℕ, ◌+◌, List, [], ◌∷◌, length, map, take, Option}
use Rattle.ug_edge.specs.Told.{IsFresh, WireName, WiresMade, AppendsAll}

-- Each wire has no sessions, of which none was begun, and no faults.
abbrev pub AreNewWires : {W : Type 0} → (W → Option (List (List ℕ))) → (W → ℕ) → (W → ℕ) → List W → Type 0
AreNewWires sessions begun faults [] = Unit {0}
AreNewWires sessions begun faults (wire ∷ wires) = IsFresh (sessions wire) × (begun wire ≡ 0) × (faults wire ≡ 0) × AreNewWires sessions begun faults wires

-- what a wire is made for, in this folder for a peer of this name
abbrev pub wire_name : List ℕ → List ℕ → WireName
wire_name dir peer = record { dir = dir; peer = peer }

-- The site made just these wires: in this folder, for the peers of these names, in order, where that is told.
pub record HasMade (old new : WiresMade) (dir : List ℕ) (names : List (List ℕ)) : Type 0 where
  pub counted : new.count ≡ old.count + length names
  pub named : AppendsAll old.names new.names (map (wire_name dir) names)

-- Wires that are given back, of which this tells for whom each was made: they are all that the site made, in this folder, for
-- the first of the peers of these names, in order.
pub record AreMadeFor (old new : WiresMade) (dir : List ℕ) (names : List (List ℕ)) (made_for : List WireName) : Type 0 where
  pub made : HasMade old new dir (take (length made_for) names)
  pub each : made_for ≡ map (wire_name dir) (take (length made_for) names)
