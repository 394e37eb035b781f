-- The lanes of a run.
use Rattle.std.specs.Prelude.{◌≡◌, ℕ, ◌+◌, false, List, [], ◌∷◌, Option}
use Rattle.atomic_table.specs.Seated.{TableId}
use Rattle.ug_edge.specs.Told.{WireName}
use Rattle.ug_board.specs.Entry.{Entry}
use Rattle.ug_board.specs.Rules.{Rules}
use Rattle.ug_turnstile.specs.Passes.{Held, fresh_pass}
use Rattle.ug_sender.specs.Lanes.{LaneView, KeepsLane, fresh_lane}

-- Passes that have seen nothing and hold no turn, numbered from here on.
abbrev pub ArePassesFrom : {E R : Type 0} → ℕ → List (Held E R) → Type 0
ArePassesFrom number [] = Unit {0}
ArePassesFrom number (pass ∷ passes) = (pass.number ≡ number) × (pass.holds ≡ false) × (pass.seen ≡ []) × ArePassesFrom (number + 1) passes

-- They are fresh passes of this turnstile with this root, numbered from here on.
abbrev pub AreFreshFrom : {E R : Type 0} → TableId → R → ℕ → List (Held E R) → Type 0
AreFreshFrom id root number [] = Unit {0}
AreFreshFrom id root number (pass ∷ passes) = (pass ≡ fresh_pass id root number) × AreFreshFrom id root (number + 1) passes

-- a lane over each wire, with the pass of its peer, of which the first stands at place `p`
abbrev pub fresh_lanes : {W Opening Job Said : Type 0} → (W → WireName) → ℕ → List W → List (Held (Entry Job Said) Opening) → List (LaneView W Opening Job Said)
fresh_lanes made_for p [] passes = []
fresh_lanes made_for p (wire ∷ wires) [] = []
fresh_lanes made_for p (wire ∷ wires) (pass ∷ passes) = fresh_lane wire (made_for wire) pass p ∷ fresh_lanes made_for (p + 1) wires passes

-- Each lane keeps what a lane keeps of its pass and its wire.
abbrev pub AreKept : {W Opening State Job Said : Type 0} → Rules Opening State Job Said → (W → Option (List (List ℕ))) → (W → ℕ) → (W → ℕ) → List (LaneView W Opening Job Said) → Type 0
AreKept rules sessions begun faults [] = Unit {0}
AreKept rules sessions begun faults (lane ∷ lanes) =
    KeepsLane rules lane.pass lane.peer (sessions lane.wire) (begun lane.wire) (faults lane.wire) lane.latest lane.unnoted × AreKept rules sessions begun faults lanes

-- Each lane, of which the first stands at place `p`, sends to the peer of its place, and its pass has the number that follows
-- the peer's, this turnstile and this root.
abbrev pub AreAtPosts : {W Opening Job Said : Type 0} → TableId → Option Opening → ℕ → List (LaneView W Opening Job Said) → Type 0
AreAtPosts id root p [] = Unit {0}
AreAtPosts id root p (lane ∷ lanes) =
    (lane.pass.turnstile ≡ id) × (lane.pass.root ≡ root) × (lane.pass.number ≡ p + 1) × (lane.peer ≡ p) × AreAtPosts id root (p + 1) lanes
