-- Values that hold from a version on, until another does.
use Rattle.std.specs.Prelude.{ℕ, suc, ◌≤◌, nat_lt, List, [], ◌∷◌, if◌then◌else◌}
use Rattle.ug_audit_rules.specs.declared.since.Since.{Since}

-- the value in a version; before the first it is this one
abbrev pub held : {T : Type 0} → ℕ → T → List (Since T) → T
held version before [] = before
held version before (s ∷ more) = if nat_lt version s.version then before else held version s.value more

-- the value behind all changes
abbrev pub last_held : {T : Type 0} → T → List (Since T) → T
last_held before [] = before
last_held before (s ∷ more) = last_held s.value more

-- The versions rise, from one on, and stay below another.
abbrev pub IsRising : {T : Type 0} → ℕ → List (Since T) → ℕ → Type 0
IsRising low [] high = low ≤ high
IsRising low (s ∷ more) high = (low ≤ s.version) × IsRising (suc s.version) more high
