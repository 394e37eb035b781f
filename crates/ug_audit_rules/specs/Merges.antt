-- What one peer should have under a key, of what goes out to the peers of its group key.
use Rattle.std.specs.Prelude.{◌≡◌, ◌≢◌, ℕ, ◌≤◌, ◌<◌, ◌⊎◌, Bool, false, List, [], ◌∷◌, length, slice_get, Option, Some, None, if◌then◌else◌}
use Rattle.std.specs.Option.{option_map}
use Rattle.ug_types.specs.declared.route.OutAttrs.{OutAttrs}
use Rattle.ug_types.specs.declared.route.PeerEnds.{PeerEnds}
use Rattle.ug_message.specs.NextHops.{told_to}
use Rattle.ug_hearing.specs.declared.change.Change.{Change}
use Rattle.ug_hearing.specs.Pasts.{Value, IsToldBy}
use Rattle.ug_audit_rules.specs.declared.since.Since.{Since}
use Rattle.ug_audit_rules.specs.Held.{held, IsRising}
use Rattle.ug_audit_rules.specs.GroupLogs.{Outs}

-- what the peer at these ends is told of what goes out, where it is up
abbrev pub told_if : PeerEnds → Bool → Option OutAttrs → Value
told_if ends up out = if up then option_map (told_to ends) out else None

-- In each version the past has what the peer is told.
abbrev pub IsMerged : PeerEnds → List (Since Bool) → Outs → List Value → Type 0
IsMerged ends ups outs past = (0 < length past) × ((v : ℕ) → v < length past → slice_get past v ≡ Some (told_if ends (held v false ups) (held v None outs)))

-- the version of the first change
abbrev pub first_in : {T : Type 0} → List (Since T) → Option ℕ
first_in [] = None
first_in (s ∷ more) = Some s.version

-- The first change isn't of this version.
abbrev pub IsUndue : {T : Type 0} → ℕ → List (Since T) → Type 0
IsUndue at [] = Unit {0}
IsUndue at (s ∷ more) = s.version ≢ at

-- The first change is of this version, and passed; or the first, if any, isn't.
abbrev pub IsPassed : {T : Type 0} → ℕ → T → List (Since T) → T → List (Since T) → Type 0
IsPassed at before all now left = (all ≡ record { version = at; value = now } ∷ left) ⊎ (IsUndue at all × (now ≡ before) × (left ≡ all))

-- No change is before this version.
abbrev pub IsNotBefore : {T : Type 0} → ℕ → List (Since T) → Type 0
IsNotBefore at [] = Unit {0}
IsNotBefore at (s ∷ more) = at ≤ s.version

-- a change is of this version
abbrev pub IsFirstAt : {T : Type 0} → ℕ → List (Since T) → Type 0
IsFirstAt at [] = ⊥
IsFirstAt at (s ∷ more) = s.version ≡ at

-- The least version of a first change, or that there is none.
abbrev pub IsLeast : List (Since Bool) → Outs → Option ℕ → Type 0
IsLeast ups outs None = (ups ≡ []) × (outs ≡ [])
IsLeast ups outs (Some at) = IsNotBefore at ups × IsNotBefore at outs × (IsFirstAt at ups ⊎ IsFirstAt at outs)

-- The changes tell each past that has what the peer is told.
abbrev pub IsTold : PeerEnds → List (Since Bool) → Outs → List Change → Type 0
IsTold ends ups outs changes =
    (past : List Value) → IsRising 1 ups (length past) → IsRising 1 outs (length past) → IsMerged ends ups outs past → IsToldBy past 0 None changes
