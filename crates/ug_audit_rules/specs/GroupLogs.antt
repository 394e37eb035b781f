-- What the peers of a group key should have, version by version.
use Rattle.std.specs.Prelude.{◌≡◌, ◌≢◌, ℕ, ◌<◌, ◌≤◌, ◌⊎◌, Bool, true, false, List, [], ◌∷◌, ◌++◌, length, slice_get, Option, Some, None}
use Rattle.ug_types.specs.declared.key.Key.{Key}
use Rattle.ug_types.specs.declared.route.OutAttrs.{OutAttrs}
use Rattle.ug_types.specs.Keys.{same_key}
use Rattle.ug_message.specs.Tables.{among}
use Rattle.ug_hearing.specs.Keyed.{list_for}
use Rattle.ug_world.specs.World.{World}
use Rattle.ug_world.specs.Private.{wanted}
use Rattle.ug_outbound.specs.declared.key.GroupKey.{GroupKey}
use Rattle.ug_audit_rules.specs.declared.since.Since.{Since}
use Rattle.ug_audit_rules.specs.Held.{held, last_held, IsRising}

-- what goes out under a key, change by change
abbrev pub Outs : Type 0
Outs = List (Since (Option OutAttrs))

abbrev pub Entries : Type 0
Entries = List (Key × Outs)

-- the changes of a key
abbrev pub changes_in : Entries → Key → Outs
changes_in entries key = list_for entries key

-- A change is added where the value is another than the last.
abbrev pub Adds : ℕ → Option OutAttrs → Outs → Outs → Type 0
Adds version v old new = ((new ≡ old) × (last_held None old ≡ v)) ⊎ ((last_held None old ≢ v) × (new ≡ old ++ record { version = version; value = v } ∷ []))

-- So it is of one key, and every other is as it was.
pub record IsSet (version : ℕ) (key : Key) (v : Option OutAttrs) (old new : Entries) : Type 0 where
  pub adds : Adds version v (changes_in old key) (changes_in new key)
  pub others : (q : Key) → same_key key q ≡ false → changes_in new q ≡ changes_in old q

abbrev pub AddsWhere : Bool → ℕ → Option OutAttrs → Outs → Outs → Type 0
AddsWhere true version v old new = Adds version v old new
AddsWhere false version v old new = new ≡ old

-- From a version on the changes tell what the peers of a group key should have in each of these worlds.
pub record IsGroupLog (key : GroupKey) (start : ℕ) (entries : Entries) (ws : List World) : Type 0 where
  pub begun : start < length ws
  pub rising : (q : Key) → IsRising 1 (changes_in entries q) (length ws)
  pub tells : (v : ℕ) (w : World) (q : Key) → start ≤ v → slice_get ws v ≡ Some w → held v None (changes_in entries q) ≡ wanted key w q

-- What the peers of a group key should have under these keys was noted.
abbrev pub IsNotedAt : World → GroupKey → List Key → Entries → Entries → Type 0
IsNotedAt w key keys old new = (q : Key) → AddsWhere (among keys q) w.version (wanted key w q) (changes_in old q) (changes_in new q)
