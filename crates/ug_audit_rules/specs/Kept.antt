-- What is kept of a line that may be longer than each line that tells something.
use Rattle.std.specs.Prelude.{◌≡◌, ℕ, ◌+◌, ◌≤◌, ◌⊎◌, List, [], ◌++◌, length, slice_get, Some}
use Rattle.ug_world.specs.World.{World}
use Rattle.ug_audit_rules.specs.Reports.{peer_names_in}

-- So many bytes are more than any line of four words has: `sync`, a version, the name of a peer, and two numbers more.
abbrev pub IsAmple : World → ℕ → Type 0
IsAmple last most = (69 ≤ most) × ((p : ℕ) (name : List ℕ) → slice_get (peer_names_in last) p ≡ Some name → length name + 69 ≤ most)

-- All of it is kept, or at least so many bytes of its front.
pub record IsKept (most : ℕ) (kept all : List ℕ) : Type 0 where
  pub more : List ℕ
  pub parts : all ≡ kept ++ more
  pub cut : (more ≡ []) ⊎ (most ≤ length kept)

-- Where it is kept, and bytes follow, it is kept with these.
abbrev pub KeepsOn : ℕ → List ℕ → List ℕ → List ℕ → Type 0
KeepsOn most old new bytes = (all : List ℕ) → IsKept most old all → IsKept most new (all ++ bytes)
