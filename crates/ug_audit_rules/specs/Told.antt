-- What is kept of a report, and why it tells nothing.
use Rattle.std.specs.Prelude.{◌≡◌, ℕ, ◌+◌, ◌<◌, List, [], ◌∷◌, ◌++◌, length, take}
use Rattle.ug_audit_rules.specs.declared.entry.Entry.{Entry}
use Rattle.ug_audit_rules.specs.declared.entry.Entry.TheVariants.{Passes, Sync, Lost, Unclear}
use Rattle.ug_audit_rules.specs.Audited.{is_lost_in, marks_in}
use Rattle.ug_audit_rules.specs.Reports.{AreClear}
use Rattle.ug_audit_rules.specs.declared.stop.Stop.{Stop}
use Rattle.ug_audit_rules.specs.declared.stop.Stop.TheVariants as stops

-- The one lines tell the marks of the others in their order, and the same losses.
pub record TellsAsMuch (kept all : List Entry) : Type 0 where
  pub marks : marks_in kept ≡ marks_in all
  pub losses : (p n : ℕ) → is_lost_in kept p n ≡ is_lost_in all p n

-- what is kept of an entry
abbrev pub Keeps : List Entry → List Entry → Entry → Type 0
Keeps old new Passes = new ≡ old
Keeps old new (Sync m) = new ≡ old ++ Sync m ∷ []
Keeps old new (Lost peer session) = new ≡ old ++ Lost peer session ∷ []
Keeps old new Unclear = new ≡ old

-- This line is the first that isn't clear.
pub record IsFirstUnclear (line : ℕ) (entries : List Entry) : Type 0 where
  pub front : List Entry
  pub more : List Entry
  pub parts : entries ≡ front ++ Unclear ∷ more
  pub clear : AreClear front
  pub line_is : line ≡ length front + 1

-- the most lines of a report, blank ones included
unfoldable pub most_lines : ℕ
most_lines = 2000000

-- Why lines tell nothing.
abbrev pub IsStop : Stop → List Entry → Type 0
IsStop stops.NoMemory entries = Unit {0}
IsStop stops.TooMany entries = (most_lines < length entries) × AreClear (take most_lines entries)
IsStop (stops.Unclear line) entries = IsFirstUnclear line (take most_lines entries)
