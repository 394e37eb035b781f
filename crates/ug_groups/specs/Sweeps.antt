-- All rows are changed alike, one after the other.
use Rattle.std.specs.Prelude.{◌≡◌, ℕ, ◌<◌, ◌≤◌, length, ◌==◌, false}
use Rattle.std.specs.Option.{option_map}
use Rattle.ug_outbound.specs.declared.key.GroupKey.{GroupKey}
use Rattle.ug_queue.specs.Spread.{value_of}
use Rattle.ug_group_rules.specs.Packets.{same_group}
use Rattle.ug_groups.specs.declared.entry.Entry.{Entry}
use Rattle.ug_groups.specs.Rows.{Row, Rows, row_at}
use Rattle.ug_groups.specs.Entries.{Entries, key_of}
use Rattle.std.specs.Prelude.{Some}

-- those below the number are changed, and all others are as they were
pub record IsSweep (change : Row → Row) (rows now : Rows) (from : ℕ) : Type 0 where
  pub size : length now ≡ length rows
  pub done : (h : ℕ) → h < from → row_at h now ≡ option_map change (row_at h rows)
  pub rest : (h : ℕ) → from ≤ h → row_at h now ≡ row_at h rows

-- those of the class are those of the key
abbrev pub IsClassOf : Entries → ℕ → GroupKey → Type 0
IsClassOf xs class key = (g : ℕ) (e : Entry) → value_of g xs ≡ Some e → (e.class == class) ≡ same_group (key_of e) key

-- none from one number up to another one is of the class
abbrev pub AreOthers : ℕ → ℕ → ℕ → Entries → Type 0
AreOthers from to class xs = (k : ℕ) (e : Entry) → from ≤ k → k < to → value_of k xs ≡ Some e → (e.class == class) ≡ false
