-- What a message makes of a list of entries whose sequences rise (RFC 5291 section 6).
use Rattle.std.specs.Prelude.{ℕ, suc, nat_lt, ◌==◌, Bool, true, false, not, List, [], ◌∷◌, filter, remove, Option, Some, None, if◌then◌else◌}
use Rattle.ug_policy.specs.declared.list_entry.ListEntry.{ListEntry}
use Rattle.ug_policy.specs.declared.orf_action.Action.{Action}
use Rattle.ug_policy.specs.declared.orf_action.Action.TheVariants.{Add, Remove, RemoveAll}
use Rattle.ug_policy.specs.OrfChanges.{OrfChange}

-- in place of the entry of its sequence, else before the first of a greater one, else at the end
unfoldable pub with_entry : ListEntry → List ListEntry → List ListEntry
with_entry e [] = e ∷ []
with_entry e (x ∷ entries) = if nat_lt x.seq e.seq then x ∷ with_entry e entries else if x.seq == e.seq then e ∷ entries else e ∷ x ∷ entries

-- That an entry goes by its sequence alone, whatever its other fields hold, is this project's profile.
abbrev pub without_sequence : ℕ → List ListEntry → List ListEntry
without_sequence seq entries = filter (λ x. not (x.seq == seq)) entries

abbrev pub changed_by : Action → Option ListEntry → List ListEntry → List ListEntry
changed_by RemoveAll entry entries = []
changed_by Add (Some e) entries = with_entry e entries
changed_by Remove (Some e) entries = without_sequence e.seq entries
changed_by Add None entries = entries
changed_by Remove None entries = entries

-- the changes one after the other
unfoldable pub applied : List OrfChange → List ListEntry → List ListEntry
applied [] entries = entries
applied (c ∷ changes) entries = applied changes (changed_by c.action c.entry entries)

-- ---- where an entry of a sequence stands, or would stand

-- how many entries stand before those of a sequence and of greater ones
abbrev pub place_of : ℕ → List ListEntry → ℕ
place_of seq [] = 0
place_of seq (x ∷ entries) = if nat_lt x.seq seq then suc (place_of seq entries) else 0

-- the entry there has the sequence
abbrev pub is_there : ℕ → List ListEntry → Bool
is_there seq [] = false
is_there seq (x ∷ entries) = if nat_lt x.seq seq then is_there seq entries else x.seq == seq

-- without the entry at a place, where it is to go
abbrev pub without_place : Bool → ℕ → List ListEntry → List ListEntry
without_place true place entries = remove entries place
without_place false place entries = entries
