-- The entries of a `list` line: `SEQ:permit:PREFIX` or `SEQ:deny:PREFIX`, then optionally `:ge=N`, then optionally `:le=N`.
use Rattle.std.specs.Prelude.{ℕ, min, Bool, true, false, List, [], ◌∷◌, Option, Some, None, codes, Ok, Err, if◌then◌else◌}
use Rattle.ug_types.specs.declared.family.Family.TheVariants.{V4}
use Rattle.ug_types.specs.Bytes.{same_bytes}
use Rattle.ug_text.specs.Cutting.{pieces, cut_at}
use Rattle.ug_text.specs.Numbers.{any_number}
use Rattle.ug_text.specs.Addresses.{prefix_in}
use Rattle.ug_policy.specs.declared.list_entry.ListEntry.{ListEntry}
use Rattle.ug_policy.specs.Lists.{list_refusal}
use Rattle.ug_events.specs.Reads.{Reads, bad_words, bad_prefix, refused, or_refused, each_read, ◌>>=◌}

abbrev pub permit_of : List ℕ → Option Bool
permit_of text = if same_bytes text (codes "permit") then Some true else (if same_bytes text (codes "deny") then Some false else None)

-- `ge=N` or `le=N`. No length is above 255, so a number above stands for that one, and no list takes either.
abbrev pub bound_number : Option ℕ → Option ℕ
bound_number None = None
bound_number (Some n) = Some (min n 255)

abbrev pub bound_behind : List ℕ → Option (List ℕ × List ℕ) → Option ℕ
bound_behind key None = None
bound_behind key (Some parts) = if same_bytes parts.0 key then bound_number (any_number parts.1) else None

abbrev pub bound_of : List ℕ → List ℕ → Option ℕ
bound_of key text = bound_behind key (cut_at 61 text)

-- what an entry's last parts say: a least length, a greatest length, both, or none
pub record Bounds : Type 0 where
  pub ge : Option ℕ
  pub le : Option ℕ

abbrev pub only_le : Option ℕ → Option Bounds
only_le None = None
only_le (Some le) = Some (record { ge = None; le = Some le })

abbrev pub ge_or_le : Option ℕ → List ℕ → Option Bounds
ge_or_le (Some ge) text = Some (record { ge = Some ge; le = None })
ge_or_le None text = only_le (bound_of (codes "le") text)

abbrev pub both_bounds : Option ℕ → Option ℕ → Option Bounds
both_bounds (Some ge) (Some le) = Some (record { ge = Some ge; le = Some le })
both_bounds (Some ge) None = None
both_bounds None le = None

unfoldable pub bounds_of : List (List ℕ) → Option Bounds
bounds_of [] = Some (record { ge = None; le = None })
bounds_of (text ∷ []) = ge_or_le (bound_of (codes "ge") text) text
bounds_of (ge ∷ le ∷ []) = both_bounds (bound_of (codes "ge") ge) (bound_of (codes "le") le)
bounds_of (ge ∷ le ∷ more ∷ texts) = None

-- the parts of an entry, from left to right
unfoldable pub entry_of : List (List ℕ) → Reads ListEntry
entry_of (seq ∷ action ∷ prefix ∷ texts) = do
  n ← or_refused bad_words (any_number seq)
  permit ← or_refused bad_words (permit_of action)
  p ← or_refused bad_prefix (prefix_in V4 prefix)
  bounds ← or_refused bad_words (bounds_of texts)
  Ok (record { seq = n; permit = permit; prefix = p; ge = bounds.ge; le = bounds.le })
entry_of _ = refused bad_words

abbrev pub entry : List ℕ → Reads ListEntry
entry word = entry_of (pieces 58 word)

abbrev pub where_list : List ListEntry → Option ℕ → Reads (List ListEntry)
where_list entries None = Ok entries
where_list entries (Some number) = refused bad_words

abbrev pub some_entries : List ListEntry → Reads (List ListEntry)
some_entries [] = refused bad_words
some_entries (e ∷ entries) = where_list (e ∷ entries) (list_refusal (e ∷ entries))

-- At least one entry; whether a list is made of them is asked at the end.
unfoldable pub entries_of : List (List ℕ) → Reads (List ListEntry)
entries_of words = each_read entry words >>= some_entries
