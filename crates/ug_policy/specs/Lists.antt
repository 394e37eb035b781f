-- Prefix lists.
use Rattle.std.specs.Prelude.{◌≡◌, ℕ, nat_lt, nat_le, Bool, true, false, ◌&&◌, not, List, [], ◌∷◌, length, Option, Some, None, unwrap_or, if◌then◌else◌}
use Rattle.std.specs.List.{list_all}
use Rattle.ug_types.specs.Ip.{IpPrefix, covers, same_family}
use Rattle.ug_types.specs.declared.family.Family.TheVariants.{V4}
use Rattle.ug_policy.specs.declared.list_entry.ListEntry.{ListEntry}
use Rattle.ug_policy.specs.declared.list_refusal.ListRefusal.{ListRefusal}
use Rattle.ug_policy.specs.declared.list_refusal.ListRefusal.TheVariants as answers
use Rattle.ug_policy.specs.Order.{repeats, rises}

abbrev pub seq_of : ListEntry → ℕ
seq_of e = e.seq

-- the longest length that an entry matches: without bounds its own, and 32 where only the least is given
abbrev pub longest : ℕ → Option ℕ → Option ℕ → ℕ
longest len None None = len
longest len (Some ge) None = 32
longest len ge (Some le) = le

abbrev pub shortest : ℕ → Option ℕ → ℕ
shortest len ge = unwrap_or ge len

-- an entry's prefix covers the given one, whose length is in the entry's range
abbrev pub is_match : ListEntry → IpPrefix → Bool
is_match e p = covers e.prefix p && nat_le (shortest e.prefix.len e.ge) p.len && nat_le p.len (longest e.prefix.len e.ge e.le)

-- The first entry that matches decides, and where none does the list denies. That a list without entries denies too
-- is this project's profile.
abbrev pub permits : List ListEntry → IpPrefix → Bool
permits [] p = false
permits (e ∷ entries) p = if is_match e p then e.permit else permits entries p

-- a bound of a range, where it is given: from the prefix's length to 32
abbrev pub is_bound : ℕ → Option ℕ → Bool
is_bound len None = true
is_bound len (Some bound) = nat_le len bound && nat_le bound 32

abbrev pub are_ordered : Option ℕ → Option ℕ → Bool
are_ordered None le = true
are_ordered (Some ge) None = true
are_ordered (Some ge) (Some le) = nat_le ge le

-- An IPv4 entry whose bounds follow one another: its length, the least and the greatest one that it matches, 32. That
-- the least may equal the length is this project's profile.
abbrev pub is_good : ListEntry → Bool
is_good e = same_family e.prefix.family V4 && is_bound e.prefix.len e.ge && is_bound e.prefix.len e.le && are_ordered e.ge e.le

-- Why entries are no list, the lowest number first: 1 two have one sequence number, 2 one isn't good, 3 there are
-- over 1,024.
abbrev pub refusal_where : Bool → List ListEntry → Option ℕ
refusal_where repeated entries =
    if repeated then Some 1
    else if not (list_all is_good entries) then Some 2
    else if nat_lt 1024 (length entries) then Some 3
    else None

abbrev pub list_refusal : List ListEntry → Option ℕ
list_refusal entries = refusal_where (repeats seq_of entries) entries

-- The same of entries in ascending order: the numbers rise where none repeats.
abbrev pub refusal_in_order : List ListEntry → Option ℕ
refusal_in_order entries = refusal_where (not (rises seq_of entries)) entries

-- what a list keeps: its entries rise by their sequence numbers, each is good, and there are at most 1,024
abbrev pub IsPrefixList : List ListEntry → Type 0
IsPrefixList entries = refusal_in_order entries ≡ None

-- a refusal tells its number; running out of memory may come at any entries
abbrev pub IsRefusal : ListRefusal → Option ℕ → Type 0
IsRefusal (answers.Refused number) refusal = refusal ≡ Some number
IsRefusal answers.NoMemory refusal = Unit {0}
