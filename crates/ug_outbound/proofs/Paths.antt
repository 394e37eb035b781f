-- How long a path gets. Segments in front of which numbers are put are few: a new one comes only where there is no room,
-- and it has room for all that may follow.
use Rattle.std.proofs.Common.{◌≡◌, ℕ, ◌+◌, ◌≤◌, ◌<◌, suc, Bool, true, false, ◌&&◌, not, nat_lt, List, [], ◌∷◌, length, Option, Some, None, refl, arith}
use Rattle.std.specs.Prelude.{nat_le, if◌then◌else◌}
use Rattle.std.proofs.lemmas.Bool.Decides.{nat_tests}
use Rattle.std.proofs.lemmas.List.{length-map}
use Rattle.std.proofs.lemmas.List.Sums.{sum_by-cons}
use Rattle.ug_types.specs.Attributes.{PathSegment, numbers_in}
use Rattle.ug_policy.specs.Paths.{is_private, with_numbers, public_numbers, has_numbers, without_private, in_place_of, replaced, overridden, sequence, prepended}
use Rattle.ug_policy.proofs.KeptSegments.{length_filter}
use Rattle.ug_policy.specs.Maps.{all_prepended}
use Rattle.ug_outbound.specs.declared.kind.Kind.{Kind}
use Rattle.ug_outbound.specs.declared.kind.Kind.TheVariants.{External, Internal, Client}
use Rattle.ug_outbound.specs.declared.settings.Local.{Local}
use Rattle.ug_outbound.specs.declared.key.GroupKey.{GroupKey}
use Rattle.ug_outbound.specs.Outbound.{privates_removed, as_overridden, prepended_towards, path_out}

-- ---- the numbers

numbers_cons : (s : PathSegment) (path : List PathSegment) → numbers_in (s ∷ path) ≡ length s.numbers + numbers_in path
numbers_cons s path = sum_by-cons (λ (t : PathSegment). length t.numbers) s path

numbers_prepended : (n : ℕ) (path : List PathSegment) → numbers_in (prepended n path) ≡ suc (numbers_in path)
numbers_prepended n [] = refl
numbers_prepended n (s ∷ path) = one (not s.is_set && nat_lt (length s.numbers) 255)
  where
    one : (b : Bool) → numbers_in (if b then sequence (n ∷ s.numbers) ∷ path else sequence (n ∷ []) ∷ s ∷ path) ≡ suc (numbers_in (s ∷ path))
    one true = omega (arith, numbers_cons (sequence (n ∷ s.numbers)) path, numbers_cons s path)
    one false = omega (arith, numbers_cons (sequence (n ∷ [])) (s ∷ path))

numbers_without : (path : List PathSegment) → numbers_in (without_private path) ≤ numbers_in path
numbers_without [] = omega arith
numbers_without (s ∷ path) = one (has_numbers (with_numbers public_numbers s)) (numbers_without path)
  where
    one : (b : Bool) → numbers_in (without_private path) ≤ numbers_in path → numbers_in (if b then with_numbers public_numbers s ∷ without_private path else without_private path) ≤ numbers_in (s ∷ path)
    one true h = omega (arith, h, numbers_cons (with_numbers public_numbers s) (without_private path), numbers_cons s path, length_filter (λ n. not (is_private n)) s.numbers)
    one false h = omega (arith, h, numbers_cons s path)

numbers_overridden : (old new : ℕ) (path : List PathSegment) → numbers_in (overridden old new path) ≡ numbers_in path
numbers_overridden old new [] = refl
numbers_overridden old new (s ∷ path) =
    omega (arith, numbers_overridden old new path, numbers_cons (with_numbers (replaced old new) s) (overridden old new path), numbers_cons s path, length-map s.numbers (in_place_of old new))

-- ---- the segments, but for a first one that is new: an AS_SEQUENCE of at most k numbers

abbrev is_new : ℕ → PathSegment → Bool
is_new k s = not s.is_set && nat_le (length s.numbers) k

abbrev behind_one : Bool → List PathSegment → ℕ
behind_one new path = if new then length path else suc (length path)

abbrev pub behind : ℕ → List PathSegment → ℕ
behind k [] = 0
behind k (s ∷ path) = behind_one (is_new k s) path

one_at_most : (b : Bool) (path : List PathSegment) → behind_one b path ≤ suc (length path)
one_at_most true path = omega arith
one_at_most false path = omega arith

one_at_least : (b : Bool) (path : List PathSegment) → length path ≤ behind_one b path
one_at_least true path = omega arith
one_at_least false path = omega arith

pub behind_at_most : (k : ℕ) (path : List PathSegment) → behind k path ≤ length path
behind_at_most k [] = omega arith
behind_at_most k (s ∷ path) = one_at_most (is_new k s) path

pub length_at_most : (k : ℕ) (path : List PathSegment) → length path ≤ suc (behind k path)
length_at_most k [] = omega arith
length_at_most k (s ∷ path) = omega (arith, one_at_least (is_new k s) path)

one_of : (k : ℕ) → nat_le 1 (suc k) ≡ true
one_of k = grind (arith, nat_tests)

-- with a number in front nothing more stands behind
behind_prepended : (k n : ℕ) (path : List PathSegment) → k < 255 → behind (suc k) (prepended n path) ≤ behind k path
behind_prepended k n [] few = rw (one_of k) (omega arith)
behind_prepended k n (s ∷ path) few = one s.is_set (nat_lt (length s.numbers) 255) (nat_le (length s.numbers) k) refl refl
  where
    shifted : (m : ℕ) → nat_le (suc m) (suc k) ≡ nat_le m k
    shifted m = grind (arith, nat_tests)

    room_left : (m : ℕ) → nat_le m k ≡ true → nat_lt m 255 ≡ true
    room_left m le = grind (arith, nat_tests)

    one : (is_set room new : Bool) → nat_lt (length s.numbers) 255 ≡ room → nat_le (length s.numbers) k ≡ new
        → behind (suc k) (if not is_set && room then sequence (n ∷ s.numbers) ∷ path else sequence (n ∷ []) ∷ s ∷ path) ≤ behind_one (not is_set && new) path
    one true room new r e = rw (one_of k) (omega arith)
    one false true new r e = rw (shifted (length s.numbers), e) (omega arith)
    one false false true r e = absurd (let yes = room_left (length s.numbers) e in cc)
    one false false false r e = rw (one_of k) (omega arith)

length_without : (path : List PathSegment) → length (without_private path) ≤ length path
length_without [] = omega arith
length_without (s ∷ path) = one (has_numbers (with_numbers public_numbers s)) (length_without path)
  where
    one : (b : Bool) → length (without_private path) ≤ length path → length (if b then with_numbers public_numbers s ∷ without_private path else without_private path) ≤ length (s ∷ path)
    one true h = omega arith
    one false h = omega arith

behind_without : (k : ℕ) (path : List PathSegment) → behind k (without_private path) ≤ behind k path
behind_without k [] = omega arith
behind_without k (s ∷ path) = one (has_numbers (with_numbers public_numbers s)) s.is_set (nat_le (length s.numbers) k) refl (length_without path)
  where
    fewer : (m : ℕ) → m ≤ length s.numbers → nat_le (length s.numbers) k ≡ true → nat_le m k ≡ true
    fewer m le e = grind (arith, nat_tests)

    one : (kept is_set new : Bool) → nat_le (length s.numbers) k ≡ new → length (without_private path) ≤ length path
        → behind k (if kept then record { is_set = is_set; numbers = public_numbers s.numbers } ∷ without_private path else without_private path) ≤ behind_one (not is_set && new) path
    one true true new e h = omega (arith, h)
    one true false true e h = rw (fewer (length (public_numbers s.numbers)) (length_filter (λ n. not (is_private n)) s.numbers) e) h
    one true false false e h = omega (arith, h, one_at_most (nat_le (length (public_numbers s.numbers)) k) (without_private path))
    one false is_set new e h = omega (arith, h, behind_at_most k (without_private path), one_at_least (not is_set && new) path)

behind_overridden : (k old new : ℕ) (path : List PathSegment) → behind k (overridden old new path) ≡ behind k path
behind_overridden k old new [] = refl
behind_overridden k old new (s ∷ path) =
    rw (length-map s.numbers (in_place_of old new), length-map path (with_numbers (replaced old new))) refl

-- ---- numbers put in front one after another

pub all_numbers : (ns : List ℕ) (path : List PathSegment) → numbers_in (all_prepended ns path) ≡ length ns + numbers_in path
all_numbers [] path = omega arith
all_numbers (n ∷ ns) path = omega (arith, all_numbers ns path, numbers_prepended n (all_prepended ns path))

pub all_behind : (k : ℕ) (ns : List ℕ) (path : List PathSegment) → k + length ns < 255 → behind (k + length ns) (all_prepended ns path) ≤ behind k path
all_behind k [] path few =
    let same : k + length {A = ℕ} [] ≡ k = omega arith in
    rw same (omega arith)
all_behind k (n ∷ ns) path few =
    let same : k + length (n ∷ ns) ≡ suc (k + length ns) = omega arith in
    rw same (omega (arith, behind_prepended (k + length ns) n (all_prepended ns path) (omega (arith, few)), all_behind k ns path (omega (arith, few))))

-- more segments count as new where more numbers are allowed
pub behind_more : (j k : ℕ) (path : List PathSegment) → j ≤ k → behind k path ≤ behind j path
behind_more j k [] le = omega arith
behind_more j k (s ∷ path) le = one (not s.is_set) (nat_le (length s.numbers) j) (nat_le (length s.numbers) k) refl refl
  where
    still : nat_le (length s.numbers) j ≡ true → nat_le (length s.numbers) k ≡ true
    still e = grind (arith, nat_tests)

    one : (seq before after : Bool) → nat_le (length s.numbers) j ≡ before → nat_le (length s.numbers) k ≡ after → behind_one (seq && after) path ≤ behind_one (seq && before) path
    one false before after b a = omega arith
    one true true true b a = omega arith
    one true true false b a = absurd (let yes = still b in cc)
    one true false after b a = one_at_most after path

-- ---- the path as it goes out

removed_numbers : (remove : Bool) (path : List PathSegment) → numbers_in (privates_removed remove path) ≤ numbers_in path
removed_numbers true path = numbers_without path
removed_numbers false path = omega arith

removed_behind : (k : ℕ) (remove : Bool) (path : List PathSegment) → behind k (privates_removed remove path) ≤ behind k path
removed_behind k true path = behind_without k path
removed_behind k false path = omega arith

as_overridden_numbers : (old : Option ℕ) (asn : ℕ) (path : List PathSegment) → numbers_in (as_overridden old asn path) ≡ numbers_in path
as_overridden_numbers None asn path = refl
as_overridden_numbers (Some old) asn path = numbers_overridden old asn path

as_overridden_behind : (k : ℕ) (old : Option ℕ) (asn : ℕ) (path : List PathSegment) → behind k (as_overridden old asn path) ≡ behind k path
as_overridden_behind k None asn path = refl
as_overridden_behind k (Some old) asn path = behind_overridden k old asn path

towards_numbers : (kind : Kind) (asn : ℕ) (path : List PathSegment) → numbers_in (prepended_towards kind asn path) ≤ suc (numbers_in path)
towards_numbers External asn path = omega (arith, numbers_prepended asn path)
towards_numbers Internal asn path = omega arith
towards_numbers Client asn path = omega arith

towards_length : (k : ℕ) (kind : Kind) (asn : ℕ) (path : List PathSegment) → k < 255 → length (prepended_towards kind asn path) ≤ suc (behind k path)
towards_length k External asn path few = omega (arith, length_at_most (suc k) (prepended asn path), behind_prepended k asn path few)
towards_length k Internal asn path few = length_at_most k path
towards_length k Client asn path few = length_at_most k path

pub out_numbers : (key : GroupKey) (local : Local) (path : List PathSegment) → numbers_in (path_out key local path) ≤ suc (numbers_in path)
out_numbers key local path =
    let removed = privates_removed key.remove_private_as path in
    omega (arith, towards_numbers key.kind local.asn (as_overridden key.as_override local.asn removed), as_overridden_numbers key.as_override local.asn removed, removed_numbers key.remove_private_as path)

pub out_length : (k : ℕ) (key : GroupKey) (local : Local) (path : List PathSegment) → k < 255 → length (path_out key local path) ≤ suc (behind k path)
out_length k key local path few =
    let removed = privates_removed key.remove_private_as path in
    omega (arith, towards_length k key.kind local.asn (as_overridden key.as_override local.asn removed) few, as_overridden_behind k key.as_override local.asn removed, removed_behind k key.remove_private_as path)
