-- What a message of a peer's own list says keeps the rules of its changes.
use Rattle.std.proofs.Common.{◌≡◌, ℕ, zero, suc, ◌-◌, Bool, true, false, List, [], ◌∷◌, ◌++◌, drop, length, Option, Some, None, Result, Ok, Err, refl, subst, nat_lt}
use Rattle.std.specs.Prelude.{◌==◌, slice_index, slice_range, if◌then◌else◌}
use Rattle.ug_policy.specs.declared.list_entry.ListEntry.{ListEntry}
use Rattle.ug_policy.specs.Lists.{is_good}
use Rattle.ug_policy.specs.declared.orf_action.Action.TheVariants.{Add, Remove}
use Rattle.ug_policy.specs.OrfChanges.{OrfChange, OrfRequest}
use Rattle.ug_policy.specs.OrfViews.{AreChanges}
use Rattle.ug_policy.specs.OrfWalking.{◌>>=◌, all_behind, all_in}
use Rattle.ug_policy.specs.OrfReading.{action_field, permit_field, len_field, entry_size, entry_field, all_go, is_about, added_or_removed, entry_at, block_size, entries_of_type, sized, block_at, when_field, head_refusal, request_of, where_no_refusal, orf_of}
use Rattle.ug_policy.proofs.OrfWalks.{all_good, one_good}

abbrev read_as : {A : Type 0} → A → Result A ℕ
read_as x = Ok x

read_is : {A : Type 0} (x y : A) → read_as x ≡ read_as y → x ≡ y
read_is x y e = cc

read_first : {A B : Type 0} (r : Result A ℕ) (f : A → Result B ℕ) (y : B) → (r >>= f) ≡ read_as y → (x : A) × (r ≡ read_as x) × (f x ≡ read_as y)
read_first (Ok x) f y h = (x, refl, h)
read_first (Err number) f y h = absurd cc

abbrev Reading : Type 0
Reading = List OrfChange × ℕ

abbrev GivesChanges : (List ℕ → Result (List OrfChange × ℕ) ℕ) → Type 0
GivesChanges read = (bytes : List ℕ) (x : List OrfChange × ℕ) → read bytes ≡ read_as x → AreChanges x.0

added_fits : (action : ℕ) (e : ListEntry) (size : ℕ) (x : List OrfChange × ℕ) → added_or_removed action e size ≡ read_as x → AreChanges x.0
added_fits action e size x h = one (action == 1) (is_good e) refl h
  where
    one : (a b : Bool) → is_good e ≡ b → (if a then read_as (is_about Remove e ∷ [], size) else (if b then Ok (is_about Add e ∷ [], size) else Err 8)) ≡ read_as x → AreChanges x.0
    one true b is h = subst (λ (y : Reading). AreChanges y.0) (read_is (is_about Remove e ∷ [], size) x h) (one_good (is_about Remove e) refl)
    one false true is h = subst (λ (y : Reading). AreChanges y.0) (read_is (is_about Add e ∷ [], size) x h) (one_good (is_about Add e) is)
    one false false is h = absurd cc

entry_fits : GivesChanges entry_at
unfolding entry_at
entry_fits bytes x h = one (action_field bytes == 3) (action_field bytes == 2) (nat_lt (length bytes) 8) (nat_lt 32 (len_field bytes)) (nat_lt (length bytes) (entry_size bytes)) h
  where
    one : (a b c d e : Bool)
        → (if a then Err 7 else (if b then read_as (all_go (permit_field bytes) ∷ [], 1) else (if c then Err 6 else (if d then Err 8 else (if e then Err 6 else added_or_removed (action_field bytes) (entry_field bytes) (entry_size bytes)))))) ≡ read_as x
        → AreChanges x.0
    one true b c d e h = absurd cc
    one false true c d e h = subst (λ (y : Reading). AreChanges y.0) (read_is (all_go (permit_field bytes) ∷ [], 1) x h) (one_good (all_go (permit_field bytes)) refl)
    one false false true d e h = absurd cc
    one false false false true e h = absurd cc
    one false false false false true h = absurd cc
    one false false false false false h = added_fits (action_field bytes) (entry_field bytes) (entry_size bytes) x h

all_fit : (read : List ℕ → Result (List OrfChange × ℕ) ℕ) → GivesChanges read → (bytes : List ℕ) (skip : ℕ) (xs : List OrfChange) → all_behind read skip bytes ≡ read_as xs → AreChanges xs
unfolding all_behind
all_fit read good [] skip xs h = subst AreChanges (read_is [] xs h) refl
all_fit read good (b ∷ bytes) (suc skip) xs h = all_fit read good bytes skip xs h
all_fit read good (b ∷ bytes) zero xs h =
    let first = read_first (read (b ∷ bytes)) (λ first. all_behind read (first.1 - 1) bytes >>= λ more. Ok (first.0 ++ more)) xs h in
    let more = read_first (all_behind read (first.0.1 - 1) bytes) (λ more. Ok (first.0.0 ++ more)) xs first.2 in
    subst AreChanges (read_is (first.0.0 ++ more.0) xs more.2) (all_good first.0.0 more.0 (good (b ∷ bytes) first.0 first.1) (all_fit read good bytes (first.0.1 - 1) more.0 more.1))

typed_fit : (type : ℕ) (entries : List ℕ) (xs : List OrfChange) → entries_of_type type entries ≡ read_as xs → AreChanges xs
typed_fit type entries xs h = one (type == 64) h
  where
    one : (b : Bool) → (if b then all_in entry_at entries else Ok []) ≡ read_as xs → AreChanges xs
    one true h = all_fit entry_at entry_fits entries 0 xs h
    one false h = subst AreChanges (read_is [] xs h) refl

block_fits : GivesChanges block_at
unfolding block_at
block_fits bytes x h = one (nat_lt (length bytes) 3) (nat_lt (length bytes) (block_size bytes)) h
  where
    one : (a b : Bool) → (if a then Err 6 else (if b then Err 6 else (entries_of_type (slice_index bytes 0) (slice_range bytes 3 (block_size bytes)) >>= sized (block_size bytes)))) ≡ read_as x → AreChanges x.0
    one true b h = absurd cc
    one false true h = absurd cc
    one false false h =
        let xs = read_first (entries_of_type (slice_index bytes 0) (slice_range bytes 3 (block_size bytes))) (sized (block_size bytes)) x h in
        subst (λ (y : Reading). AreChanges y.0) (read_is (xs.0, block_size bytes) x xs.2) (typed_fit (slice_index bytes 0) (slice_range bytes 3 (block_size bytes)) xs.0 xs.1)

pub request_fits : (bytes : List ℕ) (request : OrfRequest) → orf_of bytes ≡ read_as request → AreChanges request.entries
unfolding orf_of
request_fits bytes request h = one (head_refusal bytes) h
  where
    one : (o : Option ℕ) → where_no_refusal o (all_in block_at (drop 24 bytes) >>= request_of (when_field bytes)) ≡ read_as request → AreChanges request.entries
    one (Some number) h = absurd cc
    one None h =
        let xs = read_first (all_in block_at (drop 24 bytes)) (request_of (when_field bytes)) request h in
        subst (λ (r : OrfRequest). AreChanges r.entries) (read_is (record { now = when_field bytes == 1; entries = xs.0 }) request xs.2) (all_fit block_at block_fits (drop 24 bytes) 0 xs.0 xs.1)
