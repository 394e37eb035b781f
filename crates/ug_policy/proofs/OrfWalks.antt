-- Walking along bytes, thing by thing.
use Rattle.std.proofs.Common.{◌≡◌, ◌≢◌, ℕ, nat_lt, ◌==◌, Bool, true, false, ◌&&◌, zero, suc, ◌+◌, ◌-◌, ◌<◌, ◌≤◌, List, [], ◌∷◌, ◌++◌, length, drop, Result, Ok, Err, refl, ap, sym, ◌∙◌, append_assoc, arith}
use Rattle.std.specs.List.{list_all}
use Rattle.std.proofs.lemmas.Bool.Decides.{nat_tests}
use Rattle.ug_policy.specs.declared.list_entry.ListEntry.{ListEntry}
use Rattle.ug_policy.specs.OrfReading.{action_field, len_field, entry_size, entry_field, added_or_removed, entry_at}
use Rattle.std.proofs.lemmas.List.{append-nil}
use Rattle.ug_policy.specs.OrfChanges.{OrfChange, IsChange, is_change}
use Rattle.ug_policy.specs.OrfViews.{AreChanges}
use Rattle.ug_policy.specs.OrfWalking.{◌>>=◌, all_behind, all_in, behind_items}

all_skip : {A : Type 0} (read : List ℕ → Result (List A × ℕ) ℕ) (skip : ℕ) (bytes : List ℕ) → all_behind read skip bytes ≡ all_in read (drop skip bytes)
unfolding all_behind
all_skip read zero bytes = refl
all_skip read (suc skip) [] = refl
all_skip read (suc skip) (b ∷ bytes) = all_skip read skip bytes

behind_is : {A : Type 0} (first : List A) (rest : Result (List A) ℕ) → (rest >>= λ more. Ok (first ++ more)) ≡ behind_items first rest
behind_is first (Ok more) = refl
behind_is first (Err number) = refl

-- what the bytes begin with, and the rest behind it
pub one_read : {A : Type 0} (read : List ℕ → Result (List A × ℕ) ℕ) (bytes after : List ℕ) (first : List A) (size : ℕ) → 1 ≤ size → size ≤ length bytes → after ≡ drop size bytes → read bytes ≡ Ok (first, size)
    → all_in read bytes ≡ behind_items first (all_in read after)
unfolding all_behind
one_read read [] after first size some within rest e = absurd (omega (arith, some, within))
one_read read (b ∷ bytes) after first zero some within rest e = absurd (omega (arith, some))
one_read read (b ∷ bytes) after first (suc size) some within rest e =
    let less : suc size - 1 ≡ size = omega arith in
    rw (e, less, all_skip read size bytes, rest) (behind_is first (all_in read (drop size bytes)))

pub none_read : {A : Type 0} (read : List ℕ → Result (List A × ℕ) ℕ) (bytes : List ℕ) (number : ℕ) → 1 ≤ length bytes → read bytes ≡ Err number → all_in read bytes ≡ Err number
unfolding all_behind
none_read read [] number some e = absurd (omega (arith, some))
none_read read (b ∷ bytes) number some e = rw e refl

pub nothing_read : {A : Type 0} (read : List ℕ → Result (List A × ℕ) ℕ) (bytes : List ℕ) → length bytes ≡ 0 → all_in read bytes ≡ Ok []
unfolding all_behind
nothing_read read [] none = refl
nothing_read read (b ∷ bytes) none = absurd (omega (arith, none))

pub behind_none : {A : Type 0} (rest : Result (List A) ℕ) → behind_items [] rest ≡ rest
behind_none (Ok more) = refl
behind_none (Err number) = refl

pub behind_both : {A : Type 0} (first second : List A) (rest : Result (List A) ℕ) → behind_items (first ++ second) rest ≡ behind_items first (behind_items second rest)
behind_both first second (Ok more) = ap Ok (append_assoc first second more)
behind_both first second (Err number) = refl

-- ---- what the loops keep

pub more_items : {A : Type 0} (read : List ℕ → Result (List A × ℕ) ℕ) (changes first new : List A) (rest after : List ℕ) (size : ℕ) (whole : Result (List A) ℕ)
    → 1 ≤ size → size ≤ length rest → after ≡ drop size rest → read rest ≡ Ok (first, size) → new ≡ changes ++ first → behind_items changes (all_in read rest) ≡ whole → behind_items new (all_in read after) ≡ whole
more_items read changes first new rest after size whole some within back e n w =
    ap (λ l. behind_items l (all_in read after)) n ∙ behind_both changes first (all_in read after)
    ∙ ap (λ r. behind_items changes r) (sym (one_read read rest after first size some within back e))
    ∙ w

pub all_done : {A : Type 0} (read : List ℕ → Result (List A × ℕ) ℕ) (changes new : List A) (rest : List ℕ) (whole : Result (List A) ℕ) → length rest ≡ 0 → behind_items changes (all_in read rest) ≡ whole → new ≡ changes → whole ≡ Ok new
all_done read changes new rest whole none w n =
    sym w ∙ ap (λ r. behind_items changes r) (nothing_read read rest none) ∙ ap Ok (append-nil changes ∙ sym n)

pub all_good : (xs ys : List OrfChange) → AreChanges xs → AreChanges ys → AreChanges (xs ++ ys)
all_good [] ys g h = h
all_good (x ∷ xs) ys g h = one (is_change x.action x.entry) g (all_good xs ys)
  where
    one : (b : Bool) → (b && list_all (λ c. is_change c.action c.entry) xs) ≡ true → (AreChanges xs → AreChanges ys → AreChanges (xs ++ ys)) → (b && list_all (λ c. is_change c.action c.entry) (xs ++ ys)) ≡ true
    one true e rest = rest e h
    one false e rest = e

pub one_good : (x : OrfChange) → IsChange x → AreChanges (x ∷ [])
one_good x g = rw g refl

pub ruleset walk_steps = (one_read, none_read, nothing_read, behind_none, behind_both)

-- an entry that is added or removed, behind all that is checked of it first
pub entry_is : (bytes : List ℕ) (action size : ℕ) (e : ListEntry) → action ≡ action_field bytes → size ≡ entry_size bytes → e ≡ entry_field bytes → action ≢ 3 → action ≢ 2 → 8 ≤ length bytes → len_field bytes ≤ 32 → size ≤ length bytes
    → entry_at bytes ≡ added_or_removed action e size
unfolding entry_at
entry_is bytes action size e a s f not_three not_two long short within =
    let three : (action_field bytes == 3) ≡ false = grind (arith, nat_tests) in
    let two : (action_field bytes == 2) ≡ false = grind (arith, nat_tests) in
    let head : nat_lt (length bytes) 8 ≡ false = grind (arith, nat_tests) in
    let len : nat_lt 32 (len_field bytes) ≡ false = grind (arith, nat_tests) in
    let whole : nat_lt (length bytes) (entry_size bytes) ≡ false = grind (arith, nat_tests) in
    rw (three, two, head, len, whole, a, s, f) refl
