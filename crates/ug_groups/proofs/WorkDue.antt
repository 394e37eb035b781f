-- Work that has to be done, by rows, is legal work.
use Rattle.std.proofs.Common.{◌≡◌, ℕ, zero, suc, ◌+◌, Bool, true, false, List, [], ◌∷◌, slice_get, Option, Some, None, refl, ap, subst, ◌∙◌, arith}
use Rattle.std.specs.Prelude.{IfNone, ◌==◌, ◌&&◌, ◌||◌, not}
use Rattle.ug_world.specs.World.{World}
use Rattle.ug_speaker.specs.Speech.{Prepares}
use Rattle.ug_group_rules.specs.Machine as machine
use Rattle.ug_group_rules.specs.Machine.{System, there, legal}
use Rattle.ug_group_rules.specs.Rules.{purpose}
use Rattle.ug_groups.specs.Rows.{Row, Rows, row_at, any_at, may_format_row, may_merge_rows, must_part_row, any_row, some_row, some_merge}
use Rattle.ug_groups.specs.declared.member.Member.{Member}
use Rattle.ug_groups.specs.Members.{system}
use Rattle.ug_groups.specs.Kept.{IsKept, AreRows}
use Rattle.ug_groups.specs.Jobs.{is_work_due}
use Rattle.ug_groups.proofs.Seats.{first-of, second-of}
use Rattle.ug_groups.proofs.RowsAt.{any-some}
use Rattle.ug_groups.proofs.SystemTests.{may-format-is, may-merge-is, must-part-is}

by-contradiction : (b : Bool) → (b ≡ true → b ≡ false) → b ≡ false
by-contradiction true f = f refl
by-contradiction false f = refl

-- what can't be, from which anything follows
absurd-so : {b : Bool} (a : Bool) → a ≡ true → a ≡ false → b ≡ false
absurd-so true e f = absurd cc
absurd-so false e f = absurd cc

or-so : (a b : Bool) → b ≡ true → (a || b) ≡ true
or-so true b e = refl
or-so false b e = e

-- a row that passes is found
one-row : (test : ℕ → Row → Bool) (k : ℕ) (rows : Rows) (g : ℕ) (r : Row) → there (slice_get rows g) ≡ Some r → test (k + g) r ≡ true → any_row test k rows ≡ true
one-row test k [] g r is e = absurd cc
one-row test k (None ∷ rows) zero r is e = absurd cc
one-row test k (None ∷ rows) (suc g) r is e = let f : k + suc g ≡ k + 1 + g = omega arith in one-row test (k + 1) rows g r is (subst (λ (n : ℕ). test n r ≡ true) f e)
one-row test k (Some x ∷ rows) zero r is e =
    let same : x ≡ r = cc in let f : k + 0 ≡ k = omega arith in
    ap (λ (b : Bool). b || any_row test (k + 1) rows) (ap (test k) same ∙ subst (λ (n : ℕ). test n r ≡ true) f e)
one-row test k (Some x ∷ rows) (suc g) r is e =
    let f : k + suc g ≡ k + 1 + g = omega arith in
    or-so (test k x) (any_row test (k + 1) rows) (one-row test (k + 1) rows g r is (subst (λ (n : ℕ). test n r ≡ true) f e))

pub some_row_is : (test : Row → Bool) (rows : Rows) (g : ℕ) → any_at test (row_at g rows) ≡ true → some_row test rows ≡ true
some_row_is test rows g e = let row = any-some test (row_at g rows) e in one-row (λ n r. test r) 0 rows g row.0 row.1 row.2

from_zero : (n : ℕ) → n ≡ 0 + n
from_zero n = omega arith

pub some_merge_is : (rows : Rows) (g h : ℕ) → (not (g == h) && any_at (λ r. any_at (λ s. may_merge_rows r s) (row_at h rows)) (row_at g rows)) ≡ true → some_merge rows ≡ true
some_merge_is rows g h e =
    let apart = first-of (not (g == h)) (any_at (λ r. any_at (λ s. may_merge_rows r s) (row_at h rows)) (row_at g rows)) e in
    let one = any-some (λ r. any_at (λ s. may_merge_rows r s) (row_at h rows)) (row_at g rows) (second-of (not (g == h)) (any_at (λ r. any_at (λ s. may_merge_rows r s) (row_at h rows)) (row_at g rows)) e) in
    let two = any-some (λ s. may_merge_rows one.0 s) (row_at h rows) one.2 in
    let inner : any_row (λ j s. not (g == j) && may_merge_rows one.0 s) 0 rows ≡ true =
    one-row (λ j s. not (g == j) && may_merge_rows one.0 s) 0 rows h two.0 two.1
    (subst (λ (n : ℕ). (not (g == n) && may_merge_rows one.0 two.0) ≡ true) (from_zero h) (ap (λ (b : Bool). b && may_merge_rows one.0 two.0) apart ∙ two.2)) in
    one-row (λ i r. any_row (λ j s. not (i == j) && may_merge_rows r s) 0 rows) 0 rows g one.0 one.1
    (subst (λ (n : ℕ). any_row (λ j s. not (n == j) && may_merge_rows one.0 s) 0 rows ≡ true) (from_zero g) inner)

-- nothing is left
pub no_work : (after : ℕ) (rows : Rows) → some_merge rows ≡ false → some_row (must_part_row after) rows ≡ false → some_row may_format_row rows ≡ false → (job : machine.Job) → is_work_due after rows job ≡ false
no_work after rows merge part format (machine.Take e) = refl
no_work after rows merge part format (machine.Format g) =
    by-contradiction (any_at may_format_row (row_at g rows)) (λ e. absurd-so (some_row may_format_row rows) (some_row_is may_format_row rows g e) format)
no_work after rows merge part format (machine.Merge g h) =
    by-contradiction (is_work_due after rows (machine.Merge g h)) (λ e. absurd-so (some_merge rows) (some_merge_is rows g h e) merge)
no_work after rows merge part format (machine.Slow g) =
    by-contradiction (any_at (must_part_row after) (row_at g rows)) (λ e. absurd-so (some_row (must_part_row after) rows) (some_row_is (must_part_row after) rows g e) part)
no_work after rows merge part format machine.Sync = refl
no_work after rows merge part format machine.Close = refl

-- nothing has to be done
pub settled_then : (a b c d : Bool) → a ≡ false → b ≡ false → (c && d) ≡ false → ((not a && not b) && not (c && d)) ≡ true
settled_then a b c d none_a none_b none = ap (λ (x : Bool). (not x && not b) && not (c && d)) none_a ∙ ap (λ (x : Bool). not x && not (c && d)) none_b ∙ ap (λ (x : Bool). not x) none

pub and_none : (c d : Bool) → d ≡ false → (c && d) ≡ false
and_none true d e = e
and_none false d e = refl

-- ---- the job is legal, and nobody asked for it

pub work-prepares : (after : ℕ) (rows : Rows) (job : machine.Job) → is_work_due after rows job ≡ true → purpose job ≡ Prepares
work-prepares after rows (machine.Take e) is = absurd cc
work-prepares after rows (machine.Format g) is = refl
work-prepares after rows (machine.Merge g h) is = refl
work-prepares after rows (machine.Slow g) is = refl
work-prepares after rows machine.Sync is = absurd cc
work-prepares after rows machine.Close is = absurd cc

pub work-legal : (w : World) (made : ℕ) (rows : Rows) (members : List Member) → IsKept w false made rows members → AreRows rows → (job : machine.Job) → is_work_due w.local.slow_after rows job ≡ true → legal job (system w false made rows members) ≡ true
work-legal w made rows members kept each (machine.Take e) is = absurd cc
work-legal w made rows members kept each (machine.Format g) is = ap (λ (b : Bool). b && true) (may-format-is w false made rows members kept each g ∙ is)
work-legal w made rows members kept each (machine.Merge g h) is = ap (λ (b : Bool). b && true) (may-merge-is w false made rows members kept each g h ∙ is)
work-legal w made rows members kept each (machine.Slow g) is = ap (λ (b : Bool). b && true) (must-part-is w false made rows members kept each g ∙ is)
work-legal w made rows members kept each machine.Sync is = absurd cc
work-legal w made rows members kept each machine.Close is = absurd cc

pub no-work-illegal : (w : World) (made : ℕ) (rows : Rows) (members : List Member) → IsKept w false made rows members → AreRows rows → ((job : machine.Job) → is_work_due w.local.slow_after rows job ≡ false) → (job : machine.Job) → purpose job ≡ Prepares → legal job (system w false made rows members) ≡ false
no-work-illegal w made rows members kept each none (machine.Take e) is = absurd cc
no-work-illegal w made rows members kept each none (machine.Format g) is = ap (λ (b : Bool). b && true) (may-format-is w false made rows members kept each g ∙ none (machine.Format g))
no-work-illegal w made rows members kept each none (machine.Merge g h) is = ap (λ (b : Bool). b && true) (may-merge-is w false made rows members kept each g h ∙ none (machine.Merge g h))
no-work-illegal w made rows members kept each none (machine.Slow g) is = ap (λ (b : Bool). b && true) (must-part-is w false made rows members kept each g ∙ none (machine.Slow g))
no-work-illegal w made rows members kept each none machine.Sync is = absurd cc
no-work-illegal w made rows members kept each none machine.Close is = absurd cc

no_more : (b : Bool) → (b && false) ≡ false
no_more true = refl
no_more false = refl

-- behind the end no work is legal
pub closed-illegal : (s : System) → s.closed ≡ true → (job : machine.Job) → purpose job ≡ Prepares → legal job s ≡ false
closed-illegal s shut (machine.Take e) is = absurd cc
closed-illegal s shut (machine.Format g) is = ap (λ (b : Bool). machine.may_format s g && not b) shut ∙ no_more (machine.may_format s g)
closed-illegal s shut (machine.Merge g h) is = ap (λ (b : Bool). machine.may_merge s g h && not b) shut ∙ no_more (machine.may_merge s g h)
closed-illegal s shut (machine.Slow g) is = ap (λ (b : Bool). machine.must_part s g && not b) shut ∙ no_more (machine.must_part s g)
closed-illegal s shut machine.Sync is = absurd cc
closed-illegal s shut machine.Close is = absurd cc

pub none_then : {T : Type 0} {P Q : Type 0} (r : Option T) → (P → Q) → IfNone r P → IfNone r Q
none_then None f p = f p
none_then (Some x) f p = p
