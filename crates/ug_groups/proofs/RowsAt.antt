-- Rows by number, after changes.
use Rattle.std.proofs.Common.{◌≡◌, ℕ, suc, ◌⊎◌, inl, inr, Bool, true, List, [], ◌∷◌, ◌++◌, length, slice_get, Option, Some, None, is_some, refl, sym, ap, subst, ◌∙◌}
use Rattle.std.specs.Option.{option_map}
use Rattle.std.proofs.lemmas.Bool.{cases_eq}
use Rattle.std.proofs.lemmas.Option.{slice_get-map}
use Rattle.ug_speaker.specs.Places.{change_at}
use Rattle.ug_speaker.proofs.Places.{changed-here, changed-there}
use Rattle.ug_group_rules.specs.Machine.{there}
use Rattle.ug_group_rules.specs.Machine as machine
use Rattle.ug_groups.specs.Rows.{Row, Rows, row_at, any_at, sub_of, subs_of, with_row, without_row, with_next, each_row}
use Rattle.ug_groups.proofs.ListFacts.{end-here, end-there, some-same, map-changed, map-same}

there-mapped : (change : Row → Row) (o : Option (Option Row)) → there (option_map (option_map change) o) ≡ option_map change (there o)
there-mapped change None = refl
there-mapped change (Some x) = refl

pub row-here : (g : ℕ) (change : Row → Row) (rows : Rows) → row_at g (with_row g change rows) ≡ option_map change (row_at g rows)
row-here g change rows = ap (λ (o : Option (Option Row)). there o) (changed-here (option_map change) g rows) ∙ there-mapped change (slice_get rows g)

pub row-there : (g h : ℕ) (change : Row → Row) (rows : Rows) → (h ≡ g → ⊥) → row_at h (with_row g change rows) ≡ row_at h rows
row-there g h change rows apart = ap (λ (o : Option (Option Row)). there o) (changed-there (option_map change) g h rows apart)

abbrev no_row : Option Row → Option Row
no_row x = None

none_there : (o : Option (Option Row)) → there (option_map no_row o) ≡ None
none_there None = refl
none_there (Some x) = refl

pub gone-here : (g : ℕ) (rows : Rows) → row_at g (without_row g rows) ≡ None
gone-here g rows = ap (λ (o : Option (Option Row)). there o) (changed-here no_row g rows) ∙ none_there (slice_get rows g)

pub gone-there : (g h : ℕ) (rows : Rows) → (h ≡ g → ⊥) → row_at h (without_row g rows) ≡ row_at h rows
gone-there g h rows apart = ap (λ (o : Option (Option Row)). there o) (changed-there no_row g h rows apart)

pub next-here : (r : Row) (rows : Rows) → row_at (length rows) (with_next r rows) ≡ Some r
next-here r rows = ap (λ (o : Option (Option Row)). there o) (end-here rows (Some r))

pub next-there : (r : Row) (rows : Rows) (g : ℕ) → (g ≡ length rows → ⊥) → row_at g (with_next r rows) ≡ row_at g rows
next-there r rows g apart = ap (λ (o : Option (Option Row)). there o) (end-there rows (Some r) g apart)

pub each-at : (g : ℕ) (change : Row → Row) (rows : Rows) → row_at g (each_row change rows) ≡ option_map change (row_at g rows)
each-at g change rows = ap (λ (o : Option (Option Row)). there o) (slice_get-map (option_map change) rows g) ∙ there-mapped change (slice_get rows g)

-- no number is past the end
pub none-past : (rows : Rows) → row_at (length rows) rows ≡ None
none-past [] = refl
none-past (x ∷ rows) = none-past rows

-- ---- a row of a changed list

-- the changed one, or another
pub record IsThe (g h : ℕ) (rows : Rows) (change : Row → Row) (r : Row) : Type 0 where
  pub number : h ≡ g
  pub old : Row
  pub there_is : row_at g rows ≡ Some old
  pub changed : r ≡ change old

pub record IsOther (g h : ℕ) (rows : Rows) (r : Row) : Type 0 where
  pub apart : h ≡ g → ⊥
  pub there_is : row_at h rows ≡ Some r

mapped-some : (change : Row → Row) (o : Option Row) (r : Row) → option_map change o ≡ Some r → (old : Row) × (o ≡ Some old) × (r ≡ change old)
mapped-some change None r e = absurd cc
mapped-some change (Some x) r e = (x, refl, sym (some-same (change x) r e))

pub changed-cases : (g h : ℕ) (change : Row → Row) (rows : Rows) (r : Row) → row_at h (with_row g change rows) ≡ Some r → IsThe g h rows change r ⊎ IsOther g h rows r
changed-cases g h change rows r e =
    elim (cases_eq h g) [
      | inl same ↦
          let found = mapped-some change (row_at g rows) r (sym (row-here g change rows) ∙ subst (λ (n : ℕ). row_at n (with_row g change rows) ≡ Some r) same e) in
          inl (record { number = same; old = found.0; there_is = found.1; changed = found.2 })
      | inr apart ↦ inr (record { apart = apart; there_is = sym (row-there g h change rows apart) ∙ e })
    ]

pub each-cases : (g : ℕ) (change : Row → Row) (rows : Rows) (r : Row) → row_at g (each_row change rows) ≡ Some r → (old : Row) × (row_at g rows ≡ Some old) × (r ≡ change old)
each-cases g change rows r e = mapped-some change (row_at g rows) r (sym (each-at g change rows) ∙ e)

pub gone-cases : (g h : ℕ) (rows : Rows) (r : Row) → row_at h (without_row g rows) ≡ Some r → IsOther g h rows r
gone-cases g h rows r e =
    elim (cases_eq h g) [
      | inl same ↦ absurd (let none = sym (subst (λ (n : ℕ). row_at n (without_row g rows) ≡ Some r) same e) ∙ gone-here g rows in cc)
      | inr apart ↦ record { apart = apart; there_is = sym (gone-there g h rows apart) ∙ e }
    ]

pub next-cases : (g : ℕ) (new : Row) (rows : Rows) (r : Row) → row_at g (with_next new rows) ≡ Some r → ((g ≡ length rows) × (r ≡ new)) ⊎ IsOther (length rows) g rows r
next-cases g new rows r e =
    elim (cases_eq g (length rows)) [
      | inl same ↦ inl (same, sym (some-same new r (sym (next-here new rows) ∙ subst (λ (n : ℕ). row_at n (with_next new rows) ≡ Some r) same e)))
      | inr apart ↦ inr (record { apart = apart; there_is = sym (next-there new rows g apart) ∙ e })
    ]

-- ---- tests of a row

pub any-some : (test : Row → Bool) (o : Option Row) → any_at test o ≡ true → (r : Row) × (o ≡ Some r) × (test r ≡ true)
any-some test None e = absurd cc
any-some test (Some r) e = (r, refl, e)

pub is-there : (o : Option Row) → is_some o ≡ true → (r : Row) × (o ≡ Some r)
is-there None e = absurd cc
is-there (Some r) e = (r, refl)

pub there-some : (o : Option Row) (r : Row) → o ≡ Some r → is_some o ≡ true
there-some o r e = ap is_some e

-- ---- the subgroups alone

pub subs-changed : (g : ℕ) (change : Row → Row) (changed : machine.Subgroup → machine.Subgroup) (rows : Rows) → ((r : Row) → (change r).sub ≡ changed r.sub) → subs_of (with_row g change rows) ≡ change_at (option_map changed) g (subs_of rows)
subs-changed g change changed rows h = map-changed (option_map sub_of) (option_map change) (option_map changed) g rows by
  where
    by : (o : Option Row) → option_map sub_of (option_map change o) ≡ option_map changed (option_map sub_of o)
    by None = refl
    by (Some r) = ap Some (h r)

pub subs-same : (g : ℕ) (change : Row → Row) (rows : Rows) → ((r : Row) → (change r).sub ≡ r.sub) → subs_of (with_row g change rows) ≡ subs_of rows
subs-same g change rows h = map-same (option_map sub_of) (option_map change) g rows by
  where
    by : (o : Option Row) → option_map sub_of (option_map change o) ≡ option_map sub_of o
    by None = refl
    by (Some r) = ap Some (h r)

abbrev no_subgroup : Option machine.Subgroup → Option machine.Subgroup
no_subgroup x = None

pub subs-gone : (g : ℕ) (rows : Rows) → subs_of (without_row g rows) ≡ change_at (λ (x : Option machine.Subgroup). None) g (subs_of rows)
subs-gone g rows = map-changed (option_map sub_of) no_row no_subgroup g rows (λ o. refl)

pub subs-next : (r : Row) (rows : Rows) → subs_of (with_next r rows) ≡ subs_of rows ++ Some r.sub ∷ []
subs-next r [] = refl
subs-next r (x ∷ rows) = ap (λ (l : List (Option machine.Subgroup)). option_map sub_of x ∷ l) (subs-next r rows)

pub subs-length : (rows : Rows) → length (subs_of rows) ≡ length rows
subs-length [] = refl
subs-length (x ∷ rows) = ap suc (subs-length rows)

-- the subgroup of that number
pub sub-at : (g : ℕ) (rows : Rows) → there (slice_get (subs_of rows) g) ≡ option_map sub_of (row_at g rows)
sub-at g rows = ap (λ (o : Option (Option machine.Subgroup)). there o) (slice_get-map (option_map sub_of) rows g) ∙ by (slice_get rows g)
  where
    by : (o : Option (Option Row)) → there (option_map (option_map sub_of) o) ≡ option_map sub_of (there o)
    by None = refl
    by (Some x) = refl

pub row-stays : (g : ℕ) (change : Row → Row) (rows : Rows) (r : Row) → row_at g rows ≡ Some r → is_some (row_at g (with_row g change rows)) ≡ true
row-stays g change rows r is = ap is_some (row-here g change rows ∙ ap (option_map change) is)
