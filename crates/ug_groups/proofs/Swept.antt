-- A change of all rows, step by step.
use Rattle.std.proofs.Common.{◌≡◌, ℕ, zero, suc, ◌+◌, ◌<◌, ◌≤◌, [], ◌∷◌, length, Option, None, refl, sym, ◌∙◌, ap, subst, arith, inl, inr}
use Rattle.std.specs.Option.{option_map}
use Rattle.std.proofs.lemmas.Bool.{cases_lt}
use Rattle.ug_groups.specs.Rows.{Row, Rows, row_at, with_row, each_row}
use Rattle.ug_groups.specs.Sweeps.{IsSweep}
use Rattle.ug_groups.proofs.Accounts.{equal_or}

pub change_here : (f : Row → Row) (rows : Rows) (g : ℕ) → row_at g (with_row g f rows) ≡ option_map f (row_at g rows)
change_here f [] zero = refl
change_here f [] (suc g) = refl
change_here f (r ∷ rows) zero = refl
change_here f (r ∷ rows) (suc g) = change_here f rows g

pub change_other : (f : Row → Row) (rows : Rows) (g h : ℕ) → (h ≡ g → ⊥) → row_at h (with_row g f rows) ≡ row_at h rows
change_other f [] g h apart = refl
change_other f (r ∷ rows) zero zero apart = absurd (apart refl)
change_other f (r ∷ rows) zero (suc h) apart = refl
change_other f (r ∷ rows) (suc g) zero apart = refl
change_other f (r ∷ rows) (suc g) (suc h) apart = change_other f rows g h (λ same. apart (ap suc same))

change_length : (f : Row → Row) (rows : Rows) (g : ℕ) → length (with_row g f rows) ≡ length rows
change_length f [] g = refl
change_length f (r ∷ rows) zero = refl
change_length f (r ∷ rows) (suc g) = let rest = change_length f rows g in omega (arith, rest)

each_at : (f : Row → Row) (rows : Rows) (g : ℕ) → row_at g (each_row f rows) ≡ option_map f (row_at g rows)
each_at f [] g = refl
each_at f (r ∷ rows) zero = refl
each_at f (r ∷ rows) (suc g) = each_at f rows g

each_length : (f : Row → Row) (rows : Rows) → length (each_row f rows) ≡ length rows
each_length f [] = refl
each_length f (r ∷ rows) = let rest = each_length f rows in omega (arith, rest)

-- rows are the same where each is
same_rows : (xs ys : Rows) → length xs ≡ length ys → ((h : ℕ) → row_at h xs ≡ row_at h ys) → xs ≡ ys
same_rows [] [] e same = refl
same_rows [] (y ∷ ys) e same = absurd (omega (arith, e))
same_rows (x ∷ xs) [] e same = absurd (omega (arith, e))
same_rows (x ∷ xs) (y ∷ ys) e same = ap (λ (r : Option Row). r ∷ xs) (same 0) ∙ ap (λ (rs : Rows). y ∷ rs) (same_rows xs ys (omega (arith, e)) (λ h. same (suc h)))

past_end : (rows : Rows) (h : ℕ) → length rows ≤ h → row_at h rows ≡ None
past_end [] h le = refl
past_end (r ∷ rows) zero le = absurd (omega (arith, le))
past_end (r ∷ rows) (suc h) le = past_end rows h (omega (arith, le))

module _ (f : Row → Row) (rows : Rows) where
  pub sweep_start : IsSweep f rows rows 0
  sweep_start = record { size = refl; done = λ h less. absurd (omega (arith, less)); rest = λ h le. refl }

  -- up to a number whose row is changed, none would become another one by it
  pub sweep_over : (now later : Rows) (from g : ℕ) → IsSweep f rows now from → from ≤ g → ((k : ℕ) → from ≤ k → k < g → option_map f (row_at k now) ≡ row_at k now) → later ≡ with_row g f now → IsSweep f rows later (g + 1)
  sweep_over now later from g sweep le skipped is = subst (λ (rs : Rows). IsSweep f rows rs (g + 1)) (sym is) (record {
    size = change_length f now g ∙ sweep.size;
    done = done;
    rest = λ h above. change_other f now g h (λ same. absurd (omega (arith, same, above))) ∙ sweep.rest h (omega (arith, above, le));
  })
    where
      done : (h : ℕ) → h < g + 1 → row_at h (with_row g f now) ≡ option_map f (row_at h rows)
      done h less = elim (equal_or h g) [
        | inl same ↦ subst (λ (k : ℕ). row_at k (with_row g f now) ≡ option_map f (row_at k rows)) (sym same) (change_here f now g ∙ ap (option_map f) (sweep.rest g le))
        | inr apart ↦ change_other f now g h apart ∙ elim (cases_lt h from) [
          | inl below ↦ sweep.done h below
          | inr above ↦ sym (skipped h above (before h g less apart)) ∙ ap (option_map f) (sweep.rest h above)
        ]
      ]
        where
          before : (h g : ℕ) → h < g + 1 → (h ≡ g → ⊥) → h < g
          before h g less apart = grind (arith, less, apart)

  -- up to a number where a row is there, none is
  pub sweep_step : (now later : Rows) (from g : ℕ) → IsSweep f rows now from → from ≤ g → ((k : ℕ) → from ≤ k → k < g → row_at k now ≡ None) → later ≡ with_row g f now → IsSweep f rows later (g + 1)
  sweep_step now later from g sweep le gone is = sweep_over now later from g sweep le (λ k low high. still k (gone k low high)) is
    where
      still : (k : ℕ) → row_at k now ≡ None → option_map f (row_at k now) ≡ row_at k now
      still k none = ap (option_map f) none ∙ sym none

  pub sweep_all : (now : Rows) (from : ℕ) → IsSweep f rows now from → ((k : ℕ) → from ≤ k → k < length now → option_map f (row_at k now) ≡ row_at k now) → now ≡ each_row f rows
  sweep_all now from sweep still = same_rows now (each_row f rows) (sweep.size ∙ sym (each_length f rows)) (λ h. at h ∙ sym (each_at f rows h))
    where
      past : (h : ℕ) → row_at h now ≡ None → option_map f (row_at h now) ≡ row_at h now
      past h none = ap (option_map f) none ∙ sym none

      at : (h : ℕ) → row_at h now ≡ option_map f (row_at h rows)
      at h = elim (cases_lt h from) [
        | inl below ↦ sweep.done h below
        | inr above ↦
            let same : option_map f (row_at h now) ≡ row_at h now = elim (cases_lt h (length now)) [ inl within ↦ still h above within | inr over ↦ past h (past_end now h over) ] in
            sym same ∙ ap (option_map f) (sweep.rest h above)
      ]

  pub sweep_end : (now : Rows) (from : ℕ) → IsSweep f rows now from → ((k : ℕ) → from ≤ k → k < length now → row_at k now ≡ None) → now ≡ each_row f rows
  sweep_end now from sweep gone = sweep_all now from sweep (λ k low high. still k (gone k low high))
    where
      still : (k : ℕ) → row_at k now ≡ None → option_map f (row_at k now) ≡ row_at k now
      still k none = ap (option_map f) none ∙ sym none
