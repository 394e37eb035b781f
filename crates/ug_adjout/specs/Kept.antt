-- A row in few bytes: numbers, and beside them which of them count. A number that doesn't count is 0.
use Rattle.std.proofs.Common.{◌≡◌, ℕ, Bool, true, false, Option, Some, None, refl, sym, ap, ◌∙◌}
use Rattle.std.specs.Prelude.{is_some, unwrap_or}
use Rattle.ug_adjout.specs.declared.row.Change.{Change}

abbrev pub where_told : Bool → ℕ → Option ℕ
where_told true value = Some value
where_told false value = None

abbrev pub change_where : Bool → ℕ → Option ℕ → Option Change
change_where true place desired = Some (record { place = place; desired = desired })
change_where false place desired = None

abbrev pub IsBlank : Bool → ℕ → Type 0
IsBlank told value = told ≡ false → value ≡ 0

pub record IsKept (is_formatted waits is_desired : Bool) (formatted desired place : ℕ) : Type 0 where
  pub formatted_blank : IsBlank is_formatted formatted
  pub desired_blank : IsBlank is_desired desired
  pub place_blank : IsBlank waits place
  pub idle : waits ≡ false → is_desired ≡ false

abbrev pub place_of : Option Change → ℕ
place_of None = 0
place_of (Some change) = change.place

abbrev pub desired_in : Option Change → Option ℕ
desired_in None = None
desired_in (Some change) = change.desired

-- ---- what is kept is told by the row

pub flag_again : (told : Bool) (value : ℕ) → is_some (where_told told value) ≡ told
flag_again true value = refl
flag_again false value = refl

pub number_again : (told : Bool) (value : ℕ) → IsBlank told value → unwrap_or (where_told told value) 0 ≡ value
number_again true value h = refl
number_again false value h = sym (h refl)

pub waits_again : (waits : Bool) (place : ℕ) (desired : Option ℕ) → is_some (change_where waits place desired) ≡ waits
waits_again true place desired = refl
waits_again false place desired = refl

pub place_again : (waits : Bool) (place : ℕ) (desired : Option ℕ) → IsBlank waits place → place_of (change_where waits place desired) ≡ place
place_again true place desired h = refl
place_again false place desired h = sym (h refl)

desire_again : (waits is_desired : Bool) (place desired : ℕ) → (waits ≡ false → is_desired ≡ false) → desired_in (change_where waits place (where_told is_desired desired)) ≡ where_told is_desired desired
desire_again true is_desired place desired h = refl
desire_again false true place desired h = absurd (let z = h refl in cc)
desire_again false false place desired h = refl

pub desired_flag_again : (waits is_desired : Bool) (place desired : ℕ) → (waits ≡ false → is_desired ≡ false) → is_some (desired_in (change_where waits place (where_told is_desired desired))) ≡ is_desired
desired_flag_again waits is_desired place desired h = ap is_some (desire_again waits is_desired place desired h) ∙ flag_again is_desired desired

pub desired_again : (waits is_desired : Bool) (place desired : ℕ) → (waits ≡ false → is_desired ≡ false) → IsBlank is_desired desired
    → unwrap_or (desired_in (change_where waits place (where_told is_desired desired))) 0 ≡ desired
desired_again waits is_desired place desired h blank = ap (λ o. unwrap_or o 0) (desire_again waits is_desired place desired h) ∙ number_again is_desired desired blank
