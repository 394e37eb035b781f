-- One step of a key.
use Rattle.std.proofs.Common.{◌≡◌, inl, inr, ℕ, ◌+◌, Bool, true, false, List, Option, Some, None, refl, sym, ap, subst, ◌∙◌, arith}
use Rattle.std.specs.Prelude.{is_some, IsSome, IfSome, nat_eq, if◌then◌else◌}
use Rattle.std.specs.Option.{option_eq}
use Rattle.std.specs.Ordering.{nat_cmp}
use Rattle.std.specs.Map.{remove_entry}
use Rattle.std.specs.BTreeMap.{insert_entry, is_at}
use Rattle.std.specs.Cmp.{IsTotalOrder}
use Rattle.std.specs.FinMap.{IsAntisymmetric}
use Rattle.std.specs.declared.cmp.Ordering.{Ordering}
use Rattle.ug_adjout.specs.Tables.{value_at, with_value}
use Rattle.ug_adjout.specs.TableLaws.{with_value-same}
use Rattle.ug_adjout.specs.Pending.{with_desired, with_formatted}
use Rattle.ug_adjout.specs.declared.row.Row.{Row}
use Rattle.ug_adjout.specs.declared.row.Change.{Change}
use Rattle.ug_adjout.specs.declared.waiting.Waiting.{Waiting}
use Rattle.ug_adjout.specs.declared.step.Step.{Step}
use Rattle.ug_adjout.specs.declared.step.Step.TheVariants.{Want, Format}
use Rattle.ug_adjout.specs.Seats.{HaveRows}
use Rattle.ug_adjout.specs.Stored.{IsStored, IsRow, IsRowBy, IsFree, is_owed, is_forced, pends, of_row, formatted_of, desired_of, with_change, quiet, adj_of}
use Rattle.ug_adjout.specs.Stepped.{known, makes_row, wanted_by, formatted_by, stepped, wanted_in, formatted_in, lined, IsReadyBy, IsReady}
use Rattle.ug_adjout.proofs.Steps.{Agree, IsSound, stored, next_free, agree_free, agree_listed, place_before}
use Rattle.ug_adjout.proofs.Views.{option_same, idle_owes, idle_desired, waiting_desired, pends_none, pends_quiet, want_same, want_begin, want_change, want_end, view_formatted, keys_end}

-- ---- the step keeps rows and list together

-- each key that waits has a row
pub have_rows : {K : Type 0} {cmp : K → K → Ordering} {rows : List (K × Row)} {waiting : List (ℕ × Waiting K)} {next : ℕ} → IsStored cmp rows waiting next → HaveRows cmp rows waiting
have_rows s = λ place w e. ap is_some (s.known place w e).1

quiet_agrees : {K : Type 0} (key : K) (place : ℕ) (w : Option ℕ) → Agree key place (quiet w) None
quiet_agrees key place None = tt
quiet_agrees key place (Some v) = refl

quiet_sound : (w : Option ℕ) → IsSound (quiet w)
quiet_sound None = tt
quiet_sound (Some v) = (refl, refl)

-- a row that waits for nothing
quiet_row : (row : Row) → row.change ≡ None → IsRow row → quiet row.formatted ≡ Some row
quiet_row row e s = by row.formatted refl
  where
    idle : IsRowBy row None
    idle = subst (IsRowBy row) e s

    by : (f : Option ℕ) → row.formatted ≡ f → quiet f ≡ Some row
    by None h = absurd (let z = sym idle.0 ∙ ap is_some h in cc)
    by (Some v) h = λ i. Some (record { formatted = sym h i; forced = sym idle.1 i; change = sym e i })

module _ {K : Type 0} {cmp : K → K → Ordering} (total : IsTotalOrder cmp) (exact : IsAntisymmetric cmp)
    (rows : List (K × Row)) (waiting : List (ℕ × Waiting K)) (next : ℕ) (s : IsStored cmp rows waiting next) where
  -- a place is skipped
  later : IsStored cmp rows waiting (next + 1)
  later = record {
    ordered = s.ordered;
    in_line = s.in_line;
    sound = s.sound;
    listed = s.listed;
    known = s.known;
    before = λ place w e. let lt = s.before place w e in omega (arith, lt);
  }

  module _ (key : K) (row : Row) (is : value_at cmp rows key ≡ Some row) where
    same_rows : with_value cmp rows key (Some row) ≡ rows
    same_rows = with_value-same total exact rows key (Some row) s.ordered is

    there : IsSome (value_at cmp rows key)
    there = ap is_some is

    as_it_is : row.change ≡ None → with_value cmp rows key (quiet row.formatted) ≡ rows
    as_it_is e = ap (with_value cmp rows key) (quiet_row row e (s.sound key row is)) ∙ same_rows

    says : (change : Change) → row.change ≡ Some change → IfSome (value_at cmp rows key) (λ r. r.change ≡ Some change)
    says change e = subst (λ o. IfSome o (λ r. r.change ≡ Some change)) (sym is) e

    ready_format : IsReady Format key row waiting
    ready_format = by row.change refl
      where
        by : (c : Option Change) → row.change ≡ c → IsReadyBy Format key c waiting
        by None e = tt
        by (Some change) e = s.listed key row change is e

    module _ (w : Option ℕ) where
      abbrev want : Change
      want = record { place = next; desired = w }

      ready_want : IsReady (Want want) key row waiting
      ready_want = by row.change refl
        where
          by : (c : Option Change) → row.change ≡ c → IsReadyBy (Want want) key c waiting
          by None e = next_free rows waiting next s key
          by (Some change) e = s.listed key row change is e

      want_stored : IsStored cmp (with_value cmp rows key (stepped (Want want) row)) (lined (Want want) key row waiting) (next + 1)
      want_stored = by row.change refl
        where
          idle : (b : Bool) → option_eq nat_eq row.formatted w ≡ b → row.change ≡ None
              → IsStored cmp (with_value cmp rows key (if b then quiet row.formatted else Some (with_change row next w))) (if b then waiting else insert_entry nat_cmp waiting next (record { key = key; value = w })) (next + 1)
          idle true t e = subst (λ l. IsStored cmp l waiting (next + 1)) (sym (as_it_is e)) later
          idle false t e =
              stored total exact rows waiting next s key next (agree_free rows waiting next s key (subst IsFree (sym is) e)) (Some (with_change row next w)) (Some (record { key = key; value = w }))
              (refl, refl) (idle_owes row.formatted w row.forced t) (next + 1) (inr refl) (λ _. omega arith)

          busy : (change : Change) (b : Bool) → is_owed row.formatted w row.forced ≡ b → row.change ≡ Some change
              → IsStored cmp (with_value cmp rows key (if b then Some (with_change row change.place w) else quiet row.formatted))
              (if b then insert_entry nat_cmp waiting change.place (record { key = key; value = w }) else remove_entry (is_at (nat_cmp change.place)) waiting) (next + 1)
          busy change true t e =
              let lt = place_before rows waiting next s key change there (says change e) in
              stored total exact rows waiting next s key change.place (agree_listed rows waiting next s key change there (says change e)) (Some (with_change row change.place w))
              (Some (record { key = key; value = w })) (refl, refl) t (next + 1) (inr refl) (λ _. omega (arith, lt))
          busy change false t e =
              stored total exact rows waiting next s key change.place (agree_listed rows waiting next s key change there (says change e)) (quiet row.formatted) None
              (quiet_agrees key change.place row.formatted) (quiet_sound row.formatted) (next + 1) (inr refl) (λ some. absurd cc)

          by : (c : Option Change) → row.change ≡ c → IsStored cmp (with_value cmp rows key (wanted_by row want c)) (wanted_in key row want c waiting) (next + 1)
          by None e = idle (option_eq nat_eq row.formatted w) refl e
          by (Some change) e = busy change (is_owed row.formatted w row.forced) refl e

      want_view : adj_of (with_value cmp rows key (stepped (Want want) row)) (lined (Want want) key row waiting) ≡ with_desired cmp nat_eq (adj_of rows waiting) key w
      want_view = by row.change refl
        where
          idle : (b : Bool) → option_eq nat_eq row.formatted w ≡ b → row.change ≡ None
              → adj_of (with_value cmp rows key (if b then quiet row.formatted else Some (with_change row next w))) (if b then waiting else insert_entry nat_cmp waiting next (record { key = key; value = w }))
              ≡ with_desired cmp nat_eq (adj_of rows waiting) key w
          idle true t e =
              ap (λ l. adj_of l waiting) (as_it_is e)
              ∙ want_same total exact rows waiting next s key w (ap (of_row desired_of) is ∙ idle_desired row e ∙ option_same row.formatted w t)
          idle false t e =
              want_begin total exact rows waiting next s key w row (ap (of_row formatted_of) is) (ap is_forced is) (ap pends is ∙ ap is_some e) (idle_owes row.formatted w row.forced t)

          busy : (change : Change) (b : Bool) → is_owed row.formatted w row.forced ≡ b → row.change ≡ Some change
              → adj_of (with_value cmp rows key (if b then Some (with_change row change.place w) else quiet row.formatted))
              (if b then insert_entry nat_cmp waiting change.place (record { key = key; value = w }) else remove_entry (is_at (nat_cmp change.place)) waiting)
              ≡ with_desired cmp nat_eq (adj_of rows waiting) key w
          busy change true t e = want_change total exact rows waiting next s key w row change is e t
          busy change false t e = want_end total exact rows waiting next s key w row change is e t

          by : (c : Option Change) → row.change ≡ c → adj_of (with_value cmp rows key (wanted_by row want c)) (wanted_in key row want c waiting) ≡ with_desired cmp nat_eq (adj_of rows waiting) key w
          by None e = idle (option_eq nat_eq row.formatted w) refl e
          by (Some change) e = busy change (is_owed row.formatted w row.forced) refl e

    format_stored : IsStored cmp (with_value cmp rows key (stepped Format row)) (lined Format key row waiting) next
    format_stored = by row.change refl
      where
        by : (c : Option Change) → row.change ≡ c → IsStored cmp (with_value cmp rows key (formatted_by row c)) (formatted_in c waiting) next
        by None e = subst (λ l. IsStored cmp l waiting next) (sym (as_it_is e)) s
        by (Some change) e =
            stored total exact rows waiting next s key change.place (agree_listed rows waiting next s key change there (says change e)) (quiet change.desired) None
            (quiet_agrees key change.place change.desired) (quiet_sound change.desired) next (inl refl) (λ some. absurd cc)

    format_view : pends (value_at cmp rows key) ≡ true → adj_of (with_value cmp rows key (stepped Format row)) (lined Format key row waiting) ≡ with_formatted cmp nat_eq (adj_of rows waiting) key
    format_view waits = by row.change refl
      where
        by : (c : Option Change) → row.change ≡ c → adj_of (with_value cmp rows key (formatted_by row c)) (formatted_in c waiting) ≡ with_formatted cmp nat_eq (adj_of rows waiting) key
        by None e = absurd (pends_quiet (value_at cmp rows key) row waits is e)
        by (Some change) e =
            let d : of_row desired_of (value_at cmp rows key) ≡ change.desired = ap (of_row desired_of) is ∙ waiting_desired row change e in
            ap (λ z. adj_of (with_value cmp rows key (quiet z)) (remove_entry (is_at (nat_cmp change.place)) waiting)) (sym d)
            ∙ view_formatted total exact rows waiting next s key _ (keys_end total exact rows waiting next s key row change is e)

-- ---- whether there is a row or not

module _ {K : Type 0} {cmp : K → K → Ordering} (total : IsTotalOrder cmp) (exact : IsAntisymmetric cmp)
    (rows : List (K × Row)) (waiting : List (ℕ × Waiting K)) (next : ℕ) (s : IsStored cmp rows waiting next) (key : K) where
  abbrev row_at : Option Row
  row_at = value_at cmp rows key

  still_none : row_at ≡ None → remove_entry (is_at (cmp key)) rows ≡ rows
  still_none e = with_value-same total exact rows key None s.ordered e

  module _ (w : Option ℕ) where
    abbrev wants : Option ℕ → Step
    wants v = Want (record { place = next; desired = v })

    pub wanting : IsReady (wants w) key (known row_at) waiting
    wanting = by row_at refl
      where
        by : (o : Option Row) → row_at ≡ o → IsReady (wants w) key (known o) waiting
        by None e = next_free rows waiting next s key
        by (Some row) e = ready_want total exact rows waiting next s key row e w

    pub want_kept : IsStored cmp (with_value cmp rows key (stepped (wants w) (known row_at))) (lined (wants w) key (known row_at) waiting) (next + 1)
    want_kept = by row_at refl
      where
        first : (v : Option ℕ) → row_at ≡ None → IsStored cmp (with_value cmp rows key (stepped (wants v) (known None))) (lined (wants v) key (known None) waiting) (next + 1)
        first None e = subst (λ l. IsStored cmp l waiting (next + 1)) (sym (still_none e)) (later total exact rows waiting next s)
        first (Some v) e =
            stored total exact rows waiting next s key next (agree_free rows waiting next s key (subst IsFree (sym e) tt)) (Some (with_change (known None) next (Some v)))
            (Some (record { key = key; value = Some v })) (refl, refl) refl (next + 1) (inr refl) (λ _. omega arith)

        by : (o : Option Row) → row_at ≡ o → IsStored cmp (with_value cmp rows key (stepped (wants w) (known o))) (lined (wants w) key (known o) waiting) (next + 1)
        by None e = first w e
        by (Some row) e = want_stored total exact rows waiting next s key row e w

    pub want_told : adj_of (with_value cmp rows key (stepped (wants w) (known row_at))) (lined (wants w) key (known row_at) waiting) ≡ with_desired cmp nat_eq (adj_of rows waiting) key w
    want_told = by row_at refl
      where
        first : (v : Option ℕ) → row_at ≡ None
            → adj_of (with_value cmp rows key (stepped (wants v) (known None))) (lined (wants v) key (known None) waiting) ≡ with_desired cmp nat_eq (adj_of rows waiting) key v
        first None e = ap (λ l. adj_of l waiting) (still_none e) ∙ want_same total exact rows waiting next s key None (ap (of_row desired_of) e)
        first (Some v) e = want_begin total exact rows waiting next s key (Some v) (known None) (ap (of_row formatted_of) e) (ap is_forced e) (ap pends e) refl

        by : (o : Option Row) → row_at ≡ o
            → adj_of (with_value cmp rows key (stepped (wants w) (known o))) (lined (wants w) key (known o) waiting) ≡ with_desired cmp nat_eq (adj_of rows waiting) key w
        by None e = first w e
        by (Some row) e = want_view total exact rows waiting next s key row e w

  pub formatting : IsReady Format key (known row_at) waiting
  formatting = by row_at refl
    where
      by : (o : Option Row) → row_at ≡ o → IsReady Format key (known o) waiting
      by None e = tt
      by (Some row) e = ready_format total exact rows waiting next s key row e

  pub format_kept : IsStored cmp (with_value cmp rows key (stepped Format (known row_at))) (lined Format key (known row_at) waiting) next
  format_kept = by row_at refl
    where
      by : (o : Option Row) → row_at ≡ o → IsStored cmp (with_value cmp rows key (stepped Format (known o))) (lined Format key (known o) waiting) next
      by None e = subst (λ l. IsStored cmp l waiting next) (sym (still_none e)) s
      by (Some row) e = format_stored total exact rows waiting next s key row e

  pub format_told : pends row_at ≡ true → adj_of (with_value cmp rows key (stepped Format (known row_at))) (lined Format key (known row_at) waiting) ≡ with_formatted cmp nat_eq (adj_of rows waiting) key
  format_told waits = by row_at refl
    where
      by : (o : Option Row) → row_at ≡ o → adj_of (with_value cmp rows key (stepped Format (known o))) (lined Format key (known o) waiting) ≡ with_formatted cmp nat_eq (adj_of rows waiting) key
      by None e = absurd (pends_none row_at waits e)
      by (Some row) e = format_view total exact rows waiting next s key row e waits

module _ {K : Type 0} {cmp : K → K → Ordering} (total : IsTotalOrder cmp) (exact : IsAntisymmetric cmp)
    (rows : List (K × Row)) (waiting : List (ℕ × Waiting K)) (next : ℕ) (s : IsStored cmp rows waiting next) (key : K) where
  -- nothing changes where the key doesn't wait
  pub format_nothing : (known (value_at cmp rows key)).change ≡ None
      → (with_value cmp rows key (stepped Format (known (value_at cmp rows key))) ≡ rows) × (lined Format key (known (value_at cmp rows key)) waiting ≡ waiting)
  format_nothing idle = by (value_at cmp rows key) refl idle
    where
      by : (o : Option Row) → value_at cmp rows key ≡ o → (known o).change ≡ None → (with_value cmp rows key (stepped Format (known o)) ≡ rows) × (lined Format key (known o) waiting ≡ waiting)
      by None e h = (with_value-same total exact rows key None s.ordered e, refl)
      by (Some row) e h = (
        ap (λ c. with_value cmp rows key (formatted_by row c)) h ∙ ap (with_value cmp rows key) (quiet_row row h (s.sound key row e)) ∙ with_value-same total exact rows key (Some row) s.ordered e,
        ap (λ c. formatted_in c waiting) h,
      )

pub told_waits : (o : Option Row) → is_some (known o).change ≡ pends o
told_waits None = refl
told_waits (Some row) = refl

pub told_formatted : (o : Option Row) → (known o).formatted ≡ of_row formatted_of o
told_formatted None = refl
told_formatted (Some row) = refl

pub told_desired : (o : Option Row) → desired_of (known o) ≡ of_row desired_of o
told_desired None = refl
told_desired (Some row) = refl

pub makes_none : (step : Step) → makes_row step ≡ false → stepped step (known None) ≡ None
makes_none (Want want) m = by want.desired m
  where
    by : (d : Option ℕ) → is_some d ≡ false → wanted_by (known None) (record { place = want.place; desired = d }) None ≡ None
    by None h = refl
    by (Some v) h = absurd cc
makes_none Format m = refl

-- a row that is made says nothing of what was formatted, and isn't forced
pub made_row : (step : Step) → makes_row step ≡ true → (row : Row) × (stepped step (known None) ≡ Some row) × (row.formatted ≡ None) × (row.forced ≡ false)
made_row (Want want) m = by want.desired m
  where
    by : (d : Option ℕ) → is_some d ≡ true → (row : Row) × (wanted_by (known None) (record { place = want.place; desired = d }) None ≡ Some row) × (row.formatted ≡ None) × (row.forced ≡ false)
    by None h = absurd cc
    by (Some v) h = (with_change (known None) want.place (Some v), refl, refl, refl)
made_row Format m = absurd cc
