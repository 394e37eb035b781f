-- A walk goes on behind what a step took.
use Rattle.std.proofs.Common.{◌≡◌, ℕ, zero, suc, ◌+◌, ◌-◌, ◌<◌, ◌≤◌, List, [], ◌∷◌, ◌++◌, length, drop, Result, Ok, Err, refl, sym, ap, ◌∙◌, arith}
use Rattle.std.proofs.lemmas.List.{drop-drop}
use Rattle.ug_message.specs.Walking.{◌>>=◌, walk, with_one}

abbrev Step : Type 0 → Type 0 → Type 0
Step S E = ℕ → S → List ℕ → Result (S × ℕ) E

skipped : {S E : Type 0} (step : Step S E) (n place : ℕ) (so_far : S) (bytes : List ℕ) → n ≤ length bytes
    → walk step n place so_far bytes ≡ walk step 0 (place + n) so_far (drop n bytes)
skipped step zero place so_far bytes le = ap (λ (p : ℕ). walk step 0 p so_far bytes) (omega arith)
skipped step (suc n) place so_far [] le = absurd (omega arith)
skipped step (suc n) place so_far (b ∷ bytes) le =
    skipped step n (place + 1) so_far bytes (omega arith) ∙ ap (λ (p : ℕ). walk step 0 p so_far (drop n bytes)) (omega arith)

-- behind a step that took some bytes, from the bytes of that place on
pub walk_on : {S E : Type 0} (step : Step S E) (n place : ℕ) (so_far next : S) (bytes : List ℕ) → 1 ≤ n → n ≤ length bytes → step place so_far bytes ≡ Ok (next, n)
    → walk step 0 place so_far bytes ≡ walk step 0 (place + n) next (drop n bytes)
walk_on {S} {E} step zero place so_far next bytes some le is = absurd (omega arith)
walk_on {S} {E} step (suc n) place so_far next [] some le is = absurd (omega arith)
walk_on {S} {E} step (suc n) place so_far next (b ∷ bytes) some le is =
    ap (λ (r : Result (S × ℕ) E). r >>= λ x. walk step (x.1 - 1) (place + 1) x.0 bytes) is
    ∙ ap (λ (k : ℕ). walk step k (place + 1) next bytes) (omega arith)
    ∙ skipped step n (place + 1) next bytes (omega arith) ∙ ap (λ (p : ℕ). walk step 0 p next (drop n bytes)) (omega arith)

pub walk_fault : {S E : Type 0} (step : Step S E) (place : ℕ) (so_far : S) (e : E) (bytes : List ℕ) → 0 < length bytes → step place so_far bytes ≡ Err e
    → walk step 0 place so_far bytes ≡ Err e
walk_fault step place so_far e [] some is = absurd (omega arith)
walk_fault step place so_far e (b ∷ bytes) some is = rw is refl

-- ---- the same along all bytes, of which `rest` are those that are left after some are gone

pub walk_from : {S E : Type 0} (step : Step S E) (n place next_place gone : ℕ) (so_far next : S) (bytes rest : List ℕ) → next_place ≡ place + n → rest ≡ drop gone bytes
    → 1 ≤ n → n ≤ length rest → step place so_far rest ≡ Ok (next, n)
    → walk step 0 next_place next (drop (gone + n) bytes) ≡ walk step 0 place so_far (drop gone bytes)
walk_from {S} {E} step n place next_place gone so_far next bytes rest on left some le is =
    ap (λ (p : ℕ). walk step 0 p next (drop (gone + n) bytes)) on
    ∙ ap (λ (r : List ℕ). walk step 0 (place + n) next r) (sym (drop-drop n gone bytes) ∙ ap (λ (r : List ℕ). drop n r) (sym left))
    ∙ sym (walk_on step n place so_far next rest some le is) ∙ ap (λ (r : List ℕ). walk step 0 place so_far r) left

pub walk_stops : {S E : Type 0} (step : Step S E) (place gone : ℕ) (so_far : S) (e : E) (bytes rest : List ℕ) → rest ≡ drop gone bytes → 0 < length rest
    → step place so_far rest ≡ Err e → walk step 0 place so_far (drop gone bytes) ≡ Err e
walk_stops {S} {E} step place gone so_far e bytes rest left some is =
    ap (λ (r : List ℕ). walk step 0 place so_far r) (sym left) ∙ walk_fault step place so_far e rest some is

-- one thing more was read, and put at the end
pub collect_from : {A E : Type 0} (one : ℕ → List ℕ → Result (A × ℕ) E) (n place next_place gone : ℕ) (x : A) (so_far done : List A) (bytes rest : List ℕ) → next_place ≡ place + n → rest ≡ drop gone bytes
    → 1 ≤ n → n ≤ length rest → one place rest ≡ Ok (x, n) → done ≡ so_far ++ x ∷ []
    → walk (with_one one) 0 next_place done (drop (gone + n) bytes) ≡ walk (with_one one) 0 place so_far (drop gone bytes)
collect_from {A} {E} one n place next_place gone x so_far done bytes rest on left some le is put =
    ap (λ (so_far : List A). walk (with_one one) 0 next_place so_far (drop (gone + n) bytes)) put
    ∙ walk_from (with_one one) n place next_place gone so_far (so_far ++ x ∷ []) bytes rest on left some le (ap (λ (r : Result (A × ℕ) E). r >>= λ x. Ok (so_far ++ x.0 ∷ [], x.1)) is)

pub collect_stops : {A E : Type 0} (one : ℕ → List ℕ → Result (A × ℕ) E) (place gone : ℕ) (so_far : List A) (e : E) (bytes rest : List ℕ) → rest ≡ drop gone bytes → 0 < length rest
    → one place rest ≡ Err e → walk (with_one one) 0 place so_far (drop gone bytes) ≡ Err e
collect_stops {A} {E} one place gone so_far e bytes rest left some is =
    walk_stops (with_one one) place gone so_far e bytes rest left some (ap (λ (r : Result (A × ℕ) E). r >>= λ x. Ok (so_far ++ x.0 ∷ [], x.1)) is)
