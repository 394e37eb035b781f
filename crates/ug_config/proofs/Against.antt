-- What is known of tables against which there is no fault.
use Rattle.std.proofs.Common.{◌≡◌, ℕ, ◌+◌, ◌==◌, Bool, true, false, ◌||◌, List, [], ◌∷◌, ◌++◌, length, map, take, Option, Some, None, refl, ap, sym, ◌∙◌, arith, append_assoc, length-append, nat_lt}
use Rattle.std.specs.Prelude.{nat_le, not, codes}
use Rattle.std.specs.List.{list_all, list_any}
use Rattle.std.specs.Option.{option_or}
use Rattle.std.specs.Cmp.Lexicographic.{nat_list_eq_equiv}
use Rattle.std.proofs.lemmas.List.{append-nil, length-map}
use Rattle.std.proofs.lemmas.Bool.Decides.{nat_tests}
use Rattle.std.proofs.Math.Seq.{take-append_seam}
use Rattle.ug_types.specs.declared.named.Named.{Named}
use Rattle.ug_types.specs.Bytes.{same_bytes}
use Rattle.ug_policy.specs.Order.{repeats}
use Rattle.ug_world.specs.Names.{is_name_among, are_distinct}
use Rattle.ug_world.specs.Parts.{are_few, names_of}
use Rattle.ug_config.specs.Reads.{Refusal, way_into}
use Rattle.ug_config.specs.Checks.{refused_where, first_fault, repeated_name, repeated_sequence, repeated_in, over}
use Rattle.ug_config.proofs.Inverting.{both, first_of, second_of}

pub none_left : (a b : Option Refusal) → option_or a b ≡ None → a ≡ None
none_left None b h = refl
none_left (Some r) b h = absurd cc

pub none_right : (a b : Option Refusal) → option_or a b ≡ None → b ≡ None
none_right None b h = h
none_right (Some r) b h = absurd cc

pub not_refused : (b : Bool) (number : ℕ) (field : List ℕ) → refused_where b number field ≡ None → b ≡ false
not_refused false number field h = refl
not_refused true number field h = absurd cc

pub was_true : (b : Bool) → not b ≡ false → b ≡ true
was_true true h = refl
was_true false h = absurd cc

-- what holds where a check finds nothing holds of all
pub all_pass : {A : Type 0} (fault : ℕ → A → Option Refusal) (p : A → Bool) → ((place : ℕ) (x : A) → fault place x ≡ None → p x ≡ true) → (place : ℕ) (xs : List A) → first_fault fault place xs ≡ None → list_all p xs ≡ true
all_pass fault p good place [] h = refl
all_pass fault p good place (x ∷ xs) h =
    both (p x) (list_all p xs) (good place x (none_left (fault place x) (first_fault fault (place + 1) xs) h))
    (all_pass fault p good (place + 1) xs (none_right (fault place x) (first_fault fault (place + 1) xs) h))

-- ---- names that differ

or_false : (a b : Bool) → a ≡ false → b ≡ false → (a || b) ≡ false
or_false false b e f = f
or_false true b e f = absurd cc

pub left_false : (a b : Bool) → (a || b) ≡ false → a ≡ false
left_false false b e = refl
left_false true b e = absurd cc

pub right_false : (a b : Bool) → (a || b) ≡ false → b ≡ false
right_false false b e = e
right_false true b e = absurd cc

pub was_false : (b : Bool) → not b ≡ true → b ≡ false
was_false true h = absurd cc
was_false false h = refl

none_more : {A : Type 0} (p : A → Bool) (xs : List A) (x : A) → list_any p xs ≡ false → p x ≡ false → list_any p (xs ++ x ∷ []) ≡ false
none_more p [] x h e = or_false (p x) false e refl
none_more p (y ∷ ys) x h e = or_false (p y) (list_any p (ys ++ x ∷ [])) (left_false (p y) (list_any p ys) h) (none_more p ys x (right_false (p y) (list_any p ys) h) e)

distinct_more : (ns : List (List ℕ)) (x : List ℕ) → are_distinct ns ≡ true → is_name_among ns x ≡ false → are_distinct (ns ++ x ∷ []) ≡ true
distinct_more [] x h e = refl
distinct_more (n ∷ ns) x h e =
    let apart : same_bytes x n ≡ false = nat_list_eq_equiv.symm x n ∙ left_false (same_bytes n x) (is_name_among ns x) e in
    both (not (is_name_among (ns ++ x ∷ []) n)) (are_distinct (ns ++ x ∷ []))
    (ap not (none_more (λ (m : List ℕ). same_bytes m n) ns x (was_false (is_name_among ns n) (first_of (not (is_name_among ns n)) (are_distinct ns) h)) apart))
    (distinct_more ns x (second_of (not (is_name_among ns n)) (are_distinct ns) h) (right_false (same_bytes n x) (is_name_among ns x) e))

distinct_from : (array : List ℕ) (seen rest : List (List ℕ)) → first_fault (repeated_name array (seen ++ rest)) (length seen) rest ≡ None → are_distinct seen ≡ true → are_distinct (seen ++ rest) ≡ true
unfolding repeated_name
distinct_from array seen [] h good = rw append-nil good
distinct_from array seen (n ∷ rest) h good =
    let here = none_left (repeated_name array (seen ++ n ∷ rest) (length seen) n) (first_fault (repeated_name array (seen ++ n ∷ rest)) (length seen + 1) rest) h in
    let later = none_right (repeated_name array (seen ++ n ∷ rest) (length seen) n) (first_fault (repeated_name array (seen ++ n ∷ rest)) (length seen + 1) rest) h in
    let new : is_name_among (take (length seen) (seen ++ n ∷ rest)) n ≡ false = not_refused _ _ _ here in
    let apart : is_name_among seen n ≡ false = ap (λ (ns : List (List ℕ)). is_name_among ns n) (sym (take-append_seam seen (n ∷ rest))) ∙ new in
    let whole : (seen ++ n ∷ []) ++ rest ≡ seen ++ n ∷ rest = append_assoc seen (n ∷ []) rest in
    let more : length (seen ++ n ∷ []) ≡ length seen + 1 = length-append seen (n ∷ []) in
    let next : first_fault (repeated_name array ((seen ++ n ∷ []) ++ rest)) (length (seen ++ n ∷ [])) rest ≡ None =
    ap (λ (ns : List (List ℕ)). first_fault (repeated_name array ns) (length (seen ++ n ∷ [])) rest) whole ∙ ap (λ (k : ℕ). first_fault (repeated_name array (seen ++ n ∷ rest)) k rest) more ∙ later in
    sym (ap are_distinct whole) ∙ distinct_from array (seen ++ n ∷ []) rest next (distinct_more seen n good apart)

pub distinct : (array : List ℕ) (names : List (List ℕ)) → first_fault (repeated_name array names) 0 names ≡ None → are_distinct names ≡ true
distinct array names h = distinct_from array [] names h refl

pub names_pass : {E : Type 0} (seq : E → ℕ) (array : List ℕ) (names : List (List ℕ)) (place : ℕ) (xs : List (Named (List E))) → first_fault (repeated_in seq array names) place xs ≡ None → first_fault (repeated_name array names) place (names_of xs) ≡ None
unfolding repeated_in
names_pass seq array names place [] h = refl
names_pass seq array names place (x ∷ xs) h =
    let here = none_left (repeated_in seq array names place x) (first_fault (repeated_in seq array names) (place + 1) xs) h in
    let later = none_right (repeated_in seq array names place x) (first_fault (repeated_in seq array names) (place + 1) xs) h in
    let name : repeated_name array names place x.name ≡ None = none_left _ (first_fault (repeated_sequence seq (way_into array place ++ codes "entry") x.value) 0 x.value) here in
    rw name (names_pass seq array names (place + 1) xs later)

pub few : {A : Type 0} (name : A → List ℕ) (xs : List A) (array : List ℕ) → are_distinct (map name xs) ≡ true → over 64 xs array ≡ None → are_few (map name xs) ≡ true
few name xs array differ h =
    let within : nat_lt 64 (length xs) ≡ false = not_refused _ _ _ h in
    let same : length (map name xs) ≡ length xs = length-map xs name in
    both (are_distinct (map name xs)) (nat_le (length (map name xs)) 64) differ (grind (arith, nat_tests))

-- ---- sequence numbers that differ

module _ {E : Type 0} (seq : E → ℕ) where
  abbrev has_number : ℕ → E → Bool
  has_number n e = seq e == n

  symmetric : (x y : E) → has_number (seq x) y ≡ has_number (seq y) x
  symmetric x y = grind (arith, nat_tests)

  repeats_no_more : (es : List E) (x : E) → repeats seq es ≡ false → list_any (has_number (seq x)) es ≡ false → repeats seq (es ++ x ∷ []) ≡ false
  repeats_no_more [] x h none = refl
  repeats_no_more (e ∷ es) x h none =
      let other : has_number (seq e) x ≡ false = symmetric e x ∙ left_false (has_number (seq x) e) (list_any (has_number (seq x)) es) none in
      or_false (list_any (has_number (seq e)) (es ++ x ∷ [])) (repeats seq (es ++ x ∷ []))
      (none_more (has_number (seq e)) es x (left_false (list_any (has_number (seq e)) es) (repeats seq es) h) other)
      (repeats_no_more es x (right_false (list_any (has_number (seq e)) es) (repeats seq es) h) (right_false (has_number (seq x) e) (list_any (has_number (seq x)) es) none))

  unrepeated_from : (array : List ℕ) (seen rest : List E) → first_fault (repeated_sequence seq array (seen ++ rest)) (length seen) rest ≡ None → repeats seq seen ≡ false → repeats seq (seen ++ rest) ≡ false
  unfolding repeated_sequence
  unrepeated_from array seen [] h good = rw append-nil good
  unrepeated_from array seen (e ∷ rest) h good =
      let here = none_left (repeated_sequence seq array (seen ++ e ∷ rest) (length seen) e) (first_fault (repeated_sequence seq array (seen ++ e ∷ rest)) (length seen + 1) rest) h in
      let later = none_right (repeated_sequence seq array (seen ++ e ∷ rest) (length seen) e) (first_fault (repeated_sequence seq array (seen ++ e ∷ rest)) (length seen + 1) rest) h in
      let new : list_any (has_number (seq e)) (take (length seen) (seen ++ e ∷ rest)) ≡ false = not_refused _ _ _ here in
      let apart : list_any (has_number (seq e)) seen ≡ false = ap (λ (es : List E). list_any (has_number (seq e)) es) (sym (take-append_seam seen (e ∷ rest))) ∙ new in
      let whole : (seen ++ e ∷ []) ++ rest ≡ seen ++ e ∷ rest = append_assoc seen (e ∷ []) rest in
      let more : length (seen ++ e ∷ []) ≡ length seen + 1 = length-append seen (e ∷ []) in
      let next : first_fault (repeated_sequence seq array ((seen ++ e ∷ []) ++ rest)) (length (seen ++ e ∷ [])) rest ≡ None =
      ap (λ (es : List E). first_fault (repeated_sequence seq array es) (length (seen ++ e ∷ [])) rest) whole ∙ ap (λ (k : ℕ). first_fault (repeated_sequence seq array (seen ++ e ∷ rest)) k rest) more ∙ later in
      sym (ap (repeats seq) whole) ∙ unrepeated_from array (seen ++ e ∷ []) rest next (repeats_no_more seen e good apart)

  -- the entries of a list or a map have different sequence numbers
  pub unrepeated : (array : List ℕ) (names : List (List ℕ)) (place : ℕ) (x : Named (List E)) → repeated_in seq array names place x ≡ None → not (repeats seq x.value) ≡ true
  unfolding repeated_in
  unrepeated array names place x h = ap not (unrepeated_from (way_into array place ++ codes "entry") [] x.value (none_right _ _ h) refl)
