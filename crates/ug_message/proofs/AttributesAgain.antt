-- Attributes that were written are read again.
use Rattle.std.proofs.Common.{◌≡◌, ℕ, ◌+◌, ◌^◌, ◌<◌, ◌≤◌, Bool, true, false, nat_lt, List, ◌∷◌, ◌++◌, length, take, drop, Result, Ok, Err, refl, ap, ◌∙◌, arith, length-append}
use Rattle.std.specs.Prelude.{if◌then◌else◌, slice_index}
use Rattle.std.specs.Int.{w16, to_be_bytes}
use Rattle.std.proofs.lemmas.Bool.{le-ltb}
use Rattle.std.proofs.lemmas.List.{take_at, drop_at}
use Rattle.byteorder.specs.Endian.{big_number}
use Rattle.byteorder.specs.Numbers.{big_number-reads_back}
use Rattle.ug_types.specs.declared.family.Family.{Family}
use Rattle.ug_message.specs.Attribute.{Attribute, has, head_size, value_size, attribute_at, attribute}
use Rattle.ug_message.specs.Kind.{ReadSoFar}
use Rattle.ug_message.specs.Walking.{at, ◌>>=◌, walk}
use Rattle.ug_message.specs.AttributesRead.{with_attribute, one_attribute, attribute_step}
use Rattle.ug_message.proofs.Walks.{walk_on}

abbrev found_by : Bool → Bool → ℕ → ℕ → ℕ → List ℕ → Result Attribute ℕ
found_by headless cut flags type place value = if headless then Err 1 else if cut then Err 1 else Ok (record { flags = flags; type = type; place = place; value = value })

at_by : (place : ℕ) (bytes value : List ℕ) (head : ℕ) → head_size bytes ≡ head → value_size bytes ≡ length value → head + length value ≤ length bytes → take (length value) (drop head bytes) ≡ value
    → attribute_at place bytes ≡ Ok (record { flags = slice_index bytes 0; type = slice_index bytes 1; place = place + head; value = value })
unfolding attribute_at
at_by place bytes value head h v le is =
    let there : nat_lt (length bytes) (head_size bytes) ≡ false = le-ltb _ _ (omega (arith, h)) in
    let whole : nat_lt (length bytes) (head_size bytes + value_size bytes) ≡ false = le-ltb _ _ (omega (arith, h, v)) in
    let shown : take (value_size bytes) (drop (head_size bytes) bytes) ≡ value =
    ap (λ (n : ℕ). take n (drop (head_size bytes) bytes)) v ∙ ap (λ (n : ℕ). take (length value) (drop n bytes)) h ∙ is in
    ap (λ (b : Bool). found_by b (nat_lt (length bytes) (head_size bytes + value_size bytes)) (slice_index bytes 0) (slice_index bytes 1) (place + head_size bytes) (take (value_size bytes) (drop (head_size bytes) bytes))) there
    ∙ ap (λ (b : Bool). found_by false b (slice_index bytes 0) (slice_index bytes 1) (place + head_size bytes) (take (value_size bytes) (drop (head_size bytes) bytes))) whole
    ∙ ap (λ (x : List ℕ). found_by false false (slice_index bytes 0) (slice_index bytes 1) (place + head_size bytes) x) shown
    ∙ ap (λ (n : ℕ). found_by false false (slice_index bytes 0) (slice_index bytes 1) (place + n) value) h

record Found (place : ℕ) (bytes : List ℕ) (a : Attribute) (size : ℕ) : Type 0 where
  is : attribute_at place bytes ≡ Ok a
  sized : head_size bytes + value_size bytes ≡ size

found_long : (flags type place : ℕ) (value rest : List ℕ) → has (flags + 16) 16 ≡ true → length value < 2 ^ 16
    → Found place (((flags + 16) ∷ type ∷ (to_be_bytes w16 (length value) ++ value)) ++ rest) (record { flags = flags + 16; type = type; place = place + 4; value = value }) (4 + length value)
found_long flags type place value rest ext small =
    let bytes = ((flags + 16) ∷ type ∷ (to_be_bytes w16 (length value) ++ value)) ++ rest in
    let head : head_size bytes ≡ 4 = ap (λ (b : Bool). if b then 4 else 3) ext in
    let size : value_size bytes ≡ length value = ap (λ (b : Bool). if b then big_number 2 (drop 2 bytes) else slice_index bytes 2) ext ∙ big_number-reads_back 2 (length value) (value ++ rest) small in
    record { is = at_by place bytes value 4 head size (omega (arith, length-append value rest)) (take_at value rest (length value) refl); sized = omega (arith, head, size) }

found_short : (flags type place : ℕ) (value rest : List ℕ) → has flags 16 ≡ false → Found place ((flags ∷ type ∷ length value ∷ value) ++ rest) (record { flags = flags; type = type; place = place + 3; value = value }) (3 + length value)
found_short flags type place value rest ext =
    let bytes = (flags ∷ type ∷ length value ∷ value) ++ rest in
    let head : head_size bytes ≡ 3 = ap (λ (b : Bool). if b then 4 else 3) ext in
    let size : value_size bytes ≡ length value = ap (λ (b : Bool). if b then big_number 2 (drop 2 bytes) else length value) ext in
    record { is = at_by place bytes value 3 head size (omega (arith, length-append value rest)) (take_at value rest (length value) refl); sized = omega (arith, head, size) }

step_by : (family : Family) (text rest : List ℕ) (a : Attribute) (r next : ReadSoFar) (place : ℕ) → 1 ≤ length text → Found place (text ++ rest) a (length text) → with_attribute family a r ≡ Ok next
    → walk (attribute_step family) 0 place r (text ++ rest) ≡ walk (attribute_step family) 0 (place + length text) next rest
unfolding one_attribute
step_by family text rest a r next place some found w =
    let bytes = text ++ rest in
    let one : one_attribute family place r bytes ≡ Ok (next, length text) =
    ap (λ (x : Result Attribute ℕ). x >>= λ a. (with_attribute family a r >>= λ n. Ok (n, head_size bytes + value_size bytes))) found.is
    ∙ ap (λ (x : Result ReadSoFar ℕ). x >>= λ n. Ok (n, head_size bytes + value_size bytes)) w ∙ ap (λ (n : ℕ). Ok (next, n)) found.sized in
    walk_on (attribute_step family) (length text) place r next bytes some (omega (arith, length-append text rest)) (ap (λ (x : Result (ReadSoFar × ℕ) ℕ). at place x) one)
    ∙ ap (λ (b : List ℕ). walk (attribute_step family) 0 (place + length text) next b) (drop_at text rest (length text) refl)

-- flags as the writer has them
pub record AreWritten (flags : ℕ) : Type 0 where
  pub plain : has flags 16 ≡ false
  pub extended : has (flags + 16) 16 ≡ true

-- an attribute that is read, with a length of one byte or of two and wherever its value stands, gives next
pub record Gives (family : Family) (flags type : ℕ) (value : List ℕ) (r : ReadSoFar) (next : ℕ → ReadSoFar) : Type 0 where
  pub short : (place : ℕ) → with_attribute family (record { flags = flags; type = type; place = place; value = value }) r ≡ Ok (next place)
  pub long : (place : ℕ) → with_attribute family (record { flags = flags + 16; type = type; place = place; value = value }) r ≡ Ok (next place)

-- from some bytes on, up to the rest of them, with the value at some place
pub record Taken (family : Family) (text rest : List ℕ) (r : ReadSoFar) (next : ℕ → ReadSoFar) (place : ℕ) : Type 0 where
  pub value : ℕ
  pub same : walk (attribute_step family) 0 place r (text ++ rest) ≡ walk (attribute_step family) 0 (place + length text) (next value) rest

taken_by : (is_long : Bool) (family : Family) (flags type : ℕ) (value rest : List ℕ) (r : ReadSoFar) (next : ℕ → ReadSoFar) (place : ℕ) → AreWritten flags → length value < 2 ^ 16
    → Gives family flags type value r next
    → Taken family (if is_long then (flags + 16) ∷ type ∷ (to_be_bytes w16 (length value) ++ value) else flags ∷ type ∷ length value ∷ value) rest r next place
taken_by true family flags type value rest r next place f small g =
    let text = (flags + 16) ∷ type ∷ (to_be_bytes w16 (length value) ++ value) in
    let found = found_long flags type place value rest f.extended small in
    record {
      value = place + 4;
      same =
          step_by family text rest (record { flags = flags + 16; type = type; place = place + 4; value = value }) r (next (place + 4)) place (omega arith)
          (record { is = found.is; sized = found.sized ∙ omega arith }) (g.long (place + 4));
    }
taken_by false family flags type value rest r next place f small g =
    let text = flags ∷ type ∷ length value ∷ value in
    let found = found_short flags type place value rest f.plain in
    record {
      value = place + 3;
      same =
          step_by family text rest (record { flags = flags; type = type; place = place + 3; value = value }) r (next (place + 3)) place (omega arith)
          (record { is = found.is; sized = found.sized ∙ omega arith }) (g.short (place + 3));
    }

pub taken : (family : Family) (flags type : ℕ) (value rest : List ℕ) (r : ReadSoFar) (next : ℕ → ReadSoFar) (place : ℕ) → AreWritten flags → length value < 2 ^ 16
    → Gives family flags type value r next → Taken family (attribute flags type value) rest r next place
unfolding attribute
taken family flags type value rest r next place f small g = taken_by (nat_lt 255 (length value)) family flags type value rest r next place f small g
