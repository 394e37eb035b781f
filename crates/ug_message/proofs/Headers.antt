-- What a header without fault says, and that it lies in the first 19 bytes.
use Rattle.std.proofs.Common.{◌≡◌, ℕ, ◌≤◌, ◌==◌, Bool, true, false, not, ◌&&◌, ◌||◌, nat_le, List, take, Option, Some, None, refl, sym, ap, ◌∙◌, arith, lit≤, lit<}
use Rattle.std.specs.Prelude.{if◌then◌else◌}
use Rattle.std.proofs.lemmas.Bool.Decides.{nat_tests}
use Rattle.std.specs.List.{list_all}
use Rattle.ug_types.specs.declared.capabilities.Capabilities.{Capabilities}
use Rattle.std.proofs.lemmas.List.{take-take, get_or-take, get_or-drop}
use Rattle.ug_types.specs.Sessions.{message_limit}
use Rattle.ug_message.specs.Walking.{Fault, fault}
use Rattle.ug_message.specs.Reading.{is_marked, is_size, message_size, message_type, header_fault}

both : (a b : Bool) → (a && b) ≡ true → (a ≡ true) × (b ≡ true)
both true true e = (refl, refl)
both true false e = absurd cc
both false b e = absurd cc

record Three (a b c : Bool) : Type 0 where
  one : a ≡ true
  two : b ≡ true
  three : c ≡ true

all_three : (a b c : Bool) (f g h : Fault) → (if not a then Some f else if not b then Some g else if not c then Some h else None) ≡ None → Three a b c
all_three true true true f g h e = record { one = refl; two = refl; three = refl }
all_three true true false f g h e = absurd cc
all_three true false c f g h e = absurd cc
all_three false b c f g h e = absurd cc

sized : (update refresh : Bool) (size : ℕ) → (if update then nat_le 23 size else if refresh then size == 23 else true) ≡ true → (update || refresh) ≡ true → 23 ≤ size
sized true refresh size e known = grind (arith, nat_tests)
sized false true size e known = grind (arith, nat_tests)
sized false false size e known = absurd cc

pub body_size : (c : Capabilities) (bytes : List ℕ) → header_fault c bytes ≡ None → 23 ≤ message_size bytes
unfolding header_fault is_size
body_size c bytes e =
    let type = message_type bytes in
    let size = message_size bytes in
    let parts = all_three (is_marked bytes) (is_size c type size) ((type == 2) || (type == 5)) (fault 1 0) (fault 2 16) (fault 3 18) e in
    let fits = both (nat_le 19 size && nat_le size (message_limit c)) (if type == 2 then nat_le 23 size else if type == 5 then size == 23 else true) parts.two in
    sized (type == 2) (type == 5) size fits.1 parts.three

-- ---- only the first 19 bytes count

size_front : (bytes : List ℕ) → message_size (take 19 bytes) ≡ message_size bytes
size_front bytes =
    omega (arith, get_or-drop 16 (take 19 bytes) 0 0, get_or-drop 16 (take 19 bytes) 1 0, get_or-drop 16 bytes 0 0, get_or-drop 16 bytes 1 0, get_or-take 19 bytes 16 0 (lit< tt), get_or-take 19 bytes 17 0 (lit< tt))

marked_front : (bytes : List ℕ) → is_marked (take 19 bytes) ≡ is_marked bytes
marked_front bytes = ap (λ (b : List ℕ). list_all (λ n. n == 255) b) (take-take 16 19 bytes (lit≤ tt))

type_front : (bytes : List ℕ) → message_type (take 19 bytes) ≡ message_type bytes
type_front bytes = get_or-take 19 bytes 18 0 (lit< tt)

abbrev header_by : Capabilities → Bool → ℕ → ℕ → Option Fault
header_by c marked size type =
    if not marked then Some (fault 1 0)
    else if not (is_size c type size) then Some (fault 2 16)
    else if not ((type == 2) || (type == 5)) then Some (fault 3 18)
    else None

header_front : (c : Capabilities) (bytes : List ℕ) → header_fault c (take 19 bytes) ≡ header_fault c bytes
unfolding header_fault
header_front c bytes =
    ap (λ (marked : Bool). header_by c marked (message_size (take 19 bytes)) (message_type (take 19 bytes))) (marked_front bytes)
    ∙ ap (λ (size : ℕ). header_by c (is_marked bytes) size (message_type (take 19 bytes))) (size_front bytes)
    ∙ ap (λ (type : ℕ). header_by c (is_marked bytes) (message_size bytes) type) (type_front bytes)

-- bytes with the same first 19 have the same header
pub same_size : (one other : List ℕ) → take 19 one ≡ take 19 other → message_size one ≡ message_size other
same_size one other e = sym (size_front one) ∙ ap (λ (b : List ℕ). message_size b) e ∙ size_front other

pub same_header : (c : Capabilities) (one other : List ℕ) → take 19 one ≡ take 19 other → header_fault c one ≡ header_fault c other
same_header c one other e = sym (header_front c one) ∙ ap (λ (b : List ℕ). header_fault c b) e ∙ header_front c other

pub same_type : (one other : List ℕ) → take 19 one ≡ take 19 other → message_type one ≡ message_type other
same_type one other e = sym (type_front one) ∙ ap (λ (b : List ℕ). message_type b) e ∙ type_front other

pub known_type : (c : Capabilities) (bytes : List ℕ) → header_fault c bytes ≡ None → ((message_type bytes == 2) || (message_type bytes == 5)) ≡ true
unfolding header_fault
known_type c bytes e =
    let type = message_type bytes in
    let parts = all_three (is_marked bytes) (is_size c type (message_size bytes)) ((type == 2) || (type == 5)) (fault 1 0) (fault 2 16) (fault 3 18) e in
    parts.three
