-- A message that was written is read again.
use Rattle.std.proofs.Common.{◌≡◌, ℕ, ◌+◌, ◌^◌, ◌<◌, ◌==◌, Bool, true, false, ◌||◌, not, nat_lt, List, [], ◌∷◌, ◌++◌, length, take, drop, Option, Some, None, Result, Ok, Err, refl, sym, ap, ◌∙◌, arith, append_assoc, length-append, lit<}
use Rattle.std.specs.Prelude.{if◌then◌else◌}
use Rattle.std.specs.List.{list_all}
use Rattle.std.proofs.lemmas.Bool.{le-ltb}
use Rattle.std.proofs.lemmas.Bool.Decides.{nat_tests}
use Rattle.std.proofs.lemmas.List.{take_at, drop_at, drop-drop, append-nil}
use Rattle.std.specs.Int.{w16, w128, to_be_bytes}
use Rattle.byteorder.specs.Endian.{big_number}
use Rattle.byteorder.specs.Numbers.{big_number-reads_back}
use Rattle.ug_types.specs.declared.family.Family.{Family}
use Rattle.ug_types.specs.declared.family.Family.TheVariants.{V4, V6}
use Rattle.ug_types.specs.declared.capabilities.Capabilities.{Capabilities}
use Rattle.ug_types.specs.declared.key.Key.{Key}
use Rattle.ug_types.specs.Attributes.{Attributes}
use Rattle.ug_types.specs.Messages.{Changes}
use Rattle.ug_message.specs.Spelling.{route, routes, attributes, attributes_but_next_hop, mp_reach_nlri, mp_unreach_nlri}
use Rattle.ug_message.specs.Spellable.{is_route}
use Rattle.ug_message.specs.Texts.{framed, field, withdrawing, announcing}
use Rattle.ug_message.specs.Walking.{Fault, ◌>>=◌, walk, with_one}
use Rattle.ug_message.specs.Kind.{Placed}
use Rattle.ug_message.specs.AttributesRead.{Multiprotocol, has_routes, read_attributes}
use Rattle.ug_message.specs.Reading.{size_at, message_size, is_size, header_fault, Parts, parts_in, one_route, route_read, routes_in, attributes_read, placed_routes, ipv4_changes, ipv6_changes, changes_in, read_update}
use Rattle.ug_message.proofs.Formed.{both, IsSpellable}
use Rattle.ug_message.proofs.RoutesAgain.{route_again, route_some}
use Rattle.ug_message.proofs.Heads.{length_parts}
use Rattle.ug_message.proofs.ShortValues.{short_values, short_but_next_hop}
use Rattle.ug_message.proofs.AllAgain.{attributes_again, announced_again, withdrawn_again}
use Rattle.ug_message.proofs.Walks.{walk_on}

-- ---- routes

one_again : (family : Family) (add_path : Bool) (place : ℕ) (key : Key) (rest : List ℕ) → is_route family add_path key ≡ true
    → one_route family add_path place (route add_path key ++ rest) ≡ Ok (key, length (route add_path key))
one_again family add_path place key rest h = ap (λ (r : Result (Key × ℕ) ℕ). route_read add_path place r) (route_again family add_path key rest h)

routes_walk : (family : Family) (add_path : Bool) (keys so_far : List Key) (place : ℕ) → list_all (is_route family add_path) keys ≡ true
    → walk (with_one (one_route family add_path)) 0 place so_far (routes add_path keys) ≡ Ok (so_far ++ keys)
routes_walk family add_path [] so_far place h = ap (λ (k : List Key). Ok k) (sym (append-nil so_far))
routes_walk family add_path (key ∷ keys) so_far place h =
    let parts = both (is_route family add_path key) (list_all (is_route family add_path) keys) h in
    let text = route add_path key in
    let rest = routes add_path keys in
    let size = length text in
    let one : with_one (one_route family add_path) place so_far (text ++ rest) ≡ Ok (so_far ++ key ∷ [], size) =
    ap (λ (r : Result (Key × ℕ) Fault). r >>= λ x. Ok (so_far ++ x.0 ∷ [], x.1)) (one_again family add_path place key rest parts.0) in
    walk_on (with_one (one_route family add_path)) size place so_far (so_far ++ key ∷ []) (text ++ rest) (route_some add_path key) (omega (arith, length-append text rest)) one
    ∙ ap (λ (b : List ℕ). walk (with_one (one_route family add_path)) 0 (place + size) (so_far ++ key ∷ []) b) (drop_at text rest size refl)
    ∙ routes_walk family add_path keys (so_far ++ key ∷ []) (place + size) parts.1 ∙ ap (λ (k : List Key). Ok k) (append_assoc so_far (key ∷ []) keys)

pub routes_again : (family : Family) (add_path : Bool) (keys : List Key) (place : ℕ) → list_all (is_route family add_path) keys ≡ true → routes_in family add_path place (routes add_path keys) ≡ Ok keys
routes_again family add_path keys place h = routes_walk family add_path keys [] place h

-- ---- the header

pub length_framed : (type : ℕ) (body : List ℕ) → length (framed type body) ≡ 19 + length body
unfolding framed
length_framed type body = omega arith

pub size_framed : (type : ℕ) (body : List ℕ) → 19 + length body < 2 ^ 16 → message_size (framed type body) ≡ 19 + length body
unfolding framed
size_framed type body small = big_number-reads_back 2 (19 + length body) (type ∷ body) small

abbrev header_by : Bool → Bool → Option Fault
header_by sized known = if not sized then Some (record { number = 2; place = 16 }) else if not known then Some (record { number = 3; place = 18 }) else None

pub header_framed : (c : Capabilities) (type : ℕ) (body : List ℕ) → 19 + length body < 2 ^ 16 → is_size c type (19 + length body) ≡ true → ((type == 2) || (type == 5)) ≡ true
    → header_fault c (framed type body) ≡ None
unfolding header_fault framed
header_framed c type body small sized known =
    ap (λ (n : ℕ). header_by (is_size c type n) ((type == 2) || (type == 5))) (big_number-reads_back 2 (19 + length body) (type ∷ body) small)
    ∙ ap (λ (b : Bool). header_by b ((type == 2) || (type == 5))) sized ∙ ap (λ (b : Bool). header_by true b) known

-- ---- the parts

abbrev body_of : List ℕ → List ℕ → List ℕ → List ℕ
body_of w a n = field w ++ (field a ++ n)

drop_19 : (body : List ℕ) → drop 19 (framed 2 body) ≡ body
unfolding framed
drop_19 body = refl

first_size : (w a n : List ℕ) → length w < 2 ^ 16 → size_at 19 (framed 2 (body_of w a n)) ≡ length w
first_size w a n small = ap (λ (b : List ℕ). big_number 2 b) (drop_19 (body_of w a n)) ∙ big_number-reads_back 2 (length w) (w ++ (field a ++ n)) small

drop_21 : (w a n : List ℕ) → drop 21 (framed 2 (body_of w a n)) ≡ w ++ (field a ++ n)
unfolding framed
drop_21 w a n = refl

drop_to_field : (w a n : List ℕ) → drop (21 + length w) (framed 2 (body_of w a n)) ≡ field a ++ n
drop_to_field w a n =
    sym (drop-drop (length w) 21 (framed 2 (body_of w a n))) ∙ ap (λ (b : List ℕ). drop (length w) b) (drop_21 w a n) ∙ drop_at w (field a ++ n) (length w) refl

drop_to_attributes : (w a n : List ℕ) → drop (23 + length w) (framed 2 (body_of w a n)) ≡ a ++ n
drop_to_attributes w a n =
    ap (λ (k : ℕ). drop k (framed 2 (body_of w a n))) (omega arith) ∙ sym (drop-drop 2 (21 + length w) (framed 2 (body_of w a n))) ∙ ap (λ (b : List ℕ). drop 2 b) (drop_to_field w a n)

second_size : (w a n : List ℕ) → length a < 2 ^ 16 → size_at (21 + length w) (framed 2 (body_of w a n)) ≡ length a
second_size w a n small = ap (λ (b : List ℕ). big_number 2 b) (drop_to_field w a n) ∙ big_number-reads_back 2 (length a) (a ++ n) small

drop_to_announced : (w a n : List ℕ) → drop (23 + length w + length a) (framed 2 (body_of w a n)) ≡ n
drop_to_announced w a n =
    sym (drop-drop (length a) (23 + length w) (framed 2 (body_of w a n))) ∙ ap (λ (b : List ℕ). drop (length a) b) (drop_to_attributes w a n) ∙ drop_at a n (length a) refl

abbrev parts_by : List ℕ → ℕ → ℕ → Result Parts Fault
parts_by m w a =
    if nat_lt (length m) (23 + w) then Err (record { number = 4; place = 19 })
    else if nat_lt (length m) (23 + w + a) then Err (record { number = 5; place = 21 + w })
    else Ok (record { withdrawn = take w (drop 21 m); attributes = take a (drop (23 + w) m); announced = drop (23 + w + a) m })

abbrev parts_from : Bool → Bool → ℕ → List ℕ → List ℕ → List ℕ → Result Parts Fault
parts_from first second field w a n =
    if first then Err (record { number = 4; place = 19 }) else if second then Err (record { number = 5; place = field }) else Ok (record { withdrawn = w; attributes = a; announced = n })

parts_end : (w a n : List ℕ) → parts_by (framed 2 (body_of w a n)) (length w) (length a) ≡ Ok (record { withdrawn = w; attributes = a; announced = n })
parts_end w a n =
    let m = framed 2 (body_of w a n) in
    let len : length m ≡ 23 + length w + length a + length n = omega (arith, length_framed 2 (body_of w a n), length-append w (field a ++ n), length-append a n) in
    let one : nat_lt (length m) (23 + length w) ≡ false = le-ltb _ _ (omega arith) in
    let two : nat_lt (length m) (23 + length w + length a) ≡ false = le-ltb _ _ (omega arith) in
    let w_is : take (length w) (drop 21 m) ≡ w = ap (λ (b : List ℕ). take (length w) b) (drop_21 w a n) ∙ take_at w (field a ++ n) (length w) refl in
    let a_is : take (length a) (drop (23 + length w) m) ≡ a = ap (λ (b : List ℕ). take (length a) b) (drop_to_attributes w a n) ∙ take_at a n (length a) refl in
    let field_at = 21 + length w in
    let ws = take (length w) (drop 21 m) in
    let ats = take (length a) (drop (23 + length w) m) in
    let ns = drop (23 + length w + length a) m in
    ap (λ (b : Bool). parts_from b (nat_lt (length m) (23 + length w + length a)) field_at ws ats ns) one
    ∙ ap (λ (b : Bool). parts_from false b field_at ws ats ns) two ∙ ap (λ (x : List ℕ). parts_from false false field_at x ats ns) w_is
    ∙ ap (λ (x : List ℕ). parts_from false false field_at w x ns) a_is ∙ ap (λ (x : List ℕ). parts_from false false field_at w a x) (drop_to_announced w a n)

parts_are : (m : List ℕ) → parts_in m ≡ parts_by m (size_at 19 m) (size_at (21 + size_at 19 m) m)
unfolding parts_in
parts_are m = refl

parts_again : (w a n : List ℕ) → length w < 2 ^ 16 → length a < 2 ^ 16 → parts_in (framed 2 (body_of w a n)) ≡ Ok (record { withdrawn = w; attributes = a; announced = n })
parts_again w a n w_small a_small =
    let m = framed 2 (body_of w a n) in
    parts_are m ∙ ap (λ (k : ℕ). parts_by m k (size_at (21 + k) m)) (first_size w a n w_small) ∙ ap (λ (k : ℕ). parts_by m (length w) k) (second_size w a n a_small) ∙ parts_end w a n

-- ---- an UPDATE

update_by : (c : Capabilities) (w a n : List ℕ) → length w < 2 ^ 16 → length a < 2 ^ 16
    → read_update c (framed 2 (body_of w a n)) ≡ changes_in c.family c.add_path (record { withdrawn = w; attributes = a; announced = n })
unfolding read_update
update_by c w a n w_small a_small = ap (λ (r : Result Parts Fault). r >>= changes_in c.family c.add_path) (parts_again w a n w_small a_small)

no_attributes : read_attributes false [] ≡ Ok None
unfolding read_attributes
no_attributes = refl

abbrev withdrawn_only : List Key → Changes
withdrawn_only keys = record { withdrawn = keys; attrs = None; announced = [] }

abbrev announced_only : Attributes → List Key → Changes
announced_only a keys = record { withdrawn = []; attrs = Some a; announced = keys }

above_none : (n : ℕ) → 0 < n → nat_lt 0 n ≡ true
above_none n lt = grind (arith, nat_tests)

some_routes : (add_path : Bool) (key : Key) (keys : List Key) → nat_lt 0 (length (routes add_path (key ∷ keys))) ≡ true
some_routes add_path key keys =
    let some = route_some add_path key in
    let all : 0 < length (routes add_path (key ∷ keys)) = omega (arith, length-append (route add_path key) (routes add_path keys)) in
    above_none (length (routes add_path (key ∷ keys))) all

-- of IPv4

ipv4_withdrawing : (add_path : Bool) (keys : List Key) → list_all (is_route V4 add_path) keys ≡ true
    → ipv4_changes add_path (record { withdrawn = routes add_path keys; attributes = []; announced = [] }) ≡ Ok (withdrawn_only keys)
unfolding ipv4_changes
ipv4_withdrawing add_path keys h =
    let w = routes add_path keys in
    ap (λ (r : Result (List Key) Fault). r >>= λ withdrawn. (attributes_read (21 + length w) (read_attributes false []) >>= λ attrs. Ok (withdrawn_only withdrawn))) (routes_again V4 add_path keys 21 h)
    ∙ ap (λ (r : Result (Option Attributes) Fault). attributes_read (21 + length w) r >>= λ attrs. Ok (withdrawn_only keys)) no_attributes

ipv4_announcing : (add_path : Bool) (a : Attributes) (key : Key) (keys : List Key) → IsSpellable V4 a → list_all (is_route V4 add_path) (key ∷ keys) ≡ true → length (attributes a) < 2 ^ 16
    → ipv4_changes add_path (record { withdrawn = []; attributes = attributes a; announced = routes add_path (key ∷ keys) }) ≡ Ok (announced_only a (key ∷ keys))
unfolding ipv4_changes
ipv4_announcing add_path a key keys s h small =
    let text = attributes a in
    let n = routes add_path (key ∷ keys) in
    let place = 23 + 0 + length text in
    let read : Bool → Result Changes Fault = λ need. (attributes_read 21 (read_attributes need text) >>= λ attrs. (routes_in V4 add_path place n >>= λ announced. Ok (record { withdrawn = []; attrs = if need then attrs else None; announced = announced }))) in
    ap read (some_routes add_path key keys)
    ∙ ap (λ (r : Result (Option Attributes) Fault). attributes_read 21 r >>= λ attrs. (routes_in V4 add_path place n >>= λ announced. Ok (record { withdrawn = []; attrs = attrs; announced = announced }))) (attributes_again true a s (short_values a (omega arith)))
    ∙ ap (λ (r : Result (List Key) Fault). r >>= λ announced. Ok (announced_only a announced)) (routes_again V4 add_path (key ∷ keys) place h)

-- of IPv6

abbrev changes_from : Bool → Multiprotocol → Placed → Placed → Result Changes Fault
changes_from add_path found withdrawn announced = do
  w ← placed_routes add_path withdrawn
  n ← placed_routes add_path announced
  Ok (record { withdrawn = w; attrs = if has_routes announced then found.attrs else None; announced = n })

abbrev found_changes : Bool → Result Multiprotocol Fault → Result Changes Fault
found_changes add_path read = do
  found ← attributes_read 21 read
  changes_from add_path found found.withdrawn found.announced

ipv6_withdrawing : (add_path : Bool) (keys : List Key) → list_all (is_route V6 add_path) keys ≡ true → length (mp_unreach_nlri (routes add_path keys)) < 2 ^ 16
    → ipv6_changes add_path (record { withdrawn = []; attributes = mp_unreach_nlri (routes add_path keys); announced = [] }) ≡ Ok (withdrawn_only keys)
unfolding ipv6_changes mp_unreach_nlri
ipv6_withdrawing add_path keys h small =
    let again = withdrawn_again (routes add_path keys) (omega (arith, length_parts 128 15 (0 ∷ 2 ∷ 1 ∷ routes add_path keys))) in
    let found = again.0 in
    let facts = again.2 in
    ap (found_changes add_path) again.1
    ∙ ap (λ (p : Placed). changes_from add_path found found.withdrawn p) facts.announced
    ∙ ap (λ (r : Result (List Key) Fault). r >>= λ w. Ok (withdrawn_only w))
    (ap (λ (bytes : List ℕ). routes_in V6 add_path (23 + found.withdrawn.place) bytes) facts.withdrawn ∙ routes_again V6 add_path keys (23 + found.withdrawn.place) h)

ipv6_announcing : (add_path : Bool) (a : Attributes) (key : Key) (keys : List Key) → IsSpellable V6 a → list_all (is_route V6 add_path) (key ∷ keys) ≡ true
    → length (attributes_but_next_hop a ++ mp_reach_nlri a.next_hop (routes add_path (key ∷ keys))) < 2 ^ 16
    → ipv6_changes add_path (record { withdrawn = []; attributes = attributes_but_next_hop a ++ mp_reach_nlri a.next_hop (routes add_path (key ∷ keys)); announced = [] }) ≡ Ok (announced_only a (key ∷ keys))
unfolding ipv6_changes mp_reach_nlri
ipv6_announcing add_path a key keys s h small =
    let n = routes add_path (key ∷ keys) in
    let last = mp_reach_nlri a.next_hop n in
    let len = length-append (attributes_but_next_hop a) last in
    let again = announced_again a n s (short_but_next_hop a (omega arith)) (omega (arith, length_parts 128 14 (0 ∷ 2 ∷ 1 ∷ 16 ∷ (to_be_bytes w128 a.next_hop.bits ++ 0 ∷ n)))) in
    let found = again.0 in
    let facts = again.2 in
    let place = 23 + found.announced.place in
    ap (found_changes add_path) again.1
    ∙ ap (λ (p : Placed). changes_from add_path found p found.announced) facts.withdrawn
    ∙ ap (λ (bytes : List ℕ). routes_in V6 add_path place bytes >>= λ n. Ok (record { withdrawn = []; attrs = if nat_lt 0 (length bytes) then found.attrs else None; announced = n })) facts.announced
    ∙ ap (λ (b : Bool). routes_in V6 add_path place n >>= λ n. Ok (record { withdrawn = []; attrs = if b then found.attrs else None; announced = n })) (some_routes add_path key keys)
    ∙ ap (λ (attrs : Option Attributes). routes_in V6 add_path place n >>= λ n. Ok (record { withdrawn = []; attrs = attrs; announced = n })) facts.attrs
    ∙ ap (λ (r : Result (List Key) Fault). r >>= λ n. Ok (announced_only a n)) (routes_again V6 add_path (key ∷ keys) place h)

-- of both

withdrawing_by : (family : Family) (add_path extended : Bool) (keys : List Key) → list_all (is_route family add_path) keys ≡ true → length (withdrawing family (routes add_path keys)) < 2 ^ 16
    → read_update (record { family = family; add_path = add_path; extended = extended }) (framed 2 (withdrawing family (routes add_path keys))) ≡ Ok (withdrawn_only keys)
withdrawing_by V4 add_path extended keys h small =
    let w = routes add_path keys in
    update_by (record { family = V4; add_path = add_path; extended = extended }) w [] [] (omega (arith, length-append w (field []))) (lit< tt) ∙ ipv4_withdrawing add_path keys h
withdrawing_by V6 add_path extended keys h small =
    let text = mp_unreach_nlri (routes add_path keys) in
    let c : Capabilities = record { family = V6; add_path = add_path; extended = extended } in
    ap (λ (b : List ℕ). read_update c (framed 2 (field [] ++ (to_be_bytes w16 (length text) ++ b)))) (sym (append-nil text))
    ∙ update_by c [] text [] (lit< tt) (omega arith) ∙ ipv6_withdrawing add_path keys h (omega arith)

pub update_withdrawing : (c : Capabilities) (keys : List Key) → list_all (is_route c.family c.add_path) keys ≡ true → length (withdrawing c.family (routes c.add_path keys)) < 2 ^ 16
    → read_update c (framed 2 (withdrawing c.family (routes c.add_path keys))) ≡ Ok (withdrawn_only keys)
update_withdrawing c keys h small = withdrawing_by c.family c.add_path c.extended keys h small

announcing_by : (family : Family) (add_path extended : Bool) (a : Attributes) (key : Key) (keys : List Key) → IsSpellable family a → list_all (is_route family add_path) (key ∷ keys) ≡ true
    → length (announcing family a (routes add_path (key ∷ keys))) < 2 ^ 16
    → read_update (record { family = family; add_path = add_path; extended = extended }) (framed 2 (announcing family a (routes add_path (key ∷ keys)))) ≡ Ok (announced_only a (key ∷ keys))
announcing_by V4 add_path extended a key keys s h small =
    let text = attributes a in
    let n = routes add_path (key ∷ keys) in
    let short : length text < 2 ^ 16 = omega (arith, length-append text n) in
    update_by (record { family = V4; add_path = add_path; extended = extended }) [] text n (lit< tt) short ∙ ipv4_announcing add_path a key keys s h short
announcing_by V6 add_path extended a key keys s h small =
    let text = attributes_but_next_hop a ++ mp_reach_nlri a.next_hop (routes add_path (key ∷ keys)) in
    let c : Capabilities = record { family = V6; add_path = add_path; extended = extended } in
    let short : length text < 2 ^ 16 = omega arith in
    ap (λ (b : List ℕ). read_update c (framed 2 (field [] ++ (to_be_bytes w16 (length text) ++ b)))) (sym (append-nil text))
    ∙ update_by c [] text [] (lit< tt) short ∙ ipv6_announcing add_path a key keys s h short

pub update_announcing : (c : Capabilities) (a : Attributes) (key : Key) (keys : List Key) → IsSpellable c.family a → list_all (is_route c.family c.add_path) (key ∷ keys) ≡ true
    → length (announcing c.family a (routes c.add_path (key ∷ keys))) < 2 ^ 16
    → read_update c (framed 2 (announcing c.family a (routes c.add_path (key ∷ keys)))) ≡ Ok (announced_only a (key ∷ keys))
update_announcing c a key keys s h small = announcing_by c.family c.add_path c.extended a key keys s h small
