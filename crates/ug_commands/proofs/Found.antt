-- The values of a table's fields are in range, by their rows.
use Rattle.std.proofs.Common.{◌≡◌, ℕ, ◌≤◌, Bool, true, false, ◌&&◌, List, [], ◌∷◌, ◌++◌, Option, Some, None, Ok, refl, ap, sym, ◌∙◌, subst, inl, inr, ◌⊎◌, arith}
use Rattle.std.specs.Prelude.{nat_le, codes, unwrap_or, if◌then◌else◌}
use Rattle.std.specs.List.{list_all}
use Rattle.std.proofs.lemmas.Bool.Decides.{nat_tests}
use Rattle.toml.specs.Data.{Data, get, as_str, as_integer, as_table}
use Rattle.ug_types.specs.Ip.{IpAddress, ipv4}
use Rattle.ug_types.specs.declared.family.Family.{Family}
use Rattle.ug_types.specs.declared.family.Family.TheVariants.{V4}
use Rattle.ug_types.specs.Bytes.{same_bytes}
use Rattle.ug_text.specs.Cutting.{◌>>=◌ as ◌>=>◌}
use Rattle.ug_text.specs.Numbers.{community}
use Rattle.ug_text.specs.Addresses.{address_in}
use Rattle.ug_text.specs.Paths.{origin}
use Rattle.ug_message.specs.Spellable.{is_number, is_address, where_there}
use Rattle.ug_config.specs.declared.kind.Kind.TheVariants as kinds
use Rattle.ug_config.specs.declared.kind.Need.TheVariants as needs
use Rattle.ug_config.specs.declared.given.Given.{Given}
use Rattle.ug_config.specs.declared.given.Given.TheVariants as givens
use Rattle.ug_config.specs.FieldRows.{FieldRow}
use Rattle.ug_config.specs.Reads.{◌>>=◌, each_read, or_refused, missing, malformed}
use Rattle.ug_config.specs.Kinds.{natural, between, number_in, elements, each, community_in, value_as}
use Rattle.ug_config.specs.Tables.{Entry, default_of, given, entry, fields, unknown, where_known}
use Rattle.ug_config.specs.Looks.{value_at, as_number, as_octet, as_address, as_numbers}
use Rattle.ug_config.proofs.Inverting.{ok, ok_is, some_is, bound, bound_option, both}
use Rattle.ug_config.proofs.Fitting.{row_named}
use Rattle.ug_events.proofs.Values.{number_fits, community_fits, address_fits}

-- ---- a field by its row

-- what some value of the row's kind says, or what stands for one that is not there
abbrev pub IsRead : Family → FieldRow → Given → Type 0
IsRead f r v = ((d : Data) × (value_as f r.kind d ≡ Some v)) ⊎ (default_of r.need ≡ Some v)

here_or_not : (f : Family) (way : List ℕ) (r : FieldRow) (o : Option Data) (v : Given) → given f way r o ≡ ok v → IsRead f r v
here_or_not f way r None v h = one (default_of r.need) refl h
  where
    one : (o : Option Given) → default_of r.need ≡ o → or_refused missing (way ++ r.name) o ≡ ok v → IsRead f r v
    one (Some x) e h = inr (e ∙ ap Some (ok_is x v h))
    one None e h = absurd cc
here_or_not f way r (Some d) v h = one (value_as f r.kind d) refl h
  where
    one : (o : Option Given) → value_as f r.kind d ≡ o → or_refused malformed (way ++ r.name) o ≡ ok v → IsRead f r v
    one (Some x) e h = inl (d, e ∙ ap Some (ok_is x v h))
    one None e h = absurd cc

entry_read : (f : Family) (way : List ℕ) (d : Data) (r : FieldRow) (e : Entry) → entry f way d r ≡ ok e → (e.name ≡ r.name) × IsRead f r e.given
unfolding entry
entry_read f way d r e h =
    let v = bound (given f way r (get r.name d)) (λ g. Ok (record { name = r.name; given = g })) e h in
    let is : record { name = r.name; given = v.0 } ≡ e = ok_is (record { name = r.name; given = v.0 }) e v.2 in
    (sym (ap (λ (x : Entry). x.name) is), subst (λ (x : Entry). IsRead f r x.given) is (here_or_not f way r (get r.name d) v.0 v.1))

found_among : (f : Family) (way : List ℕ) (d : Data) (name : List ℕ) (rows : List FieldRow) (es : List Entry) (r : FieldRow) → each_read (entry f way d) rows ≡ ok es → row_named name rows ≡ Some r → IsRead f r (value_at name es)
found_among f way d name [] es r h there = absurd cc
found_among f way d name (q ∷ rows) es r h there =
    let e = bound (entry f way d q) (λ e. each_read (entry f way d) rows >>= λ more. Ok (e ∷ more)) es h in
    let more = bound (each_read (entry f way d) rows) (λ more. Ok (e.0 ∷ more)) es e.2 in
    let read = entry_read f way d q e.0 e.1 in
    subst (λ (xs : List Entry). IsRead f r (value_at name xs)) (ok_is (e.0 ∷ more.0) es more.2)
    (one e.0 more.0 read (same_bytes q.name name) refl there (found_among f way d name rows more.0 r more.1))
  where
    one : (e : Entry) (more : List Entry) → (e.name ≡ q.name) × IsRead f q e.given → (b : Bool) → same_bytes q.name name ≡ b → (if b then Some q else row_named name rows) ≡ Some r
        → (row_named name rows ≡ Some r → IsRead f r (value_at name more)) → IsRead f r (value_at name (e ∷ more))
    one e more read true same there next =
        let here : same_bytes e.name name ≡ true = ap (λ (n : List ℕ). same_bytes n name) read.0 ∙ same in
        rw here (subst (λ (x : FieldRow). IsRead f x e.given) (some_is q r there) read.1)
    one e more read false same there next =
        let here : same_bytes e.name name ≡ false = ap (λ (n : List ℕ). same_bytes n name) read.0 ∙ same in
        rw here (next there)

-- the value at a row's name is of that row
pub found : (f : Family) (way : List ℕ) (d : Data) (name : List ℕ) (rows : List FieldRow) (es : List Entry) (r : FieldRow) → fields f way rows d ≡ ok es → row_named name rows ≡ Some r → IsRead f r (value_at name es)
unfolding fields
found f way d name rows es r h there =
    let read = bound (each_read (entry f way d) rows) (λ entries. where_known way entries (unknown rows (as_table d))) es h in
    found_among f way d name rows es r (read.1 ∙ ap Ok (one read.0 (unknown rows (as_table d)) read.2)) there
  where
    one : (entries : List Entry) (o : Option (List ℕ)) → where_known way entries o ≡ ok es → entries ≡ es
    one entries None h = ok_is entries es h
    one entries (Some name) h = absurd cc

-- ---- values by their kinds

up_to : (n m : ℕ) → nat_le n m ≡ true → n ≤ m
up_to n m e = grind (arith, nat_tests)

number_within : (least most : ℕ) (d : Data) (n : ℕ) → number_in least most d ≡ Some n → n ≤ most
number_within least most d n h =
    let z = bound_option (as_integer d) (λ z. natural z >=> λ k. between least most k) n h in
    let k = bound_option (natural z.0) (λ k. between least most k) n z.2 in
    one k.0 (nat_le least k.0) (nat_le k.0 most) refl k.2
  where
    one : (k : ℕ) (a b : Bool) → nat_le k most ≡ b → (if a && b then Some k else None) ≡ Some n → n ≤ most
    one k true true is e = subst (λ (x : ℕ). x ≤ most) (some_is k n e) (up_to k most is)
    one k true false is e = absurd cc
    one k false b is e = absurd cc

number_read : (f : Family) (least : ℕ) (d : Data) (v : Given) → value_as f (kinds.Number least 4294967295) d ≡ Some v → is_number (unwrap_or (as_number v) 0) ≡ true
number_read f least d v h =
    let n = bound_option (number_in least 4294967295 d) (λ n. Some (givens.Number n)) v h in
    subst (λ (x : Given). is_number (unwrap_or (as_number x) 0) ≡ true) (some_is (givens.Number n.0) v n.2) (number_fits n.0 (number_within least 4294967295 d n.0 n.1))

number_there : (v : Given) → is_number (unwrap_or (as_number v) 0) ≡ true → where_there is_number (as_number v) ≡ true
number_there v h = one (as_number v) h
  where
    one : (o : Option ℕ) → is_number (unwrap_or o 0) ≡ true → where_there is_number o ≡ true
    one None h = refl
    one (Some n) h = h

address_read : (f : Family) (other : IpAddress) (d : Data) (v : Given) → value_as f kinds.Address d ≡ Some v → is_address f (unwrap_or (as_address v) other) ≡ true
address_read f other d v h =
    let text = bound_option (as_str d) (λ text. address_in f text >=> λ x. Some (givens.Address x)) v h in
    let x = bound_option (address_in f text.0) (λ x. Some (givens.Address x)) v text.2 in
    subst (λ (y : Given). is_address f (unwrap_or (as_address y) other) ≡ true) (some_is (givens.Address x.0) v x.2) (address_fits f text.0 x.0 x.1)

-- the same of an IPv4 address, where it is read as one of a table of IPv4
ipv4_read : (f : Family) (other : IpAddress) (d : Data) (v : Given) → value_as f kinds.Ipv4 d ≡ Some v → is_address V4 (unwrap_or (as_address v) other) ≡ true
ipv4_read f other d v h = address_read V4 other d v h

ipv4_there : (f : Family) (d : Data) (v : Given) → value_as f kinds.Ipv4 d ≡ Some v → where_there (is_address V4) (as_address v) ≡ true
ipv4_there f d v h =
    let text = bound_option (as_str d) (λ text. address_in V4 text >=> λ x. Some (givens.Address x)) v h in
    let x = bound_option (address_in V4 text.0) (λ x. Some (givens.Address x)) v text.2 in
    subst (λ (y : Given). where_there (is_address V4) (as_address y) ≡ true) (some_is (givens.Address x.0) v x.2) (address_fits V4 text.0 x.0 x.1)

abbrev has_meaning : ℕ → Bool
has_meaning n = nat_le n 2

origin_means : (text : List ℕ) (n : ℕ) → origin text ≡ Some n → has_meaning n ≡ true
origin_means text n h = one (same_bytes text (codes "igp")) (same_bytes text (codes "egp")) (same_bytes text (codes "incomplete")) h
  where
    one : (a b c : Bool) → (if a then Some 0 else (if b then Some 1 else (if c then Some 2 else None))) ≡ Some n → has_meaning n ≡ true
    one true b c h = subst (λ (x : ℕ). has_meaning x ≡ true) (some_is 0 n h) refl
    one false true c h = subst (λ (x : ℕ). has_meaning x ≡ true) (some_is 1 n h) refl
    one false false true h = subst (λ (x : ℕ). has_meaning x ≡ true) (some_is 2 n h) refl
    one false false false h = absurd cc

origin_there : (f : Family) (d : Data) (v : Given) → value_as f kinds.Origin d ≡ Some v → where_there has_meaning (as_octet v) ≡ true
origin_there f d v h =
    let text = bound_option (as_str d) (λ text. origin text >=> λ x. Some (givens.Octet x)) v h in
    let x = bound_option (origin text.0) (λ x. Some (givens.Octet x)) v text.2 in
    subst (λ (y : Given). where_there has_meaning (as_octet y) ≡ true) (some_is (givens.Octet x.0) v x.2) (origin_means text.0 x.0 x.1)

each_fits : (read : Data → Option ℕ) → ((d : Data) (n : ℕ) → read d ≡ Some n → is_number n ≡ true) → (ds : List Data) (ns : List ℕ) → each read ds ≡ Some ns → list_all is_number ns ≡ true
each_fits read good [] ns e = subst (λ (ys : List ℕ). list_all is_number ys ≡ true) (some_is [] ns e) refl
each_fits read good (d ∷ ds) ns e =
    let n = bound_option (read d) (λ n. each read ds >=> λ more. Some (n ∷ more)) ns e in
    let more = bound_option (each read ds) (λ more. Some (n.0 ∷ more)) ns n.2 in
    subst (λ (ys : List ℕ). list_all is_number ys ≡ true) (some_is (n.0 ∷ more.0) ns more.2)
    (both (is_number n.0) (list_all is_number more.0) (good d n.0 n.1) (each_fits read good ds more.0 more.1))

abbrev have_bits : List ℕ → Bool
have_bits ns = list_all is_number ns

numbers_there : (f : Family) (d : Data) (v : Given) → value_as f kinds.Numbers d ≡ Some v → where_there have_bits (as_numbers v) ≡ true
numbers_there f d v h =
    let ds = bound_option (elements d) (λ ds. each (number_in 1 4294967295) ds >=> λ x. Some (givens.Numbers x)) v h in
    let ns = bound_option (each (number_in 1 4294967295) ds.0) (λ x. Some (givens.Numbers x)) v ds.2 in
    subst (λ (y : Given). where_there have_bits (as_numbers y) ≡ true) (some_is (givens.Numbers ns.0) v ns.2)
    (each_fits (number_in 1 4294967295) (λ (e : Data) (n : ℕ) (is : number_in 1 4294967295 e ≡ Some n). number_fits n (number_within 1 4294967295 e n is)) ds.0 ns.0 ns.1)

community_in_fits : (d : Data) (n : ℕ) → community_in d ≡ Some n → is_number n ≡ true
community_in_fits d n h = let text = bound_option (as_str d) community n h in community_fits text.0 n text.2

communities_there : (f : Family) (d : Data) (v : Given) → value_as f kinds.Communities d ≡ Some v → where_there have_bits (as_numbers v) ≡ true
communities_there f d v h =
    let ds = bound_option (elements d) (λ ds. each community_in ds >=> λ x. Some (givens.Numbers x)) v h in
    let ns = bound_option (each community_in ds.0) (λ x. Some (givens.Numbers x)) v ds.2 in
    subst (λ (y : Given). where_there have_bits (as_numbers y) ≡ true) (some_is (givens.Numbers ns.0) v ns.2) (each_fits community_in community_in_fits ds.0 ns.0 ns.1)

-- ---- fields of a row

pub required_number : (f : Family) (name : List ℕ) (v : Given) → IsRead f (record { name = name; kind = kinds.Number 1 4294967295; need = needs.Required }) v → is_number (unwrap_or (as_number v) 0) ≡ true
required_number f name v (inl h) = number_read f 1 h.0 v h.1
required_number f name v (inr e) = absurd cc

pub required_ipv4 : (f : Family) (name : List ℕ) (v : Given) → IsRead f (record { name = name; kind = kinds.Ipv4; need = needs.Required }) v → is_address V4 (unwrap_or (as_address v) (ipv4 0)) ≡ true
required_ipv4 f name v (inl h) = ipv4_read f (ipv4 0) h.0 v h.1
required_ipv4 f name v (inr e) = absurd cc

pub required_address : (f : Family) (name : List ℕ) (v : Given) → IsRead f (record { name = name; kind = kinds.Address; need = needs.Required }) v → is_address f (unwrap_or (as_address v) (ipv4 0)) ≡ true
required_address f name v (inl h) = address_read f (ipv4 0) h.0 v h.1
required_address f name v (inr e) = absurd cc

-- an address that is there, or else another one
pub address_or : (f : Family) (name : List ℕ) (other : IpAddress) (v : Given) → is_address V4 other ≡ true → IsRead f (record { name = name; kind = kinds.Ipv4; need = needs.Optional }) v → is_address V4 (unwrap_or (as_address v) other) ≡ true
address_or f name other v good (inl h) = ipv4_read f other h.0 v h.1
address_or f name other v good (inr e) = subst (λ (x : Given). is_address V4 (unwrap_or (as_address x) other) ≡ true) (some_is givens.Absent v e) good

pub optional_ipv4 : (f : Family) (name : List ℕ) (v : Given) → IsRead f (record { name = name; kind = kinds.Ipv4; need = needs.Optional }) v → where_there (is_address V4) (as_address v) ≡ true
optional_ipv4 f name v (inl h) = ipv4_there f h.0 v h.1
optional_ipv4 f name v (inr e) = subst (λ (x : Given). where_there (is_address V4) (as_address x) ≡ true) (some_is givens.Absent v e) refl

pub optional_number : (f : Family) (name : List ℕ) (v : Given) → IsRead f (record { name = name; kind = kinds.Number 0 4294967295; need = needs.Optional }) v → where_there is_number (as_number v) ≡ true
optional_number f name v (inl h) = number_there v (number_read f 0 h.0 v h.1)
optional_number f name v (inr e) = subst (λ (x : Given). where_there is_number (as_number x) ≡ true) (some_is givens.Absent v e) refl

pub optional_origin : (f : Family) (name : List ℕ) (v : Given) → IsRead f (record { name = name; kind = kinds.Origin; need = needs.Optional }) v → where_there (λ (n : ℕ). nat_le n 2) (as_octet v) ≡ true
optional_origin f name v (inl h) = origin_there f h.0 v h.1
optional_origin f name v (inr e) = subst (λ (x : Given). where_there has_meaning (as_octet x) ≡ true) (some_is givens.Absent v e) refl

pub optional_numbers : (f : Family) (name : List ℕ) (v : Given) → IsRead f (record { name = name; kind = kinds.Numbers; need = needs.Optional }) v → where_there (list_all is_number) (as_numbers v) ≡ true
optional_numbers f name v (inl h) = numbers_there f h.0 v h.1
optional_numbers f name v (inr e) = subst (λ (x : Given). where_there have_bits (as_numbers x) ≡ true) (some_is givens.Absent v e) refl

pub optional_communities : (f : Family) (name : List ℕ) (v : Given) → IsRead f (record { name = name; kind = kinds.Communities; need = needs.Optional }) v → where_there (list_all is_number) (as_numbers v) ≡ true
optional_communities f name v (inl h) = communities_there f h.0 v h.1
optional_communities f name v (inr e) = subst (λ (x : Given). where_there have_bits (as_numbers x) ≡ true) (some_is givens.Absent v e) refl
