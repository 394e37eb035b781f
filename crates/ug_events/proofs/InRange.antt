-- The paths that a line gives can be told by messages: their values are in range.
use Rattle.std.proofs.Common.{◌≡◌, ℕ, ◌^◌, ◌<◌, Bool, true, false, List, [], ◌∷◌, Option, Some, None, Ok, Err, refl, ap, sym, ◌∙◌, subst, arith, nat_lt}
use Rattle.std.specs.Prelude.{◌==◌, ◌&&◌, not, length, unwrap_or, if◌then◌else◌}
use Rattle.std.specs.List.{list_all}
use Rattle.std.proofs.lemmas.Bool.Decides.{nat_tests}
use Rattle.ug_types.specs.declared.family.Family.{Family}
use Rattle.ug_types.specs.declared.family.Family.TheVariants.{V4}
use Rattle.ug_types.specs.Ip.{IpAddress, IpPrefix, cleared, width_of}
use Rattle.ug_types.specs.declared.attrs.Aggregator.{Aggregator}
use Rattle.ug_types.specs.Attributes.{PathSegment, Attributes, is_well_formed, numbers_in, refusal_of}
use Rattle.ug_text.specs.declared.list_reader.Spelled.TheVariants.{Community, Address}
use Rattle.ug_text.specs.Numbers.{any_number, positive_number}
use Rattle.ug_text.specs.Addresses.{address_in, ipv4_address, aggregator, family_of, prefix}
use Rattle.ug_text.specs.Paths.{numbers_as, path, origin}
use Rattle.ug_message.specs.Spellable.{is_number, is_prefix, is_address, is_aggregator, is_ipv4, has_numbers, where_there, has_ipv4_addresses, can_be_spelled}
use Rattle.ug_message.proofs.Formed.{both, and}
use Rattle.ug_events.specs.declared.field.Field.{Field}
use Rattle.ug_events.specs.declared.field.Field.TheVariants as fields
use Rattle.ug_events.specs.Events.{GivenPath, IsGiven, AreGiven, is_some_path, is_in_range, are_in_range}
use Rattle.ug_events.specs.Reads.{Reads, bad_words, refused, or_refused, each_read, ◌>>=◌}
use Rattle.ug_events.specs.Fields.{Fields, no_fields, attribute, source_of, field_of, has, with_field, with_new, with_word, attributes_from, are_ipv4, where_accepted, path_of_fields}
use Rattle.ug_events.specs.Paths.{runs, first_of, others_of, fields_of, path_of, paths_of}
use Rattle.ug_events.proofs.Runs.{runs_are}
use Rattle.ug_events.proofs.Values.{any_number_fits, positive_fits, address_fits, ipv4_fits, aggregator_fits, numbers_as_fit, path_fits, prefix_fits}

abbrev pub read_as : {A : Type 0} → A → Reads A
read_as x = Ok x

pub read_is : {A : Type 0} (x y : A) → read_as x ≡ read_as y → x ≡ y
read_is x y e = cc

pub read_first : {A B : Type 0} (r : Reads A) (f : A → Reads B) (y : B) → (r >>= f) ≡ read_as y → (x : A) × (r ≡ read_as x) × (f x ≡ read_as y)
read_first (Ok x) f y h = (x, refl, h)
read_first (Err refusal) f y h = absurd cc

pub was_there : {A : Type 0} (number : ℕ) (o : Option A) (x : A) → or_refused number o ≡ read_as x → o ≡ Some x
was_there number None x e = absurd cc
was_there number (Some y) x e = ap Some (read_is y x e)

-- ---- the fields of a path

abbrev is_identifier : ℕ → Bool
is_identifier n = nat_lt 0 n && is_number n

abbrev have_numbers : List PathSegment → Bool
have_numbers path = list_all has_numbers path

abbrev have_bits : List ℕ → Bool
have_bits ns = list_all is_number ns

identifier_fits : (text : List ℕ) (n : ℕ) → positive_number text ≡ Some n → is_identifier n ≡ true
identifier_fits text n e =
    let fits = positive_fits text n e in
    let lt : 0 < n = fits.0 in
    let positive : nat_lt 0 n ≡ true = grind (arith, nat_tests) in
    and (nat_lt 0 n) (is_number n) positive fits.1

abbrev refusal_by : Bool → Bool → Bool → Bool → Bool → Option ℕ
refusal_by p q r s t = if p then Some 1 else if q then Some 2 else if not r then Some 3 else if s then Some 4 else if t then Some 5 else None

module _ (family : Family) where
  -- each field that is there is in range
  abbrev InRange : Fields → Type 0
  InRange f =
      (where_there is_identifier f.id ≡ true)
      × (where_there (is_address family) f.next_hop ≡ true)
      × (where_there have_numbers f.path ≡ true)
      × (where_there is_number f.med ≡ true)
      × (where_there is_number f.local_pref ≡ true)
      × (where_there is_aggregator f.aggregator ≡ true)
      × (where_there have_bits f.communities ≡ true)
      × (where_there (is_address V4) f.originator ≡ true)
      × (where_there have_bits f.clusters ≡ true)

  with_field_keeps : (field : Field) (value : List ℕ) (f g : Fields) → InRange f → with_field family field value f ≡ read_as g → InRange g
  with_field_keeps fields.Id value f g h e =
      let x = read_first (attribute (positive_number value)) (λ n. Ok (record f { id = Some n })) g e in
      subst InRange (read_is (record f { id = Some x.0 }) g x.2) (identifier_fits value x.0 (was_there _ (positive_number value) x.0 x.1), h.1, h.2, h.3, h.4, h.5, h.6, h.7, h.8)
  with_field_keeps fields.From value f g h e =
      let x = read_first (source_of value) (λ from. Ok (record f { from = Some from })) g e in
      subst InRange (read_is (record f { from = Some x.0 }) g x.2) h
  with_field_keeps fields.NextHop value f g h e =
      let x = read_first (attribute (address_in family value)) (λ a. Ok (record f { next_hop = Some a })) g e in
      subst InRange (read_is (record f { next_hop = Some x.0 }) g x.2) (h.0, address_fits family value x.0 (was_there _ (address_in family value) x.0 x.1), h.2, h.3, h.4, h.5, h.6, h.7, h.8)
  with_field_keeps fields.Origin value f g h e =
      let x = read_first (attribute (origin value)) (λ n. Ok (record f { origin = Some n })) g e in
      subst InRange (read_is (record f { origin = Some x.0 }) g x.2) h
  with_field_keeps fields.AsPath value f g h e =
      let x = read_first (attribute (path value)) (λ p. Ok (record f { path = Some p })) g e in
      subst InRange (read_is (record f { path = Some x.0 }) g x.2) (h.0, h.1, path_fits value x.0 (was_there _ (path value) x.0 x.1), h.3, h.4, h.5, h.6, h.7, h.8)
  with_field_keeps fields.Med value f g h e =
      let x = read_first (attribute (any_number value)) (λ n. Ok (record f { med = Some n })) g e in
      subst InRange (read_is (record f { med = Some x.0 }) g x.2) (h.0, h.1, h.2, any_number_fits value x.0 (was_there _ (any_number value) x.0 x.1), h.4, h.5, h.6, h.7, h.8)
  with_field_keeps fields.LocalPref value f g h e =
      let x = read_first (attribute (any_number value)) (λ n. Ok (record f { local_pref = Some n })) g e in
      subst InRange (read_is (record f { local_pref = Some x.0 }) g x.2) (h.0, h.1, h.2, h.3, any_number_fits value x.0 (was_there _ (any_number value) x.0 x.1), h.5, h.6, h.7, h.8)
  with_field_keeps fields.Atomic value f g h e = subst InRange (read_is (record f { atomic = true }) g e) h
  with_field_keeps fields.Aggregator value f g h e =
      let x = read_first (attribute (aggregator value)) (λ a. Ok (record f { aggregator = Some a })) g e in
      subst InRange (read_is (record f { aggregator = Some x.0 }) g x.2) (h.0, h.1, h.2, h.3, h.4, aggregator_fits value x.0 (was_there _ (aggregator value) x.0 x.1), h.6, h.7, h.8)
  with_field_keeps fields.Communities value f g h e =
      let x = read_first (attribute (numbers_as Community value)) (λ ns. Ok (record f { communities = Some ns })) g e in
      subst InRange (read_is (record f { communities = Some x.0 }) g x.2) (h.0, h.1, h.2, h.3, h.4, h.5, numbers_as_fit Community value x.0 (was_there _ (numbers_as Community value) x.0 x.1), h.7, h.8)
  with_field_keeps fields.Originator value f g h e =
      let x = read_first (attribute (ipv4_address value)) (λ a. Ok (record f { originator = Some a })) g e in
      subst InRange (read_is (record f { originator = Some x.0 }) g x.2) (h.0, h.1, h.2, h.3, h.4, h.5, h.6, ipv4_fits value x.0 (was_there _ (ipv4_address value) x.0 x.1), h.8)
  with_field_keeps fields.Clusters value f g h e =
      let x = read_first (attribute (numbers_as Address value)) (λ ns. Ok (record f { clusters = Some ns })) g e in
      subst InRange (read_is (record f { clusters = Some x.0 }) g x.2) (h.0, h.1, h.2, h.3, h.4, h.5, h.6, h.7, numbers_as_fit Address value x.0 (was_there _ (numbers_as Address value) x.0 x.1))

  with_new_keeps : (field : Field) (value : List ℕ) (f g : Fields) → InRange f → with_new family field value f ≡ read_as g → InRange g
  with_new_keeps field value f g h e = one (has field f) e
    where
      one : (b : Bool) → (if b then refused bad_words else with_field family field value f) ≡ read_as g → InRange g
      one true e = absurd cc
      one false e = with_field_keeps field value f g h e

  with_word_keeps : (word : List ℕ) (f g : Fields) → InRange f → with_word family word f ≡ read_as g → InRange g
  unfolding with_word
  with_word_keeps word f g h e =
      let x = read_first (or_refused bad_words (field_of word)) (λ x. with_new family x.0 x.1 f) g e in
      with_new_keeps x.0.0 x.0.1 f g h x.2

  fields_of_keeps : (words : List (List ℕ)) (f g : Fields) → InRange f → fields_of family f words ≡ read_as g → InRange g
  unfolding fields_of
  fields_of_keeps [] f g h e = subst InRange (read_is f g e) h
  fields_of_keeps (word ∷ words) f g h e =
      let more = read_first (with_word family word f) (λ more. fields_of family more words) g e in
      fields_of_keeps words more.0 g (with_word_keeps word f more.0 h more.1) more.2

  -- ---- a path

  well_formed : (a : Attributes) → refusal_of a ≡ None → is_well_formed a ≡ true
  well_formed a e = one (nat_lt 300 (numbers_in a.path)) (nat_lt 16 (length a.path)) (is_well_formed a) (nat_lt 128 (length a.communities)) (nat_lt 32 (length a.clusters)) e
    where
      one : (p q r s t : Bool) → refusal_by p q r s t ≡ None → r ≡ true
      one true q r s t e = absurd cc
      one false true r s t e = absurd cc
      one false false true s t e = refl
      one false false false s t e = absurd cc

  there : {A : Type 0} (test : A → Bool) (o : Option A) (x : A) → where_there test o ≡ true → o ≡ Some x → test x ≡ true
  there test o x h e = subst (λ (p : Option _). where_there test p ≡ true) e h

  all_there : (o : Option (List ℕ)) → where_there have_bits o ≡ true → list_all is_number (unwrap_or o []) ≡ true
  all_there None h = refl
  all_there (Some ns) h = h

  spelled : (f : Fields) (origin : ℕ) (path : List PathSegment) (hop : IpAddress) → InRange f → is_well_formed (attributes_from f origin path hop) ≡ true → have_numbers path ≡ true → is_address family hop ≡ true
      → can_be_spelled family (attributes_from f origin path hop) ≡ true
  unfolding can_be_spelled
  spelled f origin path hop h formed numbers address =
      let c1 = is_well_formed (attributes_from f origin path hop) in
      let t2 = and c1 (list_all has_numbers path) formed numbers in
      let c2 = c1 && list_all has_numbers path in
      let t3 = and c2 (is_address family hop) t2 address in
      let c3 = c2 && is_address family hop in
      let t4 = and c3 (where_there is_number f.med) t3 h.3 in
      let c4 = c3 && where_there is_number f.med in
      let t5 = and c4 (where_there is_number f.local_pref) t4 h.4 in
      let c5 = c4 && where_there is_number f.local_pref in
      let t6 = and c5 (where_there is_aggregator f.aggregator) t5 h.5 in
      let c6 = c5 && where_there is_aggregator f.aggregator in
      let t7 = and c6 (list_all is_number (unwrap_or f.communities [])) t6 (all_there f.communities h.6) in
      let c7 = c6 && list_all is_number (unwrap_or f.communities []) in
      let t8 = and c7 (where_there (is_address V4) f.originator) t7 h.7 in
      and (c7 && where_there (is_address V4) f.originator) (list_all is_number (unwrap_or f.clusters [])) t8 (all_there f.clusters h.8)

  ipv4_address_is : (a : IpAddress) → is_address V4 a ≡ true → is_ipv4 a ≡ true
  ipv4_address_is a h =
      let whole = both (is_ipv4 a && (cleared (width_of V4) a.bits == a.bits)) (nat_lt a.bits (2 ^ 128)) h in
      (both (is_ipv4 a) (cleared (width_of V4) a.bits == a.bits) whole.0).0

  aggregator_is : (o : Option Aggregator) → where_there is_aggregator o ≡ true → where_there (λ (g : Aggregator). is_ipv4 g.addr) o ≡ true
  aggregator_is None h = refl
  aggregator_is (Some g) h = ipv4_address_is g.addr (both (is_number g.asn) (is_address V4 g.addr) h).1

  originator_is : (o : Option IpAddress) → where_there (is_address V4) o ≡ true → where_there is_ipv4 o ≡ true
  originator_is None h = refl
  originator_is (Some a) h = ipv4_address_is a h

  ipv4_fields : (f : Fields) → InRange f → are_ipv4 f ≡ true
  ipv4_fields f h = and (where_there (λ (g : Aggregator). is_ipv4 g.addr) f.aggregator) (where_there is_ipv4 f.originator) (aggregator_is f.aggregator h.5) (originator_is f.originator h.7)

  ipv4_attributes : (f : Fields) (origin : ℕ) (path : List PathSegment) (hop : IpAddress) → are_ipv4 f ≡ true → has_ipv4_addresses (attributes_from f origin path hop) ≡ true
  unfolding has_ipv4_addresses
  ipv4_attributes f origin path hop h = h

  -- what is known of a path that was read
  abbrev pub IsFine : GivenPath → Type 0
  IsFine g = IsGiven g × (is_in_range family g ≡ true)

  accepted : (given g : GivenPath) (o : Option ℕ) → where_accepted given o ≡ read_as g → (given ≡ g) × (o ≡ None)
  accepted given g None e = (read_is given g e, refl)
  accepted given g (Some number) e = absurd cc

  positive_of : (n : ℕ) → is_identifier n ≡ true → (0 < n) × (is_number n ≡ true)
  positive_of n h = one (nat_lt 0 n) (is_number n) refl refl h
    where
      one : (a b : Bool) → nat_lt 0 n ≡ a → is_number n ≡ b → (a && b) ≡ true → (0 < n) × (is_number n ≡ true)
      one true true p q h = (grind (arith, nat_tests), q)
      one true false p q h = absurd cc
      one false b p q h = absurd cc

  abbrev whole_path : Fields → ℕ → Option (List ℕ) → IpAddress → ℕ → List PathSegment → Reads GivenPath
  whole_path f id from hop origin path = where_accepted (record { id = id; from = from; attrs = attributes_from f origin path hop }) (refusal_of (attributes_from f origin path hop))

  accepted_fine : (f : Fields) (id : ℕ) (from : Option (List ℕ)) (hop : IpAddress) (origin : ℕ) (path : List PathSegment) (g : GivenPath) → InRange f
      → f.id ≡ Some id → f.next_hop ≡ Some hop → f.path ≡ Some path → whole_path f id from hop origin path ≡ read_as g → IsFine g
  accepted_fine f id from hop origin path g h has_id has_hop has_path e =
      let a = attributes_from f origin path hop in
      let whole = accepted (record { id = id; from = from; attrs = attributes_from f origin path hop }) g (refusal_of a) e in
      let number = positive_of id (there is_identifier f.id id h.0 has_id) in
      let fits = spelled f origin path hop h (well_formed a whole.1) (there have_numbers f.path path h.2 has_path) (there (is_address family) f.next_hop hop h.1 has_hop) in
      let ipv4 = ipv4_attributes f origin path hop (ipv4_fields f h) in
      subst IsFine whole.0 ((number.0, whole.1, ipv4), and (is_number id) (can_be_spelled family a) number.1 fits)

  path_fine : (f : Fields) (g : GivenPath) → InRange f → path_of_fields f ≡ read_as g → IsFine g
  unfolding path_of_fields
  path_fine f g h e =
      let id = read_first (or_refused bad_words f.id) _ g e in
      let from = read_first (or_refused bad_words f.from) _ g id.2 in
      let hop = read_first (or_refused bad_words f.next_hop) _ g from.2 in
      let origin = read_first (or_refused bad_words f.origin) _ g hop.2 in
      let path = read_first (or_refused bad_words f.path) (whole_path f id.0 from.0 hop.0 origin.0) g origin.2 in
      accepted_fine f id.0 from.0 hop.0 origin.0 path.0 g h (was_there bad_words f.id id.0 id.1) (was_there bad_words f.next_hop hop.0 hop.1) (was_there bad_words f.path path.0 path.1) path.2

  nothing_there : InRange no_fields
  nothing_there = (refl, refl, refl, refl, refl, refl, refl, refl, refl)

  path_of_fine : (words : List (List ℕ)) (g : GivenPath) → path_of family words ≡ read_as g → IsFine g
  path_of_fine words g e =
      let f = read_first (fields_of family no_fields words) path_of_fields g e in
      path_fine f.0 g (fields_of_keeps words no_fields f.0 nothing_there f.1) f.2

  -- ---- paths

  abbrev pub AreFine : List GivenPath → Type 0
  AreFine given = AreGiven given × (list_all (is_in_range family) given ≡ true)

  each_fine : (rs : List (List (List ℕ))) (given : List GivenPath) → each_read (path_of family) rs ≡ read_as given → AreFine given
  each_fine [] given e = subst AreFine (read_is [] given e) (tt, refl)
  each_fine (run ∷ rs) given e =
      let first = read_first (path_of family run) (λ first. each_read (path_of family) rs >>= λ more. Ok (first ∷ more)) given e in
      let more = read_first (each_read (path_of family) rs) (λ more. Ok (first.0 ∷ more)) given first.2 in
      let here = path_of_fine run first.0 first.1 in
      let rest = each_fine rs more.0 more.1 in
      subst AreFine (read_is (first.0 ∷ more.0) given more.2) ((here.0, rest.0), and (is_in_range family first.0) (list_all (is_in_range family) more.0) here.1 rest.1)

  some_of : (run : List (List ℕ)) (rs : List (List (List ℕ))) (given : List GivenPath) → each_read (path_of family) (run ∷ rs) ≡ read_as given → is_some_path given ≡ true
  some_of run rs given e =
      let first = read_first (path_of family run) (λ first. each_read (path_of family) rs >>= λ more. Ok (first ∷ more)) given e in
      let more = read_first (each_read (path_of family) rs) (λ more. Ok (first.0 ∷ more)) given first.2 in
      subst (λ (gs : List GivenPath). is_some_path gs ≡ true) (read_is (first.0 ∷ more.0) given more.2) refl

-- the fields of words have IPv4 addresses
pub words_ipv4 : (family : Family) (words : List (List ℕ)) (f : Fields) → fields_of family no_fields words ≡ read_as f → are_ipv4 f ≡ true
words_ipv4 family words f e = ipv4_fields family f (fields_of_keeps family words no_fields f (nothing_there family) e)

pub paths_fine : (family : Family) (words : List (List ℕ)) (given : List GivenPath) → paths_of family words ≡ read_as given → AreFine family given
paths_fine family words given e = each_fine family (runs words) given e

pub some_paths : (family : Family) (words : List (List ℕ)) (given : List GivenPath) → paths_of family words ≡ read_as given → is_some_path given ≡ true
some_paths family words given e =
    some_of family (first_of (runs words)) (others_of (runs words)) given (sym (ap (each_read (path_of family)) (runs_are words)) ∙ e)

-- a prefix that is read, and paths to it that a message can tell
pub event_in_range : (word : List ℕ) (p : IpPrefix) (given : List GivenPath) → prefix word ≡ Some p → list_all (is_in_range p.family) given ≡ true → are_in_range p given ≡ true
event_in_range word p given e h = and (is_prefix p.family p) (list_all (is_in_range p.family) given) (prefix_fits (family_of word) word p e) h
