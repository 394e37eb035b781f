-- What a field that was read is known to be, by its row.
use Rattle.std.proofs.Common.{◌≡◌, ℕ, Bool, true, false, ◌&&◌, List, [], ◌∷◌, ◌++◌, Option, Some, None, Ok, refl, ap, sym, ◌∙◌, subst, inl, inr, ◌⊎◌}
use Rattle.std.specs.Prelude.{nat_le, not, codes, if◌then◌else◌}
use Rattle.toml.specs.Data.{Data, get, as_str, as_integer, as_bool}
use Rattle.ug_types.specs.Ip.{IpAddress, IpPrefix, same_family, prefix_of, width_of, cleared}
use Rattle.ug_types.specs.Names.{is_name}
use Rattle.ug_types.specs.declared.family.Family.{Family}
use Rattle.ug_types.specs.declared.family.Family.TheVariants.{V4, V6}
use Rattle.ug_text.specs.Cutting.{◌>>=◌ as ◌>=>◌, cut_at}
use Rattle.ug_text.specs.Addresses.{bits_in, length_in, address_in, prefix_in}
use Rattle.ug_text.specs.Paths.{origin}
use Rattle.ug_types.specs.Bytes.{same_bytes}
use Rattle.ug_world.specs.Parts.{may_filter}
use Rattle.ug_config.specs.declared.kind.Kind.{Kind}
use Rattle.ug_config.specs.declared.kind.Kind.TheVariants as kinds
use Rattle.ug_config.specs.declared.given.Given.{Given}
use Rattle.ug_config.specs.declared.given.Given.TheVariants as givens
use Rattle.ug_config.specs.FieldRows.{FieldRow}
use Rattle.ug_config.specs.Reads.{◌>>=◌, each_read, or_refused, missing, malformed}
use Rattle.ug_config.specs.Kinds.{natural, between, number_in, name, peer_name, ipv4_flag, value_as}
use Rattle.ug_config.specs.Tables.{Entry, default_of, given, entry}
use Rattle.ug_config.specs.Looks.{value_at, as_number, as_octet, as_flag, as_name, as_address, as_prefix}
use Rattle.ug_config.proofs.Inverting.{ok, ok_is, some_is, bound, bound_option}

abbrev pub within : ℕ → ℕ → Option ℕ → Bool
within least most None = false
within least most (Some n) = nat_le least n && nat_le n most

abbrev pub is_no_local : Option (List ℕ) → Bool
is_no_local None = false
is_no_local (Some name) = not (same_bytes name (codes "local"))

abbrev pub is_of : Family → Option IpAddress → Bool
is_of f None = false
is_of f (Some a) = same_family a.family f

abbrev pub lies_in : Family → Option IpPrefix → Bool
lies_in f None = false
lies_in f (Some p) = same_family p.family f

abbrev pub may : Family → Option Bool → Bool
may f None = false
may f (Some b) = may_filter f b

abbrev pub fits : Family → Kind → Given → Bool
fits f (kinds.Number least most) v = within least most (as_number v)
fits f kinds.PeerName v = is_no_local (as_name v)
fits f kinds.Ipv4 v = is_of V4 (as_address v)
fits f kinds.Address v = is_of f (as_address v)
fits f kinds.Subnet v = lies_in f (as_prefix v)
fits f kinds.Ipv4Flag v = may f (as_flag v)
fits f kinds.Origin v = within 0 2 (as_octet v)
fits f _ v = true

-- ---- one kind after the other

between_fits : (least most k n : ℕ) → between least most k ≡ Some n → within least most (Some n) ≡ true
between_fits least most k n h = one (nat_le least k && nat_le k most) refl h
  where
    one : (b : Bool) → (nat_le least k && nat_le k most) ≡ b → (if b then Some k else None) ≡ Some n → within least most (Some n) ≡ true
    one true e h = subst (λ (x : ℕ). within least most (Some x) ≡ true) (some_is k n h) e
    one false e h = absurd cc

number_fits : (least most : ℕ) (d : Data) (n : ℕ) → number_in least most d ≡ Some n → within least most (Some n) ≡ true
number_fits least most d n h =
    let z = bound_option (as_integer d) (λ z. natural z >=> λ k. between least most k) n h in
    let k = bound_option (natural z.0) (λ k. between least most k) n z.2 in
    between_fits least most k.0 n k.2

name_is : (text x : List ℕ) → name text ≡ Some x → text ≡ x
name_is text x h = one (is_name text) h
  where
    one : (b : Bool) → (if b then Some text else None) ≡ Some x → text ≡ x
    one true h = some_is text x h
    one false h = absurd cc

peer_name_fits : (text x : List ℕ) → peer_name text ≡ Some x → is_no_local (Some x) ≡ true
peer_name_fits text x h = one (same_bytes text (codes "local")) refl h
  where
    one : (b : Bool) → same_bytes text (codes "local") ≡ b → (if b then None else name text) ≡ Some x → is_no_local (Some x) ≡ true
    one true e h = absurd cc
    one false e h = subst (λ (y : List ℕ). is_no_local (Some y) ≡ true) (name_is text x h) (ap not e)

same_itself : (f : Family) → same_family f f ≡ true
same_itself V4 = refl
same_itself V6 = refl

address_fits : (f : Family) (text : List ℕ) (a : IpAddress) → address_in f text ≡ Some a → is_of f (Some a) ≡ true
address_fits f text a h =
    let bits = bound_option (bits_in f text) (λ bits. Some (record { family = f; bits = bits })) a h in
    subst (λ (x : IpAddress). is_of f (Some x) ≡ true) (some_is (record { family = f; bits = bits.0 }) a bits.2) (same_itself f)

of_length : (f : Family) (bits len : ℕ) (p : IpPrefix) → prefix_of f bits len ≡ Some p → lies_in f (Some p) ≡ true
of_length f bits len p h = one (nat_le len (width_of f)) h
  where
    one : (b : Bool) → (if b then Some (record { family = f; bits = cleared len bits; len = len }) else None) ≡ Some p → lies_in f (Some p) ≡ true
    one true h = subst (λ (x : IpPrefix). lies_in f (Some x) ≡ true) (some_is (record { family = f; bits = cleared len bits; len = len }) p h) (same_itself f)
    one false h = absurd cc

prefix_fits : (f : Family) (text : List ℕ) (p : IpPrefix) → prefix_in f text ≡ Some p → lies_in f (Some p) ≡ true
unfolding prefix_in
prefix_fits f text p h =
    let parts = bound_option (cut_at 47 text) (λ parts. bits_in f parts.0 >=> λ bits. length_in f parts.1 >=> λ len. prefix_of f bits len) p h in
    let bits = bound_option (bits_in f parts.0.0) (λ bits. length_in f parts.0.1 >=> λ len. prefix_of f bits len) p parts.2 in
    let len = bound_option (length_in f parts.0.1) (λ len. prefix_of f bits.0 len) p bits.2 in
    of_length f bits.0 len.0 p len.2

flag_fits : (f : Family) (b x : Bool) → ipv4_flag f b ≡ Some x → may f (Some x) ≡ true
flag_fits V4 b x h = refl
flag_fits V6 true x h = absurd cc
flag_fits V6 false x h = subst (λ (y : Bool). may V6 (Some y) ≡ true) (some_is false x h) refl

origin_fits : (text : List ℕ) (n : ℕ) → origin text ≡ Some n → within 0 2 (Some n) ≡ true
origin_fits text n h = one (same_bytes text (codes "igp")) (same_bytes text (codes "egp")) (same_bytes text (codes "incomplete")) h
  where
    one : (a b c : Bool) → (if a then Some 0 else (if b then Some 1 else (if c then Some 2 else None))) ≡ Some n → within 0 2 (Some n) ≡ true
    one true b c h = subst (λ (x : ℕ). within 0 2 (Some x) ≡ true) (some_is 0 n h) refl
    one false true c h = subst (λ (x : ℕ). within 0 2 (Some x) ≡ true) (some_is 1 n h) refl
    one false false true h = subst (λ (x : ℕ). within 0 2 (Some x) ≡ true) (some_is 2 n h) refl
    one false false false h = absurd cc

-- ---- any kind

value_fits : (f : Family) (k : Kind) (d : Data) (v : Given) → value_as f k d ≡ Some v → fits f k v ≡ true
value_fits f (kinds.Number least most) d v h =
    let n = bound_option (number_in least most d) (λ n. Some (givens.Number n)) v h in
    subst (λ (x : Given). within least most (as_number x) ≡ true) (some_is (givens.Number n.0) v n.2) (number_fits least most d n.0 n.1)
value_fits f kinds.PeerName d v h =
    let text = bound_option (as_str d) (λ text. peer_name text >=> λ x. Some (givens.Name x)) v h in
    let x = bound_option (peer_name text.0) (λ x. Some (givens.Name x)) v text.2 in
    subst (λ (y : Given). is_no_local (as_name y) ≡ true) (some_is (givens.Name x.0) v x.2) (peer_name_fits text.0 x.0 x.1)
value_fits f kinds.Ipv4 d v h =
    let text = bound_option (as_str d) (λ text. address_in V4 text >=> λ x. Some (givens.Address x)) v h in
    let x = bound_option (address_in V4 text.0) (λ x. Some (givens.Address x)) v text.2 in
    subst (λ (y : Given). is_of V4 (as_address y) ≡ true) (some_is (givens.Address x.0) v x.2) (address_fits V4 text.0 x.0 x.1)
value_fits f kinds.Address d v h =
    let text = bound_option (as_str d) (λ text. address_in f text >=> λ x. Some (givens.Address x)) v h in
    let x = bound_option (address_in f text.0) (λ x. Some (givens.Address x)) v text.2 in
    subst (λ (y : Given). is_of f (as_address y) ≡ true) (some_is (givens.Address x.0) v x.2) (address_fits f text.0 x.0 x.1)
value_fits f kinds.Subnet d v h =
    let text = bound_option (as_str d) (λ text. prefix_in f text >=> λ x. Some (givens.Prefix x)) v h in
    let x = bound_option (prefix_in f text.0) (λ x. Some (givens.Prefix x)) v text.2 in
    subst (λ (y : Given). lies_in f (as_prefix y) ≡ true) (some_is (givens.Prefix x.0) v x.2) (prefix_fits f text.0 x.0 x.1)
value_fits f kinds.Ipv4Flag d v h =
    let b = bound_option (as_bool d) (λ b. ipv4_flag f b >=> λ x. Some (givens.Flag x)) v h in
    let x = bound_option (ipv4_flag f b.0) (λ x. Some (givens.Flag x)) v b.2 in
    subst (λ (y : Given). may f (as_flag y) ≡ true) (some_is (givens.Flag x.0) v x.2) (flag_fits f b.0 x.0 x.1)
value_fits f kinds.Origin d v h =
    let text = bound_option (as_str d) (λ text. origin text >=> λ x. Some (givens.Octet x)) v h in
    let x = bound_option (origin text.0) (λ x. Some (givens.Octet x)) v text.2 in
    subst (λ (y : Given). within 0 2 (as_octet y) ≡ true) (some_is (givens.Octet x.0) v x.2) (origin_fits text.0 x.0 x.1)
value_fits f kinds.Length d v h = refl
value_fits f kinds.Flag d v h = refl
value_fits f kinds.Name d v h = refl
value_fits f kinds.Ipv4Prefix d v h = refl
value_fits f kinds.Family d v h = refl
value_fits f kinds.Action d v h = refl
value_fits f kinds.OnMatch d v h = refl
value_fits f kinds.Community d v h = refl
value_fits f kinds.Numbers d v h = refl
value_fits f kinds.Communities d v h = refl
value_fits f kinds.Table d v h = refl
value_fits f kinds.Tables d v h = refl

-- ---- a field by its row

-- its value is of the row's kind, or what stands for one that is not there
abbrev pub FitsRow : Family → FieldRow → Given → Type 0
FitsRow f r v = (fits f r.kind v ≡ true) ⊎ (default_of r.need ≡ Some v)

here_or_not : (f : Family) (way : List ℕ) (r : FieldRow) (o : Option Data) (v : Given) → given f way r o ≡ ok v → FitsRow f r v
here_or_not f way r None v h = one (default_of r.need) refl h
  where
    one : (o : Option Given) → default_of r.need ≡ o → or_refused missing (way ++ r.name) o ≡ ok v → FitsRow f r v
    one (Some x) e h = inr (e ∙ ap Some (ok_is x v h))
    one None e h = absurd cc
here_or_not f way r (Some d) v h = one (value_as f r.kind d) refl h
  where
    one : (o : Option Given) → value_as f r.kind d ≡ o → or_refused malformed (way ++ r.name) o ≡ ok v → FitsRow f r v
    one (Some x) e h = inl (value_fits f r.kind d v (e ∙ ap Some (ok_is x v h)))
    one None e h = absurd cc

entry_fits : (f : Family) (way : List ℕ) (d : Data) (r : FieldRow) (e : Entry) → entry f way d r ≡ ok e → (e.name ≡ r.name) × FitsRow f r e.given
unfolding entry
entry_fits f way d r e h =
    let v = bound (given f way r (get r.name d)) (λ g. Ok (record { name = r.name; given = g })) e h in
    let is : record { name = r.name; given = v.0 } ≡ e = ok_is (record { name = r.name; given = v.0 }) e v.2 in
    (sym (ap (λ (x : Entry). x.name) is), subst (λ (x : Entry). FitsRow f r x.given) is (here_or_not f way r (get r.name d) v.0 v.1))

abbrev pub row_named : List ℕ → List FieldRow → Option FieldRow
row_named name [] = None
row_named name (r ∷ rows) = if same_bytes r.name name then Some r else row_named name rows

-- the value at a row's name is of that row
pub found : (f : Family) (way : List ℕ) (d : Data) (name : List ℕ) (rows : List FieldRow) (es : List Entry) (r : FieldRow) → each_read (entry f way d) rows ≡ ok es → row_named name rows ≡ Some r → FitsRow f r (value_at name es)
found f way d name [] es r h there = absurd cc
found f way d name (q ∷ rows) es r h there =
    let e = bound (entry f way d q) (λ e. each_read (entry f way d) rows >>= λ more. Ok (e ∷ more)) es h in
    let more = bound (each_read (entry f way d) rows) (λ more. Ok (e.0 ∷ more)) es e.2 in
    let fit = entry_fits f way d q e.0 e.1 in
    subst (λ (xs : List Entry). FitsRow f r (value_at name xs)) (ok_is (e.0 ∷ more.0) es more.2)
    (one e.0 more.0 fit (same_bytes q.name name) refl there (found f way d name rows more.0 r more.1))
  where
    one : (e : Entry) (more : List Entry) → (e.name ≡ q.name) × FitsRow f q e.given → (b : Bool) → same_bytes q.name name ≡ b → (if b then Some q else row_named name rows) ≡ Some r
        → (row_named name rows ≡ Some r → FitsRow f r (value_at name more)) → FitsRow f r (value_at name (e ∷ more))
    one e more fit true same there next =
        let here : same_bytes e.name name ≡ true = ap (λ (n : List ℕ). same_bytes n name) fit.0 ∙ same in
        rw here (subst (λ (x : FieldRow). FitsRow f x e.given) (some_is q r there) fit.1)
    one e more fit false same there next =
        let here : same_bytes e.name name ≡ false = ap (λ (n : List ℕ). same_bytes n name) fit.0 ∙ same in
        rw here (next there)
