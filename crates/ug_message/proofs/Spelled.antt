-- What is written of a message spells it, and nothing else.
use Rattle.std.proofs.Common.{◌≡◌, ℕ, ◌+◌, ◌^◌, ◌<◌, ◌≤◌, ◌==◌, Bool, true, false, ◌&&◌, ◌||◌, nat_le, List, [], ◌∷◌, length, Option, Some, None, Result, Ok, refl, sym, ap, subst, ◌∙◌, arith, length-append, lit<, lit≤}
use Rattle.std.specs.Prelude.{if◌then◌else◌}
use Rattle.std.proofs.lemmas.Bool.Decides.{nat_tests}
use Rattle.ug_types.specs.declared.key.Key.{Key}
use Rattle.ug_types.specs.Attributes.{Attributes}
use Rattle.ug_types.specs.Messages.{Changes, Message, Updates, Begins, Ends, Ignored}
use Rattle.ug_message.specs.Spelling.{routes, attributes}
use Rattle.std.specs.List.{list_all}
use Rattle.ug_types.specs.declared.family.Family.{Family}
use Rattle.ug_types.specs.declared.family.Family.TheVariants.{V4, V6}
use Rattle.ug_types.specs.declared.capabilities.Capabilities.{Capabilities}
use Rattle.ug_types.specs.Sessions.{message_limit}
use Rattle.ug_message.specs.Spellable.{is_key, can_be_spelled}
use Rattle.ug_message.specs.Texts.{framed, field, afi, withdrawing, announcing, withdrawal, announcement, refresh_mark, update, written}
use Rattle.ug_message.proofs.Formed.{both, attributes_formed}
use Rattle.ug_message.proofs.OneText.{within_some}
use Rattle.ug_message.specs.Walking.{Fault, ◌>>=◌}
use Rattle.ug_message.specs.Reading.{is_size, read_update, read_refresh, read_body, unless_faulty, read_message, Spells}
use Rattle.ug_message.proofs.WrittenAgain.{length_framed, size_framed, header_framed, update_withdrawing, update_announcing}
use Rattle.ug_message.proofs.WholeMessages.{says_once}

limit_by : (extended : Bool) → (if extended then 65535 else 4096) < 2 ^ 16
limit_by true = lit< tt
limit_by false = lit< tt

limit_small : (c : Capabilities) → message_limit c < 2 ^ 16
limit_small c = limit_by c.extended

three : (n l : ℕ) → 23 ≤ n → n ≤ l → (nat_le 19 n && nat_le n l && nat_le 23 n) ≡ true
three n l least most = grind (arith, nat_tests)

update_size : (c : Capabilities) (n : ℕ) → 23 ≤ n → n ≤ message_limit c → is_size c 2 n ≡ true
unfolding is_size
update_size c n least most = three n (message_limit c) least most

mark_by : (extended : Bool) → (nat_le 19 23 && nat_le 23 (if extended then 65535 else 4096) && (23 == 23)) ≡ true
mark_by true = refl
mark_by false = refl

mark_size : (c : Capabilities) → is_size c 5 23 ≡ true
unfolding is_size
mark_size c = mark_by c.extended

spells_by : (c : Capabilities) (type : ℕ) (body : List ℕ) (m : Message) → 19 + length body ≤ message_limit c → is_size c type (19 + length body) ≡ true → ((type == 2) || (type == 5)) ≡ true
    → read_body c (framed type body) ≡ Ok m → Spells c (framed type body) m
unfolding read_message
spells_by c type body m le sized known read =
    let small : 19 + length body < 2 ^ 16 = omega (arith, limit_small c) in
    let len = length_framed type body in
    record {
      whole = record { has_header = omega (arith, len); size = len ∙ sym (size_framed type body small) };
      read = ap (λ (h : Option Fault). unless_faulty h (read_body c (framed type body))) (header_framed c type body small sized known) ∙ read;
    }

body_update : (c : Capabilities) (body : List ℕ) (u : Changes) → read_update c (framed 2 body) ≡ Ok u → read_body c (framed 2 body) ≡ Ok (Updates u)
unfolding read_body framed
body_update c body u e = ap (λ (r : Result Changes Fault). r >>= λ u. Ok (Updates u)) e

marks_by : (family : Family) (add_path extended : Bool) → (read_body (record { family = family; add_path = add_path; extended = extended }) (refresh_mark family 1) ≡ Ok Begins)
    × (read_body (record { family = family; add_path = add_path; extended = extended }) (refresh_mark family 2) ≡ Ok Ends)
unfolding read_body read_refresh framed
marks_by V4 add_path extended = (refl, refl)
marks_by V6 add_path extended = (refl, refl)

marks : (c : Capabilities) → (read_body c (refresh_mark c.family 1) ≡ Ok Begins) × (read_body c (refresh_mark c.family 2) ≡ Ok Ends)
marks c = marks_by c.family c.add_path c.extended

fits_by : (extended : Bool) → 23 ≤ (if extended then 65535 else 4096)
fits_by true = lit≤ tt
fits_by false = lit≤ tt

pub mark_fits : (c : Capabilities) → 23 ≤ message_limit c
mark_fits c = fits_by c.extended

-- an UPDATE has two lengths at least
withdrawing_some : (family : Family) (routes : List ℕ) → 4 ≤ length (withdrawing family routes)
withdrawing_some V4 routes = omega (arith, length-append routes (field []))
withdrawing_some V6 routes = omega arith

announcing_some : (family : Family) (a : Attributes) (routes : List ℕ) → 4 ≤ length (announcing family a routes)
announcing_some V4 a routes = omega (arith, length-append (attributes a) routes)
announcing_some V6 a routes = omega arith

withdrawn_spells : (c : Capabilities) (keys : List Key) → list_all (is_key c) keys ≡ true → length (withdrawal c keys) ≤ message_limit c
    → Spells c (withdrawal c keys) (Updates (record { withdrawn = keys; attrs = None; announced = [] }))
unfolding withdrawal
withdrawn_spells c keys h le =
    let body = withdrawing c.family (routes c.add_path keys) in
    let len = length_framed 2 body in
    let some = withdrawing_some c.family (routes c.add_path keys) in
    let says : Changes = record { withdrawn = keys; attrs = None; announced = [] } in
    spells_by c 2 body (Updates says) (omega arith) (update_size c (19 + length body) (omega arith) (omega arith)) refl
    (body_update c body says (update_withdrawing c keys h (omega (arith, limit_small c))))

announced_spells : (c : Capabilities) (a : Attributes) (key : Key) (keys : List Key) → can_be_spelled c.family a ≡ true → list_all (is_key c) (key ∷ keys) ≡ true → length (announcement c a (key ∷ keys)) ≤ message_limit c
    → Spells c (announcement c a (key ∷ keys)) (Updates (record { withdrawn = []; attrs = Some a; announced = key ∷ keys }))
unfolding announcement
announced_spells c a key keys s h le =
    let body = announcing c.family a (routes c.add_path (key ∷ keys)) in
    let len = length_framed 2 body in
    let some = announcing_some c.family a (routes c.add_path (key ∷ keys)) in
    let says : Changes = record { withdrawn = []; attrs = Some a; announced = key ∷ keys } in
    spells_by c 2 body (Updates says) (omega arith) (update_size c (19 + length body) (omega arith) (omega arith)) refl
    (body_update c body says (update_announcing c a key keys (attributes_formed c.family a s) h (omega (arith, limit_small c))))

update_spells : (c : Capabilities) (withdrawn : List Key) (attrs : Option Attributes) (announced : List Key) (text : List ℕ) → update c withdrawn attrs announced ≡ Some text
    → Spells c text (Updates (record { withdrawn = withdrawn; attrs = attrs; announced = announced }))
update_spells c withdrawn None [] text e =
    let fits = within_some c (list_all (is_key c) withdrawn) (withdrawal c withdrawn) text e in
    subst (λ (t : List ℕ). Spells c t (Updates (record { withdrawn = withdrawn; attrs = None; announced = [] }))) fits.is (withdrawn_spells c withdrawn fits.formed fits.within)
update_spells c [] (Some a) (key ∷ keys) text e =
    let fits = within_some c (list_all (is_key c) (key ∷ keys) && can_be_spelled c.family a) (announcement c a (key ∷ keys)) text e in
    let formed = both (list_all (is_key c) (key ∷ keys)) (can_be_spelled c.family a) fits.formed in
    subst (λ (t : List ℕ). Spells c t (Updates (record { withdrawn = []; attrs = Some a; announced = key ∷ keys }))) fits.is (announced_spells c a key keys formed.1 formed.0 fits.within)
update_spells c (w ∷ withdrawn) (Some a) (key ∷ keys) text e = absurd cc
update_spells c [] None (key ∷ keys) text e = absurd cc
update_spells c (w ∷ withdrawn) None (key ∷ keys) text e = absurd cc
update_spells c [] (Some a) [] text e = absurd cc
update_spells c (w ∷ withdrawn) (Some a) [] text e = absurd cc

mark_spells : (c : Capabilities) (which : ℕ) (m : Message) (text : List ℕ) → read_body c (refresh_mark c.family which) ≡ Ok m → Some (refresh_mark c.family which) ≡ Some text → Spells c text m
mark_spells c which m text read e =
    let is : refresh_mark c.family which ≡ text = cc in
    subst (λ (t : List ℕ). Spells c t m) is (spells_by c 5 (0 ∷ afi c.family ∷ which ∷ 1 ∷ []) m (mark_fits c) (mark_size c) refl read)

pub written_spells : (c : Capabilities) (m : Message) (text : List ℕ) → written c m ≡ Some text → Spells c text m
unfolding written
written_spells c (Updates u) text e = update_spells c u.withdrawn u.attrs u.announced text e
written_spells c Begins text e = mark_spells c 1 Begins text (marks c).0 e
written_spells c Ends text e = mark_spells c 2 Ends text (marks c).1 e
written_spells c Ignored text e = absurd cc

pub written_only : (c : Capabilities) (m other : Message) (text : List ℕ) → written c m ≡ Some text → Spells c text other → other ≡ m
written_only c m other text e s = says_once c text other m s (written_spells c m text e)
