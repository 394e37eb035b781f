-- A message's text doesn't depend on the limit, and is within it.
use Rattle.std.proofs.Common.{◌≡◌, ℕ, ◌≤◌, Bool, true, false, nat_le, List, [], ◌∷◌, length, Option, Some, None, refl, sym, ap, subst, ◌∙◌, arith, lit≤}
use Rattle.std.specs.Prelude.{if◌then◌else◌, ◌&&◌}
use Rattle.std.specs.List.{list_all}
use Rattle.std.proofs.lemmas.Bool.Decides.{nat_tests}
use Rattle.ug_types.specs.declared.family.Family.{Family}
use Rattle.ug_types.specs.declared.capabilities.Capabilities.{Capabilities}
use Rattle.ug_types.specs.declared.key.Key.{Key}
use Rattle.ug_types.specs.Attributes.{Attributes}
use Rattle.ug_types.specs.Messages.{Message, Updates, Begins, Ends, Ignored}
use Rattle.ug_types.specs.Sessions.{message_limit}
use Rattle.ug_message.specs.Spellable.{is_route, is_key, can_be_spelled}
use Rattle.ug_message.specs.Texts.{framed, withdrawal, announcement, refresh_mark, within, update, written}

at_most : (n l : ℕ) → nat_le n l ≡ true → n ≤ l
at_most n l e = grind (arith, nat_tests)

is_most : (n l : ℕ) → n ≤ l → nat_le n l ≡ true
is_most n l e = grind (arith, nat_tests)

-- what there is of a text within the limit
pub record Fits (c : Capabilities) (well_formed : Bool) (text written : List ℕ) : Type 0 where
  pub formed : well_formed ≡ true
  pub is : text ≡ written
  pub within : length text ≤ message_limit c

chosen : (small : Bool) (text t : List ℕ) → (if small then Some text else None) ≡ Some t → (small ≡ true) × (text ≡ t)
chosen true text t e = (refl, cc)
chosen false text t e = absurd cc

pub within_some : (c : Capabilities) (formed : Bool) (text t : List ℕ) → within c formed text ≡ Some t → Fits c formed text t
within_some c true text t e =
    let is = chosen (nat_le (length text) (message_limit c)) text t e in
    record { formed = refl; is = is.1; within = at_most (length text) (message_limit c) is.0 }
within_some c false text t e = absurd cc

pub some_within : (c : Capabilities) (formed : Bool) (text : List ℕ) → formed ≡ true → length text ≤ message_limit c → within c formed text ≡ Some text
some_within c formed text e le =
    ap (λ (b : Bool). if b then (if nat_le (length text) (message_limit c) then Some text else None) else None) e
    ∙ ap (λ (b : Bool). if b then Some text else None) (is_most (length text) (message_limit c) le)

-- ---- the same text under another limit

abbrev with_limit : Capabilities → Bool → Capabilities
with_limit c extended = record { family = c.family; add_path = c.add_path; extended = extended }

same_within : (c d : Capabilities) (formed : Bool) (whole text : List ℕ) → within c formed whole ≡ Some text → length text ≤ message_limit d → within d formed whole ≡ Some text
same_within c d formed whole text e le =
    let fits = within_some c formed whole text e in
    some_within d formed whole fits.formed (subst (λ (t : List ℕ). length t ≤ message_limit d) (sym fits.is) le) ∙ ap (λ (t : List ℕ). Some t) fits.is

limited_update : (c : Capabilities) (extended : Bool) (w : List Key) (a : Option Attributes) (n : List Key) (text : List ℕ) → update c w a n ≡ Some text → length text ≤ message_limit (with_limit c extended)
    → update (with_limit c extended) w a n ≡ Some text
unfolding is_route withdrawal announcement
limited_update c extended w None [] text e le = same_within c (with_limit c extended) (list_all (is_key c) w) (withdrawal c w) text e le
limited_update c extended [] (Some a) (k ∷ ks) text e le =
    same_within c (with_limit c extended) (list_all (is_key c) (k ∷ ks) && can_be_spelled c.family a) (announcement c a (k ∷ ks)) text e le
limited_update c extended (w ∷ ws) (Some a) (k ∷ ks) text e le = absurd cc
limited_update c extended [] None (k ∷ ks) text e le = absurd cc
limited_update c extended (w ∷ ws) None (k ∷ ks) text e le = absurd cc
limited_update c extended [] (Some a) [] text e le = absurd cc
limited_update c extended (w ∷ ws) (Some a) [] text e le = absurd cc

limited : (c : Capabilities) (extended : Bool) (m : Message) (text : List ℕ) → written c m ≡ Some text → length text ≤ message_limit (with_limit c extended) → written (with_limit c extended) m ≡ Some text
unfolding written
limited c extended (Updates u) text e le = limited_update c extended u.withdrawn u.attrs u.announced text e le
limited c extended Begins text e le = e
limited c extended Ends text e le = e
limited c extended Ignored text e le = absurd cc

alike : (c d : Capabilities) → c.family ≡ d.family → c.add_path ≡ d.add_path → with_limit c d.extended ≡ d
alike c d f a =
    ap (λ (family : Family). record { family = family; add_path = c.add_path; extended = d.extended }) f
    ∙ ap (λ (add_path : Bool). record { family = d.family; add_path = add_path; extended = d.extended }) a

pub same_text : (c d : Capabilities) (m : Message) (text : List ℕ) → c.family ≡ d.family → c.add_path ≡ d.add_path → written c m ≡ Some text → length text ≤ message_limit d → written d m ≡ Some text
same_text c d m text f a e le =
    let is = alike c d f a in
    subst (λ (x : Capabilities). written x m ≡ Some text) is (limited c d.extended m text e (subst (λ (x : Capabilities). length text ≤ message_limit x) (sym is) le))

-- ---- within the limit

limit_some : (extended : Bool) → 23 ≤ (if extended then 65535 else 4096)
limit_some true = lit≤ tt
limit_some false = lit≤ tt

mark_within : (c : Capabilities) (which : ℕ) (text : List ℕ) → Some (refresh_mark c.family which) ≡ Some text → length text ≤ message_limit c
unfolding framed
mark_within c which text e = let is : refresh_mark c.family which ≡ text = cc in omega (arith, limit_some c.extended, ap (λ (t : List ℕ). length t) is)

update_within : (c : Capabilities) (w : List Key) (a : Option Attributes) (n : List Key) (text : List ℕ) → update c w a n ≡ Some text → length text ≤ message_limit c
update_within c w None [] text e = let fits = within_some c (list_all (is_key c) w) (withdrawal c w) text e in subst (λ (t : List ℕ). length t ≤ message_limit c) fits.is fits.within
update_within c [] (Some a) (k ∷ ks) text e =
    let fits = within_some c (list_all (is_key c) (k ∷ ks) && can_be_spelled c.family a) (announcement c a (k ∷ ks)) text e in
    subst (λ (t : List ℕ). length t ≤ message_limit c) fits.is fits.within
update_within c (w ∷ ws) (Some a) (k ∷ ks) text e = absurd cc
update_within c [] None (k ∷ ks) text e = absurd cc
update_within c (w ∷ ws) None (k ∷ ks) text e = absurd cc
update_within c [] (Some a) [] text e = absurd cc
update_within c (w ∷ ws) (Some a) [] text e = absurd cc

pub text_within : (c : Capabilities) (m : Message) (text : List ℕ) → written c m ≡ Some text → length text ≤ message_limit c
unfolding written
text_within c (Updates u) text e = update_within c u.withdrawn u.attrs u.announced text e
text_within c Begins text e = mark_within c 1 text e
text_within c Ends text e = mark_within c 2 text e
text_within c Ignored text e = absurd cc
