-- How long messages are, and which of them fit.
use Rattle.std.proofs.Common.{◌≡◌, ℕ, ◌+◌, ◌<◌, Bool, true, false, ◌&&◌, nat_le, List, [], ◌∷◌, ◌++◌, length, Option, Some, None, refl, ap, ◌∙◌, arith, length-append}
use Rattle.std.specs.Prelude.{is_some, unwrap_or, if◌then◌else◌}
use Rattle.std.specs.List.{list_all}
use Rattle.std.specs.Int.{w16, to_be_bytes}
use Rattle.ug_types.specs.declared.family.Family.{Family}
use Rattle.ug_types.specs.declared.family.Family.TheVariants.{V4, V6}
use Rattle.ug_types.specs.declared.capabilities.Capabilities.{Capabilities}
use Rattle.ug_types.specs.declared.key.Key.{Key}
use Rattle.ug_types.specs.Attributes.{Attributes}
use Rattle.ug_types.specs.Messages.{Message, Begins, Ends}
use Rattle.ug_types.specs.Sessions.{message_limit}
use Rattle.ug_message.specs.Spelling.{routes, attribute, attributes, attributes_but_next_hop, mp_reach_nlri, mp_unreach_nlri}
use Rattle.ug_message.specs.Spellable.{is_key, can_be_spelled}
use Rattle.ug_message.specs.Heads.{size_around}
use Rattle.ug_message.specs.Texts.{framed, withdrawal, announcement, within, written}
use Rattle.ug_message.specs.Texts as texts
use Rattle.ug_message.specs.Fitting.{announcing, withdrawing, fits, text_of}
use Rattle.ug_message.specs.Frames.{said, are_spellable, attributes_text, routes_around, message_size}
use Rattle.ug_message.proofs.Heads.{length_reach, length_unreach}
use Rattle.ug_message.proofs.WrittenAgain.{length_framed}

-- ---- how long they are

-- a body of two fields, of which the first is empty
two_fields : (attrs : List ℕ) (size : ℕ) → length attrs ≡ size → length (framed 2 (to_be_bytes w16 0 ++ (to_be_bytes w16 (length attrs) ++ attrs))) ≡ 23 + size
two_fields attrs size e = omega (arith, length_framed 2 (to_be_bytes w16 0 ++ (to_be_bytes w16 (length attrs) ++ attrs)), e)

withdrawal4_length : (r : List ℕ) → length (framed 2 (texts.withdrawing V4 r)) ≡ 23 + length r
withdrawal4_length r = omega (arith, length_framed 2 (texts.withdrawing V4 r), length-append (to_be_bytes w16 (length r) ++ r) (to_be_bytes w16 0 ++ []))

announcement4_length : (a : Attributes) (r : List ℕ) → length (framed 2 (texts.announcing V4 a r)) ≡ 23 + (length (attributes a) + length r)
announcement4_length a r = omega (arith, length_framed 2 (texts.announcing V4 a r), length-append (attributes a) r)

announcement6_length : (a : Attributes) (r : List ℕ) → length (framed 2 (texts.announcing V6 a r)) ≡ 23 + (length (attributes_but_next_hop a) + size_around (21 + length r))
announcement6_length a r =
    let own = attributes_but_next_hop a in
    let reach = mp_reach_nlri a.next_hop r in
    two_fields (own ++ reach) (length own + size_around (21 + length r)) (length-append own reach ∙ ap (λ (n : ℕ). length own + n) (length_reach a.next_hop r))

pub withdrawing_length : (family : Family) (r : List ℕ) → length (framed 2 (texts.withdrawing family r)) ≡ 23 + (0 + routes_around family false (length r))
withdrawing_length V4 r = omega (arith, withdrawal4_length r)
withdrawing_length V6 r = omega (arith, two_fields (mp_unreach_nlri r) (size_around (3 + length r)) (length_unreach r))

pub announcing_length : (family : Family) (a : Attributes) (r : List ℕ) → length (framed 2 (texts.announcing family a r)) ≡ 23 + (length (attributes_text family (Some a)) + routes_around family true (length r))
announcing_length V4 a r = announcement4_length a r
announcing_length V6 a r = announcement6_length a r

-- ---- which fit

some_if : (b : Bool) (text : List ℕ) → is_some (if b then Some text else None) ≡ b
some_if true text = refl
some_if false text = refl

within_fits : (c : Capabilities) (formed : Bool) (text : List ℕ) → is_some (within c formed text) ≡ (formed && nat_le (length text) (message_limit c))
within_fits c true text = some_if (nat_le (length text) (message_limit c)) text
within_fits c false text = refl

moved : (a b d : Bool) → ((a && b) && d) ≡ (a && (b && d))
moved true b d = refl
moved false b d = refl

withdrawing_fits : (c : Capabilities) (keys : List Key) → fits c (withdrawing keys) ≡ (list_all (is_key c) keys && nat_le (message_size c None (length (routes c.add_path keys))) (message_limit c))
unfolding fits written withdrawal
withdrawing_fits c keys =
    within_fits c (list_all (is_key c) keys) (framed 2 (texts.withdrawing c.family (routes c.add_path keys)))
    ∙ ap (λ (n : ℕ). list_all (is_key c) keys && nat_le n (message_limit c)) (withdrawing_length c.family (routes c.add_path keys))

announcing_fits : (c : Capabilities) (a : Attributes) (key : Key) (keys : List Key)
    → fits c (announcing a (key ∷ keys)) ≡ (list_all (is_key c) (key ∷ keys) && (can_be_spelled c.family a && nat_le (message_size c (Some a) (length (routes c.add_path (key ∷ keys)))) (message_limit c)))
unfolding fits written announcement
announcing_fits c a key keys =
    within_fits c (list_all (is_key c) (key ∷ keys) && can_be_spelled c.family a) (framed 2 (texts.announcing c.family a (routes c.add_path (key ∷ keys))))
    ∙ ap (λ (n : ℕ). (list_all (is_key c) (key ∷ keys) && can_be_spelled c.family a) && nat_le n (message_limit c)) (announcing_length c.family a (routes c.add_path (key ∷ keys)))
    ∙ moved (list_all (is_key c) (key ∷ keys)) (can_be_spelled c.family a) (nat_le (message_size c (Some a) (length (routes c.add_path (key ∷ keys)))) (message_limit c))

-- The message of some keys fits exactly where each of them is one of the session, its attributes can be spelled, and it
-- is within the limit.
pub fits_is : (c : Capabilities) (attrs : Option Attributes) (keys : List Key) → 0 < length keys
    → fits c (said attrs keys) ≡ (list_all (is_key c) keys && (are_spellable c attrs && nat_le (message_size c attrs (length (routes c.add_path keys))) (message_limit c)))
fits_is c None keys some = withdrawing_fits c keys
fits_is c (Some a) [] some = absurd (omega arith)
fits_is c (Some a) (key ∷ keys) some = announcing_fits c a key keys

-- The marks of a refresh fit, and so does End-of-RIB.
pub marks-fit : (c : Capabilities) → (fits c Begins ≡ true) × (fits c Ends ≡ true)
unfolding fits written
marks-fit c = (refl, refl)

end_fits : (family : Family) (add_path extended : Bool) → fits (record { family = family; add_path = add_path; extended = extended }) (withdrawing []) ≡ true
unfolding fits written withdrawal framed mp_unreach_nlri attribute
end_fits V4 add_path true = refl
end_fits V4 add_path false = refl
end_fits V6 add_path true = refl
end_fits V6 add_path false = refl

pub end-fits : (c : Capabilities) → fits c (withdrawing []) ≡ true
end-fits c = end_fits c.family c.add_path c.extended

-- ---- the text of what fits

pub has-text : (c : Capabilities) (m : Message) → fits c m ≡ true → written c m ≡ Some (text_of c m)
unfolding fits text_of
has-text c m e = by (written c m) refl e
  where
    by : (o : Option (List ℕ)) → written c m ≡ o → is_some o ≡ true → o ≡ Some (unwrap_or o [])
    by (Some text) is e = refl
    by None is e = absurd cc
