-- The bytes of an UPDATE, written piece by piece, are its text.
use Rattle.std.proofs.Common.{◌≡◌, ℕ, ◌+◌, ◌<◌, ◌≤◌, ◌==◌, Bool, true, false, not, ◌||◌, ◌&&◌, List, [], ◌∷◌, ◌++◌, length, Some, refl, sym, ap, subst, ◌∙◌, arith, length-append}
use Rattle.std.specs.List.{list_all}
use Rattle.std.specs.Int.{w16, to_be_bytes}
use Rattle.ug_types.specs.declared.family.Family.{Family}
use Rattle.ug_types.specs.declared.family.Family.TheVariants.{V4, V6}
use Rattle.ug_types.specs.declared.capabilities.Capabilities.{Capabilities}
use Rattle.ug_types.specs.declared.key.Key.{Key}
use Rattle.ug_types.specs.Ip.{same_family}
use Rattle.ug_types.specs.Attributes.{Attributes}
use Rattle.ug_types.specs.Messages.{Updates}
use Rattle.ug_types.specs.Sessions.{message_limit}
use Rattle.ug_message.specs.Spelling.{routes, attributes}
use Rattle.ug_message.specs.Spellable.{is_route, is_key, are_of_family, can_be_spelled}
use Rattle.ug_message.specs.Texts.{framed, withdrawal, announcement, written}
use Rattle.ug_message.specs.Texts as texts
use Rattle.ug_message.proofs.Formed.{both, and}
use Rattle.ug_message.proofs.OneText.{some_within}
use Rattle.ug_update.specs.Updates.{AreAlike, have_identifiers, lack_identifiers, withdrawing, announcing, own_routes, header, IsSessionOf, is_own}

-- ---- routes that are alike are spelled alike

own_with : (keys : List Key) → have_identifiers keys ≡ true → routes true keys ≡ own_routes keys
own_with [] e = refl
own_with (key ∷ keys) e =
    let parts = both (not (key.id == 0)) (have_identifiers keys) e in
    rw (parts.0, own_with keys parts.1) refl

own_without : (keys : List Key) → lack_identifiers keys ≡ true → routes false keys ≡ own_routes keys
own_without [] e = refl
own_without (key ∷ keys) e =
    let parts = both (key.id == 0) (lack_identifiers keys) e in
    rw (parts.0, own_without keys parts.1) refl

own_by : (keys : List Key) (have lack : Bool) → have_identifiers keys ≡ have → lack_identifiers keys ≡ lack → (have || lack) ≡ true → routes have keys ≡ own_routes keys
own_by keys true lack h l e = own_with keys h
own_by keys false true h l e = own_without keys l
own_by keys false false h l e = absurd cc

own_routes_are : (keys : List Key) → AreAlike keys → routes (have_identifiers keys) keys ≡ own_routes keys
own_routes_are keys alike = own_by keys (have_identifiers keys) (lack_identifiers keys) refl refl alike

-- ---- and are formed alike

own_prefix : (family f : Family) (has : Bool) (key : Key) → same_family f family ≡ true → is_route f has key ≡ true → is_route family has key ≡ true
own_prefix V4 V4 has key e is = is
own_prefix V6 V6 has key e is = is
own_prefix V4 V6 has key e is = absurd cc
own_prefix V6 V4 has key e is = absurd cc

formed_one : (family : Family) (has own : Bool) (key : Key) → own ≡ has → same_family key.prefix.family family ≡ true → is_route key.prefix.family own key ≡ true → is_route family has key ≡ true
formed_one family has own key e f is = own_prefix family key.prefix.family has key f (subst (λ (b : Bool). is_route key.prefix.family b key ≡ true) e is)

not_of : (b : Bool) → b ≡ true → not b ≡ false
not_of true e = refl
not_of false e = absurd cc

formed_with : (family : Family) (keys : List Key) → have_identifiers keys ≡ true → are_of_family family keys ≡ true → list_all is_own keys ≡ true → list_all (is_route family true) keys ≡ true
formed_with family [] h f o = refl
formed_with family (key ∷ keys) h f o =
    let hp = both (not (key.id == 0)) (have_identifiers keys) h in
    let fp = both (same_family key.prefix.family family) (are_of_family family keys) f in
    let op = both (is_own key) (list_all is_own keys) o in
    and (is_route family true key) (list_all (is_route family true) keys) (formed_one family true (not (key.id == 0)) key hp.0 fp.0 op.0) (formed_with family keys hp.1 fp.1 op.1)

formed_without : (family : Family) (keys : List Key) → lack_identifiers keys ≡ true → are_of_family family keys ≡ true → list_all is_own keys ≡ true → list_all (is_route family false) keys ≡ true
formed_without family [] h f o = refl
formed_without family (key ∷ keys) h f o =
    let hp = both (key.id == 0) (lack_identifiers keys) h in
    let fp = both (same_family key.prefix.family family) (are_of_family family keys) f in
    let op = both (is_own key) (list_all is_own keys) o in
    and (is_route family false key) (list_all (is_route family false) keys) (formed_one family false (not (key.id == 0)) key (not_of (key.id == 0) hp.0) fp.0 op.0) (formed_without family keys hp.1 fp.1 op.1)

formed_by : (family : Family) (keys : List Key) (have lack : Bool) → have_identifiers keys ≡ have → lack_identifiers keys ≡ lack → (have || lack) ≡ true → are_of_family family keys ≡ true → list_all is_own keys ≡ true
    → list_all (is_route family have) keys ≡ true
formed_by family keys true lack h l e f o = formed_with family keys h f o
formed_by family keys false true h l e f o = formed_without family keys l f o
formed_by family keys false false h l e f o = absurd cc

formed_alike : (family : Family) (keys : List Key) (c : Capabilities) → AreAlike keys → IsSessionOf family keys c → are_of_family family keys ≡ true → list_all is_own keys ≡ true → list_all (is_key c) keys ≡ true
formed_alike family keys c alike session f o =
    ap (λ (x : Family). list_all (is_route x c.add_path) keys) session.of_family ∙ ap (λ (b : Bool). list_all (is_route family b) keys) session.add_path
    ∙ formed_by family keys (have_identifiers keys) (lack_identifiers keys) refl refl alike f o

-- ---- what is written, as a body behind a header

withdrawal_is : (family : Family) (keys : List Key) (c : Capabilities) → AreAlike keys → IsSessionOf family keys c → withdrawal c keys ≡ framed 2 (texts.withdrawing family (own_routes keys))
unfolding withdrawal
withdrawal_is family keys c alike session =
    ap (λ (f : Family). framed 2 (texts.withdrawing f (routes c.add_path keys))) session.of_family
    ∙ ap (λ (b : Bool). framed 2 (texts.withdrawing family (routes b keys))) session.add_path
    ∙ ap (λ (r : List ℕ). framed 2 (texts.withdrawing family r)) (own_routes_are keys alike)

announcement_is : (family : Family) (attrs : Attributes) (keys : List Key) (c : Capabilities) → AreAlike keys → IsSessionOf family keys c
    → announcement c attrs keys ≡ framed 2 (texts.announcing family attrs (own_routes keys))
unfolding announcement
announcement_is family attrs keys c alike session =
    ap (λ (f : Family). framed 2 (texts.announcing f attrs (routes c.add_path keys))) session.of_family
    ∙ ap (λ (b : Bool). framed 2 (texts.announcing family attrs (routes b keys))) session.add_path
    ∙ ap (λ (r : List ℕ). framed 2 (texts.announcing family attrs r)) (own_routes_are keys alike)

pub written_withdrawing : (family : Family) (keys : List Key) (items : List ℕ) → AreAlike keys → are_of_family family keys ≡ true → list_all is_own keys ≡ true
    → framed 2 (texts.withdrawing family (own_routes keys)) ≡ items → (c : Capabilities) → IsSessionOf family keys c → length items ≤ message_limit c
    → written c (Updates (withdrawing keys)) ≡ Some items
unfolding written
written_withdrawing family keys items alike f o e c session le =
    let text = withdrawal_is family keys c alike session ∙ e in
    some_within c (list_all (is_key c) keys) (withdrawal c keys) (formed_alike family keys c alike session f o) (subst (λ (t : List ℕ). length t ≤ message_limit c) (sym text) le)
    ∙ ap (λ (t : List ℕ). Some t) text

pub written_announcing : (family : Family) (attrs : Attributes) (keys : List Key) (items : List ℕ) → 0 < length keys → AreAlike keys → are_of_family family keys ≡ true → list_all is_own keys ≡ true
    → can_be_spelled family attrs ≡ true → framed 2 (texts.announcing family attrs (own_routes keys)) ≡ items → (c : Capabilities) → IsSessionOf family keys c → length items ≤ message_limit c
    → written c (Updates (announcing attrs keys)) ≡ Some items
unfolding written
written_announcing family attrs [] items some alike f o s e c session le = absurd (omega arith)
written_announcing family attrs (key ∷ keys) items some alike f o s e c session le =
    let text = announcement_is family attrs (key ∷ keys) c alike session ∙ e in
    let formed = formed_alike family (key ∷ keys) c alike session f o in
    let spelled = ap (λ (x : Family). can_be_spelled x attrs) session.of_family ∙ s in
    some_within c (list_all (is_key c) (key ∷ keys) && can_be_spelled c.family attrs) (announcement c attrs (key ∷ keys)) (and (list_all (is_key c) (key ∷ keys)) (can_be_spelled c.family attrs) formed spelled)
    (subst (λ (t : List ℕ). length t ≤ message_limit c) (sym text) le)
    ∙ ap (λ (t : List ℕ). Some t) text

-- no routes at all, in any session
pub written_nothing : (c : Capabilities) (items : List ℕ) → framed 2 (texts.withdrawing c.family []) ≡ items → length items ≤ message_limit c → written c (Updates (withdrawing [])) ≡ Some items
unfolding written withdrawal
written_nothing c items e le =
    some_within c true (framed 2 (texts.withdrawing c.family [])) refl (subst (λ (t : List ℕ). length t ≤ message_limit c) (sym e) le) ∙ ap (λ (t : List ℕ). Some t) e

-- a body behind its header
pub framed_is : (size : ℕ) (body : List ℕ) → size ≡ 19 + length body → framed 2 body ≡ header size ++ body
unfolding framed
framed_is size body e = rw e refl

-- ---- what was written piece by piece, of IPv4 routes

-- the header, the length of the routes, the routes, and the length of no attributes
pub ipv4_withdrawal : (keys : List Key) (items : List ℕ) → items ≡ header (23 + length (own_routes keys)) ++ to_be_bytes w16 (length (own_routes keys)) ++ own_routes keys ++ to_be_bytes w16 0
    → framed 2 (texts.withdrawing V4 (own_routes keys)) ≡ items
ipv4_withdrawal keys items pieces =
    let own = own_routes keys in
    framed_is (23 + length own) (to_be_bytes w16 (length own) ++ own ++ to_be_bytes w16 0) (omega (arith, length-append own (to_be_bytes w16 0))) ∙ sym pieces

-- the header, the length of no routes, the length of the attributes, the attributes, and the routes
pub ipv4_announcement : (attrs : Attributes) (keys : List Key) (items : List ℕ)
    → items ≡ header (23 + (length (attributes attrs) + length (own_routes keys))) ++ to_be_bytes w16 0 ++ to_be_bytes w16 (length (attributes attrs)) ++ attributes attrs ++ own_routes keys
    → framed 2 (texts.announcing V4 attrs (own_routes keys)) ≡ items
ipv4_announcement attrs keys items pieces =
    let own = own_routes keys in
    framed_is (23 + (length (attributes attrs) + length own)) (to_be_bytes w16 0 ++ (to_be_bytes w16 (length (attributes attrs)) ++ (attributes attrs ++ own))) (omega (arith, length-append (attributes attrs) own))
    ∙ sym pieces

-- the header and two lengths of nothing
pub ipv4_nothing : (items : List ℕ) → items ≡ header 23 ++ to_be_bytes w16 0 ++ to_be_bytes w16 0 → framed 2 (texts.withdrawing V4 []) ≡ items
ipv4_nothing items pieces = framed_is 23 (to_be_bytes w16 0 ++ to_be_bytes w16 0) refl ∙ sym pieces
