-- The bytes of an UPDATE of IPv6 routes, written piece by piece, are its text.
use Rattle.std.proofs.Common.{◌≡◌, ℕ, ◌+◌, ◌≤◌, Bool, true, false, nat_lt, List, [], ◌∷◌, ◌++◌, length, take, drop, refl, sym, ap, ◌∙◌, arith, length-append, append_assoc, lit≤}
use Rattle.std.specs.Prelude.{if◌then◌else◌}
use Rattle.std.proofs.lemmas.List.{take_at, drop_at}
use Rattle.std.specs.Int.{w16, to_be_bytes}
use Rattle.ug_types.specs.declared.family.Family.TheVariants.{V6}
use Rattle.ug_types.specs.declared.capabilities.Capabilities.{Capabilities}
use Rattle.ug_types.specs.Attributes.{Attributes}
use Rattle.ug_types.specs.Sessions.{message_limit}
use Rattle.ug_message.specs.Spelling.{optional, ipv6_unicast, sixteen_bytes, mp_reach_nlri, mp_unreach_nlri, attributes_but_next_hop}
use Rattle.ug_message.specs.Heads.{head, size_around, reach_place, reach_head, unreach_head}
use Rattle.ug_message.specs.Texts.{framed}
use Rattle.ug_message.specs.Texts as texts
use Rattle.ug_message.proofs.Heads.{length_reach, length_unreach, reach_is, unreach_is}
use Rattle.ug_message.proofs.Fitting.{withdrawing_length, announcing_length}
use Rattle.ug_update.specs.Updates.{header}
use Rattle.ug_update.proofs.Texts.{framed_is}

around_by : (long : Bool) (len : ℕ) → len + 3 ≤ (if long then len + 4 else len + 3)
around_by true len = omega arith
around_by false len = omega arith

-- an attribute has three bytes before its value at least
pub least_around : (len : ℕ) → len + 3 ≤ size_around len
least_around len = around_by (nat_lt 255 len) len

-- a body of two fields, of which the first is empty
abbrev behind : List ℕ → List ℕ
behind attributes = to_be_bytes w16 0 ++ (to_be_bytes w16 (length attributes) ++ attributes)

body_is : (size : ℕ) (attributes : List ℕ) → length attributes ≡ size → framed 2 (behind attributes) ≡ header (23 + size) ++ to_be_bytes w16 0 ++ to_be_bytes w16 size ++ attributes
body_is size attributes e =
    framed_is (23 + size) (behind attributes) (omega (arith, e)) ∙ ap (λ (n : ℕ). header (23 + size) ++ (to_be_bytes w16 0 ++ (to_be_bytes w16 n ++ attributes))) e

-- the header, the length of no routes, the length of the attributes, MP_UNREACH_NLRI up to its routes, and the routes
pub ipv6_withdrawal : (routes items : List ℕ) → items ≡ header (23 + size_around (3 + length routes)) ++ to_be_bytes w16 0 ++ to_be_bytes w16 (size_around (3 + length routes)) ++ unreach_head (length routes) ++ routes
    → framed 2 (texts.withdrawing V6 routes) ≡ items
ipv6_withdrawal routes items pieces =
    let size = size_around (3 + length routes) in
    let front = header (23 + size) ++ to_be_bytes w16 0 ++ to_be_bytes w16 size in
    body_is size (mp_unreach_nlri routes) (length_unreach routes)
    ∙ ap (λ (b : List ℕ). front ++ b) (sym (unreach_is (length routes) routes refl))
    ∙ sym (append_assoc front (unreach_head (length routes)) routes)
    ∙ sym pieces

-- the header, the length of no routes, the length of the attributes, those but the next hop, MP_REACH_NLRI up to its
-- routes, and the routes
pub ipv6_announcement : (attrs : Attributes) (routes items : List ℕ)
    → items
    ≡ header (23 + (length (attributes_but_next_hop attrs) + size_around (21 + length routes))) ++ to_be_bytes w16 0 ++ to_be_bytes w16 (length (attributes_but_next_hop attrs) + size_around (21 + length routes))
    ++ attributes_but_next_hop attrs ++ reach_head attrs.next_hop (length routes) ++ routes
    → framed 2 (texts.announcing V6 attrs routes) ≡ items
ipv6_announcement attrs routes items pieces =
    let own = attributes_but_next_hop attrs in
    let reach = mp_reach_nlri attrs.next_hop routes in
    let head = reach_head attrs.next_hop (length routes) in
    let size = length own + size_around (21 + length routes) in
    let front = header (23 + size) ++ to_be_bytes w16 0 ++ to_be_bytes w16 size in
    let len : length (own ++ reach) ≡ size = length-append own reach ∙ ap (λ (n : ℕ). length own + n) (length_reach attrs.next_hop routes) in
    body_is size (own ++ reach) len
    ∙ ap (λ (b : List ℕ). front ++ (own ++ b)) (sym (reach_is attrs.next_hop (length routes) routes refl))
    ∙ sym (append_assoc front own (head ++ routes))
    ∙ sym (append_assoc (front ++ own) head routes)
    ∙ sym pieces

-- ---- where the next hop stands

pub regrouped : (front own top family len hop zero routes : List ℕ)
    → (front ++ own ++ (top ++ family ++ len ++ hop ++ zero)) ++ routes ≡ front ++ own ++ (top ++ family ++ len) ++ (hop ++ (zero ++ routes))
regrouped front own top family len hop zero routes = simp (append_assoc)

pub next_hop_there : (attrs : Attributes) (routes items : List ℕ)
    → items
    ≡ header (23 + (length (attributes_but_next_hop attrs) + size_around (21 + length routes))) ++ to_be_bytes w16 0 ++ to_be_bytes w16 (length (attributes_but_next_hop attrs) + size_around (21 + length routes))
    ++ attributes_but_next_hop attrs ++ reach_head attrs.next_hop (length routes) ++ routes
    → take 16 (drop (23 + (length (attributes_but_next_hop attrs) + reach_place (length routes))) items) ≡ sixteen_bytes attrs.next_hop
unfolding reach_head
next_hop_there attrs routes items pieces =
    let own = attributes_but_next_hop attrs in
    let size = length own + size_around (21 + length routes) in
    let front = header (23 + size) ++ to_be_bytes w16 0 ++ to_be_bytes w16 size in
    let top = head optional 14 (21 + length routes) in
    let hop = sixteen_bytes attrs.next_hop in
    let before = front ++ own ++ (top ++ ipv6_unicast ++ 16 ∷ []) in
    let joined = regrouped front own top ipv6_unicast (16 ∷ []) hop (0 ∷ []) routes in
    let there : length before ≡ 23 + (length own + reach_place (length routes)) =
    omega (arith, length-append (front ++ own) (top ++ ipv6_unicast ++ 16 ∷ []), length-append front own, length-append (top ++ ipv6_unicast) (16 ∷ []), length-append top ipv6_unicast) in
    ap (λ (xs : List ℕ). take 16 (drop (23 + (length own + reach_place (length routes))) xs)) (pieces ∙ joined)
    ∙ ap (λ (xs : List ℕ). take 16 xs) (drop_at before (hop ++ 0 ∷ routes) (23 + (length own + reach_place (length routes))) there)
    ∙ take_at hop (0 ∷ routes) 16 refl

-- ---- how long they are

pub withdrawal_length : (routes items : List ℕ) → framed 2 (texts.withdrawing V6 routes) ≡ items → length items ≡ 23 + size_around (3 + length routes)
withdrawal_length routes items is = omega (arith, ap (λ (t : List ℕ). length t) is, withdrawing_length V6 routes)

pub announcement_length : (attrs : Attributes) (routes items : List ℕ) → framed 2 (texts.announcing V6 attrs routes) ≡ items
    → length items ≡ 23 + (length (attributes_but_next_hop attrs) + size_around (21 + length routes))
announcement_length attrs routes items is = ap (λ (t : List ℕ). length t) (sym is) ∙ announcing_length V6 attrs routes

-- ---- End-of-RIB is within each limit

eor_by : (extended : Bool) → 29 ≤ (if extended then 65535 else 4096)
eor_by true = lit≤ tt
eor_by false = lit≤ tt

pub eor_fits : (c : Capabilities) → 29 ≤ message_limit c
eor_fits c = eor_by c.extended
