-- Another next hop in an UPDATE that was written.
use Rattle.std.proofs.Common.{◌≡◌, ℕ, ◌+◌, ◌<◌, ◌≤◌, Bool, true, ◌&&◌, List, [], ◌∷◌, ◌++◌, length, drop, Some, refl, sym, ap, subst, ◌∙◌, arith, length-append, append_assoc}
use Rattle.std.specs.List.{list_all, splice}
use Rattle.std.specs.Int.{w16, to_be_bytes}
use Rattle.std.proofs.lemmas.List.{take_at, drop_at, drop-drop}
use Rattle.ug_types.specs.declared.family.Family.{Family}
use Rattle.ug_types.specs.declared.family.Family.TheVariants.{V4}
use Rattle.ug_types.specs.declared.capabilities.Capabilities.{Capabilities}
use Rattle.ug_types.specs.declared.key.Key.{Key}
use Rattle.ug_types.specs.Ip.{IpAddress}
use Rattle.ug_types.specs.Attributes.{Attributes, is_well_formed}
use Rattle.ug_types.specs.Messages.{Updates}
use Rattle.ug_types.specs.Sessions.{message_limit}
use Rattle.ug_message.specs.Spelling.{attribute, attributes, before_next_hop, next_hop, after_next_hop, next_hop_place, four_bytes}
use Rattle.ug_message.specs.Spellable.{are_of_family, is_number, is_address, is_aggregator, has_numbers, where_there, can_be_spelled}
use Rattle.ug_message.specs.Texts.{attributes_place, framed, written}
use Rattle.ug_message.specs.Texts as texts
use Rattle.ug_message.proofs.AttributeParts.{attributes_are, length_attributes, next_hop_place_is, length_next_hop}
use Rattle.ug_message.proofs.Formed.{both, and}
use Rattle.ug_update.specs.Updates.{AreAlike, IsSessionOf, announcing, own_routes, is_own, header}
use Rattle.ug_update.proofs.Texts.{written_announcing, ipv4_announcement}

abbrev pub with_next_hop : Attributes → IpAddress → Attributes
with_next_hop a hop = record a { next_hop = hop }

-- ---- what can be spelled still can

kept : (a b c : Bool) → (a && c) ≡ true → (a ≡ true → b ≡ true) → (b && c) ≡ true
kept a b c e f = let parts = both a c e in and b c (f parts.0) parts.1

pub spelled_again : (family : Family) (a : Attributes) (hop : IpAddress) → can_be_spelled family a ≡ true → is_address family hop ≡ true → can_be_spelled family (with_next_hop a hop) ≡ true
unfolding can_be_spelled
spelled_again family a hop e is =
    let front = is_well_formed a && list_all has_numbers a.path in
    let one = front && is_address family a.next_hop in
    let other = front && is_address family hop in
    let med = where_there is_number a.med in
    let local_pref = where_there is_number a.local_pref in
    let aggregator = where_there is_aggregator a.aggregator in
    let communities = list_all is_number a.communities in
    let originator = where_there (is_address V4) a.originator in
    let clusters = list_all is_number a.clusters in
    kept (one && med && local_pref && aggregator && communities && originator) (other && med && local_pref && aggregator && communities && originator) clusters e
    (λ e5. kept (one && med && local_pref && aggregator && communities) (other && med && local_pref && aggregator && communities) originator e5
    (λ e4. kept (one && med && local_pref && aggregator) (other && med && local_pref && aggregator) communities e4
    (λ e3. kept (one && med && local_pref) (other && med && local_pref) aggregator e3
    (λ e2. kept (one && med) (other && med) local_pref e2
    (λ e1. kept one other med e1 (λ e0. let parts = both front (is_address family a.next_hop) e0 in and front (is_address family hop) parts.0 is))))))

pub spliced : (one two old new : List ℕ) (place : ℕ) → length one ≡ place → length old ≡ length new → splice (one ++ (old ++ two)) place (place + length new) new ≡ one ++ (new ++ two)
spliced one two old new place e same =
    let behind : drop (place + length new) (one ++ (old ++ two)) ≡ two =
    sym (drop-drop (length new) place (one ++ (old ++ two))) ∙ ap (λ (xs : List ℕ). drop (length new) xs) (drop_at one (old ++ two) place e) ∙ drop_at old two (length new) same in
    ap (λ (xs : List ℕ). xs ++ (new ++ drop (place + length new) (one ++ (old ++ two)))) (take_at one (old ++ two) place e) ∙ ap (λ (xs : List ℕ). one ++ (new ++ xs)) behind

-- ---- the text around NEXT_HOP's value

hop_is : (a : Attributes) → next_hop a ≡ (64 ∷ 3 ∷ 4 ∷ []) ++ four_bytes a.next_hop
unfolding attribute
hop_is a = refl

abbrev size : Attributes → ℕ
size a = length (before_next_hop a) + 7 + length (after_next_hop a)

size_is : (a : Attributes) → length (attributes a) ≡ size a
size_is a = omega (arith, length_attributes a, length_next_hop a)

abbrev before : Attributes → List Key → List ℕ
before a keys =
    header (23 + (size a + length (own_routes keys))) ++ to_be_bytes w16 0 ++ to_be_bytes w16 (size a) ++ (before_next_hop a ++ 64 ∷ 3 ∷ 4 ∷ [])

abbrev behind : Attributes → List Key → List ℕ
behind a keys = after_next_hop a ++ own_routes keys

regrouped : (front one top hop after own : List ℕ) → front ++ (one ++ (top ++ hop) ++ after) ++ own ≡ front ++ (one ++ top) ++ (hop ++ (after ++ own))
regrouped front one top hop after own = simp (append_assoc)

parts_are : (a : Attributes) (keys : List Key) → framed 2 (texts.announcing V4 a (own_routes keys)) ≡ before a keys ++ (four_bytes a.next_hop ++ behind a keys)
parts_are a keys =
    let own = own_routes keys in
    let front = λ (n : ℕ). header (23 + (n + length own)) ++ to_be_bytes w16 0 ++ to_be_bytes w16 n in
    ipv4_announcement a keys (front (length (attributes a)) ++ attributes a ++ own) refl ∙ ap (λ (n : ℕ). front n ++ attributes a ++ own) (size_is a)
    ∙ ap (λ (xs : List ℕ). front (size a) ++ xs ++ own) (attributes_are a ∙ ap (λ (h : List ℕ). before_next_hop a ++ h ++ after_next_hop a) (hop_is a))
    ∙ regrouped (front (size a)) (before_next_hop a) (64 ∷ 3 ∷ 4 ∷ []) (four_bytes a.next_hop) (after_next_hop a) own

length_before : (a : Attributes) (keys : List Key) → length (before a keys) ≡ attributes_place + next_hop_place a
length_before a keys =
    let front = header (23 + (size a + length (own_routes keys))) ++ to_be_bytes w16 0 ++ to_be_bytes w16 (size a) in
    omega (arith, next_hop_place_is a, length-append front (before_next_hop a ++ 64 ∷ 3 ∷ 4 ∷ []), length-append (before_next_hop a) (64 ∷ 3 ∷ 4 ∷ []))

pub rewritten : (a : Attributes) (keys : List Key) (hop : IpAddress) (items : List ℕ) (place : ℕ) → 0 < length keys → AreAlike keys → are_of_family V4 keys ≡ true → list_all is_own keys ≡ true → can_be_spelled V4 a ≡ true
    → is_address V4 hop ≡ true → framed 2 (texts.announcing V4 a (own_routes keys)) ≡ items → place ≡ attributes_place + next_hop_place a → (c : Capabilities) → IsSessionOf V4 keys c
    → length items ≤ message_limit c → written c (Updates (announcing (with_next_hop a hop) keys)) ≡ Some (splice items place (place + 4) (four_bytes hop))
rewritten a keys hop items place some alike family formed spelled is_hop is at c session le =
    let front = before a keys in
    let old = four_bytes a.next_hop in
    let new = four_bytes hop in
    let rest = behind a keys in
    let text = front ++ (new ++ rest) in
    let was : items ≡ front ++ (old ++ rest) = sym is ∙ parts_are a keys in
    let put : splice items place (place + 4) new ≡ text = ap (λ (xs : List ℕ). splice xs place (place + 4) new) was ∙ spliced front rest old new place (length_before a keys ∙ sym at) refl in
    let now : framed 2 (texts.announcing V4 (with_next_hop a hop) (own_routes keys)) ≡ text = parts_are (with_next_hop a hop) keys in
    let same : length items ≡ length text = ap (λ (xs : List ℕ). length xs) was ∙ length-append front (old ++ rest) ∙ sym (length-append front (new ++ rest)) in
    written_announcing V4 (with_next_hop a hop) keys text some alike family formed (spelled_again V4 a hop spelled is_hop) now c session (subst (λ (n : ℕ). n ≤ message_limit c) same le)
    ∙ ap (λ (t : List ℕ). Some t) (sym put)
