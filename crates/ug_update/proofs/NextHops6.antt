-- Another next hop in an UPDATE that was written.
use Rattle.std.proofs.Common.{◌≡◌, ℕ, ◌+◌, ◌<◌, ◌≤◌, true, List, [], ◌∷◌, ◌++◌, length, Some, refl, sym, ap, subst, ◌∙◌, arith, length-append}
use Rattle.std.specs.List.{list_all, splice}
use Rattle.std.specs.Int.{w16, to_be_bytes}
use Rattle.ug_types.specs.declared.family.Family.TheVariants.{V6}
use Rattle.ug_types.specs.declared.capabilities.Capabilities.{Capabilities}
use Rattle.ug_types.specs.declared.key.Key.{Key}
use Rattle.ug_types.specs.Ip.{IpAddress}
use Rattle.ug_types.specs.Attributes.{Attributes}
use Rattle.ug_types.specs.Messages.{Updates}
use Rattle.ug_types.specs.Sessions.{message_limit}
use Rattle.ug_message.specs.Spelling.{optional, ipv6_unicast, sixteen_bytes, attributes_but_next_hop}
use Rattle.ug_message.specs.Spellable.{are_of_family, is_address, can_be_spelled}
use Rattle.ug_message.specs.Heads.{head, size_around, reach_place, reach_head}
use Rattle.ug_message.specs.Texts.{framed, written}
use Rattle.ug_message.specs.Texts as texts
use Rattle.ug_update.specs.Updates.{AreAlike, IsSessionOf, announcing, own_routes, is_own, header}
use Rattle.ug_update.proofs.Texts.{written_announcing}
use Rattle.ug_update.proofs.NextHops.{with_next_hop, spelled_again, spliced}
use Rattle.ug_update.proofs.Texts6.{ipv6_announcement, regrouped}

-- ---- the text around the next hop

abbrev before : Attributes → List ℕ → List ℕ
before a own =
    let size = length (attributes_but_next_hop a) + size_around (21 + length own) in
    header (23 + size) ++ to_be_bytes w16 0 ++ to_be_bytes w16 size ++ attributes_but_next_hop a ++ (head optional 14 (21 + length own) ++ ipv6_unicast ++ 16 ∷ [])

parts_are : (a : Attributes) (own : List ℕ) → framed 2 (texts.announcing V6 a own) ≡ before a own ++ (sixteen_bytes a.next_hop ++ 0 ∷ own)
unfolding reach_head
parts_are a own =
    let size = length (attributes_but_next_hop a) + size_around (21 + length own) in
    let front = header (23 + size) ++ to_be_bytes w16 0 ++ to_be_bytes w16 size in
    let top = head optional 14 (21 + length own) in
    let hop = sixteen_bytes a.next_hop in
    let joined = regrouped front (attributes_but_next_hop a) top ipv6_unicast (16 ∷ []) hop (0 ∷ []) own in
    ipv6_announcement a own (front ++ attributes_but_next_hop a ++ (top ++ ipv6_unicast ++ 16 ∷ [] ++ hop ++ 0 ∷ []) ++ own) refl ∙ joined

same_before : (a : Attributes) (hop : IpAddress) (own : List ℕ) → before (with_next_hop a hop) own ≡ before a own
unfolding attributes_but_next_hop
same_before a hop own = refl

length_before : (a : Attributes) (own : List ℕ) → length (before a own) ≡ 23 + (length (attributes_but_next_hop a) + reach_place (length own))
length_before a own =
    let size = length (attributes_but_next_hop a) + size_around (21 + length own) in
    let front = header (23 + size) ++ to_be_bytes w16 0 ++ to_be_bytes w16 size in
    let top = head optional 14 (21 + length own) in
    omega (arith, length-append (front ++ attributes_but_next_hop a) (top ++ ipv6_unicast ++ 16 ∷ []), length-append front (attributes_but_next_hop a), length-append (top ++ ipv6_unicast) (16 ∷ []), length-append top ipv6_unicast)

pub rewritten : (a : Attributes) (keys : List Key) (hop : IpAddress) (items : List ℕ) (place : ℕ) → 0 < length keys → AreAlike keys → are_of_family V6 keys ≡ true → list_all is_own keys ≡ true → can_be_spelled V6 a ≡ true
    → is_address V6 hop ≡ true → framed 2 (texts.announcing V6 a (own_routes keys)) ≡ items → place ≡ 23 + (length (attributes_but_next_hop a) + reach_place (length (own_routes keys))) → (c : Capabilities) → IsSessionOf V6 keys c
    → length items ≤ message_limit c → written c (Updates (announcing (with_next_hop a hop) keys)) ≡ Some (splice items place (place + 16) (sixteen_bytes hop))
rewritten a keys hop items place some alike family formed spelled is_hop is at c session le =
    let own = own_routes keys in
    let front = before a own in
    let old = sixteen_bytes a.next_hop in
    let new = sixteen_bytes hop in
    let text = front ++ (new ++ 0 ∷ own) in
    let was : items ≡ front ++ (old ++ 0 ∷ own) = sym is ∙ parts_are a own in
    let put : splice items place (place + 16) new ≡ text = ap (λ (xs : List ℕ). splice xs place (place + 16) new) was ∙ spliced front (0 ∷ own) old new place (length_before a own ∙ sym at) refl in
    let now : framed 2 (texts.announcing V6 (with_next_hop a hop) own) ≡ text = parts_are (with_next_hop a hop) own ∙ ap (λ (xs : List ℕ). xs ++ (new ++ 0 ∷ own)) (same_before a hop own) in
    let size : length items ≡ length text = ap (λ (xs : List ℕ). length xs) was ∙ length-append front (old ++ 0 ∷ own) ∙ sym (length-append front (new ++ 0 ∷ own)) in
    written_announcing V6 (with_next_hop a hop) keys text some alike family formed (spelled_again V6 a hop spelled is_hop) now c session (subst (λ (n : ℕ). n ≤ message_limit c) size le)
    ∙ ap (λ (t : List ℕ). Some t) (sym put)
