-- The attributes in three parts.
use Rattle.std.proofs.Common.{◌≡◌, ℕ, ◌+◌, List, ◌++◌, length, refl, ap, ◌∙◌, length-append, append_assoc}
use Rattle.ug_types.specs.Attributes.{Attributes}
use Rattle.ug_message.specs.Spelling.{before_next_hop, next_hop, after_next_hop, attributes, attributes_but_next_hop, next_hop_place, four_bytes}
use Rattle.ug_message.proofs.Heads.{length_attribute}

pub attributes_are : (a : Attributes) → attributes a ≡ before_next_hop a ++ next_hop a ++ after_next_hop a
unfolding attributes
attributes_are a = refl

pub length_attributes : (a : Attributes) → length (attributes a) ≡ length (before_next_hop a) + length (next_hop a) + length (after_next_hop a)
length_attributes a =
    ap (λ (x : List ℕ). length x) (attributes_are a) ∙ length-append (before_next_hop a ++ next_hop a) (after_next_hop a)
    ∙ ap (λ (n : ℕ). n + length (after_next_hop a)) (length-append (before_next_hop a) (next_hop a))

pub next_hop_place_is : (a : Attributes) → next_hop_place a ≡ length (before_next_hop a) + 3
unfolding next_hop_place
next_hop_place_is a = refl

pub length_next_hop : (a : Attributes) → length (next_hop a) ≡ 7
length_next_hop a = length_attribute 64 3 (four_bytes a.next_hop)

pub but_next_hop_are : (a : Attributes) → attributes_but_next_hop a ≡ before_next_hop a ++ after_next_hop a
unfolding attributes_but_next_hop
but_next_hop_are a = refl

pub ruleset but_next_hop_steps = (but_next_hop_are, append_assoc, length-append)

pub ruleset attributes_steps = (attributes_are, length_attributes, next_hop_place_is, length_next_hop, append_assoc, length-append)
