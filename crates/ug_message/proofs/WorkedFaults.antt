-- Faults of attributes, worked out by hand.
use Rattle.std.proofs.Common.{◌≡◌, true, false, [], ◌∷◌, None, Ok, Err, refl}
use Rattle.ug_message.specs.Walking.{fault}
use Rattle.ug_message.specs.Attribute.{attribute_at}
use Rattle.ug_message.specs.AttributeTable.{segment_at, reach_in, unreach_in, kinds}
use Rattle.ug_message.specs.AttributesRead.{with_known, with_attribute, one_attribute, read_attributes, read_multiprotocol}

pub cut_short : read_attributes false (64 ∷ 1 ∷ []) ≡ Err (fault 1 0)
unfolding read_attributes one_attribute attribute_at
cut_short = refl

pub twice : read_attributes false (64 ∷ 1 ∷ 1 ∷ 0 ∷ 64 ∷ 1 ∷ 1 ∷ 0 ∷ []) ≡ Err (fault 2 4)
unfolding read_attributes one_attribute attribute_at with_attribute with_known kinds
twice = refl

pub other_flags : read_attributes false (192 ∷ 1 ∷ 1 ∷ 0 ∷ []) ≡ Err (fault 3 0)
unfolding read_attributes one_attribute attribute_at with_attribute with_known kinds
other_flags = refl

pub partial : read_attributes false (160 ∷ 4 ∷ 4 ∷ 0 ∷ 0 ∷ 0 ∷ 7 ∷ []) ≡ Err (fault 3 0)
unfolding read_attributes one_attribute attribute_at with_attribute with_known kinds
partial = refl

pub other_length : read_attributes false (64 ∷ 1 ∷ 2 ∷ 0 ∷ 0 ∷ []) ≡ Err (fault 4 0)
unfolding read_attributes one_attribute attribute_at with_attribute with_known kinds
other_length = refl

pub fourth_origin : read_attributes false (64 ∷ 1 ∷ 1 ∷ 3 ∷ []) ≡ Err (fault 5 0)
unfolding read_attributes one_attribute attribute_at with_attribute with_known kinds
fourth_origin = refl

pub empty_segment : read_attributes false (64 ∷ 2 ∷ 2 ∷ 2 ∷ 0 ∷ []) ≡ Err (fault 6 0)
unfolding read_attributes one_attribute attribute_at with_attribute with_known kinds segment_at
empty_segment = refl

pub missing : read_attributes true (64 ∷ 1 ∷ 1 ∷ 0 ∷ []) ≡ Err (fault 7 0)
unfolding read_attributes one_attribute attribute_at with_attribute with_known kinds
missing = refl

pub unknown : read_attributes false (64 ∷ 30 ∷ 0 ∷ []) ≡ Err (fault 8 0)
unfolding read_attributes one_attribute attribute_at with_attribute kinds
unknown = refl

pub unknown_optional : read_attributes false (128 ∷ 30 ∷ 0 ∷ []) ≡ Ok None
unfolding read_attributes one_attribute attribute_at with_attribute kinds
unknown_optional = refl

pub other_family : read_multiprotocol (128 ∷ 15 ∷ 3 ∷ 0 ∷ 1 ∷ 1 ∷ []) ≡ Err (fault 9 0)
unfolding read_multiprotocol one_attribute attribute_at with_attribute with_known kinds unreach_in
other_family = refl

pub short_next_hop : read_multiprotocol (128 ∷ 14 ∷ 5 ∷ 0 ∷ 2 ∷ 1 ∷ 4 ∷ 0 ∷ []) ≡ Err (fault 9 0)
unfolding read_multiprotocol one_attribute attribute_at with_attribute with_known kinds reach_in
short_next_hop = refl
