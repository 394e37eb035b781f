-- The messages of keys that have room fit the session that they are for.
use Rattle.std.proofs.Common.{◌≡◌, ℕ, ◌+◌, ◌<◌, ◌≤◌, Bool, true, false, List, [], ◌∷◌, length, Some, None, refl, sym, ◌∙◌, ap, arith, length-append}
use Rattle.std.specs.Prelude.{◌-◌, ◌==◌, ◌&&◌, nat_le, nat_lt, sum_by, if◌then◌else◌}
use Rattle.std.specs.List.{list_all}
use Rattle.std.proofs.lemmas.Bool.{eqb-true}
use Rattle.std.proofs.lemmas.Bool.Decides.{nat_tests}
use Rattle.std.proofs.lemmas.List.Sums.{sum_by-cons}
use Rattle.ug_types.specs.Ip.{bytes_for}
use Rattle.ug_types.specs.Attributes.{Attributes}
use Rattle.ug_types.specs.Keys.{weight_of}
use Rattle.ug_types.specs.Sessions.{message_limit}
use Rattle.ug_types.specs.declared.capabilities.Capabilities.{Capabilities}
use Rattle.ug_types.specs.declared.family.Family.{Family}
use Rattle.ug_types.specs.declared.family.Family.TheVariants.{V4, V6}
use Rattle.ug_types.specs.declared.key.Key.{Key}
use Rattle.ug_types.specs.declared.route.OutAttrs.{OutAttrs}
use Rattle.ug_types.specs.declared.route.PeerEnds.{PeerEnds}
use Rattle.ug_board.specs.Deeds.{Each}
use Rattle.ug_message.specs.Heads.{size_around}
use Rattle.ug_message.specs.Spelling.{route, routes, before_next_hop, after_next_hop, attributes, attributes_but_next_hop}
use Rattle.ug_message.specs.Spellable.{is_key, can_be_spelled}
use Rattle.ug_message.proofs.AttributeParts.{length_attributes, length_next_hop, but_next_hop_are}
use Rattle.ug_message.proofs.Formed.{route_formed}
use Rattle.ug_message.proofs.RoutesAgain.{width_of-le, length_route}
use Rattle.ug_message.specs.NextHops.{told_to}
use Rattle.ug_pack.specs.Rooms.{room, room_beside}
use Rattle.ug_pack.proofs.Fits.{room_fits}
use Rattle.ug_message.specs.Fitting.{announcing, withdrawing, fits}
use Rattle.ug_message.specs.Frames.{attributes_text, routes_around, message_size}
use Rattle.ug_message.proofs.Fitting.{fits_is}
use Rattle.ug_speaker.specs.Right.{CanBeTold}
use Rattle.ug_speaker.proofs.Bools.{both}

-- A message of the session can spell the route, and under ADD-PATH its identifier isn't 0 (RFC 7911 section 3).
pub record CanBeSent (c : Capabilities) (key : Key) (a : Attributes) : Type 0 where
  pub told : CanBeTold c key a
  pub numbered : c.add_path ≡ true → key.id ≡ 0 → ⊥

-- the key of some route that can be sent
abbrev pub IsKeyTo : Capabilities → Key → Type 0
IsKeyTo c key = (a : Attributes) × CanBeSent c key a

-- ---- routes take no more bytes than they weigh

pub key-short : (c : Capabilities) (key : Key) → is_key c key ≡ true → key.prefix.len ≤ 128
key-short c key e = omega (arith, (route_formed c.family c.add_path key e).prefix.short, width_of-le c.family)

route_light : (add_path : Bool) (key : Key) → key.prefix.len ≤ 128 → (add_path ≡ true → key.id ≡ 0 → ⊥) → length (route add_path key) ≤ weight_of key
route_light true key le numbered = by (key.id == 0) refl
  where
    by : (b : Bool) → (key.id == 0) ≡ b → length (route true key) ≤ 1 + bytes_for key.prefix.len + (if b then 0 else 4)
    by true e = absurd (numbered refl (eqb-true key.id 0 e))
    by false e = let size = length_route true key le in omega arith
route_light false key le numbered = let size = length_route false key le in omega arith

routes_light : (c : Capabilities) (keys : List Key) → Each (IsKeyTo c) keys → length (routes c.add_path keys) ≤ sum_by weight_of keys
routes_light c [] each = omega arith
routes_light c (key ∷ keys) each =
    let first = each.0.1 in
    let one = route_light c.add_path key (key-short c key first.told.key_is) first.numbered in
    let more = routes_light c keys each.1 in
    let whole : length (routes c.add_path (key ∷ keys)) ≡ length (route c.add_path key) + length (routes c.add_path keys) = length-append (route c.add_path key) (routes c.add_path keys) in
    let sum : sum_by weight_of (key ∷ keys) ≡ weight_of key + sum_by weight_of keys = sum_by-cons weight_of key keys in
    omega arith

all_keys : (c : Capabilities) (keys : List Key) → Each (IsKeyTo c) keys → list_all (is_key c) keys ≡ true
all_keys c [] each = refl
all_keys c (key ∷ keys) each = both (is_key c key) (list_all (is_key c) keys) each.0.1.told.key_is (all_keys c keys each.1)

-- ---- with room their message is within the limit

most_around : (n : ℕ) → size_around n ≤ n + 4
most_around n = by (nat_lt 255 n)
  where
    by : (b : Bool) → (if b then n + 4 else n + 3) ≤ n + 4
    by true = omega arith
    by false = omega arith

pub limit-some : (b : Bool) → 4096 ≤ (if b then 65535 else 4096)
limit-some true = omega arith
limit-some false = omega arith

withdrawn_size : (family : Family) (limit n : ℕ) → 4096 ≤ limit → n ≤ room family limit → 23 + (0 + routes_around family false n) ≤ limit
withdrawn_size V4 limit n le fits = let whole = room_fits V4 limit n le fits in omega arith
withdrawn_size V6 limit n le fits = let whole = room_fits V6 limit n le fits in omega arith

announced_size : (family : Family) (limit n : ℕ) (a : Attributes) → 21 ≤ room_beside family limit a → n ≤ room_beside family limit a → 23 + (length (attributes_text family (Some a)) + routes_around family true n) ≤ limit
announced_size V4 limit n a some fits = omega arith
announced_size V6 limit n a some fits = omega (arith, most_around (21 + n))

-- the next hop takes as many bytes, whichever it is
told_length : (ends : PeerEnds) (o : OutAttrs) → length (attributes (told_to ends o)) ≡ length (attributes o.attrs)
told_length ends o =
    let before : length (before_next_hop (told_to ends o)) ≡ length (before_next_hop o.attrs) = refl in
    let behind : length (after_next_hop (told_to ends o)) ≡ length (after_next_hop o.attrs) = refl in
    omega (arith, length_attributes (told_to ends o), length_attributes o.attrs, length_next_hop (told_to ends o), length_next_hop o.attrs)

told_but_next_hop : (ends : PeerEnds) (o : OutAttrs) → attributes_but_next_hop (told_to ends o) ≡ attributes_but_next_hop o.attrs
told_but_next_hop ends o = but_next_hop_are (told_to ends o) ∙ sym (but_next_hop_are o.attrs)

room_told : (family : Family) (limit : ℕ) (ends : PeerEnds) (o : OutAttrs) → room_beside family limit (told_to ends o) ≡ room_beside family limit o.attrs
room_told V4 limit ends o = ap (λ (n : ℕ). limit - (23 + n)) (told_length ends o)
room_told V6 limit ends o = ap (λ (text : List ℕ). limit - (48 + length text)) (told_but_next_hop ends o)

at_most : (n m : ℕ) → n ≤ m → nat_le n m ≡ true
at_most n m le = grind (arith, nat_tests)

module _ (c : Capabilities) (keys : List Key) (some : 0 < length keys) (each : Each (IsKeyTo c) keys) where
  pub withdrawn-fit : sum_by weight_of keys ≤ room c.family (message_limit c) → fits c (withdrawing keys) ≡ true
  withdrawn-fit space =
      let light = routes_light c keys each in
      let size = withdrawn_size c.family (message_limit c) (length (routes c.add_path keys)) (limit-some c.extended) (omega arith) in
      fits_is c None keys some
      ∙ both (list_all (is_key c) keys) (true && nat_le (message_size c None (length (routes c.add_path keys))) (message_limit c)) (all_keys c keys each)
      (at_most (message_size c None (length (routes c.add_path keys))) (message_limit c) size)

  pub announced-fit : (ends : PeerEnds) (o : OutAttrs) → can_be_spelled c.family (told_to ends o) ≡ true → 21 ≤ room_beside c.family (message_limit c) o.attrs → sum_by weight_of keys ≤ room_beside c.family (message_limit c) o.attrs
      → fits c (announcing (told_to ends o) keys) ≡ true
  announced-fit ends o spelled wide space =
      let light = routes_light c keys each in
      let same = room_told c.family (message_limit c) ends o in
      let size = announced_size c.family (message_limit c) (length (routes c.add_path keys)) (told_to ends o) (omega arith) (omega arith) in
      fits_is c (Some (told_to ends o)) keys some
      ∙ both (list_all (is_key c) keys) (can_be_spelled c.family (told_to ends o) && nat_le (message_size c (Some (told_to ends o)) (length (routes c.add_path keys))) (message_limit c)) (all_keys c keys each)
      (both (can_be_spelled c.family (told_to ends o)) (nat_le (message_size c (Some (told_to ends o)) (length (routes c.add_path keys))) (message_limit c)) spelled
      (at_most (message_size c (Some (told_to ends o)) (length (routes c.add_path keys))) (message_limit c) size))
