-- How long a route is.
use Rattle.std.proofs.Common.{◌≡◌, ℕ, ◌≤◌, ◌==◌, Bool, true, false, not, [], ◌∷◌, length, take, arith, length-append}
use Rattle.std.specs.Prelude.{if◌then◌else◌}
use Rattle.std.specs.Int.{w32, w128, to_be_bytes}
use Rattle.std.proofs.lemmas.List.{length-take}
use Rattle.ug_types.specs.declared.key.Key.{Key}
use Rattle.ug_types.specs.declared.family.Family.{Family}
use Rattle.ug_types.specs.declared.family.Family.TheVariants.{V4, V6}
use Rattle.ug_types.specs.Ip.{bytes_for, width_of}
use Rattle.ug_message.specs.Spelling.{route}
use Rattle.ug_types.specs.Keys.{weight_of}

pub width_of-le : (family : Family) → width_of family ≤ 128
width_of-le V4 = omega arith
width_of-le V6 = omega arith

-- the identifier's bytes
identifier_size : (b : Bool) (id : ℕ) → length (if not b then to_be_bytes w32 id else []) ≡ (if b then 0 else 4)
identifier_size true id = omega arith
identifier_size false id = omega arith

pub prefix_size : (len bits : ℕ) → len ≤ 128 → length (take (bytes_for len) (to_be_bytes w128 bits)) ≡ bytes_for len
prefix_size len bits le = omega (arith, length-take (bytes_for len) (to_be_bytes w128 bits))

pub length-route : (key : Key) → key.prefix.len ≤ 128 → length (route (not (key.id == 0)) key) ≡ weight_of key
unfolding route
length-route key le =
    let id = identifier_size (key.id == 0) key.id in
    let bits = prefix_size key.prefix.len key.prefix.bits le in
    omega (arith, id, bits, length-append (if not (key.id == 0) then to_be_bytes w32 key.id else []) (key.prefix.len ∷ take (bytes_for key.prefix.len) (to_be_bytes w128 key.prefix.bits)))
