-- A route that can't be read is the fault of all.
use Rattle.std.proofs.Common.{◌≡◌, ℕ, ◌+◌, ◌<◌, ◌≤◌, Bool, true, false, nat_lt, List, length, drop, Result, Err, refl, sym, ap, ◌∙◌, arith}
use Rattle.ug_types.specs.declared.key.Key.{Key}
use Rattle.ug_types.specs.declared.family.Family.{Family}
use Rattle.ug_message.specs.Walking.{Fault, walk, with_one}
use Rattle.ug_message.proofs.Walks.{collect_stops}
use Rattle.std.specs.Prelude.{if◌then◌else◌}
use Rattle.std.proofs.lemmas.Bool.{ltb-false}
use Rattle.std.proofs.lemmas.Bool.Decides.{nat_tests}
use Rattle.byteorder.specs.Endian.{big_number}
use Rattle.ug_message.specs.RoutesRead.{prefix_at, behind, route_at}
use Rattle.ug_message.specs.Reading.{route_fault, one_route, routes_in}

pub routes_stop : (family : Family) (add_path : Bool) (place gone : ℕ) (so_far : List Key) (f : Fault) (bytes rest : List ℕ) → rest ≡ drop gone bytes → 0 < length rest
    → walk (with_one (one_route family add_path)) 0 (place + gone) so_far (drop gone bytes) ≡ routes_in family add_path place bytes → one_route family add_path (place + gone) rest ≡ Err f
    → routes_in family add_path place bytes ≡ Err f
routes_stop family add_path place gone so_far f bytes rest left some same is =
    sym same ∙ collect_stops (one_route family add_path) (place + gone) gone so_far f bytes rest left some is

-- ---- how many bytes are there where a length is too great

decided : (b : Bool) (x : Result (Key × ℕ) ℕ) → (if b then Err 2 else x) ≡ Err 1 → b ≡ false
decided true x e = absurd cc
decided false x e = refl

too_long_behind : (family : Family) (bytes : List ℕ) → route_at family true bytes ≡ Err 1 → 4 ≤ length bytes
unfolding route_at
too_long_behind family bytes e =
    ltb-false _ _ (decided (nat_lt (length bytes) 4) (behind (big_number 4 bytes) 4 (prefix_at family (drop 4 bytes))) e)

-- no fault lies past the bytes
pub route_fault_within : (family : Family) (add_path : Bool) (place number : ℕ) (bytes : List ℕ) → route_at family add_path bytes ≡ Err number → (route_fault add_path place number).place ≤ place + length bytes
route_fault_within family true place number bytes e =
    let behind : number ≡ 1 → 4 ≤ length bytes = λ one. too_long_behind family bytes (e ∙ ap (λ (n : ℕ). Err n) one) in
    grind (arith, nat_tests, behind)
route_fault_within family false place number bytes e = grind (arith, nat_tests)
