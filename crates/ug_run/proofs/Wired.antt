-- Wires, made one after the other.
use Rattle.std.proofs.Common.{◌≡◌, ℕ, zero, suc, ◌+◌, List, [], ◌∷◌, ◌++◌, length, map, take, slice_get, option_map, Option, Some, None, arith, sym, ◌∙◌, ap, append_assoc, length-append}
use Rattle.std.proofs.lemmas.List.{map-append, length-map}
use Rattle.ug_edge.specs.Told.{IsFresh, WireName, WiresMade, AppendsAll, MakesWire}
use Rattle.ug_run.specs.Wires.{AreNewWires, HasMade, AreMadeFor, wire_name}

module _ {W : Type 0} (sessions : W → Option (List (List ℕ))) (begun faults : W → ℕ) where
  pub new_wires_more : (wires : List W) (wire : W) → AreNewWires sessions begun faults wires → IsFresh (sessions wire) → begun wire ≡ 0 → faults wire ≡ 0 → AreNewWires sessions begun faults (wires ++ wire ∷ [])
  new_wires_more [] wire new fresh none unharmed = (fresh, none, unharmed, tt)
  new_wires_more (w ∷ wires) wire new fresh none unharmed = (new.0, new.1, new.2, new_wires_more wires wire new.3 fresh none unharmed)

  pub new_wires_rest : (wires rest : List W) (wire : W) → wires ≡ wire ∷ rest → AreNewWires sessions begun faults wires → AreNewWires sessions begun faults rest
  new_wires_rest [] rest wire is new = cc
  new_wires_rest (w ∷ wires) rest wire is new = let tails : wires ≡ rest = cc in rw (sym tails) new.3

names_more : (old mid new : Option (List WireName)) (front back : List WireName) → AppendsAll old mid front → AppendsAll mid new back → AppendsAll old new (front ++ back)
names_more None None None front back h k = tt
names_more None None (Some new) front back h k = elim k [ ]
names_more None (Some mid) new front back h k = elim h [ ]
names_more (Some old) None new front back h k = elim h [ ]
names_more (Some old) (Some mid) None front back h k = elim k [ ]
names_more (Some old) (Some mid) (Some new) front back h k = k ∙ (ap (λ (ns : List WireName). ns ++ back) h ∙ append_assoc old front back)

pub made_more : (old mid new : WiresMade) (dir : List ℕ) (names : List (List ℕ)) (name : List ℕ) (all : List (List ℕ))
    → HasMade old mid dir names → MakesWire mid new dir name → all ≡ names ++ name ∷ [] → HasMade old new dir all
made_more old mid new dir names name all made makes is =
    let f : List ℕ → WireName = wire_name dir in
    let longer : length all ≡ length names + 1 = ap length is ∙ length-append names (name ∷ []) in
    let before : mid.count ≡ old.count + length names = made.counted in
    let after : new.count ≡ mid.count + 1 = makes.counted in
    record {
      counted = omega arith;
      named = rw (is, map-append f names (name ∷ [])) (names_more old.names mid.names new.names (map f names) (f name ∷ []) made.named makes.named);
    }

-- One more wire was made for the name that follows.
pub for_more : {W : Type 0} (made_for : W → WireName) (dir : List ℕ) (wires grown : List W) (wire : W) (names : List (List ℕ)) (name : List ℕ) (all : List (List ℕ))
    → map made_for wires ≡ map (wire_name dir) names → grown ≡ wires ++ wire ∷ [] → made_for wire ≡ wire_name dir name → all ≡ names ++ name ∷ [] → map made_for grown ≡ map (wire_name dir) all
for_more {W} made_for dir wires grown wire names name all before grown_is wire_is all_is =
    ap (λ (ws : List W). map made_for ws) grown_is
    ∙ (map-append made_for wires (wire ∷ [])
    ∙ (ap (λ (ns : List WireName). ns ++ made_for wire ∷ []) before
    ∙ (ap (λ (n : WireName). map (wire_name dir) names ++ n ∷ []) wire_is
    ∙ sym (ap (λ (ns : List (List ℕ)). map (wire_name dir) ns) all_is ∙ map-append (wire_name dir) names (name ∷ [])))))

-- The wires that are given back are made for the same as those that were made.
pub made_home : {W : Type 0} (made_for : W → WireName) (wires back : List W) (old mid new : WiresMade) (dir : List ℕ) (names : List (List ℕ))
    → HasMade old mid dir (take (length wires) names) → map made_for wires ≡ map (wire_name dir) (take (length wires) names)
    → new ≡ mid → map made_for back ≡ map made_for wires → AreMadeFor old new dir names (map made_for back)
made_home {W} made_for wires back old mid new dir names made for_names same back_is =
    let many : length (map made_for back) ≡ length wires = ap length back_is ∙ length-map wires made_for in
    record {
      made = rw (same, many) made;
      each = rw many (back_is ∙ for_names);
    }

-- One more name is copied.
module _ {S P : Type 0} (peer_of : S → P) (name_of : P → List ℕ) where
  names_step : (peers : List S) (place : ℕ) (peer : P) → option_map peer_of (slice_get peers place) ≡ Some peer
      → map (λ (s : S). name_of (peer_of s)) (take (suc place) peers) ≡ map (λ (s : S). name_of (peer_of s)) (take place peers) ++ name_of peer ∷ []
  names_step [] place peer at = cc
  names_step (s ∷ peers) zero peer at = let same : peer_of s ≡ peer = cc in ap (λ (p : P). name_of p ∷ []) same
  names_step (s ∷ peers) (suc place) peer at = ap (λ (ns : List (List ℕ)). name_of (peer_of s) ∷ ns) (names_step peers place peer at)

  pub names_so_far : (peers : List S) (place : ℕ) (peer : P) → option_map peer_of (slice_get peers place) ≡ Some peer
      → map (λ (s : S). name_of (peer_of s)) (take (place + 1) peers) ≡ map (λ (s : S). name_of (peer_of s)) (take place peers) ++ name_of peer ∷ []
  names_so_far peers place peer at =
      let next : place + 1 ≡ suc place = omega arith in
      ap (λ n. map (λ (s : S). name_of (peer_of s)) (take n peers)) next ∙ names_step peers place peer at
