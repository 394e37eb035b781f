-- What a run begins with.
use Rattle.std.proofs.Common.{◌≡◌, ℕ, zero, suc, ◌+◌, ◌≤◌, true, false, ◌&&◌, Bool, List, ◌∷◌, length, map, remove, slice_get, Some, refl, sym, ◌∙◌, ap}
use Rattle.std.specs.List.{range_with_len}
use Rattle.std.proofs.lemmas.Bool.{leb-true}
use Rattle.std.proofs.lemmas.List.{length-map}
use Rattle.atomic_table.specs.Seated.{TableId}
use Rattle.ug_turnstile.specs.Passes.{Held, fresh_pass}
use Rattle.ug_world.specs.World.{World}
use Rattle.ug_world.specs.Parts.{is_local_good, are_few, names_of, peer_names, fresh}
use Rattle.ug_world.specs.Names.{are_distinct}
use Rattle.ug_speaker.specs.Owes.{IsOpening}
use Rattle.ug_run.specs.Lanes.{AreFreshFrom}

and_rest : (a b : Bool) → (a && b) ≡ true → b ≡ true
and_rest true b h = h
and_rest false b h = cc

and_first : (a b : Bool) → (a && b) ≡ true → a ≡ true
and_first true b h = refl
and_first false b h = h

-- There are at most 64 peers.
pub few_peers : (w : World) → IsOpening w → length w.peers ≤ 64
few_peers w opening =
    let p = opening.parts in
    let few : are_few (peer_names p.peers.items) ≡ true =
    and_first _ _ (and_rest (are_few (names_of p.policies.items)) _ (and_rest (are_few (names_of p.maps.items)) _ (and_rest (are_few (names_of p.lists.items)) _ (and_rest (is_local_good p.local) _ opening.good)))) in
    let most : length (peer_names p.peers.items) ≤ 64 = leb-true _ 64 (and_rest (are_distinct (peer_names p.peers.items)) _ few) in
    let names : length (peer_names p.peers.items) ≡ length p.peers.items = length-map p.peers.items _ in
    let peers : length w.peers ≡ length p.peers.items = ap (λ (v : World). length v.peers) opening.first ∙ length-map p.peers.items fresh in
    rw (peers, ← names) most

pub fresh_from : (E : Type 0) {R : Type 0} (id : TableId) (root : R) (number count : ℕ) → AreFreshFrom id root number (map (fresh_pass {E = E} id root) (range_with_len number count))
fresh_from E id root number zero = tt
fresh_from E id root number (suc count) = (refl, fresh_from E id root (number + 1) count)

pub fresh_many : (E : Type 0) {R : Type 0} (id : TableId) (root : R) (number count : ℕ) → length (map (fresh_pass {E = E} id root) (range_with_len number count)) ≡ count
fresh_many E id root number zero = refl
fresh_many E id root number (suc count) = ap (λ n. suc n) (fresh_many E id root (number + 1) count)

-- The first of so many fresh passes is taken out.
pub parted : {E R : Type 0} (id : TableId) (root : R) (n count : ℕ) (passes rest : List (Held E R)) (first : Held E R)
    → count ≡ suc n → passes ≡ map (fresh_pass id root) (range_with_len 0 count) → slice_get passes 0 ≡ Some first → rest ≡ remove passes 0
    → (first ≡ fresh_pass id root 0) × (rest ≡ map (fresh_pass id root) (range_with_len 1 n))
parted {E} {R} id root n count passes rest first count_is passes_is at rest_is =
    let whole : passes ≡ fresh_pass id root 0 ∷ map (fresh_pass id root) (range_with_len 1 n) =
    passes_is ∙ ap (λ m. map (fresh_pass {E = E} id root) (range_with_len 0 m)) count_is in
    let head : Some (fresh_pass {E = E} id root 0) ≡ Some first = sym (ap (λ (ps : List (Held E R)). slice_get ps 0) whole) ∙ at in
    let same : first ≡ fresh_pass id root 0 = cc in
    (same, rest_is ∙ ap (λ (ps : List (Held E R)). remove ps 0) whole)
