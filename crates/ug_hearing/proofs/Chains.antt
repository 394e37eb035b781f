-- Moves, followed back.
use Rattle.std.proofs.Common.{◌≡◌, ℕ, zero, suc, ◌-◌, ◌<◌, ◌≤◌, List, [], ◌∷◌, ◌++◌, map, reverse, length, slice_get, get_or, Some, refl, sym, ◌∙◌, ap, subst, arith, append_assoc}
use Rattle.std.proofs.lemmas.List.{append-nil, map-append, reverse-append}
use Rattle.ug_hearing.specs.Shifts.{Shift}
use Rattle.ug_hearing.specs.declared.row.Moved.{Moved}
use Rattle.ug_hearing.specs.Rows.{IsChain}
use Rattle.ug_hearing.specs.declared.climbs.Move.{Move}
use Rattle.ug_hearing.specs.Climbed.{shift_of, IsBack, IsPart}

-- the next move of a chain that isn't at its end
pub record Next (all : List Moved) (at : ℕ) (told shifts : List Shift) : Type 0 where
  pub moved : Moved
  pub there : slice_get all (at - 1) ≡ Some moved
  pub low : moved.before < at
  pub older : List Shift
  pub rest : IsChain all moved.before older
  pub parts : shifts ≡ told ++ (record { message = moved.message; place = moved.place } ∷ older)

same_shift : (s : Shift) (message place : ℕ) → message ≡ s.message → place ≡ s.place → s ≡ record { message = message; place = place }
same_shift s message place one other =
    ap (λ n. record { message = n; place = s.place }) (sym one) ∙ ap (λ n. record { message = message; place = n }) (sym other)

pub next-of : (all : List Moved) (at : ℕ) (told shifts : List Shift) → 0 < at → IsPart all at told shifts → Next all at told shifts
next-of all at told shifts more h = by h.older h.rest h.parts
  where
    by : (older : List Shift) → IsChain all at older → shifts ≡ told ++ older → Next all at told shifts
    by [] rest parts = absurd (omega (arith, rest))
    by (s ∷ older) rest parts =
        let i = rest.0 in
        let m = rest.1 in
        let at_is = rest.2 in
        let low = rest.6 in
        let place : i ≡ at - 1 = omega arith in
        let same : s ≡ record { message = m.message; place = m.place } = same_shift s m.message m.place rest.4 rest.5 in
        record {
          moved = m;
          there = ap (λ k. slice_get all k) (sym place) ∙ rest.3;
          low = omega arith;
          older = older;
          rest = rest.7;
          parts = parts ∙ ap (λ (x : Shift). told ++ x ∷ older) same;
        }

same_moved : (a b : Moved) → Some a ≡ Some b → a ≡ b
same_moved a b e = cc

pub moved-is : (all : List Moved) (at : ℕ) (told shifts : List Shift) (n : Next all at told shifts) (m : Moved) → slice_get all (at - 1) ≡ Some m → n.moved ≡ m
moved-is all at told shifts n m is = same_moved n.moved m (sym n.there ∙ is)

pub one-move : (all : List Moved) (at : ℕ) (moves : List Move) (shifts : List Shift) (n : Next all at (map shift_of moves) shifts) (m : Moved) → n.moved ≡ m
    → IsPart all m.before (map shift_of (moves ++ record { message = m.message; place = m.place } ∷ [])) shifts
one-move all at moves shifts n m same = record {
  older = n.older;
  rest = subst (λ (x : Moved). IsChain all x.before n.older) same n.rest;
  parts =
      n.parts
      ∙ (ap (λ (x : Moved). map shift_of moves ++ (record { message = x.message; place = x.place } ∷ n.older)) same
      ∙ (sym (append_assoc (map shift_of moves) (record { message = m.message; place = m.place } ∷ []) n.older)
      ∙ ap (λ (xs : List Shift). xs ++ n.older) (sym (map-append shift_of moves (record { message = m.message; place = m.place } ∷ [])))));
}

map_back : (moves : List Move) → map shift_of (reverse moves) ≡ reverse (map shift_of moves)
map_back [] = refl
map_back (m ∷ moves) =
    ap (λ (xs : List Move). map shift_of xs) (reverse-append (m ∷ []) moves)
    ∙ (map-append shift_of (reverse moves) (m ∷ []) ∙ (ap (λ (xs : List Shift). xs ++ shift_of m ∷ []) (map_back moves) ∙ sym (reverse-append (shift_of m ∷ []) (map shift_of moves))))

pub all-back : (all : List Moved) (at : ℕ) (moves back : List Move) (shifts : List Shift) → at ≤ 0 → IsPart all at (map shift_of moves) shifts → back ≡ reverse moves → IsBack (map shift_of back) shifts
all-back all at moves back shifts none h is = by h.older h.rest h.parts
  where
    by : (older : List Shift) → IsChain all at older → shifts ≡ map shift_of moves ++ older → IsBack (map shift_of back) shifts
    by [] rest parts = ap (λ (xs : List Move). map shift_of xs) is ∙ (map_back moves ∙ ap (λ (xs : List Shift). reverse xs) (sym (parts ∙ append-nil (map shift_of moves))))
    by (s ∷ older) rest parts = absurd (let e = rest.2 in omega arith)

get_less : (all : List Moved) (i : ℕ) (m : Moved) → slice_get all i ≡ Some m → i < length all
get_less [] i m is = absurd cc
get_less (x ∷ all) zero m is = omega arith
get_less (x ∷ all) (suc i) m is = let rest = get_less all i m is in omega arith

got : (all : List Moved) (i : ℕ) (d : Moved) → i < length all → slice_get all i ≡ Some (get_or all i d)
got [] i d less = absurd (omega arith)
got (x ∷ all) zero d less = refl
got (x ∷ all) (suc i) d less = got all i d (omega arith)

module _ (all : List Moved) (at : ℕ) (told shifts : List Shift) (n : Next all at told shifts) (more : 0 < at) where
  pub within : at ≤ length all
  within = let less = get_less all (at - 1) n.moved n.there in omega arith

  pub at-index : (d : Moved) → n.moved ≡ get_or all (at - 1) d
  at-index d = moved-is all at told shifts n (get_or all (at - 1) d) (got all (at - 1) d (let less = get_less all (at - 1) n.moved n.there in less))
