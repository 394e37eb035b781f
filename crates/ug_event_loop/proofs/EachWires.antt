-- What holds of each wire: one after the other from a place on, and by their places.
use Rattle.std.proofs.Common.{◌≡◌, ℕ, zero, suc, ◌+◌, List, [], ◌∷◌, length, slice_get, Some, refl, subst, arith}
use Rattle.ug_event_loop.specs.Contents.{WireTold, Content, EachWire}

-- For each wire, by the place of its peer, with the contents of its sessions and the numbers of those that were lost.
abbrev pub EachWireFrom : (ℕ → WireTold → List Content → List ℕ → Type 0) → ℕ → List WireTold → List (List Content) → List (List ℕ) → Type 0
EachWireFrom P p [] [] [] = Unit {0}
EachWireFrom P p [] [] (l ∷ lost) = ⊥
EachWireFrom P p [] (c ∷ contents) lost = ⊥
EachWireFrom P p (wire ∷ wires) [] lost = ⊥
EachWireFrom P p (wire ∷ wires) (c ∷ contents) [] = ⊥
EachWireFrom P p (wire ∷ wires) (c ∷ contents) (l ∷ lost) = P p wire c l × EachWireFrom P (p + 1) wires contents lost

module _ (P : ℕ → WireTold → List Content → List ℕ → Type 0) where
  contents_all : (p : ℕ) (wires : List WireTold) (contents : List (List Content)) (lost : List (List ℕ)) → EachWireFrom P p wires contents lost → length contents ≡ length wires
  contents_all p [] [] [] h = refl
  contents_all p [] [] (l ∷ lost) h = absurd h
  contents_all p [] (c ∷ contents) lost h = absurd h
  contents_all p (wire ∷ wires) [] lost h = absurd h
  contents_all p (wire ∷ wires) (c ∷ contents) [] h = absurd h
  contents_all p (wire ∷ wires) (c ∷ contents) (l ∷ lost) h = let rest = contents_all (p + 1) wires contents lost h.1 in omega arith

  lost_all : (p : ℕ) (wires : List WireTold) (contents : List (List Content)) (lost : List (List ℕ)) → EachWireFrom P p wires contents lost → length lost ≡ length wires
  lost_all p [] [] [] h = refl
  lost_all p [] [] (l ∷ lost) h = absurd h
  lost_all p [] (c ∷ contents) lost h = absurd h
  lost_all p (wire ∷ wires) [] lost h = absurd h
  lost_all p (wire ∷ wires) (c ∷ contents) [] h = absurd h
  lost_all p (wire ∷ wires) (c ∷ contents) (l ∷ lost) h = let rest = lost_all (p + 1) wires contents lost h.1 in omega arith

  at_place : (p : ℕ) (wires : List WireTold) (contents : List (List Content)) (lost : List (List ℕ)) → EachWireFrom P p wires contents lost
      → (n : ℕ) (wire : WireTold) (c : List Content) (numbers : List ℕ) → slice_get wires n ≡ Some wire → slice_get contents n ≡ Some c → slice_get lost n ≡ Some numbers → P (p + n) wire c numbers
  at_place p [] [] [] h n wire c numbers is holds loses = absurd cc
  at_place p [] [] (l ∷ lost) h n wire c numbers is holds loses = absurd h
  at_place p [] (d ∷ contents) lost h n wire c numbers is holds loses = absurd h
  at_place p (v ∷ wires) [] lost h n wire c numbers is holds loses = absurd h
  at_place p (v ∷ wires) (d ∷ contents) [] h n wire c numbers is holds loses = absurd h
  at_place p (v ∷ wires) (d ∷ contents) (l ∷ lost) h zero wire c numbers is holds loses =
      let here : p ≡ p + 0 = omega arith in
      let same_wire : v ≡ wire = cc in
      let same_content : d ≡ c = cc in
      let same_numbers : l ≡ numbers = cc in
      subst (λ (x : WireTold). P (p + 0) x c numbers) same_wire
      (subst (λ (x : List Content). P (p + 0) v x numbers) same_content (subst (λ (x : List ℕ). P (p + 0) v d x) same_numbers (subst (λ (k : ℕ). P k v d l) here h.0)))
  at_place p (v ∷ wires) (d ∷ contents) (l ∷ lost) h (suc n) wire c numbers is holds loses =
      let there : p + 1 + n ≡ p + suc n = omega arith in
      subst (λ (k : ℕ). P k wire c numbers) there (at_place (p + 1) wires contents lost h.1 n wire c numbers is holds loses)

  one_by_one : (p : ℕ) (wires : List WireTold) (contents : List (List Content)) (lost : List (List ℕ)) → length contents ≡ length wires → length lost ≡ length wires
      → ((n : ℕ) (wire : WireTold) (c : List Content) (numbers : List ℕ) → slice_get wires n ≡ Some wire → slice_get contents n ≡ Some c → slice_get lost n ≡ Some numbers → P (p + n) wire c numbers)
      → EachWireFrom P p wires contents lost
  one_by_one p [] [] [] many many' at = tt
  one_by_one p [] [] (l ∷ lost) many many' at = absurd (omega arith)
  one_by_one p [] (d ∷ contents) lost many many' at = absurd (omega arith)
  one_by_one p (v ∷ wires) [] lost many many' at = absurd (omega arith)
  one_by_one p (v ∷ wires) (d ∷ contents) [] many many' at = absurd (omega arith)
  one_by_one p (v ∷ wires) (d ∷ contents) (l ∷ lost) many many' at =
      let here : p + 0 ≡ p = omega arith in (
        subst (λ (k : ℕ). P k v d l) here (at 0 v d l refl refl refl),
        one_by_one (p + 1) wires contents lost (omega arith) (omega arith)
            (λ n wire c numbers is holds loses. let there : p + suc n ≡ p + 1 + n = omega arith in subst (λ (k : ℕ). P k wire c numbers) there (at (suc n) wire c numbers is holds loses)),
      )

  pub by-place : (wires : List WireTold) (contents : List (List Content)) (lost : List (List ℕ)) → EachWireFrom P 0 wires contents lost → EachWire P wires contents lost
  by-place wires contents lost h = record {
    all_contents = contents_all 0 wires contents lost h;
    all_lost = lost_all 0 wires contents lost h;
    at = λ n wire c numbers is holds loses.
        let here : 0 + n ≡ n = omega arith in
        subst (λ (k : ℕ). P k wire c numbers) here (at_place 0 wires contents lost h n wire c numbers is holds loses);
  }

  pub one-by-one : (wires : List WireTold) (contents : List (List Content)) (lost : List (List ℕ)) → EachWire P wires contents lost → EachWireFrom P 0 wires contents lost
  one-by-one wires contents lost each =
      one_by_one 0 wires contents lost each.all_contents each.all_lost
      (λ n wire c numbers is holds loses. let here : n ≡ 0 + n = omega arith in subst (λ (k : ℕ). P k wire c numbers) here (each.at n wire c numbers is holds loses))
