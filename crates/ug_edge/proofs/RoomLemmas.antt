-- Sessions that lie one behind the other, and what a further session or further bytes make of them.
use Rattle.std.proofs.Common.{◌≡◌, ◌<◌, ◌≤◌, ◌+◌, ◌-◌, ℕ, zero, suc, List, [], ◌∷◌, ◌++◌, length, take, drop, Some, slice_get, slice_index_or, slice_range, refl, sym, ap, ◌∙◌, arith}
use native.Mathlib.Numerals.{unary_clauses}
use Rattle.std.proofs.lemmas.List.{take-append-le, take_all, drop-append-le, length-drop, drop_all}
use Rattle.ug_edge.specs.RoomState.{parts_from, AreStarts}
use Rattle.ug_edge.specs.Told.{onto_last}

pub parts_from_length : (starts bytes : List ℕ) → length (parts_from starts bytes) ≡ length starts
parts_from_length [] bytes = refl
parts_from_length (a ∷ []) bytes = refl
parts_from_length (a ∷ b ∷ starts) bytes = ap suc (parts_from_length (b ∷ starts) bytes)

pub onto_last_length : (piece : List ℕ) (sessions : List (List ℕ)) → length (onto_last piece sessions) ≡ length sessions
onto_last_length piece [] = refl
onto_last_length piece (s ∷ []) = refl
onto_last_length piece (s ∷ t ∷ sessions) = ap suc (onto_last_length piece (t ∷ sessions))

pub starts_begun : (starts : List ℕ) (end : ℕ) → AreStarts starts end → AreStarts (starts ++ end ∷ []) end
starts_begun [] end h = omega arith
starts_begun (a ∷ []) end h = (h, omega arith)
starts_begun (a ∷ b ∷ starts) end h = (h.0, starts_begun (b ∷ starts) end h.1)

pub starts_grown : (starts : List ℕ) (end more : ℕ) → end ≤ more → AreStarts starts end → AreStarts starts more
starts_grown [] end more le h = tt
starts_grown (a ∷ []) end more le h = omega (arith, le, h)
starts_grown (a ∷ b ∷ starts) end more le h = (h.0, starts_grown (b ∷ starts) end more le h.1)

-- each place lies before the end
first_within : (start : ℕ) (starts : List ℕ) (end : ℕ) → AreStarts (start ∷ starts) end → start ≤ end
first_within a [] end h = h
first_within a (b ∷ starts) end h = let within = first_within b starts end h.1 in omega (arith, within, h.0)

nothing_after : (bytes : List ℕ) → drop (length bytes) bytes ≡ []
nothing_after bytes = drop_all (length bytes) bytes (omega arith)

-- what lies before the end of bytes is the same with more behind them
range_before : (bytes piece : List ℕ) (from to : ℕ) → from ≤ to → to ≤ length bytes → slice_range (bytes ++ piece) from to ≡ slice_range bytes from to
range_before bytes piece from to le within =
    let long = length-drop from bytes in
    ap (λ (x : List ℕ). take (to - from) x) (drop-append-le from bytes piece (omega arith)) ∙ take-append-le (to - from) (drop from bytes) piece (omega (arith, long))

drop_before : (bytes piece : List ℕ) (from : ℕ) → from ≤ length bytes → drop from (bytes ++ piece) ≡ drop from bytes ++ piece
drop_before bytes piece from within = drop-append-le from bytes piece within

range_to_end : (bytes : List ℕ) (from : ℕ) → from ≤ length bytes → slice_range bytes from (length bytes) ≡ drop from bytes
range_to_end bytes from within = let long = length-drop from bytes in take_all (length bytes - from) (drop from bytes) (omega (arith, long))

pub parts_from_begun : (starts bytes : List ℕ) → AreStarts starts (length bytes) → parts_from (starts ++ length bytes ∷ []) bytes ≡ parts_from starts bytes ++ [] ∷ []
parts_from_begun [] bytes h = ap (λ (x : List ℕ). x ∷ []) (nothing_after bytes)
parts_from_begun (a ∷ []) bytes h = rw (range_to_end bytes a h, nothing_after bytes) refl
parts_from_begun (a ∷ b ∷ starts) bytes h = ap (λ (x : List (List ℕ)). slice_range bytes a b ∷ x) (parts_from_begun (b ∷ starts) bytes h.1)

pub parts_from_extended : (starts bytes piece : List ℕ) → AreStarts starts (length bytes) → parts_from starts (bytes ++ piece) ≡ onto_last piece (parts_from starts bytes)
parts_from_extended [] bytes piece h = refl
parts_from_extended (a ∷ []) bytes piece h = ap (λ (x : List ℕ). x ∷ []) (drop_before bytes piece a h)
parts_from_extended (a ∷ b ∷ []) bytes piece h = rw (range_before bytes piece a b h.0 h.1, drop_before bytes piece b h.1) refl
parts_from_extended (a ∷ b ∷ c ∷ starts) bytes piece h =
    rw (range_before bytes piece a b h.0 (first_within b (c ∷ starts) (length bytes) h.1)) (ap (λ (x : List (List ℕ)). slice_range bytes a b ∷ x) (parts_from_extended (b ∷ c ∷ starts) bytes piece h.1))

pub record IsPart (starts : List ℕ) (end place from to : ℕ) : Type 0 where
  pub ordered : from ≤ to
  pub within : to ≤ end
  pub part : (bytes : List ℕ) → length bytes ≡ end → slice_get (parts_from starts bytes) place ≡ Some (slice_range bytes from to)

pub last_part : (starts : List ℕ) (place end : ℕ) → AreStarts starts end → suc place ≡ length starts → IsPart starts end place (slice_index_or starts place 0) end
last_part [] place end h last = absurd (omega arith)
last_part (a ∷ []) zero end h last = record { ordered = h; within = omega arith; part = λ bytes long. rw (← long) (ap Some (sym (range_to_end bytes a (omega (arith, h, long))))) }
last_part (a ∷ []) (suc place) end h last = absurd (omega arith)
last_part (a ∷ b ∷ starts) zero end h last = absurd (omega arith)
last_part (a ∷ b ∷ starts) (suc place) end h last =
    let rest = last_part (b ∷ starts) place end h.1 (omega arith) in
    record { ordered = rest.ordered; within = rest.within; part = rest.part }

pub inner_part : (starts : List ℕ) (place end : ℕ) → AreStarts starts end → suc place < length starts → IsPart starts end place (slice_index_or starts place 0) (slice_index_or starts (suc place) 0)
inner_part [] place end h inside = absurd (omega arith)
inner_part (a ∷ []) place end h inside = absurd (omega arith)
inner_part (a ∷ b ∷ starts) zero end h inside = record { ordered = h.0; within = first_within b starts end h.1; part = λ bytes long. refl }
inner_part (a ∷ b ∷ starts) (suc place) end h inside =
    let rest = inner_part (b ∷ starts) place end h.1 (omega arith) in
    record { ordered = rest.ordered; within = rest.within; part = rest.part }

pub next_part : (starts : List ℕ) (place end : ℕ) → AreStarts starts end → place + 1 < length starts → IsPart starts end place (slice_index_or starts place 0) (slice_index_or starts (place + 1) 0)
next_part starts place end h inside = simp unary_clauses (inner_part starts place end h (omega arith))
