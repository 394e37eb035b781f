-- The bytes of sessions after the last of them was written to.
use Rattle.std.proofs.Common.{◌≡◌, ℕ, zero, suc, List, [], ◌∷◌, ◌++◌, length, ap, arith, slice_set}
use Rattle.std.specs.Prelude.{slice_get, Some}
use Rattle.ug_types.specs.Listed.{Listed}
use Rattle.ug_edge.specs.SessionsState.{session_bytes}
use Rattle.ug_edge.specs.Told.{onto_last}

pub session_bytes-extended :
    (kept : List (Listed ℕ)) (n : ℕ) (old new : Listed ℕ) (piece : List ℕ)
    → slice_get kept n ≡ Some old → length kept ≡ suc n → new.items ≡ old.items ++ piece
    → session_bytes (slice_set kept n new) 0 ≡ onto_last piece (session_bytes kept 0)
session_bytes-extended [] n old new piece here last grown = cc
session_bytes-extended (x ∷ []) zero old new piece here last grown = let e : x ≡ old = cc in grind arith
session_bytes-extended (x ∷ []) (suc n) old new piece here last grown = cc
session_bytes-extended (x ∷ y ∷ kept) zero old new piece here last grown = absurd (omega arith)
session_bytes-extended (x ∷ y ∷ kept) (suc n) old new piece here last grown =
    ap (λ sessions. x.items ∷ sessions) (session_bytes-extended (y ∷ kept) n old new piece here (omega arith) grown)

pub session_bytes-same :
    (kept : List (Listed ℕ)) (n : ℕ) (old new : Listed ℕ)
    → slice_get kept n ≡ Some old → new.items ≡ old.items
    → session_bytes (slice_set kept n new) 0 ≡ session_bytes kept 0
session_bytes-same [] n old new here same = cc
session_bytes-same (x ∷ kept) zero old new here same = let e : x ≡ old = cc in grind arith
session_bytes-same (x ∷ kept) (suc n) old new here same =
    ap (λ sessions. x.items ∷ sessions) (session_bytes-same kept n old new here same)
