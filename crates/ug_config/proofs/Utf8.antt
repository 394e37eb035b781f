-- The test of UTF-8.
use Rattle.std.proofs.Common.{◌≡◌, ℕ, Bool, true, false, List, refl}
use Rattle.std.specs.Str.{IsUtf8, is_utf8}
use Rattle.std.proofs.lemmas.Str.{IsUtf8-from_is_utf8, is_utf8-from_IsUtf8}

pub utf8_told : (bs : List ℕ) → IsUtf8 bs → is_utf8 bs ≡ true
utf8_told bs h = is_utf8-from_IsUtf8 bs h

not_told : (bs : List ℕ) (b : Bool) → is_utf8 bs ≡ b → (IsUtf8 bs → ⊥) → is_utf8 bs ≡ false
not_told bs true e h = absurd (h (IsUtf8-from_is_utf8 bs e))
not_told bs false e h = e

pub utf8_refused : (bs : List ℕ) → (IsUtf8 bs → ⊥) → is_utf8 bs ≡ false
utf8_refused bs h = not_told bs (is_utf8 bs) refl h
