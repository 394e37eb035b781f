-- Lines and their words.
use Rattle.std.proofs.Common.{◌≡◌, ℕ, List, [], ◌∷◌, length, refl, arith}
use Rattle.ug_events.specs.Words.{words, words_from}

-- there are no words where there are no bytes
pub no_words : (bytes : List ℕ) → length bytes ≡ 0 → words bytes ≡ []
unfolding words_from
no_words [] e = refl
no_words (b ∷ bytes) e = absurd (omega arith)
