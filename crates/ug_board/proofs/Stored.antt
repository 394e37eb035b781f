-- Entries as they are stored, as their list and that of the packets beside grow.
use Rattle.std.proofs.Common.{◌≡◌, ◌+◌, ◌<◌, ℕ, zero, suc, List, [], ◌∷◌, ◌++◌, length, refl, sym, ◌∙◌, ap, arith, subst}
use Rattle.std.specs.Prelude.{slice_get, Option, Some, option_map}
use Rattle.std.proofs.lemmas.List.{map-append, length-append}
use Rattle.std.proofs.lemmas.Option.{slice_get-map}
use Rattle.ug_board.specs.Entry.{Entry}
use Rattle.ug_board.specs.declared.kept.Packet.{Packet}
use Rattle.ug_board.specs.declared.kept.Kept.{Kept}
use Rattle.ug_board.specs.declared.kept.Kept.TheVariants.{Job, Begun, Hand, Beside, Lost}
use Rattle.ug_board.specs.Kept.{entry_of, beside_entry, entries_of, IsWhole, IsWithin, AreWithin}

get-before : (xs : List Packet) (y : Packet) (i : ℕ) → i < length xs → slice_get (xs ++ y ∷ []) i ≡ slice_get xs i
get-before [] y i inside = let none : i < 0 = inside in absurd (omega (arith, none))
get-before (x ∷ xs) y zero inside = refl
get-before (x ∷ xs) y (suc i) inside = get-before xs y i (omega (arith, inside))

get-last : (xs : List Packet) (y : Packet) → slice_get (xs ++ y ∷ []) (length xs) ≡ Some y
get-last [] y = refl
get-last (x ∷ xs) y = get-last xs y

module _ {J R : Type 0} where
  entry_of-whole : (packets : List Packet) (kept : Kept J R) → IsWhole kept → entry_of packets kept ≡ entry_of [] kept
  entry_of-whole packets (Job pass done) whole = refl
  entry_of-whole packets (Begun pass peer session) whole = refl
  entry_of-whole packets (Hand session len pass peer made) whole = refl
  entry_of-whole packets (Beside pass place) whole = absurd whole
  entry_of-whole packets (Lost pass peer session) whole = refl

  within-whole : (count : ℕ) (kept : Kept J R) → IsWhole kept → IsWithin count kept
  within-whole count (Job pass done) whole = tt
  within-whole count (Begun pass peer session) whole = tt
  within-whole count (Hand session len pass peer made) whole = tt
  within-whole count (Beside pass place) whole = absurd whole
  within-whole count (Lost pass peer session) whole = tt

  within-more : (count : ℕ) (kept : Kept J R) → IsWithin count kept → IsWithin (count + 1) kept
  within-more count (Job pass done) within = tt
  within-more count (Begun pass peer session) within = tt
  within-more count (Hand session len pass peer made) within = tt
  within-more count (Beside pass place) within = let here : place < count = within in omega (arith, here)
  within-more count (Lost pass peer session) within = tt

  all-more : (count : ℕ) (all : List (Kept J R)) → AreWithin count all → AreWithin (count + 1) all
  all-more count [] within = tt
  all-more count (kept ∷ others) within = (within-more count kept within.0, all-more count others within.1)

  all-grown : (count : ℕ) (all : List (Kept J R)) (kept : Kept J R) → AreWithin count all → IsWithin count kept → AreWithin count (all ++ kept ∷ [])
  all-grown count [] kept within here = (here, tt)
  all-grown count (first ∷ others) kept within here = (within.0, all-grown count others kept within.1 here)

  pub within_at : (count : ℕ) (all : List (Kept J R)) (i : ℕ) (kept : Kept J R) → AreWithin count all → slice_get all i ≡ Some kept → IsWithin count kept
  within_at count [] i kept within there = absurd cc
  within_at count (first ∷ others) zero kept within there = let same : first ≡ kept = cc in subst (λ k. IsWithin count k) same within.0
  within_at count (first ∷ others) (suc i) kept within there = within_at count others i kept within.1 there

  entry_of-more : (packets : List Packet) (packet : Packet) (kept : Kept J R) → IsWithin (length packets) kept → entry_of (packets ++ packet ∷ []) kept ≡ entry_of packets kept
  entry_of-more packets packet (Job pass done) within = refl
  entry_of-more packets packet (Begun pass peer session) within = refl
  entry_of-more packets packet (Hand session len pass peer made) within = refl
  entry_of-more packets packet (Beside pass place) within = ap (λ (found : Option Packet). beside_entry {J = J} {R = R} pass found) (get-before packets packet place within)
  entry_of-more packets packet (Lost pass peer session) within = refl

  entries_of-more : (packets : List Packet) (packet : Packet) (all : List (Kept J R)) → AreWithin (length packets) all → entries_of (packets ++ packet ∷ []) all ≡ entries_of packets all
  entries_of-more packets packet [] within = refl
  entries_of-more packets packet (kept ∷ others) within =
      ap (λ (e : Entry J R). e ∷ entries_of (packets ++ packet ∷ []) others) (entry_of-more packets packet kept within.0)
      ∙ ap (λ (es : List (Entry J R)). entry_of packets kept ∷ es) (entries_of-more packets packet others within.1)

  -- An entry more that stands for itself.
  pub whole_items :
      (packets : List Packet) (all new : List (Kept J R)) (kept : Kept J R) → IsWhole kept → new ≡ all ++ kept ∷ []
      → entries_of packets new ≡ entries_of packets all ++ entry_of [] kept ∷ []
  whole_items packets all new kept whole grown =
      ap (λ ks. entries_of packets ks) grown
      ∙ (map-append (entry_of packets) all (kept ∷ []) ∙ ap (λ (e : Entry J R). entries_of packets all ++ e ∷ []) (entry_of-whole packets kept whole))

  pub whole_within :
      (count : ℕ) (all new : List (Kept J R)) (kept : Kept J R) → IsWhole kept → AreWithin count all → new ≡ all ++ kept ∷ [] → AreWithin count new
  whole_within count all new kept whole within grown =
      subst (λ ks. AreWithin count ks) (sym grown) (all-grown count all kept within (within-whole count kept whole))

  -- A packet more beside, and its entry.
  pub beside_items :
      (packets packets' : List Packet) (packet : Packet) (all new : List (Kept J R)) (pass place : ℕ)
      → AreWithin (length packets) all → place ≡ length packets → packets' ≡ packets ++ packet ∷ [] → new ≡ all ++ Beside pass place ∷ []
      → entries_of packets' new ≡ entries_of packets all ++ beside_entry pass (Some packet) ∷ []
  beside_items packets packets' packet all new pass place within last more grown =
      let longer = packets ++ packet ∷ [] in
      let there : slice_get longer place ≡ Some packet = ap (λ i. slice_get longer i) last ∙ get-last packets packet in
      ap (λ ps. entries_of ps new) more
      ∙ (ap (λ ks. entries_of longer ks) grown
      ∙ (map-append (entry_of longer) all (Beside pass place ∷ [])
      ∙ (ap (λ (es : List (Entry J R)). es ++ entry_of longer (Beside pass place) ∷ []) (entries_of-more packets packet all within)
      ∙ ap (λ (found : Option Packet). entries_of packets all ++ beside_entry pass found ∷ []) there)))

  pub beside_within :
      (packets packets' : List Packet) (packet : Packet) (all new : List (Kept J R)) (pass place : ℕ)
      → AreWithin (length packets) all → place ≡ length packets → packets' ≡ packets ++ packet ∷ [] → new ≡ all ++ Beside pass place ∷ []
      → AreWithin (length packets') new
  beside_within packets packets' packet all new pass place within last more grown =
      let longer : length packets' ≡ length packets + 1 = ap length more ∙ length-append packets (packet ∷ []) in
      let here : place < length packets + 1 = omega (arith, last) in
      subst (λ n. AreWithin n new) (sym longer)
      (subst (λ ks. AreWithin (length packets + 1) ks) (sym grown)
      (all-grown (length packets + 1) all (Beside pass place) (all-more (length packets) all within) here))

  -- the entry in a place
  pub entry_at :
      (packets : List Packet) (all : List (Kept J R)) (i : ℕ) (kept : Kept J R)
      → slice_get all i ≡ Some kept → slice_get (entries_of packets all) i ≡ Some (entry_of packets kept)
  entry_at packets all i kept there = slice_get-map (entry_of packets) all i ∙ ap (λ found. option_map (entry_of packets) found) there
