-- Keys that fit a message.
use Rattle.std.proofs.Common.{◌≡◌, ℕ, ◌+◌, ◌-◌, ◌<◌, ◌≤◌, ◌==◌, Bool, true, false, cond, not, ◌&&◌, ◌||◌, nat_le, nat_lt, nat_eq, List, [], ◌∷◌, length, slice_get, Option, Some, None, refl, sym, ap, subst, ◌∙◌, arith}
use Rattle.std.specs.Prelude.{sum_by, if◌then◌else◌}
use Rattle.std.specs.List.{filter, list_all, AllByRecursion}
use Rattle.std.proofs.lemmas.Bool.Decides.{nat_tests}
use Rattle.ug_types.specs.declared.family.Family.{Family}
use Rattle.ug_types.specs.declared.family.Family.TheVariants.{V4, V6}
use Rattle.ug_types.specs.declared.key.Key.{Key}
use Rattle.ug_types.specs.Ip.{same_family}
use Rattle.ug_types.specs.Attributes.{Attributes}
use Rattle.ug_types.specs.Keys.{weight_of}
use Rattle.ug_message.specs.Spelling.{attributes, attributes_but_next_hop}
use Rattle.ug_message.specs.Spellable.{are_of_family}
use Rattle.ug_message.specs.Heads.{size_around}
use Rattle.ug_message.proofs.AttributeParts.{length_attributes, but_next_hop_are, length_next_hop}
use Rattle.std.proofs.Common.{length-append}
use Rattle.ug_message.specs.Spelling.{before_next_hop, after_next_hop}
use Rattle.ug_update.specs.Updates.{AreAlike, have_identifiers, lack_identifiers, weight_of_all}
use Rattle.ug_adjout.specs.Formatting.{fitting}
use Rattle.ug_adjout.specs.FormattingLaws.{fitting-longest}
use Rattle.ug_pack.specs.Rooms.{withdrawal_bytes, announcement_bytes, room, room_beside, IsShort}
use Rattle.ug_pack.specs.Ready.{IsKeyOf}

-- ---- rooms

around_most : (long : Bool) (n : ℕ) → (if long then n + 4 else n + 3) ≤ n + 4
around_most true n = omega arith
around_most false n = omega arith

most_around : (n : ℕ) → size_around n ≤ n + 4
most_around n = around_most (nat_lt 255 n) n

pub room_fits : (family : Family) (limit n : ℕ) → 4096 ≤ limit → n ≤ room family limit → withdrawal_bytes family n ≤ limit
room_fits V4 limit n le fits = omega arith
room_fits V6 limit n le fits = omega (arith, most_around (3 + n))

pub room_least : (family : Family) (limit : ℕ) → 4096 ≤ limit → 21 ≤ room family limit
room_least V4 limit le = omega arith
room_least V6 limit le = omega arith

pub but_next_hop : (a : Attributes) → length (attributes_but_next_hop a) ≤ length (attributes a)
but_next_hop a = omega (arith, length_attributes a, ap (λ (l : List ℕ). length l) (but_next_hop_are a), length-append (before_next_hop a) (after_next_hop a))

pub beside_fits : (family : Family) (limit : ℕ) (a : Attributes) (n : ℕ) → 4096 ≤ limit → IsShort a → n ≤ room_beside family limit a → announcement_bytes family a n ≤ limit
beside_fits V4 limit a n le short fits = omega arith
beside_fits V6 limit a n le short fits = omega (arith, most_around (21 + n), but_next_hop a)

pub beside_least : (family : Family) (limit : ℕ) (a : Attributes) → 4096 ≤ limit → IsShort a → 21 ≤ room_beside family limit a
beside_least V4 limit a le short = omega arith
beside_least V6 limit a le short = omega (arith, but_next_hop a)

-- ---- the run that fits

module _ {K : Type 0} (weigh : K → ℕ) where
  pub some_fit : (space : ℕ) (keys : List K) (key : K) → slice_get keys 0 ≡ Some key → weigh key ≤ space → 0 < length (fitting weigh space keys)
  some_fit space [] key e le = absurd cc
  some_fit space (k ∷ keys) key e le =
      let fits : nat_le (weigh k) space ≡ true = let same = ap weigh (first k key e) in grind (arith, nat_tests) in
      subst (λ b. 0 < length (cond b (k ∷ fitting weigh (space - weigh k) keys) [])) (sym fits) (omega arith)
    where
      first : (a b : K) → Some a ≡ Some b → a ≡ b
      first a b t = cc

  pub sum_fits : (space : ℕ) (keys : List K) → sum_by weigh (fitting weigh space keys) ≤ space
  sum_fits space keys = (fitting-longest weigh space keys).fits

  pub all_fit : (P : K → Type 0) (space : ℕ) (keys : List K) → AllByRecursion P keys → AllByRecursion P (fitting weigh space keys)
  all_fit P space [] h = tt
  all_fit P space (k ∷ keys) h = by (nat_le (weigh k) space) (all_fit P (space - weigh k) keys h.1)
    where
      by : (b : Bool) → AllByRecursion P (fitting weigh (space - weigh k) keys) → AllByRecursion P (cond b (k ∷ fitting weigh (space - weigh k) keys) [])
      by true g = (h.0, g)
      by false g = tt

pub all_kept : {K : Type 0} (P : K → Type 0) (test : K → Bool) (keys : List K) → AllByRecursion P keys → AllByRecursion P (filter test keys)
all_kept P test [] h = tt
all_kept P test (k ∷ keys) h = by (test k) (all_kept P test keys h.1)
  where
    by : (b : Bool) → AllByRecursion P (filter test keys) → AllByRecursion P (cond b (k ∷ filter test keys) (filter test keys))
    by true g = (h.0, g)
    by false g = g

-- ---- keys of one session

family_itself : (f g : Family) → f ≡ g → same_family f g ≡ true
family_itself V4 V4 e = refl
family_itself V6 V6 e = refl
family_itself V4 V6 e = absurd cc
family_itself V6 V4 e = absurd cc

pub of_family : (family : Family) (add_path : Bool) (keys : List Key) → AllByRecursion (IsKeyOf family add_path) keys → are_of_family family keys ≡ true
of_family family add_path [] h = refl
of_family family add_path (k ∷ keys) h = ap (λ b. b && are_of_family family keys) (family_itself k.prefix.family family h.0.family_is) ∙ of_family family add_path keys h.1

all_have : (family : Family) (keys : List Key) → AllByRecursion (IsKeyOf family true) keys → have_identifiers keys ≡ true
all_have family [] h = refl
all_have family (k ∷ keys) h = ap (λ b. not b && have_identifiers keys) h.0.id_is ∙ all_have family keys h.1

all_lack : (family : Family) (keys : List Key) → AllByRecursion (IsKeyOf family false) keys → lack_identifiers keys ≡ true
all_lack family [] h = refl
all_lack family (k ∷ keys) h = ap (λ b. b && lack_identifiers keys) h.0.id_is ∙ all_lack family keys h.1

right_true : (b : Bool) → (b || true) ≡ true
right_true true = refl
right_true false = refl

pub are_alike : (family : Family) (add_path : Bool) (keys : List Key) → AllByRecursion (IsKeyOf family add_path) keys → AreAlike keys
are_alike family true keys h = ap (λ b. b || lack_identifiers keys) (all_have family keys h)
are_alike family false keys h = ap (λ b. have_identifiers keys || b) (all_lack family keys h) ∙ right_true (have_identifiers keys)
