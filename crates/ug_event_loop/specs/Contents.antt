-- What the wires of a run tell, and what their sessions hold.
use Rattle.std.specs.Prelude.{◌≡◌, ℕ, zero, suc, ◌+◌, ◌<◌, ◌==◌, Bool, false, not, List, [], ◌∷◌, length, slice_get, Option, Some, None, option_and_then}
use Rattle.std.specs.List.{list_any}
use Rattle.ug_types.specs.Messages.{Message}
use Rattle.ug_types.specs.Bytes.{is_empty}

-- what a wire tells: the bytes of its sessions, and how often a call of it failed
pub record WireTold : Type 0 where
  pub sessions : Option (List (List ℕ))
  pub faults : ℕ

-- what a session holds: whole messages, and what is left of one that was cut short
pub record Content : Type 0 where
  pub messages : List Message
  pub rest : List ℕ

abbrev pub has_rest : Content → Bool
has_rest c = not (is_empty c.rest)

-- For each session that is told, by its number from here on.
abbrev pub EachFrom : (ℕ → List ℕ → Content → Type 0) → ℕ → List (List ℕ) → List Content → Type 0
EachFrom P n [] [] = Unit {0}
EachFrom P n [] (c ∷ contents) = ⊥
EachFrom P n (bytes ∷ sessions) [] = ⊥
EachFrom P n (bytes ∷ sessions) (c ∷ contents) = P n bytes c × EachFrom P (n + 1) sessions contents

-- Of a wire that keeps its sessions to itself nothing is known.
abbrev pub EachSession : (ℕ → List ℕ → Content → Type 0) → Option (List (List ℕ)) → List Content → Type 0
EachSession P None contents = contents ≡ []
EachSession P (Some sessions) contents = EachFrom P 1 sessions contents

-- There are as many wires as lists of contents and lists of lost numbers, and at each place it holds of these.
pub record EachWire (P : ℕ → WireTold → List Content → List ℕ → Type 0) (wires : List WireTold) (contents : List (List Content)) (lost : List (List ℕ)) : Type 0 where
  pub all_contents : length contents ≡ length wires
  pub all_lost : length lost ≡ length wires
  pub at : (p : ℕ) (wire : WireTold) (c : List Content) (numbers : List ℕ) → slice_get wires p ≡ Some wire → slice_get contents p ≡ Some c → slice_get lost p ≡ Some numbers → P p wire c numbers

-- the content of session `n`, counted from 1, on the wire at a place
abbrev pub session_at : ℕ → List Content → Option Content
session_at zero contents = None
session_at (suc n) contents = slice_get contents n

abbrev pub content_at : List (List Content) → ℕ → ℕ → Option Content
content_at contents p n = option_and_then (session_at n) (slice_get contents p)

abbrev pub has_number : List ℕ → ℕ → Bool
has_number numbers n = list_any (λ (m : ℕ). m == n) numbers

abbrev pub is_lost_of : Option (List ℕ) → ℕ → Bool
is_lost_of None n = false
is_lost_of (Some numbers) n = has_number numbers n

-- session `n` of the peer at a place was lost
abbrev pub is_lost_at : List (List ℕ) → ℕ → ℕ → Bool
is_lost_at lost p n = is_lost_of (slice_get lost p) n

-- The numbers rise, from above this one.
abbrev pub RiseFrom : ℕ → List ℕ → Type 0
RiseFrom low [] = Unit {0}
RiseFrom low (n ∷ numbers) = (low < n) × RiseFrom n numbers
