-- What an UPDATE can say, and how long it is.
use Rattle.std.specs.Prelude.{◌≡◌, ℕ, ◌+◌, ◌≤◌, ◌==◌, Bool, true, not, ◌||◌, List, [], ◌∷◌, ◌++◌, length, replicate, sum_by, Some, None}
use Rattle.std.specs.List.{list_all, flat_map}
use Rattle.std.specs.Int.{w16, to_be_bytes}
use Rattle.ug_types.specs.declared.key.Key.{Key}
use Rattle.ug_types.specs.declared.family.Family.{Family}
use Rattle.ug_types.specs.declared.capabilities.Capabilities.{Capabilities}
use Rattle.ug_types.specs.Attributes.{Attributes}
use Rattle.ug_types.specs.Keys.{weight_of}
use Rattle.ug_types.specs.Messages.{Changes}
use Rattle.ug_message.specs.Spelling.{route, attributes}
use Rattle.ug_message.specs.Spellable.{is_route}

-- the routes have path identifiers, as under ADD-PATH
abbrev pub have_identifiers : List Key → Bool
have_identifiers keys = list_all (λ (key : Key). not (key.id == 0)) keys

-- they have none
abbrev pub lack_identifiers : List Key → Bool
lack_identifiers keys = list_all (λ (key : Key). key.id == 0) keys

-- Each of the routes has an identifier, or none has: one message spells all of them alike.
abbrev pub AreAlike : List Key → Type 0
AreAlike keys = (have_identifiers keys || lack_identifiers keys) ≡ true

-- routes that are withdrawn, and none announced
abbrev pub withdrawing : List Key → Changes
withdrawing keys = record { withdrawn = keys; attrs = None; announced = [] }

-- routes that are announced, and none withdrawn
abbrev pub announcing : Attributes → List Key → Changes
announcing attrs keys = record { withdrawn = []; attrs = Some attrs; announced = keys }

-- how many bytes the routes take
abbrev pub weight_of_all : List Key → ℕ
weight_of_all keys = sum_by weight_of keys

-- how long the message is: marker, length and type, two lengths, and what they say
abbrev pub withdrawal_size : List Key → ℕ
withdrawal_size keys = 23 + weight_of_all keys

abbrev pub announcement_size : Attributes → List Key → ℕ
announcement_size attrs keys = 23 + (length (attributes attrs) + weight_of_all keys)

-- the longest message
abbrev pub IsMessageSize : ℕ → Type 0
IsMessageSize size = size ≤ 65535

-- the routes, each with its identifier where it has one
abbrev pub own_routes : List Key → List ℕ
own_routes keys = flat_map (λ (key : Key). route (not (key.id == 0)) key) keys

-- the marker, the length of the message, and the type of an UPDATE
abbrev pub header : ℕ → List ℕ
header size = replicate 16 255 ++ (to_be_bytes w16 size ++ 2 ∷ [])

-- the session of a message of these routes: their family, and ADD-PATH where they have identifiers
pub record IsSessionOf (family : Family) (keys : List Key) (c : Capabilities) : Type 0 where
  pub of_family : c.family ≡ family
  pub add_path : c.add_path ≡ have_identifiers keys

-- a key as a message of its own can spell it
abbrev pub is_own : Key → Bool
is_own key = is_route key.prefix.family (not (key.id == 0)) key
