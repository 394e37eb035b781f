-- How a queue is kept: a cursor counts from `start` on, round the end of 64 bits, and for each place stands how many members are there.
use Rattle.std.specs.Prelude.{◌≡◌, ℕ, ◌+◌, ◌-◌, ◌<◌, ◌%◌, ◌^◌, List, length, get_or}
use Rattle.std.specs.Map.{keys_of}
use Rattle.std.specs.List.Sorted.{IsStrictlySortedBy}
use Rattle.std.specs.Ordering.{nat_cmp}
use Rattle.ug_queue.specs.Queues.{mapped, standing}

-- the place of a cursor
abbrev pub place_from : ℕ → ℕ → ℕ
place_from start cursor = (cursor + (2 ^ 64 - start)) % 2 ^ 64

-- the members' places, from their cursors
abbrev pub places_from : ℕ → List (ℕ × ℕ) → List (ℕ × ℕ)
places_from start cursors = mapped (place_from start) cursors

-- each number is how many members stand at that place, and past the last one there is none
abbrev pub AreCounted : List ℕ → List (ℕ × ℕ) → Type 0
AreCounted waiting places = (i : ℕ) → get_or waiting i 0 ≡ standing places i

-- n packets
pub record IsLine (n : ℕ) (waiting : List ℕ) (start : ℕ) (cursors : List (ℕ × ℕ)) : Type 0 where
  pub counted : AreCounted waiting (places_from start cursors)
  pub long : 0 < length waiting → length waiting ≡ n + 1
  pub fresh : length waiting ≡ 0 → n ≡ 0
  pub sorted : IsStrictlySortedBy nat_cmp (keys_of cursors)
  pub small : start < 2 ^ 64
