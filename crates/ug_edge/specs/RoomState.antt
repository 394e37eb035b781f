-- What a wire holds that has room for so many sessions and bytes, and what each call makes of it.
use Rattle.std.specs.Prelude.{ℕ, ◌+◌, ◌-◌, ◌≤◌, ◌==◌, ◌&&◌, ◌||◌, nat_lt, min, Bool, List, [], ◌∷◌, ◌++◌, length, drop, slice_range}
use Rattle.ug_edge.specs.Fails.{raised}
use Rattle.ug_edge.specs.Told.{onto_last, WireName}

-- The bytes of each session that has room, and how many more sessions and bytes there is room for.
pub record SpansState : Type 0 where
  pub sessions : List (List ℕ)
  pub sessions_left : ℕ
  pub room : ℕ

-- the sessions that begin at these places of the bytes, the last of which goes to their end
abbrev pub parts_from : List ℕ → List ℕ → List (List ℕ)
parts_from [] bytes = []
parts_from (start ∷ []) bytes = drop start bytes ∷ []
parts_from (start ∷ next ∷ starts) bytes = slice_range bytes start next ∷ parts_from (next ∷ starts) bytes

-- No place lies before the one before it, and none past the end.
abbrev pub AreStarts : List ℕ → ℕ → Type 0
AreStarts [] end = Unit {0}
AreStarts (start ∷ []) end = start ≤ end
AreStarts (start ∷ next ∷ starts) end = (start ≤ next) × AreStarts (next ∷ starts) end

-- The bytes of each session, how many of the last sessions found no room, how many more sessions and bytes there is
-- room for, and the faults so far.
pub record RoomState : Type 0 where
  pub sessions : List (List ℕ)
  pub unkept : ℕ
  pub sessions_left : ℕ
  pub room : ℕ
  pub faults : ℕ

-- it was made for nobody
abbrev pub for_nobody : WireName
for_nobody = record { dir = []; peer = [] }

-- the wire with no session yet, and room for so many sessions and bytes
abbrev pub fresh_room : ℕ → ℕ → RoomState
fresh_room sessions bytes = record { sessions = []; unkept = 0; sessions_left = sessions; room = bytes; faults = 0 }

-- the wire with a further session, for which there was room
abbrev pub room_begun : RoomState → RoomState
room_begun wire = record wire { sessions = wire.sessions ++ [] ∷ []; sessions_left = wire.sessions_left - 1 }

-- the wire with a further session, for which there was none
abbrev pub room_unkept : RoomState → RoomState
room_unkept wire = record wire { sessions = wire.sessions ++ [] ∷ []; unkept = wire.unkept + 1; faults = raised wire.faults }

-- A send of this piece fails: the last session found no room, or no byte of the piece finds any.
abbrev pub room_refuses : List ℕ → RoomState → Bool
room_refuses piece wire = nat_lt 0 wire.unkept || ((min wire.room (length piece) == 0) && nat_lt 0 (length piece))

-- the wire after a send that took these bytes into the last session
abbrev pub room_with : List ℕ → RoomState → RoomState
room_with bytes wire = record wire { sessions = onto_last bytes wire.sessions; room = wire.room - length bytes }

-- the wire after a send that failed
abbrev pub room_failed : RoomState → RoomState
room_failed wire = record wire { faults = raised wire.faults }
