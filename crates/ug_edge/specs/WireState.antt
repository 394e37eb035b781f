-- What a wire in memory has taken, and what each call makes of it.
use Rattle.std.specs.Prelude.{ℕ, ◌+◌, ◌-◌, ◌==◌, ◌&&◌, nat_le, nat_lt, min, Bool, List, [], ◌∷◌, ◌++◌, length, fold, position, remove}
use Rattle.std.specs.List.{list_any}
use Rattle.std.specs.Option.{option_map_or}
use Rattle.ug_edge.specs.Fails.{raised}
use Rattle.ug_edge.specs.Told.{onto_last, WireName}

-- For whom it was made, the bytes of each session, how many of the last sessions found no memory, how many bytes were sent over all
-- sessions, the totals at which a send is still to fail, the numbers of the sessions whose begin fails, the faults
-- so far, and those of them that came of running out of memory.
pub record WireState : Type 0 where
  pub made_for : WireName
  pub sessions : List (List ℕ)
  pub unkept : ℕ
  pub sent : ℕ
  pub cuts : List ℕ
  pub failing : List ℕ
  pub faults : ℕ
  pub starved : ℕ

-- the wire with no session yet
abbrev pub fresh_wire : WireName → List ℕ → List ℕ → WireState
fresh_wire made_for cuts failing = record { made_for = made_for; sessions = []; unkept = 0; sent = 0; cuts = cuts; failing = failing; faults = 0; starved = 0 }

-- the wire after a call that was listed to fail
abbrev pub wire_failed : WireState → WireState
wire_failed wire = record wire { faults = raised wire.faults }

-- the wire after a call for which memory ran out
abbrev pub wire_starved : WireState → WireState
wire_starved wire = record wire { faults = raised wire.faults; starved = raised wire.starved }

-- The next session is one of those whose begin fails.
abbrev pub next_begin_fails : WireState → Bool
next_begin_fails wire = list_any (λ number. number == length wire.sessions + 1) wire.failing

-- the wire with a further session, which is empty, and this many of the last sessions with no memory
abbrev pub wire_begun : ℕ → WireState → WireState
wire_begun unkept wire = record wire { sessions = wire.sessions ++ [] ∷ []; unkept = unkept }

-- how many of some bytes can be sent before the nearest cut
abbrev pub room_before_cut : ℕ → List ℕ → ℕ → ℕ
room_before_cut sent cuts count = fold (λ room total. min room (total - sent)) count cuts

-- A send of this piece fails because the bytes sent so far reach a cut.
abbrev pub meets_cut : List ℕ → WireState → Bool
meets_cut piece wire = (wire.unkept == 0) && (nat_lt 0 (length piece) && (room_before_cut wire.sent wire.cuts (length piece) == 0))

-- the cuts without the first of those that are reached
abbrev pub cuts_left : ℕ → List ℕ → List ℕ
cuts_left sent cuts = option_map_or (λ place. remove cuts place) (position (λ total. nat_le total sent) cuts) cuts

-- the wire after a send that failed at a cut, which is spent now
abbrev pub wire_cut : WireState → WireState
wire_cut wire = record wire { cuts = cuts_left wire.sent wire.cuts; faults = raised wire.faults }

-- the wire after a send that took these bytes into the last session
abbrev pub wire_with : List ℕ → WireState → WireState
wire_with bytes wire = record wire { sessions = onto_last bytes wire.sessions; sent = min (wire.sent + length bytes) 18446744073709551615 }
