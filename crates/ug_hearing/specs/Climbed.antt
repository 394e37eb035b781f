-- How the keys of a session climbed, by its rows.
use Rattle.std.specs.Prelude.{◌≡◌, ℕ, ◌-◌, ◌<◌, ◌≤◌, Bool, true, List, [], ◌∷◌, ◌++◌, map, length, reverse, slice_get, take, filter, Option, Some, None, is_some}
use Rattle.std.specs.List.Sorted.{IsStrictlySortedBy}
use Rattle.ug_types.specs.declared.key.Key.{Key}
use Rattle.ug_types.specs.Messages.{Message}
use Rattle.ug_types.specs.Orders.{key_cmp}
use Rattle.ug_message.specs.Tables.{Table, among}
use Rattle.ug_hearing.specs.Shifts.{Shift}
use Rattle.ug_hearing.specs.Certificates.{KeyClimb, AreClimbs}
use Rattle.ug_hearing.specs.declared.row.Moved.{Moved}
use Rattle.ug_hearing.specs.declared.row.Row.{Row}
use Rattle.ug_hearing.specs.Keyed.{value_for}
use Rattle.ug_hearing.specs.Rows.{IsChain}
use Rattle.ug_hearing.specs.declared.session.Session.{Session}
use Rattle.ug_hearing.specs.declared.judge.Judge.{Judge}
use Rattle.ug_hearing.specs.declared.climbs.Move.{Move}
use Rattle.ug_hearing.specs.declared.climbs.Climbs.{Climbs}
use Rattle.ug_hearing.specs.declared.climbs.Named.{Named}
use Rattle.ug_hearing.specs.Judged.{IsSession, IsJudged}

abbrev pub shift_of : Move → Shift
shift_of m = record { message = m.message; place = m.place }

-- the climb of a key with these moves
abbrev pub climb_with : Key → List Move → KeyClimb
climb_with key moves = record { key = key; shifts = map shift_of moves }

-- the same from the last back
abbrev pub IsBack : List Shift → List Shift → Type 0
IsBack shifts back = shifts ≡ reverse back

-- Some of the moves were told, from the last back, and the others follow.
pub record IsPart (all : List Moved) (at : ℕ) (told : List Shift) (shifts : List Shift) : Type 0 where
  pub older : List Shift
  pub rest : IsChain all at older
  pub parts : shifts ≡ told ++ older

-- the session's messages named the key: it has a row
abbrev pub is_named : Judge → Key → Bool
is_named j key = is_some (value_for j.hearing.standings.rows key)

-- the number of the last move of a row, where there is one
abbrev pub last_move_of : Option Row → Option ℕ
last_move_of None = None
last_move_of (Some row) = Some row.moved

-- The first of the keys, from a place on, that was named.
pub record IsNextNamed (j : Judge) (keys : List Key) (from : ℕ) (n : Named) : Type 0 where
  pub low : from < n.behind
  pub high : n.behind ≤ length keys
  pub passed : filter (is_named j) (take n.behind keys) ≡ filter (is_named j) (take from keys) ++ n.key ∷ []
  pub last : last_move_of (value_for j.hearing.standings.rows n.key) ≡ Some n.moved

-- There is a row, and these are its moves.
abbrev pub AreMovesOf : List Moved → Option Row → List Shift → Type 0
AreMovesOf all None shifts = ⊥
AreMovesOf all (Some row) shifts = (back : List Shift) → IsChain all row.moved back → IsBack shifts back

-- Of the keys before the place these climbs were handed out: those of the keys that were named, with their moves.
pub record HandedOut (j : Judge) (c : Climbs) (done : List KeyClimb) : Type 0 where
  pub ascending : IsStrictlySortedBy key_cmp c.keys.items
  pub all : (q : Key) → is_named j q ≡ true → among c.keys.items q ≡ true
  pub keys_are : map (λ (k : KeyClimb). k.key) done ≡ filter (is_named j) (take c.place c.keys.items)
  pub each : (i : ℕ) (k : KeyClimb) → slice_get done i ≡ Some k → AreMovesOf j.hearing.standings.moves.items (value_for j.hearing.standings.rows k.key) k.shifts

-- These are the climbs of any session behind whose messages the judge stands, where no breach is there.
abbrev pub AreOfJudged : Judge → List KeyClimb → Type 0
AreOfJudged j climbs = (session : Session) (past tables : List Table) (ms : List Message) → IsSession session past tables → IsJudged session past tables j ms → j.found ≡ None → AreClimbs past ms climbs

-- One climb more was handed out, or there is none.
abbrev pub GoesOn : Judge → Climbs → List KeyClimb → Option Key → Type 0
GoesOn j c done None = AreOfJudged j done
GoesOn j c done (Some key) = HandedOut j c (done ++ climb_with key c.moves.items ∷ [])

-- how many keys are left to be looked at
abbrev pub keys_left : Climbs → ℕ
keys_left c = length c.keys.items - c.place
