-- A lane that took packets which its wire has not got yet: how contracts see it, what it keeps, and what it takes.
use Rattle.std.specs.Prelude.{◌≡◌, ℕ, ◌+◌, ◌<◌, ◌≤◌, ◌⊎◌, Bool, false, List, ◌++◌, length, Option, Some, None, IsSome, map}
use Rattle.ug_board.specs.Entry.{Entry}
use Rattle.ug_board.specs.Rules.{Rules, buffer_size}
use Rattle.ug_board.specs.Deeds.{Deed, Loses}
use Rattle.ug_turnstile.specs.Passes.{Held}
use Rattle.ug_sender.specs.declared.laden.Fill.{Fill}
use Rattle.ug_sender.specs.declared.laden.Fill.TheVariants.{Little, Much, Full}
use Rattle.ug_sender.specs.declared.turn.Ending.{Ending}
use Rattle.ug_sender.specs.declared.turn.Ending.TheVariants.{Begun, Idle, Stop, More}
use Rattle.ug_sender.specs.Courses.{Course, KeepsWire}
use Rattle.ug_sender.specs.Lanes.{LaneView, IsOfPeer, WasPassedOver, pass_deeds}
use Rattle.ug_sender.specs.Rounds.{Packet, TellsTurn, bytes_in, ending_deeds, hands}

-- A laden lane: what contracts see of the lane, how many bytes of what it took fill its buffer, and the session that is to be
-- begun behind them, if there is one.
pub record LadenView (W Opening Job Said : Type 0) : Type 0 where
  pub lane : LaneView W Opening Job Said
  pub filled : ℕ
  pub waiting : Option ℕ

-- a lane with nothing in its buffer
abbrev pub unladen : {W Opening Job Said : Type 0} → LaneView W Opening Job Said → LadenView W Opening Job Said
unladen lane = record { lane = lane; filled = 0; waiting = None }

-- how many bytes the buffer of a lane holds, a quarter of them, and half of them
abbrev pub lane_buffer_size : ℕ
lane_buffer_size = 262144

abbrev pub quarter_of_buffer : ℕ
quarter_of_buffer = 65536

abbrev pub half_of_buffer : ℕ
half_of_buffer = 131072

-- What is told of how much a lane has to send, by the session that is to be begun, if there is one, and by how many bytes fill
-- its buffer.
abbrev pub TellsFill : Fill → Option ℕ → ℕ → Type 0
TellsFill Little waiting filled = (waiting ≡ None) × (filled < quarter_of_buffer)
TellsFill Much waiting filled = (waiting ≡ None) × (quarter_of_buffer ≤ filled) × (filled < half_of_buffer)
TellsFill Full waiting filled = IsSome waiting ⊎ (half_of_buffer ≤ filled)

-- More may be loaded: no session is to be begun first, and there is room for a longest message.
abbrev pub MayLoad : {W Opening Job Said : Type 0} → LadenView W Opening Job Said → Type 0
MayLoad laden = (laden.waiting ≡ None) × (laden.filled + buffer_size ≤ lane_buffer_size)

-- the session that is to be begun, after a turn that ended so
abbrev pub waiting_after : Option ℕ → Ending → Option ℕ
waiting_after waiting (Begun session) = Some session
waiting_after waiting Idle = waiting
waiting_after waiting Stop = waiting
waiting_after waiting More = waiting

-- What sending a load adds to the deeds of its pass: losses of sessions in which a call failed, and nothing else.
abbrev pub TellsSend : List (Deed (List ℕ)) → List (Deed (List ℕ)) → Type 0
TellsSend old new = (lost : List ℕ) × (new ≡ old ++ map (λ n. Loses n) lost)

module _ {Opening State Job Said : Type 0} (rules : Rules Opening State Job Said) where
  -- What a load tells: the deeds of the pass are added packets, one after the other, and then the session that began, if one
  -- did; the buffer is filled further by what the open session gets of the packets, and the session that began waits.
  pub record TellsLoad {W : Type 0} (old new : LadenView W Opening Job Said) : Type 0 where
    pub packets : List Packet
    pub ending : Ending
    pub grown : pass_deeds rules new.lane.pass ≡ pass_deeds rules old.lane.pass ++ (hands packets ++ ending_deeds ending)
    pub filled : new.filled ≡ old.filled + length (bytes_in old.lane.latest packets)
    pub waiting : new.waiting ≡ waiting_after old.waiting ending

  -- Between a moment of a pass and a later one a loss of a load was passed over: of the session that was open, or of the one
  -- that was to be begun.
  abbrev pub MissesLossOf : {W : Type 0} → LadenView W Opening Job Said → Held (Entry Job Said) Opening → Type 0
  MissesLossOf laden pass =
      (session : ℕ) × ((laden.lane.latest ≡ Some session) ⊎ (laden.waiting ≡ Some session)) × WasPassedOver rules laden.lane.peer session laden.lane.pass pass

  -- What a laden lane keeps: the entries of its pass are its own steps; its wire holds what the pass was handed before; and
  -- what the pass was handed since is its load: packets, of which what the open session gets stands at the front of the
  -- buffer, and then the session that begins behind them, if one does.
  pub record KeepsLoad (pass : Held (Entry Job Said) Opening) (peer : ℕ) (told : Option (List (List ℕ))) (begun faults : ℕ) (latest : Option ℕ) (unnoted : Bool)
      (buf : List ℕ) (bytes : ℕ) (last : Ending) : Type 0 where
    pub free : pass.holds ≡ false
    pub own : IsOfPeer peer pass
    pub before : List (Deed (List ℕ))
    pub courses : List Course
    pub kept : KeepsWire courses before told begun faults latest unnoted
    pub count : ℕ
    pub load : TellsTurn latest (record { packets = count; filled = bytes; ending = last }) buf before (pass_deeds rules pass)
