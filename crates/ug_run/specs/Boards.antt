-- The passes of a board as they are dealt, and what is known when they are back.
use Rattle.std.specs.Prelude.{◌≡◌, ◌+◌, ◌≤◌, List, length, Some}
use Rattle.ug_board.specs.Entry.{Entry}
use Rattle.ug_board.specs.Rules.{Rules}
use Rattle.ug_board.specs.History.{IsLegal}
use Rattle.ug_board.specs.Deeds.{Each}
use Rattle.ug_turnstile.specs.Passes.{Gate, Held, Agrees, fresh_pass}
use Rattle.ug_sender.specs.Lanes.{LaneView}
use Rattle.ug_world.specs.World.{World}
use Rattle.ug_speaker.specs.Speech.{Speech}
use Rattle.ug_run.specs.Lanes.{AreFreshFrom}

-- A board of this world is dealt out: the root of the board that the turnstile stands round begins there, the builder's pass has
-- number 0, and each peer has a pass, numbered from 1 in configured order. Nobody has seen anything yet.
pub record AreDealt {Opening State Job Said : Type 0} (speech : Speech Opening State Job Said) (w : World) (gate : Gate) (builder : Held (Entry Job Said) Opening) (passes : List (Held (Entry Job Said) Opening)) : Type 0 where
  pub root : Opening
  pub first : speech.first root ≡ w
  pub count : gate.count ≡ length w.peers + 1
  pub head : builder ≡ fresh_pass gate.id root 0
  pub all : length passes ≡ length w.peers
  pub others : AreFreshFrom gate.id root 1 passes

-- The history that was kept for a builder and these lanes: it is legal from their root, it is as each of their passes says, and
-- each entry is of one of these.
pub record IsHistoryOf {W Opening State Job Said : Type 0} (rules : Rules Opening State Job Said) (builder : Held (Entry Job Said) Opening) (lanes : List (LaneView W Opening Job Said)) (history : List (Entry Job Said)) : Type 0 where
  pub root : Opening
  pub known : builder.root ≡ Some root
  pub legal : IsLegal rules root history
  pub builder_agrees : Agrees (λ (entry : Entry Job Said). entry.pass) root history builder
  pub lanes_agree : Each (λ (lane : LaneView W Opening Job Said). Agrees (λ (entry : Entry Job Said). entry.pass) root history lane.pass) lanes
  pub owned : Each (λ (entry : Entry Job Said). entry.pass ≤ length lanes) history
