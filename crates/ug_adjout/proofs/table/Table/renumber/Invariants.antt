use Rattle.std.proofs.Common.{◌≡◌, ◌+◌, length}
use Rattle.ug_adjout.specs.Waits.{from_place}
use Rattle.ug_adjout.specs.Stored.{adj_of}
use Rattle.ug_adjout.proofs.table.Table.renumber.Given as goal

-- the Adj-RIB-Out is as it was, so many are left from the place on, and they begin at `from`
abbrev pub invariant-loop-place : goal.invariant-loop-place
invariant-loop-place g l = record {
  same : adj_of l.self.rows l.self.waiting ≡ adj_of l.fn.self.rows l.fn.self.waiting;
  left : length (from_place l.place l.self.waiting) + l.place ≡ l.waiting;
  from : from_place l.from l.self.waiting ≡ from_place l.place l.self.waiting;
}
