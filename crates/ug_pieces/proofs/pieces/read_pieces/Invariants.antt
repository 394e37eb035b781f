use Rattle.std.proofs.Common.{◌≡◌, ◌+◌, ◌-◌, ◌<◌, ◌≤◌, length}
use Rattle.std.specs.Vec.{vec_len}
use Rattle.ug_pieces.specs.Pieces.{HasRead}
use Rattle.ug_pieces.proofs.pieces.read_pieces.Given as goal

abbrev pub invariant-loop-count : goal.invariant-loop-count
invariant-loop-count g l = record {
  behind : HasRead (g.E.Source.left l.fn.source) (g.E.Source.left l.source) (λ read. (length read ≡ l.total) × g.T.Taker.has_taken l.fn.taker l.fn.context l.taker l.context read);
  bound : l.limit < g.T.Taker.bound l.taker + l.total;
  within : l.total ≤ l.limit;
  room : vec_len l.buffer ≡ 65536;
  faults : g.E.Source.faults l.source ≡ g.E.Source.faults l.fn.source;
  files : g.E.Source.files l.source ≡ g.E.Source.files l.fn.source;
  picks : g.E.Source.picks l.source ≡ g.E.Source.picks l.fn.source;
  made : g.E.Source.made l.source ≡ g.E.Source.made l.fn.source;
  wire_faults : g.E.Source.wire_faults l.source ≡ g.E.Source.wire_faults l.fn.source;
}

abbrev pub decreases-loop-count : goal.decreases-loop-count
decreases-loop-count g l = l.limit - l.total
