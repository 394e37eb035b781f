use Rattle.std.proofs.Common.{◌≡◌, ◌+◌, ◌-◌, ◌≤◌, length, false}
use Rattle.std.specs.Vec.{vec_len}
use Rattle.ug_check.specs.Checkers.{IsBehind}
use Rattle.ug_check.specs.Waiting.{with_waiting}
use Rattle.ug_check.proofs.stream.read_stream.Given as goal

abbrev pub invariant-loop-count : goal.invariant-loop-count
invariant-loop-count g l = record {
  behind : IsBehind l.total (g.E.Source.left l.fn.source) (g.E.Source.left l.source) l.checker.reader (with_waiting l.checker.table l.checker.waiting.items) l.checker.messages l.checker.eors;
  live : l.checker.reader.stopped ≡ false;
  size : l.checker.reader.taken + length l.checker.reader.left ≡ l.total;
  session : l.checker.reader.session ≡ l.fn.session;
  within : l.total ≤ 1073741824;
  room : vec_len l.buffer ≡ 65536;
  faults : g.E.Source.faults l.source ≡ g.E.Source.faults l.fn.source;
  files : g.E.Source.files l.source ≡ g.E.Source.files l.fn.source;
  picks : g.E.Source.picks l.source ≡ g.E.Source.picks l.fn.source;
  made : g.E.Source.made l.source ≡ g.E.Source.made l.fn.source;
  wire_faults : g.E.Source.wire_faults l.source ≡ g.E.Source.wire_faults l.fn.source;
}

abbrev pub decreases-loop-count : goal.decreases-loop-count
decreases-loop-count g l = 1073741824 - l.total
