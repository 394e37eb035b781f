use Rattle.std.proofs.Common.{◌≤◌, ℕ, List, ◌++◌, Option}
use Rattle.std.specs.String.{string_bytes}
use Rattle.ug_check.specs.Decoded.{row_texts}
use Rattle.ug_check.specs.Written.{HasWritten}
use Rattle.ug_check.proofs.report.write_rows.Given as goal

abbrev pub invariant-loop-key : goal.invariant-loop-key
invariant-loop-key g l = record {
  written : (before : Option (List ℕ)) (lines rest : List (List ℕ)) → HasWritten before (g.K.Sink.held l.fn.report) (string_bytes l.fn.text) lines (row_texts l.table.rows ++ rest)
      → HasWritten before (g.K.Sink.held l.report) (string_bytes l.text) lines (row_texts l.key-iterator ++ rest);
  faults : g.K.Sink.faults l.fn.report ≤ g.K.Sink.faults l.report;
}
