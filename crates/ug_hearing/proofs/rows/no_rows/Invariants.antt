use Rattle.std.proofs.Common.{◌≡◌, replicate, None}
use Rattle.ug_hearing.proofs.rows.no_rows.Given as goal

abbrev pub invariant-loop-place : goal.invariant-loop-place
invariant-loop-place l = l.rows.items ≡ replicate l._place None
