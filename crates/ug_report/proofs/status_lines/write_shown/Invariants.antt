use Rattle.std.proofs.Common.{◌≡◌, ◌++◌, drop, map}
use Rattle.ug_report.specs.Statuses.{shown}
use Rattle.ug_report.proofs.status_lines.write_shown.Given as goal

-- what is written so far and what is left to be shown make up the whole
abbrev pub invariant-loop-byte : goal.invariant-loop-byte
invariant-loop-byte l = l.text.items ++ map shown (drop l.byte-index l.field) ≡ l.fn.text.items ++ map shown l.field
