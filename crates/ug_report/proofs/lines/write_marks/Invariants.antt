use Rattle.std.proofs.Common.{◌≡◌, ◌++◌, map, drop}
use Rattle.std.specs.List.{concat, list_all}
use Rattle.std.specs.String.{string_bytes}
use Rattle.ug_report.specs.Report.{mark_text, is_of_64}
use Rattle.ug_report.proofs.lines.write_marks.Given as goal

-- What is written so far and the lines of the marks that are left make up the whole; and all marks count in 64 bits where
-- those that are left do.
abbrev pub invariant-loop-mark : goal.invariant-loop-mark
invariant-loop-mark l =
    (string_bytes l.out ++ concat (map (mark_text l.word l.names) (drop l.mark-index l.marks)) ≡ string_bytes l.fn.out ++ concat (map (mark_text l.word l.names) l.marks))
    × (list_all is_of_64 (drop l.mark-index l.marks) ≡ list_all is_of_64 l.marks)
