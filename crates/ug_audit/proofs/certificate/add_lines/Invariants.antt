use Rattle.std.proofs.Common.{[], ◌++◌}
use Rattle.std.specs.String.{string_bytes}
use Rattle.ug_hearing.specs.Climbed.{HandedOut, keys_left}
use Rattle.ug_audit.specs.Certified.{HasAdded}
use Rattle.ug_audit.proofs.certificate.add_lines.Given as goal

-- what was handed out is in the text and in the lines behind it
abbrev pub invariant-loop-more : goal.invariant-loop-more
invariant-loop-more l = HandedOut l.judge l.fn.climbs [] → HasAdded l.judge l.climbs (l.fn.out ++ string_bytes l.fn.lines) (l.out ++ string_bytes l.lines)

abbrev pub decreases-loop-more : goal.decreases-loop-more
decreases-loop-more l = keys_left l.climbs
