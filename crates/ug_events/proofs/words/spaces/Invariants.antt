use Rattle.std.proofs.Common.{◌≡◌, drop}
use Rattle.ug_events.specs.Words.{words}
use Rattle.ug_events.proofs.words.spaces.Given as goal

abbrev pub invariant-loop-i : goal.invariant-loop-i
invariant-loop-i l = words (drop l.i l.bytes) ≡ words l.bytes
