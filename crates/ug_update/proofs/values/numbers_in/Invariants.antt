use Rattle.std.proofs.Common.{◌≡◌, ◌+◌, ◌*◌, ◌++◌, length}
use Rattle.ug_message.specs.Values.{numbers_in}
use Rattle.ug_update.proofs.values.numbers_in.Given as goal

-- what is read so far and what is left make up the whole
abbrev pub invariant-loop-rest : goal.invariant-loop-rest
invariant-loop-rest l = record {
  exact : l.numbers.items ++ numbers_in l.rest ≡ numbers_in l.bytes;
  count : 4 * length l.numbers.items + length l.rest ≡ length l.bytes;
}

abbrev pub decreases-loop-rest : goal.decreases-loop-rest
decreases-loop-rest l = length l.rest
