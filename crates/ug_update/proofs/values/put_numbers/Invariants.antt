use Rattle.std.proofs.Common.{◌≡◌, ◌+◌, ◌≤◌, ◌++◌, length, drop}
use Rattle.ug_message.specs.Values.{numbers}
use Rattle.ug_update.proofs.values.put_numbers.Given as goal

-- what is written so far and what is left make up the whole
abbrev pub invariant-loop-number : goal.invariant-loop-number
invariant-loop-number l = record {
  items : l.out.items ++ numbers (drop l.number-index l.list) ≡ l.fn.out.items ++ numbers l.list;
  spare : l.fn.out.spare + length (numbers (drop l.number-index l.list)) ≤ l.out.spare + length (numbers l.list);
}
