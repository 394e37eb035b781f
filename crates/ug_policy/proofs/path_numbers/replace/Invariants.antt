use Rattle.std.proofs.Common.{◌≡◌, ◌++◌, length, take, drop}
use Rattle.ug_policy.specs.Paths.{replaced}
use Rattle.ug_policy.proofs.path_numbers.replace.Given as goal

-- the numbers so far, and what the rest becomes, make up the whole
abbrev pub invariant-loop-i : goal.invariant-loop-i
invariant-loop-i l = record {
  as_long : length l.numbers.items ≡ l.i-end;
  whole : take l.i l.numbers.items ++ replaced l.old l.new (drop l.i l.numbers.items) ≡ replaced l.old l.new l.fn.numbers.items;
}
