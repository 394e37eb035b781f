use Rattle.std.proofs.Common.{◌≡◌, ◌++◌, drop, codes}
use Rattle.std.specs.String.{string_bytes}
use Rattle.std.specs.List.{flat_map}
use Rattle.std.specs.Fmt.{decimal}
use Rattle.ug_text.specs.Texts.{numbers_text}
use Rattle.ug_text.proofs.lists.write_numbers.Given as goal

-- what is written so far and what the rest comes to make up the whole
abbrev pub invariant-loop-number : goal.invariant-loop-number
invariant-loop-number l = string_bytes l.out ++ flat_map (λ m. codes "," ++ decimal m) (drop l.number-index l.rest) ≡ string_bytes l.fn.out ++ numbers_text l.numbers
