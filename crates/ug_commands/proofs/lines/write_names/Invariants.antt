use Rattle.std.proofs.Common.{◌≡◌, ◌++◌, drop, codes}
use Rattle.std.specs.String.{string_bytes}
use Rattle.std.specs.List.{flat_map}
use Rattle.ug_commands.specs.Texts.{names_text}
use Rattle.ug_commands.proofs.lines.write_names.Given as goal

-- what is written so far and what the rest comes to make up the whole
abbrev pub invariant-loop-name : goal.invariant-loop-name
invariant-loop-name l = string_bytes l.out ++ flat_map (λ n. codes "," ++ n) (drop l.name-index l.rest) ≡ string_bytes l.fn.out ++ names_text l.names
