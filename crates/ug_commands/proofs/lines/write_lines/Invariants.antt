use Rattle.std.proofs.Common.{◌≡◌, ◌+◌, ◌≤◌, ◌++◌, take, drop}
use Rattle.std.specs.String.{string_bytes}
use Rattle.std.specs.List.{concat}
use Rattle.ug_commands.specs.Groups.{firsts}
use Rattle.ug_commands.specs.Texts.{numbered, lines_of}
use Rattle.ug_commands.proofs.lines.write_lines.Given as goal

-- what is written so far and the lines of the peers that are left make up the whole
abbrev pub invariant-loop-member : goal.invariant-loop-member
invariant-loop-member l = record {
  left : string_bytes l.out ++ concat (numbered l.members l.number (firsts (take l.place l.members) (drop l.member-index l.members))) ≡ string_bytes l.fn.out ++ concat (lines_of l.members);
  place : l.place ≡ l.member-index;
  number : l.number ≤ l.place + 1;
}
