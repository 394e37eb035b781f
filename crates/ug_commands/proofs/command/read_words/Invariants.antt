use Rattle.std.proofs.Common.{◌≡◌, map, drop}
use Rattle.std.specs.String.{string_bytes}
use Rattle.ug_commands.specs.Words.{with_words, nothing_said}
use Rattle.ug_commands.specs.Views.{so_far_seen}
use Rattle.ug_commands.proofs.command.read_words.Given as goal

-- what the words so far said and what the rest says come to what all say
abbrev pub invariant-loop-word : goal.invariant-loop-word
invariant-loop-word l = with_words l.verb (map string_bytes (drop l.word-index l.words)) (so_far_seen l.so_far) ≡ with_words l.verb (map string_bytes l.words) nothing_said
