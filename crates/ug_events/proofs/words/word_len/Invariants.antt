use Rattle.std.proofs.Common.{◌≡◌, take, drop}
use Rattle.ug_events.specs.Words.{words, words_from}
use Rattle.ug_events.proofs.words.word_len.Given as goal

abbrev pub invariant-loop-i : goal.invariant-loop-i
invariant-loop-i l = words_from (take l.i l.bytes) (drop l.i l.bytes) ≡ words l.bytes
