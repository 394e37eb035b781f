use Rattle.std.proofs.Common.{◌≡◌, ◌+◌, ◌-◌, ◌≤◌, ◌++◌, length, take}
use Rattle.std.specs.Vec.{vec_len, vec_capacity}
use Rattle.ug_pieces.specs.Codes.{codes_text}
use Rattle.ug_pieces.proofs.codes.add_codes.Given as goal

abbrev pub invariant-loop-at : goal.invariant-loop-at
invariant-loop-at l = record {
  within : l.at ≤ length l.text;
  coded : codes_text l.codes.items ≡ codes_text l.fn.codes.items ++ take l.at l.text;
  front : take (length l.fn.codes.items) l.codes.items ≡ l.fn.codes.items;
  longer : length l.fn.codes.items ≤ length l.codes.items;
  room : vec_len l.codes + (length l.text - l.at) ≤ vec_capacity l.codes;
}

abbrev pub decreases-loop-at : goal.decreases-loop-at
decreases-loop-at l = length l.text - l.at
