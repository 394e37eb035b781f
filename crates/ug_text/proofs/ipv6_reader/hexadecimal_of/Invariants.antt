use Rattle.std.proofs.Common.{◌≡◌, ◌<◌, ◌^◌, drop}
use Rattle.ug_text.specs.Numbers.{digits_from, hexadecimal_digit}
use Rattle.ug_text.proofs.ipv6_reader.hexadecimal_of.Given as goal

-- the digits so far and those that are left spell what all do
abbrev pub invariant-loop-b : goal.invariant-loop-b
invariant-loop-b l = record {
  spells : digits_from hexadecimal_digit 16 l.value (drop l.b-index l.text) ≡ digits_from hexadecimal_digit 16 0 l.text;
  small : l.value < 16 ^ l.b-index;
}
