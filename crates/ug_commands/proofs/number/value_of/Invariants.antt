use Rattle.std.proofs.Common.{◌≡◌, ◌<◌, ◌^◌, drop}
use Rattle.ug_text.specs.Numbers.{digits_from, decimal_digit}
use Rattle.ug_commands.proofs.number.value_of.Given as goal

-- the digits so far and those that are left spell what all do
abbrev pub invariant-loop-digit : goal.invariant-loop-digit
invariant-loop-digit l = record {
  spells : digits_from decimal_digit 10 l.value (drop l.digit-index l.digits) ≡ digits_from decimal_digit 10 0 l.digits;
  small : l.value < 10 ^ l.digit-index;
}
