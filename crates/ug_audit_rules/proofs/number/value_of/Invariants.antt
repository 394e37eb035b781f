use Rattle.std.proofs.Common.{◌≡◌, ◌<◌, drop}
use Rattle.std.specs.Str.Parse.{AllDigits, digits_value, digits_value_after}
use Rattle.ug_audit_rules.proofs.number.value_of.Given as goal

-- the digits so far and those that are left spell what all do, and where the others are digits all are
abbrev pub invariant-loop-digit : goal.invariant-loop-digit
invariant-loop-digit l = record {
  spells : digits_value_after 10 l.value (drop l.digit-index l.word) ≡ digits_value 10 l.word;
  small : l.value < 18446744073709551616;
  all : AllDigits 10 (drop l.digit-index l.word) → AllDigits 10 l.word;
  left : AllDigits 10 l.word → AllDigits 10 (drop l.digit-index l.word);
}
