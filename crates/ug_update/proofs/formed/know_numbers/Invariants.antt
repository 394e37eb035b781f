use Rattle.std.proofs.Common.{◌≡◌, drop}
use Rattle.std.specs.List.{list_all}
use Rattle.ug_message.specs.Spellable.{is_number}
use Rattle.ug_update.proofs.formed.know_numbers.Given as goal

-- what was looked at is as it should be
abbrev pub invariant-loop-number : goal.invariant-loop-number
invariant-loop-number l = list_all is_number (drop l.number-index l.list) ≡ list_all is_number l.list
