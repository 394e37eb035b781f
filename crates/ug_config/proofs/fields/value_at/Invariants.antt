use Rattle.std.proofs.Common.{◌≡◌, drop}
use Rattle.ug_config.specs.Looks.{value_at}
use Rattle.ug_config.proofs.fields.value_at.Given as goal

-- the fields that are left decide
abbrev pub invariant-loop-field : goal.invariant-loop-field
invariant-loop-field l = value_at l.name (drop l.field-index l.fields) ≡ value_at l.name l.fields
