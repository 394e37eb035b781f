use Rattle.std.proofs.Common.{◌≡◌, None, false, drop}
use Rattle.std.specs.Prelude.{if◌then◌else◌}
use Rattle.ug_types.specs.declared.key.Key.{Key}
use Rattle.ug_message.specs.Tables.{among}
use Rattle.ug_check.specs.Rows.{row_at}
use Rattle.ug_check.proofs.table.Table.withdraw.Given as goal

-- what is done so far and what is left make up the whole
abbrev pub invariant-loop-key : goal.invariant-loop-key
invariant-loop-key l = record {
  row : (q : Key) → (if among (drop l.key-index l.keys) q then None else row_at l.self.rows q) ≡ (if among l.keys q then None else row_at l.fn.self.rows q);
  stale : (q : Key) → (if among (drop l.key-index l.keys) q then false else among l.self.stale q) ≡ (if among l.keys q then false else among l.fn.self.stale q);
}
