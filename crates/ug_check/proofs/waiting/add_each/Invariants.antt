use Rattle.std.proofs.Common.{◌≡◌, ℕ, Some, false, drop}
use Rattle.std.specs.Prelude.{if◌then◌else◌}
use Rattle.ug_types.specs.declared.key.Key.{Key}
use Rattle.ug_message.specs.Tables.{among}
use Rattle.ug_check.specs.Rows.{Rows, row_at}
use Rattle.ug_check.specs.Waiting.{with_waiting, AreV4, AreWaiting}
use Rattle.ug_check.proofs.waiting.add_each.Given as goal

-- what is done so far and what is left make up the whole
abbrev pub invariant-loop-key : goal.invariant-loop-key
invariant-loop-key l = record {
  row : (t : Rows) (q : Key) → (if among (drop l.key-index l.keys) q then Some l.shared.value.attrs else row_at (with_waiting t l.waiting.items).rows q) ≡ (if among l.keys q then Some l.shared.value.attrs else row_at (with_waiting t l.fn.waiting.items).rows q);
  stale : (t : Rows) (q : Key) → (if among (drop l.key-index l.keys) q then false else among (with_waiting t l.waiting.items).stale q) ≡ (if among l.keys q then false else among (with_waiting t l.fn.waiting.items).stale q);
  waiting : (n : ℕ) → l.shared.value.seen ≡ n → AreWaiting n l.fn.waiting.items → AreWaiting n l.waiting.items;
  left : AreV4 (drop l.key-index l.keys);
}
