use Rattle.std.proofs.Common.{◌≡◌, ◌+◌, ◌≤◌, true, drop, length}
use Rattle.ug_policy.specs.Order.{rises}
use Rattle.ug_policy.specs.Lists.{seq_of}
use Rattle.ug_policy.specs.OrfApplying.{applied}
use Rattle.ug_policy.specs.OrfViews.{AreGood}
use Rattle.ug_policy.proofs.orf_apply.apply_orf.Given as goal

-- the changes that are left, with room for each
abbrev pub invariant-loop-change : goal.invariant-loop-change
invariant-loop-change l = record {
  all : applied (drop l.change-index l.message.entries.items) l.entries.items ≡ applied l.message.entries.items l.fn.entries.items;
  room : length l.message.entries.items ≤ l.entries.spare + l.change-index;
  rising : rises seq_of l.entries.items ≡ true;
  good : AreGood l.fn.entries.items → AreGood l.entries.items;
}
