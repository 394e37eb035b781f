use Rattle.std.proofs.Common.{◌≡◌, drop}
use Rattle.std.specs.List.{AllByRecursion}
use Rattle.ug_adjout.specs.Stored.{IsShown, adj_of, with_each_forced}
use Rattle.ug_adjout.proofs.table.Table.force_each.Given as goal

abbrev pub invariant-loop-key : goal.invariant-loop-key
invariant-loop-key g l = record {
  ahead : with_each_forced g.K.Ord.cmp (adj_of l.self.rows l.self.waiting) (drop l.key-index l.keys) ≡ with_each_forced g.K.Ord.cmp (adj_of l.fn.self.rows l.fn.self.waiting) l.keys;
  shown : AllByRecursion (λ key. IsShown g.K.Ord.cmp (adj_of l.self.rows l.self.waiting) key) (drop l.key-index l.keys);
}
