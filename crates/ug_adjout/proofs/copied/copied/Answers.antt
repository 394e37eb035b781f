use Rattle.ug_adjout.proofs.Rest.{one_more}
use Rattle.ug_adjout.proofs.copied.copied.Goals as goal

pub loop-key-preserved : goal.loop-key-preserved
loop-key-preserved g c = record {
  so_far = one_more g.met.K.Ord.total _ _ _ _ (c.in-Some.key.now, c.in-Some.value.now) _ c.loop-key.invariant.so_far c.loop-key.invariant.ordered c.in-Some.ensures.steps c.in_ok-insert.ensures.entries;
  ordered = c.loop-key.invariant.ordered;
}
