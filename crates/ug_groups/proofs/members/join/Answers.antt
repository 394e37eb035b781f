use Rattle.std.specs.Prelude.{length}
use Rattle.std.proofs.lemmas.Result.{on_ok_weaker, on_err_weaker}
use Rattle.ug_queue.specs.Queues.{with_member}
use Rattle.ug_groups.proofs.Dones.{queue_done, unchanged}
use Rattle.ug_groups.proofs.members.join.Goals as goal

pub returns-clause-ok : goal.returns-clause-ok
returns-clause-ok c =
    on_ok_weaker c.join.result (λ is pool. queue_done pool c.args.live.now c.args.g c.at_mut-entry.result.now c.join.new.self (λ q. with_member q c.args.member (length q.packets)) c.at_mut-entry.ensures.value is) c.join.ensures.ok

pub returns-clause-err : goal.returns-clause-err
returns-clause-err c = on_err_weaker c.join.result (λ same. unchanged c.args.live.now c.args.g c.at_mut-entry.result.now c.join.new.self c.at_mut-entry.ensures.value same) c.join.ensures.err
