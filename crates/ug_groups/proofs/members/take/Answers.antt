use Rattle.std.specs.Prelude.{[]}
use Rattle.std.proofs.Common.{◌≡◌, subst}
use Rattle.ug_queue.specs.Queues.{rest_of, past_next, shed}
use Rattle.ug_groups.specs.Subgroups.{IsHanded}
use Rattle.ug_groups.specs.declared.entry.Entry.{Entry}
use Rattle.ug_groups.specs.Entries.{key_of}
use Rattle.ug_groups.proofs.Dones.{queue_done, unchanged, one_there, none_weaker, some_weaker}
use Rattle.ug_groups.proofs.members.take.Goals as goal

pub returns-clause-none : goal.returns-clause-none
returns-clause-none c =
    none_weaker c.take.result (λ nothing e there. subst (λ (x : Entry). rest_of x.subgroup.queue c.args.member ≡ []) (one_there c.args.live.now c.args.g c.at_mut-entry.result.now e c.at_mut-entry.ensures.value there) nothing) c.take.ensures.none

pub returns-clause-same : goal.returns-clause-same
returns-clause-same c = none_weaker c.take.result (λ same. unchanged c.args.live.now c.args.g c.at_mut-entry.result.now c.take.new.self c.at_mut-entry.ensures.value same) c.take.ensures.same

pub returns-clause-some : goal.returns-clause-some
returns-clause-some c =
    some_weaker c.take.result (λ h handed e there. subst (λ (x : Entry). IsHanded (key_of x) c.args.ends.now (rest_of x.subgroup.queue c.args.member) c.take.new.buf h) (one_there c.args.live.now c.args.g c.at_mut-entry.result.now e c.at_mut-entry.ensures.value there) handed) c.take.ensures.some

pub returns-clause-done : goal.returns-clause-done
returns-clause-done c =
    some_weaker c.take.result (λ h is pool. queue_done pool c.args.live.now c.args.g c.at_mut-entry.result.now c.take.new.self (λ q. shed (past_next q c.args.member)) c.at_mut-entry.ensures.value is) c.take.ensures.queue
