use Rattle.std.specs.Prelude.{[], None}
use Rattle.std.proofs.Common.{◌≡◌, ap, ◌∙◌}
use Rattle.ug_queue.specs.Queues.{rest_of, past_next, shed}
use Rattle.ug_groups.specs.Subgroups.{IsHanded}
use Rattle.ug_groups.specs.Rows.{with_queue}
use Rattle.ug_groups.specs.Entries.{rows_in}
use Rattle.ug_groups.proofs.Accounts.{kept_taken, rows_seen, at_row}
use Rattle.ug_groups.proofs.Dones.{none_weaker, some_weaker}
use Rattle.ug_groups.proofs.numbered.Subgroups.take.Goals as goal

pub invariant_of-self : goal.invariant_of-self
invariant_of-self c =
    let i = c.self.inside in
    kept_taken i.pool i.live c.take.new.live c.args.g (with_queue (λ q. shed (past_next q c.args.member))) i.classes None c.self.invariant c.take.result c.take.ensures.same c.take.ensures.done

pub returns-clause-none : goal.returns-clause-none
returns-clause-none c =
    let i = c.self.inside in
    none_weaker c.take.result (at_row (λ r. rest_of r.queue c.args.member ≡ []) i.pool i.live c.args.g c.args.self.now c.self.view_is) c.take.ensures.none

pub returns-clause-same : goal.returns-clause-same
returns-clause-same c = let i = c.self.inside in none_weaker c.take.result (λ same. ap (rows_in i.pool) same ∙ c.self.view_is) c.take.ensures.same

pub returns-clause-some : goal.returns-clause-some
returns-clause-some c =
    let i = c.self.inside in
    some_weaker c.take.result (λ h. at_row (λ r. IsHanded r.sub.key c.args.ends.now (rest_of r.queue c.args.member) c.take.new.buf h) i.pool i.live c.args.g c.args.self.now c.self.view_is) c.take.ensures.some

pub returns-clause-rows : goal.returns-clause-rows
returns-clause-rows c =
    let i = c.self.inside in
    some_weaker c.take.result (λ h done. rows_seen i.pool i.pool i.live c.take.new.live c.args.g (with_queue (λ q. shed (past_next q c.args.member))) i.classes None c.self.invariant c.args.self.now c.self.view_is (done i.pool)) c.take.ensures.done
