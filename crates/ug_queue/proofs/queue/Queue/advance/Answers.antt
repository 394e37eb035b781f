use Rattle.std.proofs.Common.{sym, ap, ◌∙◌, arith}
use Rattle.ug_queue.specs.Queues.{past_next, shed}
use Rattle.ug_queue.proofs.Sheds.{shed_same}
use Rattle.ug_queue.proofs.queue.Queue.advance.Goals as goal

pub returns-else-stand-eq0 : goal.returns-else-stand-eq0
returns-else-stand-eq0 g c =
    let needed = c.step.ensures.needed (omega (arith, c.if-stand-eq0.false)) c.self.invariant.0 in
    sym (shed_same c.step.new.self needed) ∙ ap shed (c.step.ensures.line ∙ ap (λ v. past_next v c.args.stand.member) c.self.view_is)
