use Rattle.std.proofs.Common.{Result, Ok, Err}
use Rattle.std.specs.Result.{OnErr}
use Rattle.ug_event_loop.proofs.Turning.{drained_closed, closed_closed, refused_closed}
use Rattle.ug_event_loop.proofs.board.close.Goals as goal

pub returns-clause-drained : goal.returns-clause-drained
returns-clause-drained g c =
    let laws = g.met.S.Speaker g.world.𝓛 g.world.𝓜 g.world.𝓡 ((λ s x. x), (λ x. x), (λ x. x), λ x. x) in
    drained_closed g.S.Machine.rules g.S.Speaker.speech laws.speaks.steps c.args.board.now c.do_job.new.board c.close_job.result
    c.close_job.ensures c.in_ok-do_job.ensures.legal c.do_job.ensures.opening c.in_ok-do_job.ensures.history

pub returns-clause-closed : goal.returns-clause-closed
returns-clause-closed g c =
    let laws = g.met.S.Speaker g.world.𝓛 g.world.𝓜 g.world.𝓡 ((λ s x. x), (λ x. x), (λ x. x), λ x. x) in
    closed_closed g.S.Machine.rules g.S.Speaker.speech laws.speaks.steps c.args.board.now c.do_job.new.board c.close_job.result
    c.close_job.ensures c.in_ok-do_job.ensures.legal c.do_job.ensures.opening c.in_ok-do_job.ensures.history

anyway : {A E Q : Type 0} (r : Result A E) → Q → OnErr r Q
anyway (Ok x) q = tt
anyway (Err e) q = q

pub returns-in_err-do_job-clause-closed_before : goal.returns-in_err-do_job-clause-closed_before
returns-in_err-do_job-clause-closed_before g c =
    let laws = g.met.S.Speaker g.world.𝓛 g.world.𝓜 g.world.𝓡 ((λ s x. x), (λ x. x), (λ x. x), λ x. x) in
    anyway c.from_residual.result
    (λ unspent. refused_closed g.S.Machine.rules g.S.Speaker.speech laws.speaks.steps c.args.board.now c.do_job.new.board c.close_job.result
    c.close_job.ensures (c.in_err-do_job.ensures.refused unspent) c.do_job.ensures.opening c.in_err-do_job.ensures.unchanged)
