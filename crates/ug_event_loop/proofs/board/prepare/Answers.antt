use Rattle.std.proofs.Common.{rules, ◌≡◌, ◌∙◌, subst, arith}
use Rattle.ug_speaker.specs.Speech.{Prepares}
use Rattle.ug_event_loop.specs.Counts.{least_of, most_of, RisesBy, RisesWithin}
use Rattle.ug_event_loop.proofs.Turning.{adds_further, goes_further, goes_by_job, one_more}
use Rattle.ug_event_loop.proofs.board.prepare.Goals as goal

pub loop-preserved : goal.loop-preserved
loop-preserved g c =
    let invariant = c.loop.invariant in
    let is : g.S.Speaker.speech.purpose c.in-Some-next.job ≡ Prepares = search rules in (
      tt,
      tt,
      c.do_job.ensures.opening ∙ invariant.2,
      adds_further (λ entry. entry.pass) 0 c.args.board.now.history c.loop.board.history c.do_job.new.board.history invariant.3 c.do_job.ensures.adds,
      goes_further g.S.Machine.rules g.S.Speaker.speech c.args.board.now.history c.loop.board.history c.do_job.new.board.history invariant.4
          (goes_by_job g.S.Machine.rules g.S.Speaker.speech c.loop.board.opening c.in-Some-next.job c.loop.board.history c.do_job.new.board.history
          is c.in_ok-do_job.ensures.history),
      c.in_ok-do_job.ensures.unspent,
      c.do_job.ensures.sound,
      let next = subst (λ (o : _). RisesBy c.loop.steps c.do_job.new.steps (least_of g.S.Machine.rules o c.loop.board.history) (least_of g.S.Machine.rules o c.do_job.new.board.history)) invariant.2 c.do_job.ensures.steps_least in omega (arith, next, invariant.7),
      let next = subst (λ (o : _). RisesWithin c.loop.steps c.do_job.new.steps (most_of g.S.Machine.rules o c.loop.board.history) (most_of g.S.Machine.rules o c.do_job.new.board.history)) invariant.2 c.in_ok-do_job.ensures.steps_most in omega (arith, next, invariant.8),
      one_more c.loop.jobs c.saturating_add-jobs.result c.args.board.now.history c.loop.board.history c.do_job.new.board.history _ c.saturating_add-jobs.ensures invariant.9 c.in_ok-do_job.ensures.history,
    )
