use Rattle.ug_event_loop.proofs.Counting.{job-least, job-most}
use Rattle.ug_event_loop.proofs.board.do_job.Goals as goal

pub returns-clause-steps_least : goal.returns-clause-steps_least
returns-clause-steps_least g c =
    job-least g.S.Machine.rules c.args.board.now c.job.new.self c.args.job c.args.steps.now c.job.new.steps c.job.result
    c.job.ensures.least c.job.ensures.counted c.job.ensures.history c.job.ensures.unchanged

pub returns-clause-steps_most : goal.returns-clause-steps_most
returns-clause-steps_most g c =
    job-most g.S.Machine.rules c.args.board.now c.job.new.self c.args.job c.args.steps.now c.job.new.steps c.job.result c.job.ensures.most c.job.ensures.history
