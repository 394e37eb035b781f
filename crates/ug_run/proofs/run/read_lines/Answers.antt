use Rattle.std.proofs.Common.{◌∙◌, sym, ap, subst}
use Rattle.ug_sender.specs.Posts.{AreHere, posts_of}
use Rattle.ug_run.proofs.LaneLaws.{posts_all_here}
use Rattle.ug_run.proofs.run.read_lines.Goals as goal

pub returns-in-Err-clause-ended : goal.returns-in-Err-clause-ended
returns-in-Err-clause-ended g c =
    c.give_up.ensures.ended (record { left = g.E.Source.left c.args.source.now; reads_failed = g.E.Source.faults c.args.source.now; held = g.K.Sink.held c.args.report.now; writes_failed = g.K.Sink.faults c.args.report.now; steps = c.args.steps.now })

pub read_beside-requires-clause-crew : goal.read_beside-requires-clause-crew
read_beside-requires-clause-crew g c κs within =
    subst (λ ps. AreHere c.args.turnstile.now.id ps) (sym (ap posts_of c.in-Ok.ensures.ok ∙ posts_all_here c.args.lanes.items)) c.requires.lanes

pub returns-in-Ok-clause-posts : goal.returns-in-Ok-clause-posts
returns-in-Ok-clause-posts g c = c.read_beside.ensures.posts ∙ (ap posts_of c.in-Ok.ensures.ok ∙ posts_all_here c.args.lanes.items)
