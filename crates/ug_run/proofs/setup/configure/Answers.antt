use Rattle.std.proofs.Common.{◌∙◌, inl}
use Rattle.ug_run.proofs.Setting.{stopped-all, on_ok}
use Rattle.ug_run.proofs.setup.configure.Goals as goal

pub returns-in-Ok-clause-stopped : goal.returns-in-Ok-clause-stopped
returns-in-Ok-clause-stopped g c =
    stopped-all (g.E.Source.files c.args.site.now) c.args.config.now (g.E.Source.left c.pick.new.site) (g.E.Source.left c.read_world.new.source) c.read_world.result c.in-Ok.ensures.picked c.in-Ok.ensures.there c.read_world.ensures.stopped

pub returns-in-Ok-clause-unharmed : goal.returns-in-Ok-clause-unharmed
returns-in-Ok-clause-unharmed g c = λ read. c.read_world.ensures.unharmed read ∙ c.in-Ok.ensures.unharmed

pub returns-in-Ok-clause-picked : goal.returns-in-Ok-clause-picked
returns-in-Ok-clause-picked g c = inl (rw c.read_world.ensures.picks c.in-Ok.ensures.named)

pub returns-in-Ok-clause-named : goal.returns-in-Ok-clause-named
returns-in-Ok-clause-named g c = on_ok c.read_world.result (rw c.read_world.ensures.picks c.in-Ok.ensures.named)
