use Rattle.std.proofs.Common.{◌∙◌, ap}
use Rattle.ug_turnstile.proofs.Entries.{mine_gains}
use Rattle.ug_turnstile.proofs.turnstile.Turnstile.give.Goals as goal

pub returns-clause-mine : goal.returns-clause-mine
returns-clause-mine g c added e = mine_gains g.S.Logged.owner c.args.pass.now c.put_home.new.pass (g.S.Logged.entries c.args.turn) added c.requires.adds c.put_home.ensures.same.1
    (c.put_home.ensures.seen ∙ ap g.S.Logged.entries c.turn.view_is) e
