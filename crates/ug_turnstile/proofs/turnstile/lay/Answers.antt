use Rattle.std.proofs.Common.{ap, sym}
use Rattle.ug_turnstile.proofs.Steps.{starts}
use Rattle.ug_turnstile.proofs.turnstile.lay.Goals as goal

pub new-requires : goal.new-requires
new-requires g c =
    let same = c.of.ensures in
    rw (c.in_default.ensures.items, c.new-slots.ensures.items) (starts g.S.Logged.owner g.S.Logged.root g.S.Logged.entries g.S.Logged.spent (g.S.Logged.root c.of.result.value) c.args.n c.args.state (ap g.S.Logged.root (sym same)) c.requires)
