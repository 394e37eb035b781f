use Rattle.std.proofs.Common.{arith}
use Rattle.ug_queue.proofs.Searches.{missed_at, told_at}
use Rattle.ug_queue.proofs.cursors.Cursors.has.Goals as goal

pub returns-then-i-len : goal.returns-then-i-len
returns-then-i-len c =
    missed_at c.args.member c.place-i.result c.self.inside.entries.items _ _ c.self.invariant c.deref.ensures.value c.self.view_is c.place-i.ensures.place
    (omega (arith, c.if-i-len.true, c.len.ensures, c.self.inside.entries.ok.0))

pub returns : goal.returns
returns c =
    told_at c.args.member c.place-i.result c.self.inside.entries.items _ _ c.self.invariant c.deref.ensures.value c.self.view_is c.place-i.ensures.place
    (omega (arith, c.if-i-len.false, c.len.ensures, c.self.inside.entries.ok.0)) c.index.result.now c.index.ensures
