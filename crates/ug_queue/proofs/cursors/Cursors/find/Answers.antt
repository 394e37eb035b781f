use Rattle.std.proofs.Common.{arith}
use Rattle.ug_queue.proofs.Searches.{found, read_at}
use Rattle.ug_queue.proofs.cursors.Cursors.find.Goals as goal

pub index-requires : goal.index-requires
index-requires c = omega (arith, (found c.args.member c.place-i.result c.self.inside.entries.items _ _ c.self.invariant c.deref.ensures.value c.self.view_is c.place-i.ensures.place c.requires).within, c.self.inside.entries.ok.0)

pub returns : goal.returns
returns c = read_at c.args.member c.place-i.result c.self.inside.entries.items _ _ c.self.invariant c.deref.ensures.value c.self.view_is c.place-i.ensures.place c.requires c.index.result.now c.index.ensures
