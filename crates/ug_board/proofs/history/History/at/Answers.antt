use Rattle.std.proofs.Common.{slice_get, Some, sym, ◌∙◌, ap}
use Rattle.ug_board.proofs.Stored.{within_at, entry_at}
use Rattle.ug_board.proofs.history.History.at.Goals as goal

pub look-requires : goal.look-requires
look-requires g c = within_at _ _ _ _ c.self.invariant.0 c.at.ensures

pub returns : goal.returns
returns g c = sym (ap (λ v. slice_get v.items c.args.i) c.self.view_is) ∙ (entry_at c.self.inside.packets.items c.self.inside.kept.items c.args.i c.at.result.now c.at.ensures ∙ sym (ap Some c.look.ensures))
