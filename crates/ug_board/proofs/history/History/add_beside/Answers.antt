use Rattle.std.proofs.Common.{Some, [], ◌∷◌, ◌++◌, ◌∙◌, ap, arith}
use Rattle.ug_board.specs.Kept.{beside_entry}
use Rattle.ug_board.proofs.Stored.{beside_items, beside_within}
use Rattle.ug_board.proofs.history.History.add_beside.Goals as goal

pub invariant_of-self : goal.invariant_of-self
invariant_of-self g c =
    let room = ap (λ v. v.spare) c.self.view_is in (
      beside_within c.self.inside.packets.items _ c.args.packet _ _ c.args.pass c.len-place.result c.self.invariant.0 c.len-place.ensures c.push.ensures.items c.push-2.ensures.items,
      omega (arith, room, c.requires, c.self.invariant.1, c.push-2.ensures.spare),
      omega (arith, room, c.requires, c.self.invariant.2, c.push.ensures.spare),
    )

pub returns-clause-items : goal.returns-clause-items
returns-clause-items g c =
    beside_items c.self.inside.packets.items _ c.args.packet _ _ c.args.pass c.len-place.result c.self.invariant.0 c.len-place.ensures c.push.ensures.items c.push-2.ensures.items
    ∙ ap (λ v. v.items ++ beside_entry c.args.pass (Some c.args.packet) ∷ []) c.self.view_is
