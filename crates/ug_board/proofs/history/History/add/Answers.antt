use Rattle.std.proofs.Common.{[], ◌∷◌, ◌++◌, ◌∙◌, ap, arith}
use Rattle.ug_board.specs.Kept.{entry_of}
use Rattle.ug_board.proofs.Stored.{whole_items, whole_within}
use Rattle.ug_board.proofs.history.History.add.Goals as goal

pub invariant_of-self : goal.invariant_of-self
invariant_of-self g c =
    let room = ap (λ v. v.spare) c.self.view_is in (
      whole_within _ _ _ _ c.requires.whole c.self.invariant.0 c.push.ensures.items,
      omega (arith, room, c.requires.room, c.self.invariant.1, c.push.ensures.spare),
      omega (arith, room, c.requires.room, c.self.invariant.2),
    )

pub returns-clause-items : goal.returns-clause-items
returns-clause-items g c =
    whole_items _ _ _ _ c.requires.whole c.push.ensures.items ∙ ap (λ v. v.items ++ entry_of [] c.args.kept ∷ []) c.self.view_is
