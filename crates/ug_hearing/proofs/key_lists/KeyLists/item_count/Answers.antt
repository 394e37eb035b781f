use Rattle.std.proofs.Common.{List, length, sym, ◌∙◌, ap}
use Rattle.std.specs.List.{sum_by}
use Rattle.ug_types.specs.declared.key.Key.{Key}
use Rattle.ug_hearing.proofs.Paired.{sum-paired}
use Rattle.ug_hearing.proofs.key_lists.KeyLists.item_count.Goals as goal

pub returns : goal.returns
returns g c =
    c.item_count.ensures
    ∙ (sym (sum-paired (λ (xs : List _). length xs) c.self.inside.keys.items c.self.inside.lists c.self.invariant.1) ∙ ap (λ (es : List (Key × _)). sum_by (λ e. length e.1) es) c.self.view_is)
