use Rattle.std.proofs.Common.{Bool, Some, None, List, ◌∷◌, [], ◌++◌, ◌∙◌, ap}
use Rattle.std.specs.Prelude.{if◌then◌else◌}
use Rattle.ug_hearing.specs.Keyed.{value_for}
use Rattle.ug_hearing.proofs.Mapped.{list-put, list-kept, list-found}
use Rattle.ug_hearing.proofs.list_map.ListMap.add.Goals as goal

pub returns-clause-list : goal.returns-clause-list
returns-clause-list g c =
    let had = list-found c.self.inside.lists c.args.self.now c.args.key c.remove-held.result c.self.view_is c.remove-held.ensures.value in
    list-put c.remove-held.new.self c.put.new.self c.args.key c.push.new.self (c.in_ok-put.ensures.ok c.args.key)
    ∙ (c.in_ok-push.ensures.items ∙ ap (λ (xs : List _). xs ++ c.args.item ∷ []) (c.in_ok-list.ensures ∙ had))

pub returns-clause-others : goal.returns-clause-others
returns-clause-others g c = λ q differs.
    list-kept c.self.inside.lists c.put.new.self c.args.self.now q c.self.view_is
    (c.in_ok-put.ensures.ok q
    ∙ (ap (λ (b : Bool). if b then Some c.push.new.self else value_for c.remove-held.new.self q) differs
    ∙ (c.remove-held.ensures.others q ∙ ap (λ (b : Bool). if b then None else value_for c.self.inside.lists q) differs)))
