use Rattle.std.proofs.Common.{List, length, sym, ◌∙◌, ap, subst}
use Rattle.std.specs.Map.{keys_of}
use Rattle.std.specs.List.Sorted.{IsStrictlySortedBy}
use Rattle.ug_types.specs.declared.key.Key.{Key}
use Rattle.ug_types.specs.Orders.{key_cmp}
use Rattle.ug_hearing.proofs.Paired.{keys-paired, length-paired}
use Rattle.ug_hearing.proofs.key_lists.KeyLists.len.Goals as goal

pub returns-clause-len : goal.returns-clause-len
returns-clause-len g c =
    c.len.ensures ∙ (sym (length-paired c.self.inside.keys.items c.self.inside.lists c.self.invariant.1) ∙ ap (λ (es : List (Key × _)). length es) c.self.view_is)

pub returns-clause-ascending : goal.returns-clause-ascending
returns-clause-ascending g c =
    subst (λ (ks : List Key). IsStrictlySortedBy key_cmp ks)
    (sym (keys-paired c.self.inside.keys.items c.self.inside.lists c.self.invariant.1) ∙ ap (λ (es : List (Key × _)). keys_of es) c.self.view_is) c.self.invariant.0
