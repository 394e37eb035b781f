use Rattle.std.proofs.Common.{List, sym, ◌∙◌, ap, subst}
use Rattle.std.specs.Map.{keys_of}
use Rattle.std.specs.List.Sorted.{IsStrictlySortedBy}
use Rattle.ug_types.specs.declared.key.Key.{Key}
use Rattle.ug_types.specs.Orders.{key_cmp}
use Rattle.ug_hearing.proofs.Paired.{keys-paired}
use Rattle.ug_hearing.proofs.key_lists.KeyLists.keys.Goals as goal

pub returns-clause-keys : goal.returns-clause-keys
returns-clause-keys g c = sym (keys-paired c.self.inside.keys.items c.self.inside.lists c.self.invariant.1) ∙ ap (λ (es : List (Key × _)). keys_of es) c.self.view_is

pub returns-clause-ascending : goal.returns-clause-ascending
returns-clause-ascending g c =
    subst (λ (ks : List Key). IsStrictlySortedBy key_cmp ks)
    (sym (keys-paired c.self.inside.keys.items c.self.inside.lists c.self.invariant.1) ∙ ap (λ (es : List (Key × _)). keys_of es) c.self.view_is) c.self.invariant.0
