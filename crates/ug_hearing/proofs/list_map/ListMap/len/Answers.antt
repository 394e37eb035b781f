use Rattle.std.proofs.Common.{List, length, sym, ◌∙◌, ap, subst}
use Rattle.std.specs.Map.{keys_of}
use Rattle.std.specs.List.Sorted.{IsStrictlySortedBy}
use Rattle.ug_types.specs.declared.key.Key.{Key}
use Rattle.ug_types.specs.Orders.{key_cmp}
use Rattle.ug_hearing.proofs.Mapped.{listed-keys, listed-count}
use Rattle.ug_hearing.proofs.list_map.ListMap.len.Goals as goal

pub returns-clause-len : goal.returns-clause-len
returns-clause-len g c = c.len.ensures.len ∙ (sym (listed-count c.self.inside.lists) ∙ ap (λ (es : List (Key × _)). length es) c.self.view_is)

pub returns-clause-ascending : goal.returns-clause-ascending
returns-clause-ascending g c =
    subst (λ (ks : List Key). IsStrictlySortedBy key_cmp ks) (sym (listed-keys c.self.inside.lists) ∙ ap (λ (es : List (Key × _)). keys_of es) c.self.view_is) c.len.ensures.ascending
