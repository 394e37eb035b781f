use Rattle.std.proofs.Common.{List, ◌++◌, sym, ◌∙◌, ap, subst}
use Rattle.std.specs.Map.{keys_of}
use Rattle.std.specs.List.Sorted.{IsStrictlySortedBy}
use Rattle.ug_types.specs.declared.key.Key.{Key}
use Rattle.ug_types.specs.Orders.{key_cmp}
use Rattle.ug_message.specs.Tables.{among}
use Rattle.ug_hearing.proofs.Listed.{among-there}
use Rattle.ug_hearing.proofs.rows.in_order.Goals as goal

pub returns-clause-named : goal.returns-clause-named
returns-clause-named c = λ q.
    let all = c.in_ok-add_keys.ensures ∙ ap (λ (ks : List Key). ks ++ keys_of c.in_ok-set.set) c.in_ok-sorted.ensures.items in
    ap (λ (ks : List Key). among ks q) all ∙ (sym (among-there c.in_ok-set.set q) ∙ c.in_ok-set.ensures q)

pub returns-clause-ascending : goal.returns-clause-ascending
returns-clause-ascending c =
    let all = c.in_ok-add_keys.ensures ∙ ap (λ (ks : List Key). ks ++ keys_of c.in_ok-set.set) c.in_ok-sorted.ensures.items in
    subst (λ (ks : List Key). IsStrictlySortedBy key_cmp ks) (sym all) c.len.ensures.ascending
