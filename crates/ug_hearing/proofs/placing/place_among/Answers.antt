use Rattle.std.proofs.Common.{◌≡◌, ◌<◌, length, sym, ◌∙◌, rules}
use Rattle.std.specs.declared.cmp.Ordering.TheVariants.{Less, Equal, Greater}
use Rattle.ug_types.specs.Orders.{key_cmp}
use Rattle.ug_hearing.proofs.Ascending.{within-behind, within-before, within-all, place-tied}
use Rattle.ug_hearing.proofs.placing.place_among.Goals as goal

pub place_between-requires-clause-within : goal.place_between-requires-clause-within
place_between-requires-clause-within c =
    let order : key_cmp c.index-keys-first.result c.args.key.now ≡ Less = sym (c.comparison_laws.ensures.key_order c.index-keys-first.result c.args.key.now) ∙ (sym c.cmp.ensures ∙ c.in-Less.is) in
    let less : c.min-first.result < length c.args.keys.now = search rules in
    within-behind c.args.keys.now 0 (length c.args.keys.now) c.min-first.result c.args.key.now c.index-keys-first.result c.requires less c.index-keys-first.is order (within-all c.args.keys.now c.args.key.now)

pub place_between-requires-in-Greater-clause-within : goal.place_between-requires-in-Greater-clause-within
place_between-requires-in-Greater-clause-within c =
    let order : key_cmp c.index-keys-first.result c.args.key.now ≡ Greater = sym (c.comparison_laws.ensures.key_order c.index-keys-first.result c.args.key.now) ∙ (sym c.cmp.ensures ∙ c.in-Greater.is) in
    let less : c.min-first.result < length c.args.keys.now = search rules in
    within-before c.args.keys.now 0 (length c.args.keys.now) c.min-first.result c.args.key.now c.index-keys-first.result c.requires less c.index-keys-first.is order (within-all c.args.keys.now c.args.key.now)

pub returns-in-Equal-clause-found : goal.returns-in-Equal-clause-found
returns-in-Equal-clause-found c =
    let order : key_cmp c.index-keys-first.result c.args.key.now ≡ Equal = sym (c.comparison_laws.ensures.key_order c.index-keys-first.result c.args.key.now) ∙ (sym c.cmp.ensures ∙ c.in-Equal.is) in
    let less : c.min-first.result < length c.args.keys.now = search rules in
    place-tied c.args.keys.now c.min-first.result c.args.key.now c.index-keys-first.result less c.index-keys-first.is order
