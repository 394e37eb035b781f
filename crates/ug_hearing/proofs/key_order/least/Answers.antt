use Rattle.std.proofs.Common.{◌≡◌, ◌+◌, List, [], ◌∷◌, ◌++◌, take, sym, ◌∙◌, ap, subst}
use Rattle.std.proofs.lemmas.List.{take_more}
use Rattle.ug_types.specs.declared.key.Key.{Key}
use Rattle.ug_hearing.specs.Least.{IsLeastOf}
use Rattle.ug_hearing.proofs.Leasts.{one-more-least}
use Rattle.ug_hearing.proofs.key_order.least.Goals as goal

pub loop-key-preserved : goal.loop-key-preserved
loop-key-preserved c =
    let all = take_more c.args.keys.now c.loop-key.key-index c.key-item.result c.loop-key-test.true in
    let front : take (c.loop-key.key-index + 1) c.args.keys.now ≡ take c.loop-key.key-index c.args.keys.now ++ c.key-item.result ∷ [] = all ∙ ap (λ (k : Key). take c.loop-key.key-index c.args.keys.now ++ k ∷ []) (sym c.key-item.is) in
    subst (λ (ks : List Key). IsLeastOf ks c.lesser-least.result) (sym front)
    (one-more-least (take c.loop-key.key-index c.args.keys.now) c.key-item.result c.loop-key.least c.lesser-least.result c.loop-key.invariant c.lesser-least.ensures)
