use Rattle.std.proofs.Common.{◌≡◌, ◌+◌, ◌∷◌, suc, drop, sym, ap, subst, ◌∙◌, add-one, drop-cons, arith}
use Rattle.ug_groups.proofs.ToldKeys.{IsTelling, one_told}
use Rattle.ug_groups.proofs.telling.tell.Goals as goal

pub loop-key-preserved : goal.loop-key-preserved
loop-key-preserved c =
    let at = c.loop-key.key-index in let keys = c.args.keys.now in let key = c.key-item.result in
    let step : drop at keys ≡ key ∷ drop (at + 1) keys =
    drop-cons keys at key (omega (arith, c.loop-key-test.true)) ∙ ap (λ k. k ∷ drop (suc at) keys) (sym c.key-item.is) ∙ ap (λ n. key ∷ drop n keys) (sym (add-one at)) in
    one_told c.args.pool.now c.loop-key.pool c.tell_one.new.pool c.args.out.now c.loop-key.out c.tell_one.new.out keys key (drop (at + 1) keys)
    (subst (IsTelling c.args.pool.now c.loop-key.pool c.args.out.now c.loop-key.out keys) step c.loop-key.invariant) c.tell_one.ensures.adj c.tell_one.ensures.family c.tell_one.ensures.moved c.tell_one.ensures.most
