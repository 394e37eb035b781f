use Rattle.std.proofs.Common.{◌≡◌, ◌+◌, ◌∷◌, suc, drop, sym, ap, subst, ◌∙◌, add-one, drop-cons, arith}
use Rattle.std.specs.List.{AllByRecursion}
use Rattle.ug_adjout.specs.Stored.{IsShown, adj_of, with_one_forced, with_each_forced}
use Rattle.ug_adjout.proofs.table.Table.force_each.Goals as goal

pub loop-key-preserved : goal.loop-key-preserved
loop-key-preserved g c =
    let at = c.loop-key.key-index in let keys = c.args.keys.now in let key = c.key-item.result in
    let step : drop at keys ≡ key ∷ drop (at + 1) keys =
    drop-cons keys at key (omega (arith, c.loop-key-test.true)) ∙ ap (λ k. k ∷ drop (suc at) keys) (sym c.key-item.is) ∙ ap (λ n. key ∷ drop n keys) (sym (add-one at)) in
    let forced = c.in_ok-force.ensures.ok ∙ ap (λ a. with_one_forced g.K.Ord.cmp a key) c.make_room.ensures.same in
    record {
      ahead = ap (λ a. with_each_forced g.K.Ord.cmp a (drop (at + 1) keys)) forced ∙ ap (with_each_forced g.K.Ord.cmp (adj_of c.loop-key.self.rows c.loop-key.self.waiting)) (sym step) ∙ c.loop-key.invariant.ahead;
      shown = subst (λ a. AllByRecursion (λ k. IsShown g.K.Ord.cmp a k) (drop (at + 1) keys)) (sym forced)
          (subst (AllByRecursion (λ k. IsShown g.K.Ord.cmp (adj_of c.loop-key.self.rows c.loop-key.self.waiting) k)) step c.loop-key.invariant.shown).1;
    }
