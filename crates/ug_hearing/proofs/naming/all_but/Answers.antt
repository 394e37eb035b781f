use Rattle.std.proofs.Common.{◌≡◌, ◌+◌, Bool, List, [], ◌∷◌, ◌++◌, take, sym, ◌∙◌, ap, Vec, Global}
use Rattle.std.specs.Prelude.{◌&&◌, not}
use Rattle.std.proofs.lemmas.List.{take_more}
use Rattle.ug_types.specs.declared.key.Key.{Key}
use Rattle.ug_message.specs.Tables.{among}
use Rattle.ug_hearing.proofs.Listed.{chosen, unchosen}
use Rattle.ug_hearing.proofs.naming.all_but.Goals.{then-not-contains+in_ok-push, else-not-contains}
use Rattle.ug_hearing.proofs.naming.all_but.Goals as goal

pub loop-key-preserved : goal.loop-key-preserved
loop-key-preserved c =
    let all = take_more c.args.keys.now c.loop-key.key-index c.key-item.result c.loop-key-test.true in
    let front : take (c.loop-key.key-index + 1) c.args.keys.now ≡ take c.loop-key.key-index c.args.keys.now ++ c.key-item.result ∷ [] = all ∙ ap (λ (k : Key). take c.loop-key.key-index c.args.keys.now ++ k ∷ []) (sym c.key-item.is) in
    let test : Key → Bool = λ q. not (among c.args.others.now q) in
    let has : c.contains.result ≡ among c.args.others.now c.key-item.result = c.contains.ensures ∙ c.in_ok-named.ensures c.key-item.result in
    elim c.if-not-contains.branch [
      | then-not-contains+in_ok-push w ↦
          λ q. ap (λ (l : Vec Key Global). among l.items q) w.left-is
          ∙ (ap (λ (ks : List Key). among ks q) w.in_ok-push.ensures.items
          ∙ (chosen test (take c.loop-key.key-index c.args.keys.now) c.loop-key.left.items c.key-item.result c.loop-key.invariant (ap not (sym has ∙ w.if-not-contains.true)) q
          ∙ ap (λ (ks : List Key). among ks q && not (among c.args.others.now q)) (sym front)))
      | else-not-contains w ↦
          λ q. ap (λ (l : Vec Key Global). among l.items q) w.left-is
          ∙ (unchosen test (take c.loop-key.key-index c.args.keys.now) c.loop-key.left.items c.key-item.result c.loop-key.invariant (ap not (sym has ∙ w.if-not-contains.false)) q
          ∙ ap (λ (ks : List Key). among ks q && not (among c.args.others.now q)) (sym front))
    ]
