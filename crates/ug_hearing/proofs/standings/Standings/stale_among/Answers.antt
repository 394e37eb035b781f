use Rattle.std.proofs.Common.{◌≡◌, ◌+◌, Bool, List, [], ◌∷◌, ◌++◌, take, sym, ◌∙◌, ap, Vec, Global}
use Rattle.std.specs.Prelude.{◌&&◌}
use Rattle.std.proofs.lemmas.List.{take_more}
use Rattle.ug_types.specs.declared.key.Key.{Key}
use Rattle.ug_message.specs.Tables.{among}
use Rattle.ug_hearing.specs.Heard.{is_stale_in}
use Rattle.ug_hearing.proofs.Listed.{chosen, unchosen}
use Rattle.ug_hearing.proofs.standings.Standings.stale_among.Goals.{then-is_stale+in_ok-push, else-is_stale}
use Rattle.ug_hearing.proofs.standings.Standings.stale_among.Goals as goal

pub loop-key-preserved : goal.loop-key-preserved
loop-key-preserved c =
    let items = c.args.keys.now in
    let i = c.loop-key.key-index in
    let k = c.key-item.result in
    let front : take (i + 1) items ≡ take i items ++ k ∷ [] = take_more items i k c.loop-key-test.true ∙ ap (λ (x : Key). take i items ++ x ∷ []) (sym c.key-item.is) in
    let test : Key → Bool = is_stale_in c.args.self.now.refreshes c.args.course.now.changes c.args.self.now.rows in
    elim c.if-is_stale.branch [
      | then-is_stale+in_ok-push w ↦
          λ q. ap (λ (l : Vec Key Global). among l.items q) w.stale-is
          ∙ (ap (λ (ks : List Key). among ks q) w.in_ok-push.ensures.items
          ∙ (chosen test (take i items) c.loop-key.stale.items k c.loop-key.invariant (sym c.is_stale.ensures ∙ w.if-is_stale.true) q ∙ ap (λ (ks : List Key). among ks q && test q) (sym front)))
      | else-is_stale w ↦
          λ q. ap (λ (l : Vec Key Global). among l.items q) w.stale-is
          ∙ (unchosen test (take i items) c.loop-key.stale.items k c.loop-key.invariant (sym c.is_stale.ensures ∙ w.if-is_stale.false) q ∙ ap (λ (ks : List Key). among ks q && test q) (sym front))
    ]
