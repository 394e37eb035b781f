use Rattle.std.proofs.Common.{◌≡◌, ◌+◌, ℕ, Bool, true, false, List, ◌∷◌, [], ◌++◌, take, get_or, option_copied, sym, ◌∙◌, ap, subst, Vec, Global}
use Rattle.std.proofs.lemmas.List.{take_more}
use Rattle.ug_types.specs.declared.key.Key.{Key}
use Rattle.ug_hearing.specs.Pasts.{Value}
use Rattle.ug_hearing.specs.declared.standings.Standings.{Standings}
use Rattle.ug_hearing.specs.Visits.{IsVisit}
use Rattle.ug_hearing.specs.Passes.{ArePassed}
use Rattle.ug_hearing.proofs.Passing.{IsPushed, one-more}
use Rattle.ug_hearing.proofs.standings.Standings.visit_all.Goals.{then-not-branch+in_ok-push, else-not-branch}
use Rattle.ug_hearing.proofs.standings.Standings.visit_all.Goals as goal

on : (entries : List _) (from to message : ℕ) (keys : List Key) (i : ℕ) (k : Key) (v : Value) (before failed failed' : List Key) (old st new : Standings) (could b : Bool)
    → take (i + 1) keys ≡ take i keys ++ get_or keys i k ∷ [] → k ≡ get_or keys i k → could ≡ b → ArePassed entries from to message (take i keys) v before failed old st
    → IsVisit entries from to message k v st new could → IsPushed b k failed failed' → ArePassed entries from to message (take (i + 1) keys) v before failed' old new
on entries from to message keys i k v before failed failed' old st new could b all is same h visit pushed =
    subst (λ (ks : List Key). ArePassed entries from to message ks v before failed' old new) (sym (all ∙ ap (λ (x : Key). take i keys ++ x ∷ []) (sym is)))
    (one-more entries from to message (take i keys) k v before failed failed' old st new b h (subst (λ (c : Bool). IsVisit entries from to message k v st new c) same visit) pushed)

pub loop-key-preserved : goal.loop-key-preserved
loop-key-preserved c =
    let all = take_more c.args.keys.now c.loop-key.key-index c.key-item.result c.loop-key-test.true in
    elim c.if-not-branch.branch [
      | then-not-branch+in_ok-push w ↦
          on c.args.course.now.changes c.args.course.now.from c.args.course.now.to c.args.message c.args.keys.now c.loop-key.key-index c.key-item.result (option_copied c.args.value) c.args.failed.now.items
          c.loop-key.failed.items c.if-not-branch.failed.items c.args.self.now c.loop-key.self c.visit.new.self c.in_ok-visit.field-0 false all c.key-item.is w.if-not-branch.true c.loop-key.invariant c.in_ok-visit.ensures
          (ap (λ (f : Vec Key Global). f.items) w.failed-is ∙ w.in_ok-push.ensures.items)
      | else-not-branch w ↦
          on c.args.course.now.changes c.args.course.now.from c.args.course.now.to c.args.message c.args.keys.now c.loop-key.key-index c.key-item.result (option_copied c.args.value) c.args.failed.now.items
          c.loop-key.failed.items c.if-not-branch.failed.items c.args.self.now c.loop-key.self c.visit.new.self c.in_ok-visit.field-0 true all c.key-item.is w.if-not-branch.false c.loop-key.invariant c.in_ok-visit.ensures
          (ap (λ (f : Vec Key Global). f.items) w.failed-is)
    ]
