use Rattle.std.proofs.Common.{◌≡◌, List, take, refl, sym, ◌∙◌, ap, subst, arith}
use Rattle.std.specs.Prelude.{filter}
use Rattle.ug_types.specs.declared.key.Key.{Key}
use Rattle.ug_hearing.specs.declared.row.Moved.{Moved}
use Rattle.ug_hearing.specs.Rows.{IsChain}
use Rattle.ug_hearing.specs.Climbed.{is_named, IsNextNamed}
use Rattle.ug_hearing.proofs.HandedOut.{one-more, all-climbs}
use Rattle.ug_hearing.proofs.climbs.Climbs.next.Goals as goal

pub returns-in-None-clause-climbs : goal.returns-in-None-clause-climbs
returns-in-None-clause-climbs c = λ done h.
    let keys = c.deref.ensures.value ∙ ap (λ ks. ks.items) c.get.ensures in
    all-climbs c.args.judge.now c.args.self.now done h
    (subst (λ (ks : List Key). filter (is_named c.args.judge.now) ks ≡ filter (is_named c.args.judge.now) (take c.args.self.now.place ks)) keys c.in-None.ensures.none)

pub returns-clause-climbs : goal.returns-clause-climbs
returns-clause-climbs c = λ done h.
    let keys = c.deref.ensures.value ∙ ap (λ ks. ks.items) c.get.ensures in
    let n = c.in-Some.named in
    one-more c.args.judge.now c.args.self.now (record { keys = c.args.self.now.keys; place = n.behind; moves = c.move_back.new.moves }) done n
    (subst (λ (ks : List Key). IsNextNamed c.args.judge.now ks c.args.self.now.place n) keys c.in-Some.ensures.found) refl refl
    (λ back chain. c.in_ok-move_back.ensures back (subst (λ (ms : List Moved). IsChain ms n.moved back) (sym c.deref-2.ensures.value) chain)) h

pub returns-clause-fewer : goal.returns-clause-fewer
returns-clause-fewer c =
    let keys = c.deref.ensures.value ∙ ap (λ ks. ks.items) c.get.ensures in
    let found = subst (λ (ks : List Key). IsNextNamed c.args.judge.now ks c.args.self.now.place c.in-Some.named) keys c.in-Some.ensures.found in
    let low = found.low in
    let high = found.high in
    omega (arith, low, high)
