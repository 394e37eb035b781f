use Rattle.std.proofs.Common.{◌≡◌, ◌+◌, inl, inr, List, [], ◌∷◌, ◌++◌, take, sym, ◌∙◌, ap, subst}
use Rattle.std.proofs.lemmas.List.{take_more}
use Rattle.ug_types.specs.declared.key.Key.{Key}
use Rattle.ug_types.specs.Keys.{same_key}
use Rattle.ug_message.specs.Tables.{among}
use Rattle.ug_hearing.proofs.Keys.{same_is}
use Rattle.ug_hearing.proofs.Among.{either, among-last}
use Rattle.ug_hearing.specs.Differences.{IsSame}
use Rattle.ug_hearing.proofs.Between.{take-past}
use Rattle.ug_hearing.proofs.differences.are_as_in.Goals as goal

pub loop-key-preserved : goal.loop-key-preserved
loop-key-preserved c = λ q there.
    let all = take_more c.args.keys.now c.loop-key.key-index c.key-item.result c.loop-key-test.true in
    let front : take (c.loop-key.key-index + 1) c.args.keys.now ≡ take c.loop-key.key-index c.args.keys.now ++ c.key-item.result ∷ [] = all ∙ ap (λ (k : Key). take c.loop-key.key-index c.args.keys.now ++ k ∷ []) (sym c.key-item.is) in
    elim (either (among (take c.loop-key.key-index c.args.keys.now) q) (same_key q c.key-item.result)
    (sym (among-last (take c.loop-key.key-index c.args.keys.now) c.key-item.result q) ∙ (ap (λ (ks : List Key). among ks q) (sym front) ∙ there))) [
      | inl sooner ↦ c.loop-key.invariant q sooner
      | inr it ↦
          subst (λ (k : Key). IsSame c.args.standings.now.rows c.args.course.now.changes c.args.course.now.from c.args.version k) (sym (same_is q c.key-item.result it))
          (c.is_as_in.ensures.0 c.if-not-is_as_in.false)
    ]

pub returns : goal.returns
returns c = λ is q there. c.loop-key.invariant q (ap (λ (ks : List Key). among ks q) (take-past c.args.keys.now c.loop-key.key-index c.loop-key-test.false) ∙ there)
