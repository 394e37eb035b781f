use Rattle.std.proofs.Common.{◌+◌, ◌≤◌, ℕ, ◌∙◌, ap, subst}
use Rattle.std.proofs.lemmas.Result.{on_ok_weaker}
use Rattle.ug_groups.proofs.FreshRows.{beside-asked, rekeyed-there, rekeyed-key, rekeyed-from, rekeyed-rows}
use Rattle.ug_groups.proofs.fresh.rekey_to.Goals as goal

pub desire_wanted-requires-clause-there : goal.desire_wanted-requires-clause-there
desire_wanted-requires-clause-there g c = rekeyed-there c.args.world.now c.args.subgroups.now c.requires.kept c.args.key c.args.g c.requires.there c.rekey.new.self c.in_ok-rekey.ensures.rows

pub desire_wanted-requires-clause-from : goal.desire_wanted-requires-clause-from
desire_wanted-requires-clause-from g c =
    rekeyed-from c.args.world.now c.args.subgroups.now c.requires.kept c.args.key c.args.g c.requires.there c.rekey.new.self c.in_ok-rekey.ensures.rows c.of_key-from.result c.of_key-from.ensures.there

pub returns-clause-rows : goal.returns-clause-rows
returns-clause-rows g c =
    on_ok_weaker c.desire_wanted.result
    (λ so. so ∙ rekeyed-rows c.args.world.now c.args.subgroups.now c.requires.kept c.args.key c.args.g c.requires.there c.rekey.new.self c.in_ok-rekey.ensures.rows)
    c.desire_wanted.ensures.rows

pub returns-clause-steps : goal.returns-clause-steps
returns-clause-steps g c =
    on_ok_weaker c.desire_wanted.result
    (λ so.
    so c.args.key (rekeyed-key c.args.world.now c.args.subgroups.now c.requires.kept c.args.key c.args.g c.requires.there c.rekey.new.self c.in_ok-rekey.ensures.rows)
    ∙ ap (λ (n : ℕ). c.args.steps.now + n) (beside-asked c.args.world.now c.args.subgroups.now c.args.key c.of_key-from.result c.of_key-from.ensures.none c.of_key-from.ensures.some))
    c.desire_wanted.ensures.steps

pub returns-clause-most : goal.returns-clause-most
returns-clause-most g c =
    subst (λ (n : ℕ). c.desire_wanted.new.steps ≤ c.args.steps.now + n) (beside-asked c.args.world.now c.args.subgroups.now c.args.key c.of_key-from.result c.of_key-from.ensures.none c.of_key-from.ensures.some)
    (c.desire_wanted.ensures.most c.args.key
    (rekeyed-key c.args.world.now c.args.subgroups.now c.requires.kept c.args.key c.args.g c.requires.there c.rekey.new.self c.in_ok-rekey.ensures.rows))
