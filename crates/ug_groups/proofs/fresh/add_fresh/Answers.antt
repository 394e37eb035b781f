use Rattle.std.proofs.Common.{◌+◌, ◌≤◌, ℕ, ◌∙◌, ap, subst}
use Rattle.ug_groups.proofs.FreshRows.{beside-asked, fresh-there, fresh-key, fresh-from, fresh-rows}
use Rattle.ug_groups.proofs.fresh.add_fresh.Goals as goal

pub desire_wanted-requires-clause-there : goal.desire_wanted-requires-clause-there
desire_wanted-requires-clause-there g c =
    fresh-there c.args.world.now c.args.subgroups.now c.requires.kept c.args.key _ c.add.new.self c.in_ok-g.ensures.rows c.in_ok-g.g c.in_ok-g.ensures.number

pub desire_wanted-requires-clause-from : goal.desire_wanted-requires-clause-from
desire_wanted-requires-clause-from g c =
    fresh-from c.args.world.now c.args.subgroups.now c.requires.kept c.args.key _ c.add.new.self c.in_ok-g.ensures.rows c.in_ok-g.g c.in_ok-g.ensures.number c.of_key-from.result c.of_key-from.ensures.there

pub returns-in_err-desire_wanted-clause-most : goal.returns-in_err-desire_wanted-clause-most
returns-in_err-desire_wanted-clause-most g c =
    subst (λ (n : ℕ). c.desire_wanted.new.steps ≤ c.args.steps.now + n) (beside-asked c.args.world.now c.args.subgroups.now c.args.key c.of_key-from.result c.of_key-from.ensures.none c.of_key-from.ensures.some)
    (c.desire_wanted.ensures.most c.args.key
    (fresh-key c.args.world.now c.args.subgroups.now c.requires.kept c.args.key _ c.add.new.self c.in_ok-g.ensures.rows c.in_ok-g.g c.in_ok-g.ensures.number))

pub returns-clause-rows : goal.returns-clause-rows
returns-clause-rows g c =
    c.in_ok-desire_wanted.ensures.rows
    ∙ fresh-rows c.args.world.now c.args.subgroups.now c.requires.kept c.args.key _ c.add.new.self c.in_ok-g.ensures.rows c.in_ok-g.g c.in_ok-g.ensures.number (ap (λ l. l.queue_limit) c.local.ensures)

pub returns-clause-steps : goal.returns-clause-steps
returns-clause-steps g c =
    c.in_ok-desire_wanted.ensures.steps c.args.key
    (fresh-key c.args.world.now c.args.subgroups.now c.requires.kept c.args.key _ c.add.new.self c.in_ok-g.ensures.rows c.in_ok-g.g c.in_ok-g.ensures.number)
    ∙ ap (λ (n : ℕ). c.args.steps.now + n) (beside-asked c.args.world.now c.args.subgroups.now c.args.key c.of_key-from.result c.of_key-from.ensures.none c.of_key-from.ensures.some)

pub returns-clause-most : goal.returns-clause-most
returns-clause-most g c =
    subst (λ (n : ℕ). c.desire_wanted.new.steps ≤ c.args.steps.now + n) (beside-asked c.args.world.now c.args.subgroups.now c.args.key c.of_key-from.result c.of_key-from.ensures.none c.of_key-from.ensures.some)
    (c.desire_wanted.ensures.most c.args.key
    (fresh-key c.args.world.now c.args.subgroups.now c.requires.kept c.args.key _ c.add.new.self c.in_ok-g.ensures.rows c.in_ok-g.g c.in_ok-g.ensures.number))
