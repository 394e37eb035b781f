use Rattle.std.proofs.Common.{◌+◌, ◌≤◌, ℕ, sym, ◌∙◌, ap, subst}
use Rattle.std.specs.List.{AllByRecursion}
use Rattle.std.proofs.lemmas.Result.{on_ok_weaker}
use Rattle.ug_events.specs.Views.{event_of}
use Rattle.ug_groups.specs.Rows.{keys_in}
use Rattle.ug_groups.specs.TableChanges.{IsOwnKey, some_add_path}
use Rattle.ug_groups.proofs.PrefixEvents.{before-all}
use Rattle.ug_groups.proofs.RowsEntered.{numbered-row, prefix-entered, prefix-cost}
use Rattle.ug_groups.proofs.entering.enter_paths.Goals as goal

pub touch_prefix-requires-clause-before : goal.touch_prefix-requires-clause-before
touch_prefix-requires-clause-before g c =
    subst (AllByRecursion (IsOwnKey c.args.prefix.now)) (sym (c.deref.ensures.value ∙ c.in_ok-before.ensures)) (before-all (some_add_path (keys_in c.args.subgroups.now)) c.args.world.now c.args.prefix.now c.requires.good)

pub touch_prefix-requires-clause-paths : goal.touch_prefix-requires-clause-paths
touch_prefix-requires-clause-paths g c =
    numbered-row (event_of c.args.event.now) c.args.prefix.now c.args.world.now c.requires.about c.as_slice-paths.result.now (c.as_slice-paths.ensures ∙ c.in_ok-row.ensures) c.know_order.ensures c.requires.good c.requires.form

pub returns-in_err-touch_prefix-clause-most : goal.returns-in_err-touch_prefix-clause-most
returns-in_err-touch_prefix-clause-most g c =
    subst (λ (n : ℕ). c.touch_prefix.new.steps ≤ c.args.steps.now + n)
    (prefix-cost (event_of c.args.event.now) c.args.prefix.now c.args.world.now c.requires.about c.as_slice-paths.result.now (c.as_slice-paths.ensures ∙ c.in_ok-row.ensures) c.know_order.ensures c.args.subgroups.now)
    c.touch_prefix.ensures.most

pub returns-clause-rows : goal.returns-clause-rows
returns-clause-rows g c =
    on_ok_weaker c.take_row.result
    (λ _.
    c.in_ok-touch_prefix.ensures.rows
    ∙ prefix-entered (event_of c.args.event.now) c.args.prefix.now c.args.world.now c.requires.about c.as_slice-paths.result.now (c.as_slice-paths.ensures ∙ c.in_ok-row.ensures) c.know_order.ensures c.requires.good
    c.args.subgroups.now c.requires.kept c.deref.result.now (c.deref.ensures.value ∙ c.in_ok-before.ensures))
    c.take_row.ensures.ok

pub returns-clause-steps : goal.returns-clause-steps
returns-clause-steps g c =
    on_ok_weaker c.take_row.result
    (λ _.
    c.in_ok-touch_prefix.ensures.steps
    ∙ ap (λ (n : ℕ). c.args.steps.now + n)
    (prefix-cost (event_of c.args.event.now) c.args.prefix.now c.args.world.now c.requires.about c.as_slice-paths.result.now (c.as_slice-paths.ensures ∙ c.in_ok-row.ensures) c.know_order.ensures c.args.subgroups.now))
    c.take_row.ensures.ok

pub returns-clause-most : goal.returns-clause-most
returns-clause-most g c =
    subst (λ (n : ℕ). c.touch_prefix.new.steps ≤ c.args.steps.now + n)
    (prefix-cost (event_of c.args.event.now) c.args.prefix.now c.args.world.now c.requires.about c.as_slice-paths.result.now (c.as_slice-paths.ensures ∙ c.in_ok-row.ensures) c.know_order.ensures c.args.subgroups.now)
    c.touch_prefix.ensures.most
