use Rattle.std.proofs.Common.{false, sym, ap, ◌∙◌}
use Rattle.std.specs.Prelude.{if◌then◌else◌}
use Rattle.ug_types.specs.declared.key.Key.{Key}
use Rattle.ug_types.specs.Keys.{same_key}
use Rattle.ug_message.specs.Tables.{among}
use Rattle.ug_check.proofs.Found.{on_ok}
use Rattle.ug_check.proofs.WithWaiting.{among_others}
use Rattle.ug_check.proofs.table.Table.put_change.Goals as goal

pub returns-clause-stale : goal.returns-clause-stale
returns-clause-stale c =
    let stale = c.args.self.now.stale in
    let key = c.args.change.key in
    on_ok c.put_row.result
    (λ put q. put q ∙ ap (λ (k : Key). if same_key q k then false else among stale q) c.widen.ensures ∙ sym (among_others key q stale))
    c.put_row.ensures.stale
