use Rattle.std.specs.Prelude.{Option}
use Rattle.std.proofs.Common.{sym, subst, ap, ◌∙◌}
use Rattle.std.proofs.lemmas.Result.{on_ok_weaker}
use Rattle.ug_types.specs.declared.route.OutAttrs.{OutAttrs}
use Rattle.ug_pack.specs.Ready.{key_order}
use Rattle.ug_adjout.specs.Tables.{value_at}
use Rattle.ug_groups.specs.Values.{valued_by}
use Rattle.ug_groups.specs.Standings.{desiring}
use Rattle.ug_groups.proofs.Holders.{desired_used}
use Rattle.ug_groups.specs.declared.entry.Entry.{Entry}
use Rattle.ug_groups.specs.Rows.{with_sub}
use Rattle.ug_groups.specs.Entries.{adj_of, IsDone}
use Rattle.ug_groups.specs.Walks.{desired_in}
use Rattle.ug_groups.proofs.Accounts.{counted_in}
use Rattle.ug_groups.proofs.Dones.{one_there}
use Rattle.ug_groups.proofs.NextKeys.{value_is}
use Rattle.ug_groups.proofs.tables.desire_like.Goals as goal

pub desire-requires-clause-used : goal.desire-requires-clause-used
desire-requires-clause-used c =
    desired_used c.args.pool.now (adj_of c.at.result.now) c.args.key.now c.desired-id.result (counted_in c.args.pool.now c.args.live.now c.args.from c.at.result.now c.requires.kept c.at.ensures) c.desired-id.ensures

pub returns-clause-ok : goal.returns-clause-ok
returns-clause-ok c =
    let pool = c.args.pool.now in let live = c.args.live.now in let key = c.args.key.now in
    on_ok_weaker c.desire.result
    (λ done f there.
    subst (λ (v : Option OutAttrs). IsDone pool c.desire.new.pool live c.desire.new.live c.args.g (with_sub (desiring key v)))
    (ap (valued_by pool) c.desired-id.ensures ∙ sym (value_is pool (adj_of c.at.result.now).desired key c.know_keys.ensures.sorted)
    ∙ ap (λ (x : Entry). value_at key_order (desired_in pool x) key) (one_there live c.args.from c.at.result.now f c.at.ensures there)) done)
    c.desire.ensures.ok
