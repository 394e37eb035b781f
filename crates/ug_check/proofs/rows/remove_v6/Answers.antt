use Rattle.std.proofs.Common.{◌≡◌, cond, List, None, sym, subst}
use Rattle.std.specs.Map.{lookup}
use Rattle.std.specs.BTreeMap.{is_at}
use Rattle.ug_types.specs.declared.family.Family.TheVariants.{V6}
use Rattle.ug_types.specs.declared.key.Key.{Key}
use Rattle.ug_short_key.specs.Keys.{key_order}
use Rattle.ug_check.specs.declared.row.Row.{Row}
use Rattle.ug_check.specs.Stored.{AreRowsOf}
use Rattle.ug_check.proofs.Keys.{tied, updated}
use Rattle.ug_check.proofs.Kept.{removed}
use Rattle.ug_check.proofs.rows.remove_v6.Goals as goal

pub returns-clause-row : goal.returns-clause-row
returns-clause-row c =
    let old = c.args.rows.now.entries in
    let new = c.remove.new.self.entries in
    updated key_order tied old new c.args.key.now None
    (λ q. subst (λ (k : Key). lookup (is_at (key_order q)) new ≡ cond (is_at (key_order k) q) None (lookup (is_at (key_order q)) old)) c.narrow.ensures (c.remove.ensures.updates.0 q))

pub returns-clause-kept : goal.returns-clause-kept
returns-clause-kept c = λ n h. subst (λ (rows : List (Key × Row)). AreRowsOf V6 n rows) (sym c.remove.ensures.entries) (removed (is_at (key_order c.narrow.result)) V6 n c.args.rows.now.entries h)
