use Rattle.std.proofs.Common.{◌≡◌, cond, List, Some, sym, ap, subst, ◌∙◌}
use Rattle.std.specs.Map.{lookup}
use Rattle.std.specs.BTreeMap.{is_at}
use Rattle.ug_types.specs.declared.family.Family.TheVariants.{V6}
use Rattle.ug_types.specs.declared.key.Key.{Key}
use Rattle.ug_short_key.specs.Keys.{key_order}
use Rattle.ug_check.specs.declared.row.Row.{Row}
use Rattle.ug_check.specs.Stored.{AreRowsOf}
use Rattle.ug_check.proofs.Keys.{tied, updated}
use Rattle.ug_check.proofs.Kept.{inserted}
use Rattle.ug_check.proofs.rows.put_v6.Goals as goal

pub returns-clause-row : goal.returns-clause-row
returns-clause-row c =
    let old = c.args.rows.now.entries in
    let new = c.insert.new.self.entries in
    updated key_order tied old new c.args.key.now (Some c.args.row)
    (λ q. subst (λ (k : Key). lookup (is_at (key_order q)) new ≡ cond (is_at (key_order k) q) (Some c.args.row) (lookup (is_at (key_order q)) old)) c.narrow.ensures (c.in_ok-insert.ensures.updates.0 q))

pub returns-clause-kept : goal.returns-clause-kept
returns-clause-kept c = λ n seen h.
    subst (λ (rows : List (Key × Row)). AreRowsOf V6 n rows) (sym c.in_ok-insert.ensures.entries)
    (inserted key_order V6 n c.args.rows.now.entries c.narrow.result c.args.row (ap (λ (k : Key). k.prefix.family) c.narrow.ensures ∙ c.requires) seen h)
