-- A new table, from the rows of one that is there; and a key that stays.
use Rattle.std.proofs.Common.{◌≡◌, false, [], Option, Some, None, refl, sym, ap}
use Rattle.std.specs.Map.{keys_of}
use Rattle.ug_types.specs.declared.key.Key.{Key}
use Rattle.ug_types.specs.declared.route.OutAttrs.{OutAttrs}
use Rattle.ug_outbound.specs.declared.key.GroupKey.{GroupKey}
use Rattle.ug_world.specs.World.{World}
use Rattle.ug_adjout.specs.Tables.{has}
use Rattle.ug_adjout.specs.Pending.{nothing_out}
use Rattle.ug_adjout.specs.TableLaws.{has-keys_of}
use Rattle.ug_pack.specs.Ready.{key_order}
use Rattle.ug_pack.proofs.Keys.{key_total, key_exact}
use Rattle.ug_group_rules.specs.Packets.{Rows, Out, same_out, wanted_rows, all_desired}
use Rattle.ug_group_rules.specs.Machine.{Subgroup, rekeyed}
use Rattle.ug_group_rules.proofs.Tables.{row_at, wanted-sorted, nothing-exact}
use Rattle.ug_adjout.specs.Desiring.{with_each_desired}
use Rattle.ug_adjout.proofs.Desiring.{each-desired}
use Rattle.ug_group_rules.specs.Touched.{IsKeptIn}
use Rattle.ug_group_rules.proofs.TouchedKeys.{no-keys}

absent : (rows : Rows) (q : Key) → has key_order (keys_of rows) q ≡ false → row_at rows q ≡ None
absent rows q e = by (row_at rows q) refl
  where
    by : (o : Option OutAttrs) → row_at rows q ≡ o → o ≡ None
    by None at = refl
    by (Some v) at = let there = has-keys_of key_total key_exact rows q in absurd cc

-- all rows of a table that is there, desired one after the other in its order, are a new one
pub new-table : (group : GroupKey) (w : World) → with_each_desired key_order same_out (row_at (wanted_rows group w)) nothing_out (keys_of (wanted_rows group w)) ≡ all_desired (wanted_rows group w)
new-table group w =
    each-desired key_total key_exact same_out nothing_out (wanted_rows group w) (row_at (wanted_rows group w)) (keys_of (wanted_rows group w)) nothing-exact (λ q e. absurd cc)
    (wanted-sorted group w) (wanted-sorted group w) (λ q. refl) (λ q e. absent (wanted_rows group w) q e)

-- a subgroup that is rekeyed by its own key stays as it is
pub same-rekeyed : (w : World) (x : Subgroup) → IsKeptIn w x → rekeyed x.key w x ≡ x
same-rekeyed w x kept =
    ap (λ (o : Out). record x { out = o })
    (sym (each-desired key_total key_exact same_out x.out (wanted_rows x.key w) (row_at (wanted_rows x.key w)) [] kept.exact kept.shown (wanted-sorted x.key w) no-keys (λ q. refl)
    (λ q e. ap (λ (rows : Rows). row_at rows q) (sym kept.desires))))
