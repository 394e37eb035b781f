-- A subgroup that desires as its key wants what differs from before has the table that it should have.
use Rattle.std.proofs.Common.{◌≡◌, false, [], ◌∷◌, Option, refl, ◌∙◌, ap}
use Rattle.std.specs.List.{AllByRecursion}
use Rattle.std.specs.List.Sorted.{IsStrictlySortedBy}
use Rattle.std.specs.Map.{keys_of}
use Rattle.ug_types.specs.declared.key.Key.{Key}
use Rattle.ug_types.specs.declared.route.OutAttrs.{OutAttrs}
use Rattle.ug_outbound.specs.declared.key.GroupKey.{GroupKey}
use Rattle.ug_world.specs.World.{World}
use Rattle.ug_world.specs.Private.{wanted}
use Rattle.ug_adjout.specs.Tables.{has, value_at}
use Rattle.ug_adjout.specs.Pending.{IsExact, with_desired}
use Rattle.ug_adjout.specs.Desiring.{with_each_desired, AreForcedShown}
use Rattle.ug_adjout.proofs.Desiring.{each-desired}
use Rattle.ug_pack.specs.Ready.{key_order}
use Rattle.ug_pack.proofs.Keys.{key_total, key_exact}
use Rattle.ug_group_rules.specs.Packets.{Out, same_out, wanted_rows}
use Rattle.ug_group_rules.specs.Machine.{Subgroup, retabled}
use Rattle.ug_group_rules.proofs.Tables.{wanted-sorted}
use Rattle.ug_group_rules.proofs.WantedTables.{rows-value}
use Rattle.ug_groups.specs.Standings.{desiring}
use Rattle.ug_groups.specs.TableChanges.{Changes, with_changes}

-- changes that are in key order, as the key wants in this world, and beside which it wants what was desired
pub record AreWanted (w : World) (group : GroupKey) (before : Key → Option OutAttrs) (changes : Changes) : Type 0 where
  pub sorted : IsStrictlySortedBy key_order (keys_of changes)
  pub values : AllByRecursion (λ c. c.1 ≡ wanted group w c.0) changes
  pub others : (q : Key) → has key_order (keys_of changes) q ≡ false → wanted group w q ≡ before q

one_by_one : (value : Key → Option OutAttrs) (changes : Changes) (x : Subgroup) → AllByRecursion (λ c. c.1 ≡ value c.0) changes
    → with_changes changes x ≡ record x { out = with_each_desired key_order same_out value x.out (keys_of changes) }
one_by_one value [] x all = refl
one_by_one value (c ∷ changes) x all =
    one_by_one value changes (desiring c.0 c.1 x) all.1
    ∙ ap (λ (v : Option OutAttrs). record x { out = with_each_desired key_order same_out value (with_desired key_order same_out x.out c.0 v) (keys_of changes) }) all.0

pub changed-table : (w : World) (x : Subgroup) (changes : Changes) → IsExact key_order same_out x.out → AreForcedShown key_order x.out → AreWanted w x.key (value_at key_order x.out.desired) changes
    → with_changes changes x ≡ retabled w x
changed-table w x changes exact shown are =
    one_by_one (wanted x.key w) changes x are.values
    ∙ ap (λ (o : Out). record x { out = o })
    (each-desired key_total key_exact same_out x.out (wanted_rows x.key w) (wanted x.key w) (keys_of changes) exact shown (wanted-sorted x.key w) are.sorted (λ q. rows-value x.key w q) are.others)
