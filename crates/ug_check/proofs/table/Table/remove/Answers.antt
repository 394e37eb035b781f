use Rattle.std.proofs.Common.{◌≡◌, None, refl, rules}
use Rattle.ug_types.specs.declared.family.Family.TheVariants.{V4, V6}
use Rattle.ug_check.specs.Stored.{IsStored}
use Rattle.ug_check.proofs.Found.{v4_row, v6_row, v4_stale, v6_stale}
use Rattle.ug_check.proofs.table.Table.remove.Goals as goal

pub invariant_of-self : goal.invariant_of-self
invariant_of-self c =
    let t = c.self.inside in
    record {
      all_v4 = c.remove_v4.ensures.kept t.refreshes c.self.invariant.all_v4;
      all_v6 = c.self.invariant.all_v6;
      v4_ascend = c.remove_v4.ensures.ascending;
      v6_ascend = c.self.invariant.v6_ascend;
    }

pub returns-in-V4-clause-row : goal.returns-in-V4-clause-row
returns-in-V4-clause-row c =
    let t = c.self.inside in
    let family : c.args.key.now.prefix.family ≡ V4 = search rules in
    v4_row t.refreshes c.args.key.now None t.v4.entries c.remove_v4.new.rows.entries t.v6.entries t.refreshing c.args.self.now family c.self.view_is c.self.invariant c.remove_v4.ensures.row

pub returns-in-V4-clause-stale : goal.returns-in-V4-clause-stale
returns-in-V4-clause-stale c =
    let t = c.self.inside in
    let family : c.args.key.now.prefix.family ≡ V4 = search rules in
    let stored : IsStored c.remove_v4.new.rows.entries t.v6.entries t.refreshes = record {
      all_v4 = c.remove_v4.ensures.kept t.refreshes c.self.invariant.all_v4;
      all_v6 = c.self.invariant.all_v6;
      v4_ascend = c.remove_v4.ensures.ascending;
      v6_ascend = c.self.invariant.v6_ascend;
    } in
    v4_stale t.refreshes c.args.key.now None t.v4.entries c.remove_v4.new.rows.entries t.v6.entries t.refreshing c.args.self.now family refl c.self.view_is c.self.invariant stored c.remove_v4.ensures.row

pub invariant_of-self-in-V6 : goal.invariant_of-self-in-V6
invariant_of-self-in-V6 c =
    let t = c.self.inside in
    record {
      all_v4 = c.self.invariant.all_v4;
      all_v6 = c.remove_v6.ensures.kept t.refreshes c.self.invariant.all_v6;
      v4_ascend = c.self.invariant.v4_ascend;
      v6_ascend = c.remove_v6.ensures.ascending;
    }

pub returns-in-V6-clause-row : goal.returns-in-V6-clause-row
returns-in-V6-clause-row c =
    let t = c.self.inside in
    let family : c.args.key.now.prefix.family ≡ V6 = search rules in
    v6_row t.refreshes c.args.key.now None t.v4.entries t.v6.entries c.remove_v6.new.rows.entries t.refreshing c.args.self.now family c.self.view_is c.self.invariant c.remove_v6.ensures.row

pub returns-in-V6-clause-stale : goal.returns-in-V6-clause-stale
returns-in-V6-clause-stale c =
    let t = c.self.inside in
    let family : c.args.key.now.prefix.family ≡ V6 = search rules in
    let stored : IsStored t.v4.entries c.remove_v6.new.rows.entries t.refreshes = record {
      all_v4 = c.self.invariant.all_v4;
      all_v6 = c.remove_v6.ensures.kept t.refreshes c.self.invariant.all_v6;
      v4_ascend = c.self.invariant.v4_ascend;
      v6_ascend = c.remove_v6.ensures.ascending;
    } in
    v6_stale t.refreshes c.args.key.now None t.v4.entries t.v6.entries c.remove_v6.new.rows.entries t.refreshing c.args.self.now family refl c.self.view_is c.self.invariant stored c.remove_v6.ensures.row
