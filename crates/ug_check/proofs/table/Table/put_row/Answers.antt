use Rattle.std.proofs.Common.{◌≡◌, ◌≤◌, Some, refl, arith, rules}
use Rattle.ug_types.specs.declared.family.Family.TheVariants.{V4, V6}
use Rattle.ug_check.specs.declared.row.Row.{Row}
use Rattle.ug_check.specs.Stored.{IsStored}
use Rattle.ug_check.proofs.Found.{v4_row, v6_row, v4_stale, v6_stale, just_seen, announced_now, on_ok}
use Rattle.ug_check.proofs.table.Table.put_row.Goals as goal

pub returns-in-V4-clause-row : goal.returns-in-V4-clause-row
returns-in-V4-clause-row c =
    let t = c.self.inside in
    let family : c.args.key.now.prefix.family ≡ V4 = search rules in
    let row : Row = c.args.row in
    on_ok c.put_v4.result
    (λ change. (v4_row t.refreshes c.args.key.now (Some row) t.v4.entries c.put_v4.new.rows.entries t.v6.entries t.refreshing c.args.self.now family c.self.view_is c.self.invariant change))
    c.put_v4.ensures.row

pub returns-in-V4-clause-stale : goal.returns-in-V4-clause-stale
returns-in-V4-clause-stale c =
    let t = c.self.inside in
    let family : c.args.key.now.prefix.family ≡ V4 = search rules in
    let row : Row = c.args.row in
    let now : row.shared.value.seen ≡ t.refreshes = announced_now t.refreshes t.v4.entries t.v6.entries t.refreshing c.args.self.now row.shared.value row.shared.value c.self.view_is refl c.requires in
    let seen : row.shared.value.seen ≤ t.refreshes = omega arith in
    let stored : IsStored c.put_v4.new.rows.entries t.v6.entries t.refreshes = record {
      all_v4 = c.put_v4.ensures.kept t.refreshes seen c.self.invariant.all_v4;
      all_v6 = c.self.invariant.all_v6;
      v4_ascend = c.put_v4.ensures.ascending;
      v6_ascend = c.self.invariant.v6_ascend;
    } in
    on_ok c.put_v4.result
    (λ change. v4_stale t.refreshes c.args.key.now (Some row) t.v4.entries c.put_v4.new.rows.entries t.v6.entries t.refreshing c.args.self.now family (just_seen t.refreshes row now) c.self.view_is c.self.invariant stored change)
    c.put_v4.ensures.row

pub returns-in-V6-clause-row : goal.returns-in-V6-clause-row
returns-in-V6-clause-row c =
    let t = c.self.inside in
    let family : c.args.key.now.prefix.family ≡ V6 = search rules in
    let row : Row = c.args.row in
    on_ok c.put_v6.result
    (λ change. (v6_row t.refreshes c.args.key.now (Some row) t.v4.entries t.v6.entries c.put_v6.new.rows.entries t.refreshing c.args.self.now family c.self.view_is c.self.invariant change))
    c.put_v6.ensures.row

pub returns-in-V6-clause-stale : goal.returns-in-V6-clause-stale
returns-in-V6-clause-stale c =
    let t = c.self.inside in
    let family : c.args.key.now.prefix.family ≡ V6 = search rules in
    let row : Row = c.args.row in
    let now : row.shared.value.seen ≡ t.refreshes = announced_now t.refreshes t.v4.entries t.v6.entries t.refreshing c.args.self.now row.shared.value row.shared.value c.self.view_is refl c.requires in
    let seen : row.shared.value.seen ≤ t.refreshes = omega arith in
    let stored : IsStored t.v4.entries c.put_v6.new.rows.entries t.refreshes = record {
      all_v4 = c.self.invariant.all_v4;
      all_v6 = c.put_v6.ensures.kept t.refreshes seen c.self.invariant.all_v6;
      v4_ascend = c.self.invariant.v4_ascend;
      v6_ascend = c.put_v6.ensures.ascending;
    } in
    on_ok c.put_v6.result
    (λ change. v6_stale t.refreshes c.args.key.now (Some row) t.v4.entries t.v6.entries c.put_v6.new.rows.entries t.refreshing c.args.self.now family (just_seen t.refreshes row now) c.self.view_is c.self.invariant stored change)
    c.put_v6.ensures.row
