use Rattle.std.proofs.Common.{◌≡◌, ◌+◌, sym, subst, false}
use Rattle.std.proofs.lemmas.Result.{on_ok_weaker}
use Rattle.ug_group_rules.specs.Machine.{format_of, subgroup_at}
use Rattle.ug_groups.specs.Rows.{Rows, with_row, formatted_row}
use Rattle.ug_groups.specs.Members.{system}
use Rattle.ug_groups.specs.Done.{IsAt}
use Rattle.ug_groups.proofs.Formatted.{formattable, formatted-done}
use Rattle.ug_groups.proofs.formatting.format.Goals as goal

pub format-requires : goal.format-requires
format-requires c =
    let it = formattable c.args.world.now false c.args.made c.args.sub c.args.subgroups.now c.args.members.now c.requires.kept c.sendable_laws.ensures.wanted c.wanted_laws.ensures.rows c.requires.may in
    record { room = it.room; members = it.members; fit = it.fit }

pub returns : goal.returns
returns c =
    on_ok_weaker c.format.result
    (λ (e : c.format.new.self ≡ with_row c.args.sub (formatted_row c.args.made) c.args.subgroups.now).
    let s = system c.args.world.now false c.args.made c.args.subgroups.now c.args.members.now in
    subst (λ (rows : Rows). IsAt (format_of c.args.sub (subgroup_at c.args.sub s) s) c.args.world.now false (c.args.made + 1) rows c.args.members.now) (sym e)
    (formatted-done c.args.world.now c.args.made c.args.sub c.args.subgroups.now c.args.members.now c.requires.kept c.know_rows.ensures c.requires.may))
    c.format.ensures
