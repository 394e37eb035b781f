use Rattle.std.specs.Prelude.{◌==◌, length}
use Rattle.std.proofs.Common.{sym, ap, ◌∙◌}
use Rattle.ug_outbound.specs.declared.key.GroupKey.{GroupKey}
use Rattle.ug_group_rules.specs.Packets.{same_group}
use Rattle.ug_group_rules.specs.Machine.{is_level}
use Rattle.ug_groups.specs.Standings.{seen}
use Rattle.ug_groups.proofs.HandedTexts.{merge_not, merge_so}
use Rattle.ug_groups.proofs.subgroup.Subgroup.may_merge.Goals as goal

pub returns-then-not-are_level : goal.returns-then-not-are_level
returns-then-not-are_level c pool =
    let x = c.args.self.now in let y = c.args.other.now in
    merge_not (is_level (seen pool x.point)) (is_level (seen pool y.point)) (same_group x.point.key y.point.key) (length y.queue.packets == 0) (sym (c.are_level.ensures pool) ∙ c.if-not-are_level.true)

pub returns : goal.returns
returns c pool =
    let x = c.args.self.now in let y = c.args.other.now in
    c.has_no_packet.ensures
    ∙ merge_so (is_level (seen pool x.point)) (is_level (seen pool y.point)) (same_group x.point.key y.point.key) (length y.queue.packets == 0) (sym (c.are_level.ensures pool) ∙ c.if-not-are_level.false)
    (ap (λ (k : GroupKey). same_group x.point.key k) (sym c.key.ensures) ∙ sym c.has_key.ensures ∙ c.if-not-has_key.false)
