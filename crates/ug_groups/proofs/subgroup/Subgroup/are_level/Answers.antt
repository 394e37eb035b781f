use Rattle.std.specs.Prelude.{◌&&◌, true, false}
use Rattle.std.proofs.Common.{◌≡◌, sym, ap, ◌∙◌}
use Rattle.ug_group_rules.specs.Machine.{is_level}
use Rattle.ug_groups.specs.Standings.{seen}
use Rattle.ug_groups.proofs.subgroup.Subgroup.are_level.Goals as goal

pub returns-then-is_level : goal.returns-then-is_level
returns-then-is_level c pool =
    let here : is_level (seen pool c.args.self.now.point) ≡ true = sym (c.is_level.ensures pool) ∙ c.if-is_level.true in
    c.is_level-then-is_level.ensures pool ∙ ap (λ a. a && is_level (seen pool c.args.other.now.point)) (sym here)

pub returns-else-is_level : goal.returns-else-is_level
returns-else-is_level c pool =
    let here : is_level (seen pool c.args.self.now.point) ≡ false = sym (c.is_level.ensures pool) ∙ c.if-is_level.false in
    c.if-is_level.false ∙ ap (λ a. a && is_level (seen pool c.args.other.now.point)) (sym here)
