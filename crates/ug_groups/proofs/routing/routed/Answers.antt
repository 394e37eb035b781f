use Rattle.std.specs.Prelude.{ℕ}
use Rattle.std.specs.Option.{option_map}
use Rattle.std.proofs.Common.{sym, ap, ◌∙◌}
use Rattle.ug_types.specs.declared.key.Key.{Key}
use Rattle.ug_groups.proofs.DueRoutes.{none_routed}
use Rattle.ug_groups.proofs.routing.routed.Goals as goal

pub returns : goal.returns
returns c =
    none_routed c.args.key.now c.args.pool.now c.args.out.now c.requires.family c.requires.exact c.requires.ready c.know_ids.ensures c.requires.live c.args.made
    (sym c.first_withdrawal.ensures ∙ c.in_default.is) (ap (option_map (λ (e : Key × ℕ). e.1)) (sym c.in_default-first_announcement.is) ∙ c.first_announcement.ensures.value)
