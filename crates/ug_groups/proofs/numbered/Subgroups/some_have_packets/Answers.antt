use Rattle.std.proofs.Common.{refl, ◌∙◌}
use Rattle.ug_groups.specs.Rows.{has_packets}
use Rattle.ug_groups.proofs.Found.{found_any}
use Rattle.ug_groups.proofs.numbered.Subgroups.some_have_packets.Goals as goal

pub returns : goal.returns
returns c =
    let i = c.self.inside in
    c.is_some.ensures ∙ found_any has_packets i.pool i.live c.args.self.now c.self.view_is (λ e. refl) c.entries.result.now c.entries.ensures c.place_with_packets.result c.place_with_packets.ensures
