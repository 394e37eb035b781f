use Rattle.std.proofs.Common.{refl, sym, ap, ◌∙◌}
use Rattle.ug_group_rules.specs.Machine.{is_joinable, first_joinable}
use Rattle.ug_groups.specs.Rows.{subs_of}
use Rattle.ug_groups.proofs.Found.{found_is, joinable_first}
use Rattle.ug_groups.proofs.numbered.Subgroups.first_joinable.Goals as goal

pub returns : goal.returns
returns c =
    let i = c.self.inside in
    found_is (λ r. is_joinable c.args.key.now r.sub) i.pool i.live c.args.self.now c.self.view_is (λ e. refl) c.entries-entries.result.now c.entries-entries.ensures c.place_to_join.result c.place_to_join.ensures c.number_of.result c.number_of.ensures
    ∙ sym (joinable_first c.args.key.now i.pool 0 i.live) ∙ ap (λ rows. first_joinable c.args.key.now 0 (subs_of rows)) c.self.view_is
