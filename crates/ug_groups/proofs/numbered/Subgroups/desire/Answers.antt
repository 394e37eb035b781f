use Rattle.std.proofs.Common.{◌≡◌, ap, ◌∙◌}
use Rattle.std.proofs.lemmas.Result.{on_ok_weaker}
use Rattle.ug_groups.specs.Standings.{desiring}
use Rattle.ug_groups.specs.Rows.{Rows, each_row, of_key}
use Rattle.ug_groups.specs.Entries.{key_of, rows_in}
use Rattle.ug_groups.proofs.Accounts.{at_row}
use Rattle.ug_groups.proofs.numbered.Subgroups.desire.Goals as goal

pub invariant_of-self : goal.invariant_of-self
invariant_of-self c = c.desire_class.ensures.kept c.self.inside.classes c.self.invariant

pub returns : goal.returns
returns c =
    let i = c.self.inside in let change = desiring c.args.key.now c.args.value in
    on_ok_weaker c.desire_class.result
    (λ is. at_row (λ r. rows_in c.desire_class.new.pool c.desire_class.new.live ≡ each_row (of_key r.sub.key change) c.args.self.now) i.pool i.live c.args.g c.args.self.now c.self.view_is
    (λ e there. is e there ∙ ap (λ (rs : Rows). each_row (of_key (key_of e) change) rs) c.self.view_is)) c.desire_class.ensures.rows
