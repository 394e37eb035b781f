use Rattle.std.specs.Prelude.{None}
use Rattle.std.proofs.Common.{◌≡◌, ap, ◌∙◌}
use Rattle.std.proofs.lemmas.Result.{on_ok_weaker}
use Rattle.ug_groups.specs.Rows.{Rows, with_row, tabled_row}
use Rattle.ug_groups.specs.Entries.{row_in, rows_in}
use Rattle.ug_groups.proofs.Accounts.{at_row}
use Rattle.ug_groups.proofs.PartAndMeet.{alike_in}
use Rattle.ug_groups.proofs.numbered.Subgroups.desire_as.Goals as goal

pub desire_as-requires-clause-alike : goal.desire_as-requires-clause-alike
desire_as-requires-clause-alike c = let i = c.self.inside in alike_in i.pool i.live c.args.g c.args.from c.args.self.now c.self.view_is c.requires

pub invariant_of-self : goal.invariant_of-self
invariant_of-self c = c.desire_as.ensures.kept c.self.inside.classes None c.self.invariant

pub returns : goal.returns
returns c =
    let i = c.self.inside in
    on_ok_weaker c.desire_as.result
    (λ is. at_row (λ s. rows_in c.desire_as.new.pool c.desire_as.new.live ≡ with_row c.args.g (tabled_row s) c.args.self.now) i.pool i.live c.args.from c.args.self.now c.self.view_is
    (λ f there. is f there ∙ ap (λ (rs : Rows). with_row c.args.g (tabled_row (row_in i.pool f)) rs) c.self.view_is)) c.desire_as.ensures.rows
