use Rattle.std.specs.Prelude.{slice_get}
use Rattle.std.proofs.Common.{sym, subst, ap, ◌∙◌}
use Rattle.ug_queue.specs.Spread.{value_of, HasNone}
use Rattle.ug_queue.proofs.Spreading.{gone_where, read_there}
use Rattle.ug_queue.proofs.live.Live.get.Goals as goal

pub returns-in_default : goal.returns-in_default
returns-in_default g c =
    let rows = c.self.inside.entries.items in let end = c.self.inside.next in
    sym (ap (value_of c.args.g) (sym c.self.view_is) ∙ gone_where end c.args.g rows (subst (HasNone c.args.g) c.deref.ensures.value c.in_default.ensures.none))

pub returns : goal.returns
returns g c =
    let rows = c.self.inside.entries.items in let end = c.self.inside.next in
    let found = c.in-Some.ensures.found in
    sym (ap (value_of c.args.g) (sym c.self.view_is)
    ∙ read_there rows end c.args.g c.in-Some.i c.self.invariant found.0 (ap (λ rs. slice_get rs c.in-Some.i) (sym c.deref.ensures.value) ∙ found.1) c.index-entry.result.now c.index-entry.ensures)
