use Rattle.std.specs.Prelude.{IsSome}
use Rattle.std.proofs.Common.{arith, sym, subst, ap, ◌∙◌, refl}
use Rattle.ug_queue.specs.Spread.{value_of, IsPlace}
use Rattle.ug_queue.proofs.Spreading.{gone_where, none_past, none_up_to, value_there, read, rise_within}
use Rattle.ug_queue.proofs.live.Live.first_from.Goals as goal

pub returns-then-i-len-clause-none : goal.returns-then-i-len-clause-none
returns-then-i-len-clause-none g c k from less =
    let rows = c.self.inside.entries.items in let end = c.self.inside.next in
    ap (value_of k) (sym c.self.view_is)
    ∙ gone_where end k rows (none_past rows end c.args.from c.place-i.result c.self.invariant (subst (λ rs. IsPlace rs c.args.from c.place-i.result) c.deref.ensures.value c.place-i.ensures.place) (omega (arith, c.len.ensures, c.if-i-len.true)) k from)

pub returns-clause-there : goal.returns-clause-there
returns-clause-there g c =
    let rows = c.self.inside.entries.items in let end = c.self.inside.next in let row = c.index.result.now in
    let here = read rows c.place-i.result row (omega (arith, c.len.ensures, c.if-i-len.false)) c.index.ensures in
    let place = subst (λ rs. IsPlace rs c.args.from c.place-i.result) c.deref.ensures.value c.place-i.ensures.place in
    (place.above c.place-i.result row (omega arith) here, subst IsSome (sym (ap (value_of row.0) (sym c.self.view_is) ∙ value_there rows end row.0 c.place-i.result c.self.invariant row.1 here)) refl)

pub returns-clause-skipped : goal.returns-clause-skipped
returns-clause-skipped g c k from less =
    let rows = c.self.inside.entries.items in let end = c.self.inside.next in let row = c.index.result.now in
    let here = read rows c.place-i.result row (omega (arith, c.len.ensures, c.if-i-len.false)) c.index.ensures in
    let place = subst (λ rs. IsPlace rs c.args.from c.place-i.result) c.deref.ensures.value c.place-i.ensures.place in
    ap (value_of k) (sym c.self.view_is) ∙ gone_where end k rows (none_up_to rows end c.args.from c.place-i.result c.self.invariant place row here k from less)

pub returns-clause-below : goal.returns-clause-below
returns-clause-below g c =
    let rows = c.self.inside.entries.items in let end = c.self.inside.next in let row = c.index.result.now in
    let here = read rows c.place-i.result row (omega (arith, c.len.ensures, c.if-i-len.false)) c.index.ensures in
    let within = rise_within 0 end c.place-i.result row rows c.self.invariant here in omega (arith, within.1)
