use Rattle.std.specs.Prelude.{◌∷◌, [], ◌++◌, ◌+◌, length, Some}
use Rattle.std.proofs.Common.{arith, sym, subst, ap, ◌∙◌}
use Rattle.ug_queue.specs.Spread.{spread_from, Rise}
use Rattle.ug_queue.proofs.Spreading.{spread-length, more_at_end, rise_more}
use Rattle.ug_queue.proofs.live.Live.push.Goals as goal

pub invariant_of-self : goal.invariant_of-self
invariant_of-self g c =
    let rows = c.self.inside.entries.items in let end = c.self.inside.next in
    subst (Rise 0 (end + 1)) (sym c.in-Ok.ensures.items) (rise_more 0 end c.args.value rows (omega arith) c.self.invariant)

pub returns-in-Ok-clause-number : goal.returns-in-Ok-clause-number
returns-in-Ok-clause-number g c = sym (spread-length 0 c.self.inside.next c.self.inside.entries.items) ∙ ap length c.self.view_is

pub returns-in-Ok-clause-ok : goal.returns-in-Ok-clause-ok
returns-in-Ok-clause-ok g c =
    let rows = c.self.inside.entries.items in let end = c.self.inside.next in
    ap (spread_from 0 (end + 1)) c.in-Ok.ensures.items ∙ more_at_end end c.args.value rows c.self.invariant ∙ ap (λ xs. xs ++ Some c.args.value ∷ []) c.self.view_is
