use Rattle.std.proofs.Common.{sym, ap, subst, ◌∙◌}
use Rattle.ug_adjout.specs.Stored.{IsStored, pends}
use Rattle.ug_adjout.proofs.Views.{pending_at}
use Rattle.ug_adjout.proofs.table.Table.is_pending.Goals as goal

pub returns-in-Some : goal.returns-in-Some
returns-in-Some g c =
    let s = subst (λ v. IsStored g.K.Ord.cmp v.rows v.waiting v.next) c.self.view_is c.self.invariant in
    c.is_some.ensures ∙ sym (pending_at g.met.K.Ord.total g.met.K.OutKey.exact _ _ _ s c.args.key.now ∙ ap pends (sym c.in-Some.ensures))

pub returns-in-None : goal.returns-in-None
returns-in-None g c =
    let s = subst (λ v. IsStored g.K.Ord.cmp v.rows v.waiting v.next) c.self.view_is c.self.invariant in
    sym (pending_at g.met.K.Ord.total g.met.K.OutKey.exact _ _ _ s c.args.key.now ∙ ap pends (sym c.in-None.ensures))
