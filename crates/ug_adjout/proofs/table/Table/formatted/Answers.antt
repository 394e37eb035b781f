use Rattle.std.proofs.Common.{sym, ap, subst, ◌∙◌}
use Rattle.ug_adjout.specs.Stored.{IsStored, of_row, formatted_of}
use Rattle.ug_adjout.proofs.Views.{formatted_at}
use Rattle.ug_adjout.proofs.table.Table.formatted.Goals as goal

pub returns-in-Some : goal.returns-in-Some
returns-in-Some g c = let s = subst (λ v. IsStored g.K.Ord.cmp v.rows v.waiting v.next) c.self.view_is c.self.invariant in sym (formatted_at g.met.K.Ord.total g.met.K.OutKey.exact _ _ _ s c.args.key.now ∙ ap (of_row formatted_of) (sym c.in-Some.ensures))

pub returns-in-None : goal.returns-in-None
returns-in-None g c = let s = subst (λ v. IsStored g.K.Ord.cmp v.rows v.waiting v.next) c.self.view_is c.self.invariant in sym (formatted_at g.met.K.Ord.total g.met.K.OutKey.exact _ _ _ s c.args.key.now ∙ ap (of_row formatted_of) (sym c.in-None.ensures))
