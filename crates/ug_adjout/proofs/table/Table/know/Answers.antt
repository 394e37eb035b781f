use Rattle.std.proofs.Common.{subst}
use Rattle.ug_adjout.specs.Stored.{IsStored}
use Rattle.ug_adjout.proofs.Known.{stored-exact, stored-shown}
use Rattle.ug_adjout.proofs.table.Table.know.Goals as goal

pub returns-clause-exact : goal.returns-clause-exact
returns-clause-exact g c =
    let s = subst (λ v. IsStored g.K.Ord.cmp v.rows v.waiting v.next) c.self.view_is c.self.invariant in
    stored-exact g.met.K.Ord.total g.met.K.OutKey.exact _ _ _ s

pub returns-clause-shown : goal.returns-clause-shown
returns-clause-shown g c =
    let s = subst (λ v. IsStored g.K.Ord.cmp v.rows v.waiting v.next) c.self.view_is c.self.invariant in
    stored-shown g.met.K.Ord.total g.met.K.OutKey.exact _ _ _ s
