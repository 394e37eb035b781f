use Rattle.std.proofs.Common.{ℕ, ◌≤◌, length, Option, sym, subst, ap, arith}
use Rattle.std.specs.Prelude.{IfSome}
use Rattle.ug_queue.specs.Rests.{IsInside}
use Rattle.ug_queue.proofs.Rests.{none_left}
use Rattle.ug_queue.proofs.queue.Queue.left.Goals as goal

pub returns-then-len-eq0-clause-left : goal.returns-then-len-eq0-clause-left
returns-then-len-eq0-clause-left g c = none_left c.args.self.now c.args.member (omega (arith, ap (λ v. length v.packets) c.self.view_is, c.len.ensures, c.if-len-eq0.true))

pub returns-then-len-eq0-clause-inside : goal.returns-then-len-eq0-clause-inside
returns-then-len-eq0-clause-inside g c = subst (λ v. IsInside v c.args.member) c.self.view_is (c.know_places.ensures c.args.member)

pub returns-clause-inside : goal.returns-clause-inside
returns-clause-inside g c =
    subst (λ v. IsInside v c.args.member) c.self.view_is
    (subst (λ (o : Option ℕ). IfSome o (λ place. place ≤ length c.self.inside.line.packets)) (sym c.place.ensures.place) c.place.ensures.inside)
