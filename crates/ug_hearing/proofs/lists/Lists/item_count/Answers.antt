use Rattle.std.proofs.Common.{◌≡◌, List, length, ap, rules, arith}
use Rattle.std.specs.List.{sum_by}
use Rattle.ug_hearing.proofs.Lying.{lists-sum}
use Rattle.ug_hearing.proofs.lists.Lists.item_count.Goals as goal

pub returns : goal.returns
returns g c =
    let all : c.len.result ≡ length c.self.inside.items.items = search rules in
    let sum = lists-sum 0 c.self.inside.ends.items c.self.inside.items.items c.self.invariant in
    let seen = ap (λ (ls : List (List _)). sum_by (λ xs. length xs) ls) c.self.view_is in
    omega (arith, all, sum, seen)
