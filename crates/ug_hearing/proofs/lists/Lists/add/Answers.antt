use Rattle.std.proofs.Common.{◌≡◌, ℕ, List, ◌∷◌, [], ◌++◌, length, sym, ◌∙◌, ap, subst, rules, arith, length-append}
use Rattle.ug_hearing.specs.Lists.{lists_to, AreEnds}
use Rattle.ug_hearing.proofs.Lying.{ends-more, lists-more}
use Rattle.ug_hearing.proofs.lists.Lists.add.Goals as goal

pub invariant_of-self-in-Ok : goal.invariant_of-self-in-Ok
invariant_of-self-in-Ok g c =
    let ends = c.self.inside.ends.items in
    let items = c.self.inside.items.items in
    let all = length c.append.new.self.items in
    let at : c.len.result ≡ length c.append.new.self.items = search rules in
    let size = ap (λ (xs : List _). length xs) c.in_ok-append.ensures.items ∙ length-append items c.args.list.now.items in
    subst (λ (ns : List ℕ). AreEnds 0 ns all) (sym (c.in-Ok.ensures.items ∙ ap (λ (n : ℕ). ends ++ n ∷ []) at)) (ends-more 0 ends (length items) all c.self.invariant (omega (arith, size)))

pub returns-in-Ok-clause-added : goal.returns-in-Ok-clause-added
returns-in-Ok-clause-added g c =
    let ends = c.self.inside.ends.items in
    let items = c.self.inside.items.items in
    let more = c.args.list.now.items in
    let at : c.len.result ≡ length c.append.new.self.items = search rules in
    let size = at ∙ (ap (λ (xs : List _). length xs) c.in_ok-append.ensures.items ∙ length-append items more) in
    ap (λ (ns : List ℕ). lists_to 0 ns c.append.new.self.items) c.in-Ok.ensures.items
    ∙ (ap (λ (xs : List _). lists_to 0 (ends ++ c.len.result ∷ []) xs) c.in_ok-append.ensures.items
    ∙ (lists-more 0 ends items more c.len.result c.self.invariant size ∙ ap (λ (ls : List (List _)). ls ++ more ∷ []) c.self.view_is))
