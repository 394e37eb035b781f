use Rattle.std.proofs.Common.{◌≡◌, List, length, sym, ◌∙◌, ap, rules}
use Rattle.ug_hearing.proofs.Lying.{lists-count}
use Rattle.ug_hearing.proofs.lists.Lists.len.Goals as goal

pub returns : goal.returns
returns g c =
    let ends : c.len.result ≡ length c.self.inside.ends.items = search rules in
    ends ∙ (sym (lists-count 0 c.self.inside.ends.items c.self.inside.items.items) ∙ ap (λ (ls : List (List _)). length ls) c.self.view_is)
