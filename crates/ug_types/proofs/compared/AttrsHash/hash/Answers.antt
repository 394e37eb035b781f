use Rattle.std.proofs.Common.{ℕ, List, sym, ap, ◌∙◌}
use Rattle.std.specs.List.{fold}
use Rattle.ug_types.proofs.BareLemmas.{parts_hash_bare}
use Rattle.ug_types.proofs.compared.AttrsHash.hash.Goals as goal

pub returns : goal.returns
returns g c = rw (← c.parts.ensures.parts) (c.hash.ensures ∙ ap (λ (w : List (List ℕ)). fold g.H.Hasher.write c.args.state.now w) (sym (parts_hash_bare c.parts.result.now)))
