use Rattle.std.proofs.Common.{◌++◌, ◌∙◌, ap}
use Rattle.ug_hearing.specs.Keyed.{held_of}
use Rattle.ug_hearing.proofs.Held.{held-none}
use Rattle.ug_hearing.proofs.rows.Rows.new.Goals as goal

pub returns : goal.returns
returns g c =
    ap (λ ks. held_of c.in_ok-keys.keys.items ks ++ c.new.result) c.in_ok-known.ensures
    ∙ (ap (λ es. es ++ c.new.result) (held-none c.in_ok-keys.keys.items _) ∙ c.new.ensures)
