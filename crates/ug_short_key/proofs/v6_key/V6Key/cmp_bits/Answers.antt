use Rattle.std.proofs.Common.{ℕ, ◌+◌, ◌*◌, ◌^◌, ap, ◌∙◌}
use Rattle.std.specs.Ordering.{nat_cmp}
use Rattle.ug_types.specs.declared.key.Key.{Key}
use Rattle.ug_short_key.proofs.Narrow.{high_decides}
use Rattle.ug_short_key.proofs.v6_key.V6Key.cmp_bits.Goals as goal

pub returns-in_default : goal.returns-in_default
returns-in_default c =
    let a = c.self.inside in
    let b = c.other.inside in
    let bits = λ (k : Key). k.prefix.bits in
    high_decides a.high a.low b.high b.low c.cmp.result c.self.invariant.1 c.other.invariant.1 c.cmp.ensures c.in_default.not-Equal
    ∙ ap (λ (n : ℕ). nat_cmp n (b.high * 2 ^ 64 + b.low)) (ap bits c.self.view_is) ∙ ap (λ (n : ℕ). nat_cmp c.args.self.now.prefix.bits n) (ap bits c.other.view_is)
