use Rattle.std.proofs.Common.{◌≡◌, drop}
use Rattle.std.specs.Prelude.{◌==◌}
use Rattle.std.specs.List.{list_all}
use Rattle.ug_policy.proofs.refresh_message.are_ones.Given as goal

-- the bytes that are left decide
abbrev pub invariant-loop-b : goal.invariant-loop-b
invariant-loop-b l = list_all (λ b. b == 255) (drop l.b-index l.bytes) ≡ list_all (λ b. b == 255) l.bytes
