use Rattle.std.proofs.Common.{◌≡◌, ℕ, List, drop}
use Rattle.std.specs.List.{list_any}
use Rattle.ug_types.specs.Bytes.{same_bytes}
use Rattle.ug_policy.proofs.checks.is_name_among.Given as goal

-- the names that are left decide
abbrev pub invariant-loop-one : goal.invariant-loop-one
invariant-loop-one l = list_any (λ (n : List ℕ). same_bytes n l.name) (drop l.one-index l.names) ≡ list_any (λ (n : List ℕ). same_bytes n l.name) l.names
