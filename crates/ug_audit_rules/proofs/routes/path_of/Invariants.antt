use Rattle.std.proofs.Common.{◌≡◌, drop}
use Rattle.std.specs.Prelude.{◌==◌, find}
use Rattle.ug_types.specs.declared.route.Path.{Path}
use Rattle.ug_audit_rules.proofs.routes.path_of.Given as goal

-- the paths that are left decide
abbrev pub invariant-loop-path : goal.invariant-loop-path
invariant-loop-path l = find (λ (p : Path). p.id == l.id) (drop l.path-index l.paths) ≡ find (λ (p : Path). p.id == l.id) l.paths
