use Rattle.std.proofs.Common.{◌≡◌, ◌==◌, drop}
use Rattle.std.specs.List.{list_any}
use Rattle.ug_config.proofs.repeats.is_number_among.Given as goal

-- the entries that are left decide
abbrev pub invariant-loop-entry : goal.invariant-loop-entry
invariant-loop-entry g l = list_any (λ e. g.E.Numbered.number_of e == l.n) (drop l.entry-index l.entries) ≡ list_any (λ e. g.E.Numbered.number_of e == l.n) l.entries
