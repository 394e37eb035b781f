use Rattle.std.proofs.Common.{◌≡◌, length}
use Rattle.ug_audit_rules.proofs.MergedKeys.{AreTold}
use Rattle.ug_audit_rules.proofs.seat.Seat.changes_of.Given as goal

-- the keys so far have their changes
abbrev pub invariant-loop-place : goal.invariant-loop-place
invariant-loop-place l = record {
  many : length l.lists ≡ l.place;
  ends : l.teller.ends ≡ l.self.ends;
  told : AreTold l.self.ends l.self.ups.items l.outs l.lists;
}
