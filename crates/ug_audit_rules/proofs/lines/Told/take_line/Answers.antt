use Rattle.std.proofs.Common.{◌≡◌, ◌≤◌, ◌<◌, ◌+◌, ℕ, refl, sym, ap, subst, ◌∙◌}
use Rattle.ug_audit_rules.specs.declared.entry.Entry.{Entry}
use Rattle.ug_audit_rules.specs.Reports.{entry_of, IsClear}
use Rattle.ug_audit_rules.specs.Told.{Keeps}
use Rattle.ug_audit_rules.proofs.Kept.{told_more, stops_past, stops_unclear}
use Rattle.ug_audit_rules.proofs.lines.Told.take_line.Goals as goal

pub returns-then-self-ge-MOST_LINES-clause-stopped : goal.returns-then-self-ge-MOST_LINES-clause-stopped
returns-then-self-ge-MOST_LINES-clause-stopped c = λ all told. stops_past c.args.self.now all (entry_of c.args.last.now c.args.line.now) c.if-self-ge-MOST_LINES.true told

pub returns-then-is_unclear-clause-stopped : goal.returns-then-is_unclear-clause-stopped
returns-then-is_unclear-clause-stopped c = λ all told.
    stops_unclear c.args.self.now all (entry_of c.args.last.now c.args.line.now) c.if-self-ge-MOST_LINES.false (sym c.read_entry-entry.ensures ∙ c.is_unclear.ensures.unclear c.if-is_unclear.true) told

pub returns-clause-told : goal.returns-clause-told
returns-clause-told c = λ all told.
    told_more c.args.self.now (record { entries = c.keep.new.entries; lines = c.args.self.now.lines + 1 }) all (entry_of c.args.last.now c.args.line.now) refl c.if-self-ge-MOST_LINES.false
    (subst IsClear c.read_entry-entry.ensures (c.is_unclear.ensures.clear c.if-is_unclear.false))
    (subst (λ (e : Entry). Keeps c.args.self.now.entries.items c.keep.new.entries.items e) c.read_entry-entry.ensures c.in-Ok.ensures) told
