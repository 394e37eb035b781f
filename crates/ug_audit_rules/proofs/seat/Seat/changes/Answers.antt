use Rattle.std.proofs.Common.{◌≡◌, ◌∙◌, [], ap, subst, sym, slice_get, Option, Some}
use Rattle.std.specs.Prelude.{unwrap_or}
use Rattle.ug_hearing.specs.Courses.{changes_of}
use Rattle.ug_audit_rules.specs.GroupLogs.{Entries, changes_in}
use Rattle.ug_audit_rules.specs.Merges.{IsTold}
use Rattle.ug_audit_rules.specs.Seats.{log_at}
use Rattle.ug_audit_rules.proofs.MergedKeys.{nothing-told, past-all, item-at}
use Rattle.ug_audit_rules.proofs.seat.Seat.changes.Goals as goal

pub returns-in_default : goal.returns-in_default
returns-in_default c = λ q.
    nothing-told c.args.self.now.ends c.args.self.now.ups.items (changes_in (log_at c.args.logs.now c.args.self.now.group) q) c.in_ok-nothing.nothing q (ap (λ o. changes_in (log_at c.args.logs.now o) q) c.in_default.is) c.in_ok-nothing.ensures

pub returns-then-place-logs : goal.returns-then-place-logs
returns-then-place-logs c = λ q.
    nothing-told c.args.self.now.ends c.args.self.now.ups.items (changes_in (log_at c.args.logs.now c.args.self.now.group) q) c.in_ok-nothing-2.nothing q
    (ap (λ o. changes_in (log_at c.args.logs.now o) q) c.in-Some.is ∙ ap (λ (o : Option Entries). changes_in (unwrap_or o []) q) (past-all c.args.logs.now c.in-Some.place c.if-place-logs.true)) c.in_ok-nothing-2.ensures

pub returns : goal.returns
returns c = λ q.
    let logs = c.args.logs.now in
    let at = item-at logs c.in-Some.place c.index-logs-place.result c.if-place-logs.false in
    let is = c.index-logs-place.is in
    let got : slice_get logs c.in-Some.place ≡ Some c.index-logs-place.result = cc in
    let there : log_at logs c.args.self.now.group ≡ c.index-logs-place.result = ap (log_at logs) c.in-Some.is ∙ ap (λ (o : Option Entries). unwrap_or o []) got in
    subst (λ (log : Entries). IsTold c.args.self.now.ends c.args.self.now.ups.items (changes_in log q) (changes_of c.in_ok-changes.changes q)) (sym there) (c.in_ok-changes.ensures q)
