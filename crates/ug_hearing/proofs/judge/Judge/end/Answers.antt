use Rattle.std.proofs.Common.{◌≡◌, Option, Some, subst}
use Rattle.ug_hearing.specs.declared.breach.Breach.{Breach}
use Rattle.ug_hearing.specs.Judged.{IsSo}
use Rattle.ug_hearing.proofs.Messages.{clear-of}
use Rattle.ug_hearing.proofs.Ends.{found-ends, clear-ends}
use Rattle.ug_hearing.proofs.judge.Judge.end.Goals as goal

pub returns-in-Some : goal.returns-in-Some
returns-in-Some c = λ past tables ms is judged.
    let found : c.args.self.now.found ≡ Some c.in-Some.found = c.in-Some.is in
    found-ends c.args.session.now past tables is c.args.self.now ms c.args.ending judged.count c.in-Some.found
    (subst (λ (o : Option Breach). IsSo c.args.session.now past tables c.args.self.now ms o) found judged.so) c.end_found.result c.end_found.ensures

pub returns-in-None : goal.returns-in-None
returns-in-None c = λ past tables ms is judged.
    clear-ends c.args.session.now past tables is c.args.self.now ms c.args.ending judged.count (clear-of c.args.session.now past tables is c.args.self.now ms judged c.in-None.is) judged.room c.end_clear.result
    c.end_clear.ensures
