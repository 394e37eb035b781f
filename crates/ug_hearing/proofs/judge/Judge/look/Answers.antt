use Rattle.std.proofs.Common.{Option, ap, ◌∙◌, sym}
use Rattle.ug_types.specs.declared.key.Key.{Key}
use Rattle.ug_hearing.specs.declared.judge.Judge.{Judge}
use Rattle.ug_hearing.specs.Judged.{found_amiss}
use Rattle.ug_hearing.proofs.judge.Judge.look.Goals as goal

pub returns-clause-worst : goal.returns-clause-worst
returns-clause-worst c = record {
  worst = c.worst_key-worst.result;
  it = c.worst_key-worst.ensures;
  hearing = ap (λ (j : Judge). j.hearing) c.find.ensures;
  messages = ap (λ (j : Judge). j.messages) c.find.ensures;
  found = ap (λ (j : Judge). j.found) c.find.ensures ∙ ap (λ (o : Option Key). found_amiss c.args.self.now.messages o c.args.self.now.found) (sym c.in-Some.is);
}
