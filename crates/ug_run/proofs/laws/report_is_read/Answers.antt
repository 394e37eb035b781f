use Rattle.ug_run.proofs.Told.{read-again}
use Rattle.ug_run.proofs.laws.report_is_read.Goals as goal

pub returns : goal.returns
returns c = record {
  read = λ w lines marks wires contents lost front tail opens words few small is status.
      read-again w lines marks wires contents lost opens words few small is front tail status;
}
