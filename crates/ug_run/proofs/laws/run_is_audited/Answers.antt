use Rattle.ug_run.proofs.Runs.{run-right}
use Rattle.ug_run.proofs.laws.run_is_audited.Goals as goal

pub returns : goal.returns
returns g c = record {
  audited = λ command configuration events report run is completed tell config_is events_are empty report_is.
      run-right g.M.Machine.rules g.M.Speaker.speech command configuration events report run config_is events_are empty report_is completed tell is;
}
