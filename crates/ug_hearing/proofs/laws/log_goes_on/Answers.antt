use Rattle.ug_hearing.proofs.Logged.{noted-more, kept-more}
use Rattle.ug_hearing.proofs.laws.log_goes_on.Goals as goal

pub returns : goal.returns
returns c = record {
  noted = λ entries after tables table key told adds. noted-more entries after tables table key told adds;
  kept = λ entries tables table key told same. kept-more entries tables table key told same;
}
