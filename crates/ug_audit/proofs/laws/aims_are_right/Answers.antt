use Rattle.ug_audit.proofs.Aims.{is_session, is_right, is_first}
use Rattle.ug_audit.proofs.laws.aims_are_right.Goals as goal

pub returns : goal.returns
returns c = record {
  session = λ p n ws last s told a session some end within asked aimed. is_session p n ws last s told a session end aimed some within asked;
  right = λ p n ws last s told a session ms ending end aimed right. is_right p n ws last s told a session end aimed ms ending right;
  first = λ p n ws last s told a session ms ending b end aimed first. is_first p n ws last s told a session end aimed ms ending b first;
}
