use Rattle.ug_hearing.proofs.Firsts.{one-first, one-climb}
use Rattle.ug_hearing.proofs.session_laws.answers_are_one.Goals as goal

pub returns : goal.returns
returns c = record {
  breach = λ past table_at syncs lost last messages ending one other h k. one-first past table_at syncs lost last messages ending one other h k;
  climb = λ past tables one other h k same. one-climb past tables one other h k same;
}
