use Rattle.ug_pack.proofs.Stays.{stays_desired, stays_formatted}
use Rattle.ug_pack.proofs.laws.ready_laws.Goals as goal

pub returns : goal.returns
returns c = record {
  desired = λ family add_path pool a key value table ready own live. stays_desired family add_path pool a key ready value table own live;
  formatted = λ family add_path pool a key ready pending. stays_formatted family add_path pool a key ready pending;
}
