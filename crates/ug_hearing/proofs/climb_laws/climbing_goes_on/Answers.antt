use Rattle.ug_hearing.proofs.GoingOn.{further, stuck, shifts-further}
use Rattle.ug_hearing.proofs.climb_laws.climbing_goes_on.Goals as goal

pub returns : goal.returns
returns c = record {
  further = λ past places values value place h least. further past 0 places values value place h least;
  stuck = λ past places values value h never climb. stuck past 0 places values value h never climb;
  shifts = λ places place. shifts-further 0 1 places place;
}
