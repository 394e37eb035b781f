use Rattle.std.proofs.Common.{refl}
use Rattle.ug_groups.proofs.Dones.{flags_done}
use Rattle.ug_groups.proofs.points.unstick.Goals as goal

pub returns : goal.returns
returns c pool =
    let e = c.at_mut-entry.result.now in
    flags_done pool c.args.live.now c.args.g e c.unstick.new.self (record e.subgroup.point { stuck = 0 }) _ c.at_mut-entry.ensures.value c.unstick.ensures.point refl refl c.unstick.ensures.queue refl
