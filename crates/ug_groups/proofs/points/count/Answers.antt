use Rattle.std.specs.Prelude.{nat_le, ◌&&◌, not, length, if◌then◌else◌, ◌+◌}
use Rattle.std.proofs.Common.{refl}
use Rattle.std.proofs.lemmas.Result.{on_ok_weaker, on_err_weaker}
use Rattle.ug_types.specs.Bytes.{is_empty}
use Rattle.ug_groups.proofs.Dones.{flags_done, unchanged}
use Rattle.ug_groups.proofs.points.count.Goals as goal

pub returns-clause-ok : goal.returns-clause-ok
returns-clause-ok c =
    let e = c.at_mut-entry.result.now in
    on_ok_weaker c.count.result (λ is pool.
    flags_done pool c.args.live.now c.args.g e c.count.new.self (record e.subgroup.point { stuck = if nat_le e.subgroup.queue.limit (length e.subgroup.queue.packets) && not (is_empty e.subgroup.point.adj.pending) then e.subgroup.point.stuck + 1 else 0 }) _
    c.at_mut-entry.ensures.value is refl refl c.count.ensures.queue refl) c.count.ensures.ok

pub returns-clause-err : goal.returns-clause-err
returns-clause-err c = on_err_weaker c.count.result (λ same. unchanged c.args.live.now c.args.g c.at_mut-entry.result.now c.count.new.self c.at_mut-entry.ensures.value same) c.count.ensures.err
