use Rattle.std.proofs.Common.{subst, sym, slice_set, Some}
use Rattle.ug_intern.specs.Pools.{Pooled}
use Rattle.ug_types.specs.declared.route.OutAttrs.{OutAttrs}
use Rattle.ug_groups.specs.Entries.{Entries, IsKept}
use Rattle.ug_groups.proofs.Accounts.{counted_in}
use Rattle.ug_groups.proofs.Dones.{unchanged, on_err_of}
use Rattle.ug_groups.proofs.PartAndMeet.{part_room, kept_parted}
use Rattle.ug_groups.proofs.comings.split.Goals as goal

pub split-requires-clause-counted : goal.split-requires-clause-counted
split-requires-clause-counted c = counted_in c.args.pool.now c.args.live.now c.args.g c.at_mut-entry.result.now c.requires.kept c.at_mut-entry.ensures.value

pub split-requires-clause-room : goal.split-requires-clause-room
split-requires-clause-room c = part_room c.args.pool.now c.args.live.now c.args.g c.at_mut-entry.result.now c.requires.kept c.at_mut-entry.ensures.value

pub returns-in_err-subgroup-clause-err : goal.returns-in_err-subgroup-clause-err
returns-in_err-subgroup-clause-err c =
    on_err_of c.from_residual.result (λ next hand kept.
    subst (λ (q : Pooled OutAttrs). IsKept next hand q (slice_set c.args.live.now c.args.g (Some (record { class = c.at_mut-entry.result.now.class; subgroup = c.split.new.self })))) (sym c.in_err-subgroup.ensures.pool)
    (subst (λ (xs : Entries). IsKept next hand c.args.pool.now xs) (sym (unchanged c.args.live.now c.args.g c.at_mut-entry.result.now c.split.new.self c.at_mut-entry.ensures.value c.in_err-subgroup.ensures.err)) kept))

pub returns-in-Err-clause-err : goal.returns-in-Err-clause-err
returns-in-Err-clause-err c next hand kept =
    let e = c.at_mut-entry.result.now in
    subst (λ (xs : Entries). IsKept next hand c.retire.new.pool xs) (sym c.in-Err.ensures.err)
    (kept_parted c.args.pool.now c.split.new.pool c.retire.new.pool c.args.live.now c.args.g e c.split.new.self c.args.members.now.items (record { class = e.class; subgroup = c.in_ok-subgroup.subgroup }) c.in-Err.back c.at_mut-entry.ensures.value
    c.in_ok-subgroup.ensures.rest c.in_ok-subgroup.ensures.point c.in-Err.ensures.returned c.in_ok-subgroup.ensures.uses c.retire.ensures.uses next hand kept)
