use Rattle.std.proofs.Common.{◌≡◌}
use Rattle.ug_policy.specs.OrfApplying.{without_sequence}
use Rattle.ug_policy.proofs.OrfChanged.{removed, rises_without, good_without}
use Rattle.ug_policy.proofs.orf_apply.remove.Goals as goal

pub returns-clause-items : goal.returns-clause-items
returns-clause-items c =
    let out = c.take_out-place in
    removed c.args.seq out.result c.args.entries.now.items out.new.entries.items c.requires out.ensures.place out.ensures.taken

pub returns-clause-rising : goal.returns-clause-rising
returns-clause-rising c =
    let out = c.take_out-place in
    let items : out.new.entries.items ≡ without_sequence c.args.seq c.args.entries.now.items =
    removed c.args.seq out.result c.args.entries.now.items out.new.entries.items c.requires out.ensures.place out.ensures.taken in
    rw items (rises_without c.args.seq c.args.entries.now.items c.requires)

pub returns-clause-good : goal.returns-clause-good
returns-clause-good c =
    let out = c.take_out-place in
    let items : out.new.entries.items ≡ without_sequence c.args.seq c.args.entries.now.items =
    removed c.args.seq out.result c.args.entries.now.items out.new.entries.items c.requires out.ensures.place out.ensures.taken in
    λ g. rw items (good_without c.args.seq c.args.entries.now.items g)
