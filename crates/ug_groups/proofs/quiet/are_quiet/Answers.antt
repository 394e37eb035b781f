use Rattle.std.proofs.Common.{◌+◌, Bool, sym, ap, ◌∙◌, arith, drop, slice_get}
use Rattle.std.specs.Prelude.{◌&&◌}
use Rattle.ug_group_rules.specs.Machine.{are_quiet}
use Rattle.ug_groups.specs.Members.{members_from}
use Rattle.ug_groups.proofs.ListFacts.{get_is}
use Rattle.ug_groups.proofs.Stepping.{had}
use Rattle.ug_groups.proofs.Quieted.{quiet-step}
use Rattle.ug_groups.proofs.quiet.are_quiet.Goals as goal

pub returns-then-not-is_quiet : goal.returns-then-not-is_quiet
returns-then-not-is_quiet c =
    let p = c.loop-place.place in
    let m = c.index-members-place.result in
    let at = get_is c.args.members.now p m (omega arith) c.index-members-place.is in
    let sessions = had (slice_get c.args.world.now.peers p) c.session.result c.session.ensures in
    let step = quiet-step c.args.world.now.peers c.args.subgroups.now c.args.members.now p m c.session.result c.left-left.result at sessions c.left-left.ensures c.is_quiet.result c.is_quiet.ensures in
    sym (sym c.loop-place.invariant ∙ step ∙ ap (λ (b : Bool). b && are_quiet (drop (p + 1) c.args.world.now.peers) (members_from c.args.subgroups.now (p + 1) (drop (p + 1) c.args.members.now))) c.if-not-is_quiet.true)

pub loop-place-preserved : goal.loop-place-preserved
loop-place-preserved c =
    let p = c.loop-place.place in
    let m = c.index-members-place.result in
    let at = get_is c.args.members.now p m (omega arith) c.index-members-place.is in
    let sessions = had (slice_get c.args.world.now.peers p) c.session.result c.session.ensures in
    let step = quiet-step c.args.world.now.peers c.args.subgroups.now c.args.members.now p m c.session.result c.left-left.result at sessions c.left-left.ensures c.is_quiet.result c.is_quiet.ensures in
    sym (ap (λ (b : Bool). b && are_quiet (drop (p + 1) c.args.world.now.peers) (members_from c.args.subgroups.now (p + 1) (drop (p + 1) c.args.members.now))) c.if-not-is_quiet.false) ∙ sym step ∙ c.loop-place.invariant
