use Rattle.std.proofs.Common.{◌≡◌, arith}
use Rattle.ug_policy.specs.OrfApplying.{with_entry}
use Rattle.ug_policy.proofs.OrfChanged.{added, when_ok, rises_with, good_with}
use Rattle.ug_policy.proofs.orf_apply.add.Goals as goal

pub returns-clause-items : goal.returns-clause-items
returns-clause-items c =
    let out = c.take_out-place in
    added c.args.entry out.result c.args.entries.now.items out.new.entries.items c.insert.new.self.items out.ensures.place out.ensures.taken
    (when_ok c.insert.result (c.insert.ensures.room (omega (arith, out.ensures.spare, c.requires.room))) c.insert.ensures.ok)

pub returns-clause-rising : goal.returns-clause-rising
returns-clause-rising c =
    let out = c.take_out-place in
    let items : c.insert.new.self.items ≡ with_entry c.args.entry c.args.entries.now.items =
    added c.args.entry out.result c.args.entries.now.items out.new.entries.items c.insert.new.self.items out.ensures.place out.ensures.taken
    (when_ok c.insert.result (c.insert.ensures.room (omega (arith, out.ensures.spare, c.requires.room))) c.insert.ensures.ok) in
    rw items (rises_with c.args.entry c.args.entries.now.items c.requires.rising)

pub returns-clause-good : goal.returns-clause-good
returns-clause-good c =
    let out = c.take_out-place in
    let items : c.insert.new.self.items ≡ with_entry c.args.entry c.args.entries.now.items =
    added c.args.entry out.result c.args.entries.now.items out.new.entries.items c.insert.new.self.items out.ensures.place out.ensures.taken
    (when_ok c.insert.result (c.insert.ensures.room (omega (arith, out.ensures.spare, c.requires.room))) c.insert.ensures.ok) in
    λ is g. rw items (good_with c.args.entry c.args.entries.now.items is g)
