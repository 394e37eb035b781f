use Rattle.std.proofs.Common.{◌<◌, length, sym, ◌∙◌, arith}
use Rattle.ug_outbound.specs.declared.key.GroupKey.{GroupKey}
use Rattle.ug_groups.specs.Rows.{keys_in}
use Rattle.ug_groups.proofs.Walked.{row-there, test-there, test-behind}
use Rattle.ug_groups.proofs.entering.some_add_path.Goals as goal

pub key-requires : goal.key-requires
key-requires c =
    let inside : c.loop-g.g-index < length c.args.groups.now = omega arith in
    row-there (λ (key : GroupKey). key.add_path) c.args.groups.now c.args.subgroups.now (keys_in c.args.subgroups.now) c.loop-g.g-index c.requires inside

pub returns-then-key : goal.returns-then-key
returns-then-key c =
    let inside : c.loop-g.g-index < length c.args.groups.now = omega arith in
    sym
    (sym c.loop-g.invariant
    ∙ test-there (λ (key : GroupKey). key.add_path) c.args.groups.now c.args.subgroups.now (keys_in c.args.subgroups.now) c.loop-g.g-index c.requires inside c.key.result.now c.key.ensures c.if-key.true)

pub loop-g-preserved : goal.loop-g-preserved
loop-g-preserved c =
    let inside : c.loop-g.g-index < length c.args.groups.now = omega arith in
    test-behind (λ (key : GroupKey). key.add_path) c.args.groups.now c.args.subgroups.now (keys_in c.args.subgroups.now) c.loop-g.g-index c.requires inside c.key.result.now c.key.ensures c.if-key.false
    ∙ c.loop-g.invariant
