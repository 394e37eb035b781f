use Rattle.std.proofs.Common.{◌<◌, ◌+◌, ℕ, List, Vec, Global, length, sym, ◌∙◌, ap, subst, arith}
use Rattle.ug_outbound.specs.declared.key.GroupKey.{GroupKey}
use Rattle.ug_outbound.specs.Tables.{Tables}
use Rattle.ug_world.specs.Touches.{decides_for}
use Rattle.ug_groups.specs.Rows.{keys_in}
use Rattle.ug_groups.proofs.Walked.{AreKept, row-there, kept-one, kept-none}
use Rattle.ug_groups.proofs.entering.decided.Goals as goal
use Rattle.ug_groups.proofs.entering.decided.Goals.{then-decides_for+in_ok-push, else-decides_for}

pub key-requires : goal.key-requires
key-requires c =
    let inside : c.loop-g.g-index < length c.args.groups.now = omega arith in
    row-there (λ (key : GroupKey). key.add_path) c.args.groups.now c.args.subgroups.now (keys_in c.args.subgroups.now) c.loop-g.g-index c.requires inside

pub loop-g-preserved : goal.loop-g-preserved
loop-g-preserved c =
    let inside : c.loop-g.g-index < length c.args.groups.now = omega arith in
    let tables = ap (λ (t : Tables). decides_for t c.key.result.now c.args.name.now) (sym c.policies.ensures) ∙ sym c.decides_for.ensures in
    elim c.if-decides_for.branch [
      | then-decides_for+in_ok-push w ↦
          subst (λ (gs : List ℕ). AreKept (λ (key : GroupKey). decides_for c.args.world.now.tables key c.args.name.now) gs c.args.subgroups.now (keys_in c.args.subgroups.now) (c.loop-g.g-index + 1))
          (sym (ap (λ (v : Vec ℕ Global). v.items) w.some-is ∙ w.in_ok-push.ensures.items))
          (kept-one (λ (key : GroupKey). decides_for c.args.world.now.tables key c.args.name.now) c.args.groups.now c.loop-g.some.items c.args.subgroups.now (keys_in c.args.subgroups.now) c.loop-g.g-index c.requires inside
          c.loop-g.invariant c.key.result.now c.key.ensures (tables ∙ w.if-decides_for.true))
      | else-decides_for w ↦
          subst (λ (gs : List ℕ). AreKept (λ (key : GroupKey). decides_for c.args.world.now.tables key c.args.name.now) gs c.args.subgroups.now (keys_in c.args.subgroups.now) (c.loop-g.g-index + 1))
          (sym (ap (λ (v : Vec ℕ Global). v.items) w.some-is))
          (kept-none (λ (key : GroupKey). decides_for c.args.world.now.tables key c.args.name.now) c.args.groups.now c.loop-g.some.items c.args.subgroups.now (keys_in c.args.subgroups.now) c.loop-g.g-index c.requires inside
          c.loop-g.invariant c.key.result.now c.key.ensures (tables ∙ w.if-decides_for.false))
    ]
