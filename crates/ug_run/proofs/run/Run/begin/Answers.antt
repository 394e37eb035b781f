use Rattle.std.proofs.Common.{arith, sym, ◌∙◌, ap, subst}
use Rattle.ug_run.specs.Boards.{AreDealt}
use Rattle.ug_run.proofs.LaneLaws.{passes_wait}
use Rattle.ug_run.proofs.Running.{paced, keeps-begun, fresh-is}
use Rattle.ug_run.proofs.run.Run.begin.Goals as goal

pub man-lanes-requires-clause-passes : goal.man-lanes-requires-clause-passes
man-lanes-requires-clause-passes g c κs within = let dealt = c.in-Ok-deal.ensures in passes_wait c.in-Ok-deal.turnstile.id dealt.root 1 c.in-Ok-deal.passes.items dealt.others

pub man-lanes-requires-clause-alike : goal.man-lanes-requires-clause-alike
man-lanes-requires-clause-alike g c κs within = c.in-Ok-deal.ensures.all ∙ sym c.requires.all

pub man-lanes-requires-clause-room : goal.man-lanes-requires-clause-room
man-lanes-requires-clause-room g c κs within =
    let all = c.requires.all in
    let peers = c.peers-peers.ensures in
    let room = c.in-Ok.ensures in
    omega arith

pub new-builder-requires-clause-free : goal.new-builder-requires-clause-free
new-builder-requires-clause-free g c κs within = ap (λ p. p.holds) c.in-Ok-deal.ensures.head

pub new-builder-requires-clause-number : goal.new-builder-requires-clause-number
new-builder-requires-clause-number g c κs within = ap (λ p. p.number) c.in-Ok-deal.ensures.head

pub new-builder-requires-clause-coalesce : goal.new-builder-requires-clause-coalesce
new-builder-requires-clause-coalesce g c κs within =
    paced g.S.Speaker.speech c.args.plan.world c.in-Ok-deal.turnstile c.in-Ok-deal.pass c.in-Ok-deal.passes.items c.in-Ok-deal.ensures c.local.result.now.coalesce (ap (λ l. l.coalesce) c.local.ensures)

pub invariant_of-result : goal.invariant_of-result
invariant_of-result g c =
    keeps-begun g.W.Wire.made_for g.S.Speaker.speech c.args.plan.world c.in-Ok-deal.turnstile c.in-Ok-deal.pass c.in-Ok-deal.passes.items c.in-Ok-deal.ensures
    c.new-builder.result (ap (λ b. b.pass) c.new-builder.ensures) c.args.wires.items c.requires.all c.man-lanes.result.items c.man-lanes.ensures c.peers-peers.result c.peers-peers.ensures
    c.in-Ok-list_for.wires_home c.in-Ok-list_for-2.passes_home c.in-Ok-list_for.ensures.none c.in-Ok-list_for-2.ensures.none c.in-Ok-list_for.ensures.room c.in-Ok-list_for-2.ensures.room

pub returns-clause-begun : goal.returns-clause-begun
returns-clause-begun g c =
    let passes = c.in-Ok-deal.passes.items in
    record {
      passes = passes;
      dealt = subst (λ p. AreDealt g.S.Speaker.speech c.args.plan.world c.in-Ok-deal.turnstile p passes) (sym (ap (λ b. b.pass) c.new-builder.ensures)) c.in-Ok-deal.ensures;
      builder = fresh-is c.new-builder.result c.in-Ok-deal.pass c.args.names.items _ c.args.plan.grammar c.local.result.now.coalesce _ c.new-builder.ensures c.requires.names (ap (λ l. l.coalesce) c.local.ensures);
      all = c.requires.all;
      lanes = c.man-lanes.ensures;
    }
