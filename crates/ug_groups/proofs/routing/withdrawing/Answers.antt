use Rattle.std.specs.Prelude.{Option, Some, ℕ}
use Rattle.std.proofs.Common.{subst}
use Rattle.ug_pack.specs.declared.built.Built.{Built}
use Rattle.ug_pack.specs.Packets.{IsBuilt, next_due}
use Rattle.ug_groups.proofs.DueRoutes.{withdrawn_routed}
use Rattle.ug_groups.proofs.routing.withdrawing.Goals as goal

pub returns : goal.returns
returns c =
    let key = c.args.key.now in let pool = c.args.pool.now in let o = c.args.out.now in
    let built = subst (λ (b : Option Built). IsBuilt pool c.limit-limit.result key.family (next_due pool c.limit-limit.result key.family o.adj) b) c.in-Some.is (c.in_ok-built.ensures.built key.family key.add_path c.requires.ready) in
    withdrawn_routed key pool o c.requires.family c.requires.exact c.requires.ready c.requires.one c.requires.live c.args.made c.args.first.now c.know_weight.ensures c.in-Some.built
    (subst (λ (n : ℕ). IsBuilt pool n key.family (next_due pool n key.family o.adj) (Some c.in-Some.built)) c.limit-limit.ensures built) c.in_ok-packet.packet c.requires.first c.in_ok-packet.ensures c.routed_as.result c.routed_as.ensures
