use Rattle.std.proofs.Common.{◌≡◌, suc, ◌+◌, ◌≤◌, length, arith, sym, ◌∙◌, ap, subst}
use Rattle.ug_run.specs.Lanes.{AreFreshFrom}
use Rattle.ug_run.proofs.Passes.{few_peers, fresh_from, fresh_many, parted}
use Rattle.ug_run.proofs.run.deal.Goals as goal

pub overflow_add-peers : goal.overflow_add-peers
overflow_add-peers g c =
    let few : length c.args.world.peers ≤ 64 = few_peers c.args.world c.requires in
    let count : c.peers-peers.result ≡ length c.args.world.peers = c.peers-peers.ensures in
    omega arith

pub remove-builder-requires : goal.remove-builder-requires
remove-builder-requires g c =
    let many : length c.in-Ok.passes.items ≡ c.peers-peers.result + 1 = ap length c.in-Ok.ensures.passes ∙ fresh_many _ _ _ 0 _ in
    omega arith

pub returns : goal.returns
returns g c =
    let count_is : c.peers-peers.result + 1 ≡ suc c.peers-peers.result = omega arith in
    let parts = parted c.in-Ok.turnstile.id c.in_ok-board.board.opening c.peers-peers.result _ c.in-Ok.passes.items c.remove-builder.new.self.items c.remove-builder.result count_is c.in-Ok.ensures.passes c.remove-builder.ensures.value c.remove-builder.ensures.items in
    record {
      root = c.in_ok-board.board.opening;
      first = c.in_ok-board.ensures.first;
      count = c.in-Ok.ensures.count ∙ ap (λ n. n + 1) c.peers-peers.ensures;
      head = parts.0;
      all = ap length parts.1 ∙ (fresh_many _ _ _ 1 _ ∙ c.peers-peers.ensures);
      others = subst (AreFreshFrom c.in-Ok.turnstile.id c.in_ok-board.board.opening 1) (sym parts.1) (fresh_from _ c.in-Ok.turnstile.id c.in_ok-board.board.opening 1 c.peers-peers.result);
    }
