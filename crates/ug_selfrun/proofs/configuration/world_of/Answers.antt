use Rattle.std.proofs.Common.{◌∙◌}
use Rattle.ug_selfrun.proofs.Good.{good_parts}
use Rattle.ug_selfrun.proofs.Growing.{single}
use Rattle.ug_selfrun.proofs.configuration.world_of.Goals as goal

pub new-requires-2 : goal.new-requires-2
new-requires-2 c = record {
  good = good_parts c.args.peers c.requires (record { local = c.local.result; lists = c.from_vec.result; maps = c.new.result; policies = c.from_vec-2.result; peers = c.from_vec-3.result })
      c.local.ensures
      (single _ _ _ _ _ c.from_vec.ensures.items c.in_ok-push.ensures.items c.new-lists.ensures.items c.in_ok-list_gl.ensures)
      c.new.ensures
      (single _ _ _ _ _ c.from_vec-2.ensures.items c.in_ok-push-2.ensures.items c.new-policies.ensures.items c.in_ok-policy_gp.ensures)
      (c.from_vec-3.ensures.items ∙ c.in_ok-peers_of.ensures);
}
