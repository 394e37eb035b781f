use Rattle.std.proofs.Common.{◌≡◌, ℕ, Bool, List, Some, sym, ap, subst, ◌∙◌}
use Rattle.ug_types.specs.declared.family.Family.{Family}
use Rattle.ug_types.specs.declared.key.Key.{Key}
use Rattle.ug_types.specs.Keys.{weight_of}
use Rattle.ug_adjout.specs.Formatting.{Due, fitting, withdrawals}
use Rattle.ug_intern.specs.Pools.{held, value_of}
use Rattle.ug_pack.specs.Rooms.{room}
use Rattle.ug_pack.specs.Ready.{key_order, IsKeyOf}
use Rattle.ug_pack.specs.Packets.{IsWithdrawal, IsBuilt, room_by}
use Rattle.ug_pack.proofs.Keys.{key_total, key_exact}
use Rattle.ug_pack.proofs.Owed.{withdrawn_first, withdraws}
use Rattle.ug_pack.proofs.next.build.Goals as goal

pub withdrawing-requires-clause-keys : goal.withdrawing-requires-clause-keys
withdrawing-requires-clause-keys g c =
    let ready = c.requires.ready.2 in
    let first = withdrawn_first key_total key_exact (g.R.Routes.adj c.args.adj.now) (IsKeyOf c.requires.ready.0 c.requires.ready.1) ready.keys c.in-Some.first (sym c.in-Some.ensures) in
    (c.requires.ready.1, λ q h. subst (λ (f : Family). IsKeyOf f c.requires.ready.1 q) (sym first.family_is) (ready.keys q h))

pub returns-in_ok-built-in-Some : goal.returns-in_ok-built-in-Some
returns-in_ok-built-in-Some g c = record {
  built = λ family add_path ready.
      let adj = (g.R.Routes.adj c.args.adj.now) in
      let limit = c.args.limit in
      let built = c.in_ok-built-in-Some.built in
      let keys = withdrawals key_order adj in
      let first = withdrawn_first key_total key_exact adj (IsKeyOf family add_path) ready.keys c.in-Some.first (sym c.in-Some.ensures) in
      let is : built.keys.items ≡ fitting weight_of (room family limit) keys = c.in_ok-built-in-Some.ensures.keys ∙ ap (λ (f : Family). fitting weight_of (room f limit) keys) first.family_is in
      let packet = subst (λ (f : Family). IsWithdrawal f limit built.keys.items built.packet) first.family_is c.in_ok-built-in-Some.ensures.packet in
      subst (λ (d : Due Key ℕ). IsBuilt c.args.pool.now limit family d (Some built))
      (sym (withdraws key_total key_exact adj weight_of (room family limit) (λ (id : ℕ). room_by c.args.pool.now limit family (value_of (held c.args.pool.now id))) c.in-Some.first (sym c.in-Some.ensures)))
      (is, subst (λ (l : List Key). IsWithdrawal family limit l built.packet) is packet);
}
