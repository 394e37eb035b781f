use Rattle.std.proofs.Common.{◌≡◌, ℕ, Bool, true, nat_eq, List, slice_get, is_some, Option, Some, None, sym, ap, subst, ◌∙◌}
use Rattle.std.specs.Option.{IfSome}
use Rattle.ug_types.specs.declared.family.Family.{Family}
use Rattle.ug_types.specs.declared.key.Key.{Key}
use Rattle.ug_types.specs.declared.route.OutAttrs.{OutAttrs}
use Rattle.ug_types.specs.Keys.{weight_of}
use Rattle.ug_adjout.specs.Tables.{has, value_at}
use Rattle.ug_adjout.specs.Pending.{AdjRibOut}
use Rattle.ug_adjout.specs.Formatting.{Due, fitting, announcements, alike, value_of_first}
use Rattle.ug_intern.specs.Pools.{Pooled, Held, held, value_of}
use Rattle.ug_pack.specs.Rooms.{room, room_beside}
use Rattle.ug_pack.specs.Ready.{key_order, IsKeyOf, IsSendable, IsLive, IsReady}
use Rattle.ug_pack.specs.Packets.{IsAnnouncement, IsBuilt, room_by}
use Rattle.ug_pack.proofs.Keys.{key_total, key_exact}
use Rattle.ug_pack.proofs.Owed.{alike_first, first_value, announces}
use Rattle.ug_pack.proofs.next.next_announcement.Goals as goal

same : {T : Type 0} (a b : T) → Some a ≡ Some b → a ≡ b
same a b e = cc

-- the value of the first announcement is live, and can be sent
live : (family : Family) (add_path : Bool) (pool : Pooled OutAttrs) (a : AdjRibOut Key ℕ) (first : Key) (id : ℕ) → IsReady family add_path pool a → Some first ≡ slice_get (alike key_order nat_eq a) 0
    → Some id ≡ value_of_first (value_at key_order a.desired) (announcements key_order a) → IsLive family (held pool id)
live family add_path pool a first id ready at value =
    ready.values first id (alike_first key_total key_exact a (λ q. has key_order a.pending q ≡ true) (λ q h. h) first (sym at))
    (first_value (value_at key_order a.desired) (announcements key_order a) first id (sym at) value)

family_of : (family : Family) (add_path : Bool) (pool : Pooled OutAttrs) (a : AdjRibOut Key ℕ) (first : Key) → IsReady family add_path pool a → Some first ≡ slice_get (alike key_order nat_eq a) 0 → first.prefix.family ≡ family
family_of family add_path pool a first ready at = (alike_first key_total key_exact a (IsKeyOf family add_path) ready.keys first (sym at)).family_is

sent : (family : Family) (h : Option (Held OutAttrs)) (out : OutAttrs) → IsLive family h → value_of h ≡ Some out → IsSendable family out.attrs
sent family h out is value = subst (λ (o : OutAttrs). IsSendable family o.attrs) (same is.value.value out (sym (ap value_of is.is) ∙ value)) is.sendable

pub get-out-requires : goal.get-out-requires
get-out-requires g c =
    ap is_some (live c.requires.ready.0 c.requires.ready.1 c.args.pool.now (g.R.Routes.adj c.args.adj.now) c.in-Some.first c.in-Some.id c.requires.ready.2 c.in-Some.ensures.key c.in-Some.ensures.value).is

pub announcing-requires-clause-keys : goal.announcing-requires-clause-keys
announcing-requires-clause-keys g c =
    let ready = c.requires.ready.2 in
    let is = family_of c.requires.ready.0 c.requires.ready.1 c.args.pool.now (g.R.Routes.adj c.args.adj.now) c.in-Some.first ready c.in-Some.ensures.key in
    (c.requires.ready.1, λ q h. subst (λ (f : Family). IsKeyOf f c.requires.ready.1 q) (sym is) (ready.keys q h))

pub announcing-requires-clause-sendable : goal.announcing-requires-clause-sendable
announcing-requires-clause-sendable g c =
    let family = c.requires.ready.0 in
    let ready = c.requires.ready.2 in
    let is = family_of family c.requires.ready.1 c.args.pool.now (g.R.Routes.adj c.args.adj.now) c.in-Some.first ready c.in-Some.ensures.key in
    let value = live family c.requires.ready.1 c.args.pool.now (g.R.Routes.adj c.args.adj.now) c.in-Some.first c.in-Some.id ready c.in-Some.ensures.key c.in-Some.ensures.value in
    subst (λ (f : Family). IsSendable f c.get-out.result.now.attrs) (sym is) (sent family (held c.args.pool.now c.in-Some.id) c.get-out.result.now value c.get-out.ensures)

pub returns : goal.returns
returns g c = record {
  built = λ family add_path ready.
      let adj = (g.R.Routes.adj c.args.adj.now) in
      let pool = c.args.pool.now in
      let limit = c.args.limit in
      let id = c.in-Some.id in
      let out = c.get-out.result.now in
      let built = c.in_ok-built.built in
      let keys = alike key_order nat_eq adj in
      let fam = family_of family add_path pool adj c.in-Some.first ready c.in-Some.ensures.key in
      let beside = λ (i : ℕ). room_by pool limit family (value_of (held pool i)) in
      let is : built.keys.items ≡ fitting weight_of (room_by pool limit family (value_of (held pool id))) keys =
      c.in_ok-built.ensures.keys ∙ ap (λ (f : Family). fitting weight_of (room_beside f limit out.attrs) keys) fam
      ∙ ap (λ (o : Option OutAttrs). fitting weight_of (room_by pool limit family o) keys) (sym c.get-out.ensures) in
      let packet = subst (λ (l : List Key). IsAnnouncement family limit l out built.packet) is (subst (λ (f : Family). IsAnnouncement f limit built.keys.items out built.packet) fam c.in_ok-built.ensures.packet) in
      let said = subst (λ (o : Option OutAttrs). IfSome o (λ x. IsAnnouncement family limit (fitting weight_of (room_by pool limit family (value_of (held pool id))) keys) x built.packet)) (sym c.get-out.ensures) packet in
      subst (λ (d : Due Key ℕ). IsBuilt pool limit family d (Some built))
      (sym (announces key_total key_exact adj weight_of (room family limit) beside id c.requires.none c.in-Some.ensures.value))
      (is, said);
}
