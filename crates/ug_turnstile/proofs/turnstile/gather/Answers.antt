use Rattle.std.proofs.Common.{◌≡◌, ◌++◌, Bool, false, [], ◌∷◌, map, ap, sym, ◌∙◌, refl, append_assoc}
use Rattle.ug_turnstile.specs.Rule.{view, pass_of}
use Rattle.ug_turnstile.specs.Inside.{in_hand}
use Rattle.ug_turnstile.proofs.Entries.{all_front, all_last}
use Rattle.ug_turnstile.proofs.Steps.{arrives, joins}
use Rattle.ug_turnstile.proofs.turnstile.gather.Goals as goal

pub load_new_seat-base-requires : goal.load_new_seat-base-requires
load_new_seat-base-requires g c = (
  c.requires.words,
  λ s kept slots small. (view false [], arrives g.S.Logged.owner g.S.Logged.root g.S.Logged.entries g.S.Logged.spent (g.S.Logged.root c.args.shared.now.key.state.value) c.args.shared.now.key.count s kept, refl),
)

pub join_seat-requires : goal.join_seat-requires
join_seat-requires g c =
    let all = c.loop-pass.passes.items in
    let id = c.args.shared.now.table_id in
    let inv = c.pass.invariant in
    let p = inv.0 in
    let idle : c.pass.inside.seat.me.0.holds ≡ false = ap (λ h. h.holds) c.pass.view_is ∙ all_last (λ h. h.holds ≡ false) all c.pop.new.self.items c.in-Some.pass c.in-Some.ensures.some c.loop-pass.invariant.4 in
    let here : c.pass.inside.seat.table_id ≡ id = ap (λ h. h.turnstile) c.pass.view_is ∙ all_last (λ h. h.turnstile ≡ id) all c.pop.new.self.items c.in-Some.pass c.in-Some.ensures.some c.loop-pass.invariant.3 in
    let me : c.pass.inside.seat.me ≡ (view false (p ∷ []), []) = inv.2 ∙ ap (λ (b : Bool). (view b (p ∷ []), in_hand b)) idle in (
      c.loop-pass.invariant.0,
      here,
      ap (λ m. m.1) me,
      c.requires.words,
      rw (c.loop-pass.invariant.1, me) (joins g.S.Logged.owner g.S.Logged.root g.S.Logged.entries g.S.Logged.spent (g.S.Logged.root c.args.shared.now.key.state.value) c.args.shared.now.key.count c.loop-pass.base.me.0.parts (p ∷ []) c.loop-pass.base.id c.pass.inside.seat.id),
    )

pub loop-pass-preserved : goal.loop-pass-preserved
loop-pass-preserved g c =
    let all = c.loop-pass.passes.items in
    let id = c.args.shared.now.table_id in
    let inv = c.pass.invariant in
    let p = inv.0 in
    let vs = c.loop-pass.base.me.0.parts in
    let front = c.pop.new.self.items in
    let pass = c.in-Some.pass in
    let popped = c.in-Some.ensures.some in
    let idle : c.pass.inside.seat.me.0.holds ≡ false = ap (λ h. h.holds) c.pass.view_is ∙ all_last (λ h. h.holds ≡ false) all front pass popped c.loop-pass.invariant.4 in
    let here : c.pass.inside.seat.table_id ≡ id = ap (λ h. h.turnstile) c.pass.view_is ∙ all_last (λ h. h.turnstile ≡ id) all front pass popped c.loop-pass.invariant.3 in
    let me : c.pass.inside.seat.me ≡ (view false (p ∷ []), []) = inv.2 ∙ ap (λ (b : Bool). (view b (p ∷ []), in_hand b)) idle in
    let is : pass ≡ pass_of id p = sym c.pass.view_is ∙ rw (me, here, ← inv.1) refl in
    let new = c.join_seat.ensures.2 ∙ (ap (λ m. (view m.0.holds (c.pass.inside.seat.me.0.parts ++ m.0.parts), m.1)) c.loop-pass.invariant.1 ∙ ap (λ m. (view false (m.0.parts ++ vs), [])) me) in (
      c.join_seat.ensures.0 ∙ c.loop-pass.invariant.0,
      rw new refl,
      rw (new, ← is) (sym (append_assoc front (pass ∷ []) (map (pass_of id) vs)) ∙ (ap (λ xs. xs ++ map (pass_of id) vs) (sym popped) ∙ c.loop-pass.invariant.2)),
      all_front (λ h. h.turnstile ≡ id) all front pass popped c.loop-pass.invariant.3,
      all_front (λ h. h.holds ≡ false) all front pass popped c.loop-pass.invariant.4,
    )
