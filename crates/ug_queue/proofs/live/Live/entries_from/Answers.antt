use Rattle.std.proofs.Common.{◌≡◌, ℕ, ◌+◌, length, drop, sym, subst, ap, ◌∙◌, arith}
use Rattle.ug_queue.specs.Spread.{numbered, spread_from, IsPlace}
use Rattle.ug_queue.proofs.Spreading.{from_place, end_is}
use Rattle.ug_queue.proofs.live.Live.entries_from.Goals as goal

pub returns : goal.returns
returns g c =
    let rows = c.self.inside.entries.items in let end = c.self.inside.next in let i = c.place-i.result in let from = c.args.from in
    let number : 0 + from ≡ from = omega arith in
    let place = subst (λ rs. IsPlace rs from i) c.deref.ensures.value c.place-i.ensures.place in
    let same = ap (λ rs. length rs) c.deref.ensures.value in let bound = c.place-i.ensures.bound in
    c.split_at.ensures.back ∙ ap (λ rs. drop i rs) c.as_slice.ensures.value
    ∙ from_place from 0 end i rows (end_is end rows c.self.invariant) (subst (λ (k : ℕ). IsPlace rows k i) (sym number) place) (omega (arith, bound, same))
    ∙ ap (λ (k : ℕ). numbered k (drop from (spread_from 0 end rows))) number ∙ ap (λ xs. numbered from (drop from xs)) c.self.view_is
