use Rattle.std.proofs.Common.{◌≡◌, ◌+◌, ◌<◌, ◌∷◌, [], length, sym, ap, ◌∙◌, subst, arith, length-append}
use Rattle.ug_queue.specs.Queues.{least_place, passed}
use Rattle.ug_queue.specs.Lines.{places_from, IsLine}
use Rattle.ug_queue.proofs.Sheds.{needed_more}
use Rattle.ug_queue.proofs.Kept.{appended}
use Rattle.ug_queue.proofs.line.Line.append.Goals as goal

pub invariant_of-self-2 : goal.invariant_of-self-2
invariant_of-self-2 g c =
    let es = c.self.inside.cursors in let s = c.self.inside.start in let n = length c.self.inside.packets.items in
    let some : 0 < length (places_from s es) = omega (arith, c.requires, ap (λ v. length v.places) c.self.view_is) in
    let more : length c.push.new.self.items ≡ n + 1 = omega (arith, ap length c.push.ensures.items, length-append c.reserve.new.self.items (c.args.packet ∷ []), ap length c.reserve.ensures.items) in
    subst (λ k. IsLine k c.push_back.new.self.items s es) (sym more)
    (subst (λ u. IsLine (n + 1) u s es) (sym c.in-Ok-push_back.ensures.items) (appended _ _ _ _ c.self.invariant some))

pub returns-clause-needed : goal.returns-clause-needed
returns-clause-needed g c = λ e.
    let es = c.self.inside.cursors in let s = c.self.inside.start in let n = length c.self.inside.packets.items in
    let some : 0 < length (places_from s es) = omega (arith, c.requires, ap (λ v. length v.places) c.self.view_is) in
    let more : length c.push.new.self.items ≡ n + 1 = omega (arith, ap length c.push.ensures.items, length-append c.reserve.new.self.items (c.args.packet ∷ []), ap length c.reserve.ensures.items) in
    ap (λ k. least_place k (places_from s es)) more ∙ needed_more n c.self.inside.waiting.items (places_from s es) c.self.invariant.counted c.self.invariant.long some (ap passed c.self.view_is ∙ e)
