use Rattle.std.proofs.Common.{refl, ap, ◌∙◌}
use Rattle.std.specs.Prelude.{is_some}
use Rattle.ug_queue.specs.Queues.{is_member, place_of, without_member}
use Rattle.ug_queue.specs.Lines.{place_from}
use Rattle.ug_queue.proofs.Placed.{has_cursor}
use Rattle.ug_queue.proofs.Kept.{stands_inside, stands_some, removed, queued_same}
use Rattle.ug_queue.proofs.line.Line.remove.Goals as goal

pub remove-requires : goal.remove-requires
remove-requires g c =
    let at = ap (λ v. place_of v c.args.member) c.self.view_is ∙ c.place-place.ensures.place in
    has_cursor (is_member c.args.member) (place_from c.self.inside.start) c.self.inside.cursors (ap is_some at)

pub lower-requires-clause-inside : goal.lower-requires-clause-inside
lower-requires-clause-inside g c =
    let at = ap (λ v. place_of v c.args.member) c.self.view_is ∙ c.place-place.ensures.place in (stands_inside _ _ _ _ c.self.invariant c.args.member _ at).0

pub lower-requires-clause-some : goal.lower-requires-clause-some
lower-requires-clause-some g c =
    let at = ap (λ v. place_of v c.args.member) c.self.view_is ∙ c.place-place.ensures.place in stands_some _ _ _ _ c.self.invariant c.args.member _ at

pub invariant_of-self : goal.invariant_of-self
invariant_of-self g c =
    let at = ap (λ v. place_of v c.args.member) c.self.view_is ∙ c.place-place.ensures.place in
    (removed _ _ _ _ c.self.invariant c.lower.new.waiting.items c.remove.new.self c.args.member _ at c.lower.ensures c.remove.ensures.entries c.remove.ensures.ordered).line

pub returns : goal.returns
returns g c =
    let at = ap (λ v. place_of v c.args.member) c.self.view_is ∙ c.place-place.ensures.place in
    queued_same c.self.inside.packets.items _ _ _ c.self.inside.limit refl
    (removed _ _ _ _ c.self.invariant c.lower.new.waiting.items c.remove.new.self c.args.member _ at c.lower.ensures c.remove.ensures.entries c.remove.ensures.ordered).places
    ∙ ap (λ v. without_member v c.args.member) c.self.view_is
