use Rattle.std.proofs.Common.{length, slice_get, sym, ap, ◌∙◌, subst, arith}
use Rattle.ug_queue.specs.Queues.{is_member, place_of, IsMember}
use Rattle.ug_queue.specs.Lines.{place_from}
use Rattle.ug_queue.proofs.Placed.{has_cursor, slice_get-mapped}
use Rattle.ug_queue.proofs.Kept.{stands_at, stands_inside}
use Rattle.ug_queue.proofs.line.Line.stand.Goals as goal

pub find-index-requires : goal.find-index-requires
find-index-requires g c =
    has_cursor (is_member c.args.member) (place_from c.self.inside.start) c.self.inside.cursors (subst (λ v. IsMember v c.args.member) (sym c.self.view_is) c.requires)

pub returns-clause-stand : goal.returns-clause-stand
returns-clause-stand g c =
    let at = slice_get-mapped (place_from c.self.inside.start) c.self.inside.cursors _ c.args.member _ c.find-index.ensures in
    sym (ap (λ v. slice_get v.places c.find-index.result.0) c.self.view_is) ∙ at

pub returns-clause-place : goal.returns-clause-place
returns-clause-place g c =
    let at = slice_get-mapped (place_from c.self.inside.start) c.self.inside.cursors _ c.args.member _ c.find-index.ensures in
    sym (ap (λ v. place_of v c.args.member) c.self.view_is) ∙ stands_at _ _ _ _ c.self.invariant _ c.args.member _ at

pub returns-clause-inside : goal.returns-clause-inside
returns-clause-inside g c =
    let at = slice_get-mapped (place_from c.self.inside.start) c.self.inside.cursors _ c.args.member _ c.find-index.ensures in
    omega (arith, (stands_inside _ _ _ _ c.self.invariant c.args.member _ (stands_at _ _ _ _ c.self.invariant _ c.args.member _ at)).1, ap (λ v. length v.packets) c.self.view_is)
