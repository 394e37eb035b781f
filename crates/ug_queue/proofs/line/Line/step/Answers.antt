use Rattle.std.proofs.Common.{◌+◌, ◌-◌, ◌<◌, ◌^◌, length, slice_get, get_or, refl, sym, ap, ◌∙◌, arith, length-set}
use Rattle.std.proofs.lemmas.Option.{slice_get_within}
use Rattle.ug_queue.specs.Queues.{place_of, least_place, passed, with_member, one_on}
use Rattle.ug_queue.specs.Lines.{place_from, places_from}
use Rattle.ug_queue.proofs.Placed.{entry_before}
use Rattle.ug_queue.proofs.Sheds.{next_before, needed_still}
use Rattle.ug_queue.proofs.Kept.{stands_at, stands_inside, stands_some, cursor_on, lowered_at_most, moved, queued_same}
use Rattle.ug_queue.proofs.line.Line.step.Goals as goal

pub go_on-requires : goal.go_on-requires
go_on-requires g c =
    let i = c.args.stand.index in let m = c.args.stand.member in let p = c.args.stand.place in
    let entry = ap (λ v. slice_get v.places i) c.self.view_is ∙ c.requires.stand in
    slice_get_within c.self.inside.cursors i _ (entry_before (place_from c.self.inside.start) c.self.inside.cursors i m p entry).1

pub lower-requires-clause-inside : goal.lower-requires-clause-inside
lower-requires-clause-inside g c =
    let i = c.args.stand.index in let m = c.args.stand.member in let p = c.args.stand.place in
    let entry = ap (λ v. slice_get v.places i) c.self.view_is ∙ c.requires.stand in let at = stands_at _ _ _ _ c.self.invariant i m p entry in
    (stands_inside _ _ _ _ c.self.invariant m p at).0

pub lower-requires-clause-some : goal.lower-requires-clause-some
lower-requires-clause-some g c =
    let i = c.args.stand.index in let m = c.args.stand.member in let p = c.args.stand.place in
    let entry = ap (λ v. slice_get v.places i) c.self.view_is ∙ c.requires.stand in let at = stands_at _ _ _ _ c.self.invariant i m p entry in
    stands_some _ _ _ _ c.self.invariant m p at

pub overflow_add-stand : goal.overflow_add-stand
overflow_add-stand g c =
    let i = c.args.stand.index in let m = c.args.stand.member in let p = c.args.stand.place in
    let entry = ap (λ v. slice_get v.places i) c.self.view_is ∙ c.requires.stand in let at = stands_at _ _ _ _ c.self.invariant i m p entry in
    let inside = (stands_inside _ _ _ _ c.self.invariant m p at).0 in
    omega (arith, inside, c.self.inside.waiting.ok.0, c.self.inside.waiting.small.0, c.self.inside.waiting.small.1)

pub raise-requires-clause-inside : goal.raise-requires-clause-inside
raise-requires-clause-inside g c =
    let i = c.args.stand.index in let m = c.args.stand.member in let p = c.args.stand.place in
    let entry = ap (λ v. slice_get v.places i) c.self.view_is ∙ c.requires.stand in let at = stands_at _ _ _ _ c.self.invariant i m p entry in
    let before = next_before c.args.self.now m p (sym (ap (λ v. place_of v m) c.self.view_is) ∙ at) c.requires.next in
    let whole = c.self.invariant.long (omega (arith, (stands_inside _ _ _ _ c.self.invariant m p at).0)) in
    omega (arith, before, ap (λ v. length v.packets) c.self.view_is, whole, ap length c.lower.ensures, length-set c.self.inside.waiting.items p (get_or c.self.inside.waiting.items p 0 - 1))

pub raise-requires-clause-fits : goal.raise-requires-clause-fits
raise-requires-clause-fits g c =
    let i = c.args.stand.index in let m = c.args.stand.member in let p = c.args.stand.place in
    let entry = ap (λ v. slice_get v.places i) c.self.view_is ∙ c.requires.stand in let at = stands_at _ _ _ _ c.self.invariant i m p entry in
    omega (arith, lowered_at_most _ _ _ _ c.self.invariant c.lower.new.waiting.items m p (p + 1) at c.lower.ensures, c.len-members.ensures.small, c.len-members.ensures.len)

pub invariant_of-self : goal.invariant_of-self
invariant_of-self g c =
    let i = c.args.stand.index in let m = c.args.stand.member in let p = c.args.stand.place in let n = length c.self.inside.packets.items in
    let entry = ap (λ v. slice_get v.places i) c.self.view_is ∙ c.requires.stand in let at = stands_at _ _ _ _ c.self.invariant i m p entry in
    let before : p < n = omega (arith, next_before c.args.self.now m p (sym (ap (λ v. place_of v m) c.self.view_is) ∙ at) c.requires.next, ap (λ v. length v.packets) c.self.view_is) in
    let whole = c.self.invariant.long (omega (arith, (stands_inside _ _ _ _ c.self.invariant m p at).0)) in
    let few : n < 2 ^ 64 = omega (arith, whole, c.self.inside.waiting.ok.0, c.self.inside.waiting.small.0, c.self.inside.waiting.small.1) in
    (moved _ _ _ _ c.self.invariant c.lower.new.waiting.items c.raise.new.waiting.items c.go_on.new.self m p at before few
    c.lower.ensures c.raise.ensures (cursor_on _ _ _ _ c.self.invariant c.go_on.new.self i m p entry c.go_on.ensures.entries) c.go_on.ensures.ordered).line

pub returns-clause-line : goal.returns-clause-line
returns-clause-line g c =
    let i = c.args.stand.index in let m = c.args.stand.member in let p = c.args.stand.place in let n = length c.self.inside.packets.items in
    let entry = ap (λ v. slice_get v.places i) c.self.view_is ∙ c.requires.stand in let at = stands_at _ _ _ _ c.self.invariant i m p entry in
    let place = sym (ap (λ v. place_of v m) c.self.view_is) ∙ at in
    let before : p < n = omega (arith, next_before c.args.self.now m p place c.requires.next, ap (λ v. length v.packets) c.self.view_is) in
    let whole = c.self.invariant.long (omega (arith, (stands_inside _ _ _ _ c.self.invariant m p at).0)) in
    let few : n < 2 ^ 64 = omega (arith, whole, c.self.inside.waiting.ok.0, c.self.inside.waiting.small.0, c.self.inside.waiting.small.1) in
    queued_same c.self.inside.packets.items _ _ _ c.self.inside.limit refl
    (moved _ _ _ _ c.self.invariant c.lower.new.waiting.items c.raise.new.waiting.items c.go_on.new.self m p at before few
    c.lower.ensures c.raise.ensures (cursor_on _ _ _ _ c.self.invariant c.go_on.new.self i m p entry c.go_on.ensures.entries) c.go_on.ensures.ordered).places
    ∙ ap (λ v. with_member v m (p + 1)) c.self.view_is ∙ sym (ap (one_on c.args.self.now m) place)

pub returns-clause-needed : goal.returns-clause-needed
returns-clause-needed g c = λ behind none.
    let i = c.args.stand.index in let m = c.args.stand.member in let p = c.args.stand.place in let n = length c.self.inside.packets.items in
    let entry = ap (λ v. slice_get v.places i) c.self.view_is ∙ c.requires.stand in let at = stands_at _ _ _ _ c.self.invariant i m p entry in
    let before : p < n = omega (arith, next_before c.args.self.now m p (sym (ap (λ v. place_of v m) c.self.view_is) ∙ at) c.requires.next, ap (λ v. length v.packets) c.self.view_is) in
    let whole = c.self.invariant.long (omega (arith, (stands_inside _ _ _ _ c.self.invariant m p at).0)) in
    let few : n < 2 ^ 64 = omega (arith, whole, c.self.inside.waiting.ok.0, c.self.inside.waiting.small.0, c.self.inside.waiting.small.1) in
    ap (least_place n)
    (moved _ _ _ _ c.self.invariant c.lower.new.waiting.items c.raise.new.waiting.items c.go_on.new.self m p at before few
    c.lower.ensures c.raise.ensures (cursor_on _ _ _ _ c.self.invariant c.go_on.new.self i m p entry c.go_on.ensures.entries) c.go_on.ensures.ordered).places
    ∙ needed_still n m p (p + 1) (places_from c.self.inside.start c.self.inside.cursors) at behind (ap passed c.self.view_is ∙ none)
