use Rattle.std.proofs.Common.{slice_get, sym, ap, ◌∙◌, length, arith}
use Rattle.std.proofs.lemmas.Option.{slice_get_past}
use Rattle.ug_queue.specs.Queues.{place_of}
use Rattle.ug_queue.proofs.Sheds.{rest_from, slice_get-drop}
use Rattle.ug_queue.proofs.Kept.{stands_at}
use Rattle.ug_queue.proofs.line.Line.next.Goals as goal

pub returns-then-stand-len : goal.returns-then-stand-len
returns-then-stand-len g c =
    let m = c.args.stand.member in let p = c.args.stand.place in
    let at = stands_at _ _ _ _ c.self.invariant c.args.stand.index m p (ap (λ v. slice_get v.places c.args.stand.index) c.self.view_is ∙ c.requires) in
    let place = sym (ap (λ v. place_of v m) c.self.view_is) ∙ at in
    sym c.at.ensures ∙ ap (λ v. slice_get v.packets p) c.self.view_is ∙ sym (slice_get-drop c.args.self.now.packets p) ∙ sym (ap (λ l. slice_get l 0) (rest_from c.args.self.now m p place))

pub returns : goal.returns
returns g c =
    let m = c.args.stand.member in let p = c.args.stand.place in
    let at = stands_at _ _ _ _ c.self.invariant c.args.stand.index m p (ap (λ v. slice_get v.places c.args.stand.index) c.self.view_is ∙ c.requires) in
    let place = sym (ap (λ v. place_of v m) c.self.view_is) ∙ at in
    let past = slice_get_past c.args.self.now.packets p (omega (arith, ap (λ v. length v.packets) c.self.view_is, c.len.ensures, c.if-stand-len.false)) in
    sym past ∙ sym (slice_get-drop c.args.self.now.packets p) ∙ sym (ap (λ l. slice_get l 0) (rest_from c.args.self.now m p place))
