use Rattle.std.proofs.Common.{sym, ap, ◌∙◌}
use Rattle.std.specs.Prelude.{is_some}
use Rattle.ug_queue.specs.Queues.{is_member, place_of}
use Rattle.ug_queue.specs.Lines.{place_from}
use Rattle.ug_queue.proofs.Placed.{is_some-mapped, none_of}
use Rattle.ug_queue.proofs.line.Line.has.Goals as goal

pub returns-clause-member : goal.returns-clause-member
returns-clause-member g c =
    let same = sym (ap (λ v. is_some (place_of v c.args.member)) c.self.view_is)
    ∙ is_some-mapped (is_member c.args.member) (place_from c.self.inside.start) c.self.inside.cursors ∙ sym c.has.ensures in
    (λ h. same ∙ h, λ h. sym same ∙ h)

pub returns-clause-none : goal.returns-clause-none
returns-clause-none g c = λ h.
    let same = sym (ap (λ v. is_some (place_of v c.args.member)) c.self.view_is)
    ∙ is_some-mapped (is_member c.args.member) (place_from c.self.inside.start) c.self.inside.cursors ∙ sym c.has.ensures in
    none_of (place_of c.args.self.now c.args.member) (same ∙ h)
