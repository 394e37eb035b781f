use Rattle.std.proofs.Common.{List, ℕ, ◌∙◌, sym, subst}
use Rattle.ug_audit.specs.Certified.{AddsSession}
use Rattle.ug_audit.proofs.Writing.{behind-title}
use Rattle.ug_audit.proofs.certificate.add_session.Goals as goal

pub returns : goal.returns
returns c =
    subst (λ (xs : List ℕ). AddsSession c.args.peer.now c.args.number c.args.judge.now c.args.out.now xs) (sym c.in_ok-close-2.ensures)
    (behind-title c.args.judge.now c.args.peer.now c.args.number c.args.out.now c.close.new.self c.add_climbs.new.out (c.in_ok-close.ensures ∙ c.in_ok-add_title.ensures) c.in_ok-add_climbs.ensures)
