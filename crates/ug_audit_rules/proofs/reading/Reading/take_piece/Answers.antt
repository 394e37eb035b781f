use Rattle.std.proofs.Common.{◌≡◌, ◌++◌, ◌∷◌, [], ℕ, List, Some, None, refl, sym, ap, subst, ◌∙◌}
use Rattle.std.specs.Option.{option_map}
use Rattle.ug_text.specs.Cutting.{cut_at}
use Rattle.ug_text.specs.Seen.{seen_parts}
use Rattle.ug_audit_rules.specs.Kept.{KeepsOn}
use Rattle.ug_audit_rules.proofs.Between.{GoesOn, StopsAt, mid_first, mid_next, mid_stop, mid_last}
use Rattle.ug_audit_rules.proofs.reading.Reading.take_piece.Goals as goal

pub loop-front-init : goal.loop-front-init
loop-front-init c = λ stream h. mid_first c.args.last.now c.args.self.now stream c.args.piece.now h

pub returns-in-Err-take_line-clause-stopped : goal.returns-in-Err-take_line-clause-stopped
returns-in-Err-take_line-clause-stopped c = λ stream h.
    mid_stop c.args.last.now c.loop-front.self (stream ++ c.args.piece.now) c.loop-front.left.now c.in-Some.front.now c.in-Some.behind.now c.deref.result.now c.in-Err-take_line.stop
    (sym c.cut_at.ensures.parts ∙ ap seen_parts c.in-Some.is) (subst (λ (k : List ℕ). KeepsOn c.loop-front.self.most c.loop-front.self.rest.items k c.in-Some.front.now) (sym c.deref.ensures.value) c.in-Ok.ensures)
    c.in-Err-take_line.ensures.stopped (c.loop-front.invariant stream h)

pub loop-front-preserved : goal.loop-front-preserved
loop-front-preserved c = λ stream h.
    mid_next c.args.last.now c.loop-front.self (record { told = c.take_line.new.self; rest = c.clear.new.self; most = c.loop-front.self.most }) (stream ++ c.args.piece.now) c.loop-front.left.now c.in-Some.front.now c.in-Some.behind.now
    c.deref.result.now (sym c.cut_at.ensures.parts ∙ ap seen_parts c.in-Some.is)
    (subst (λ (k : List ℕ). KeepsOn c.loop-front.self.most c.loop-front.self.rest.items k c.in-Some.front.now) (sym c.deref.ensures.value) c.in-Ok.ensures) c.clear.ensures.items refl c.in-Ok-take_line.ensures.told
    (c.loop-front.invariant stream h)

pub returns-in-Ok-keep-clause-read : goal.returns-in-Ok-keep-clause-read
returns-in-Ok-keep-clause-read c = λ stream h.
    mid_last c.args.last.now c.loop-front.self (record { told = c.loop-front.self.told; rest = c.keep-2.new.rest; most = c.loop-front.self.most }) (stream ++ c.args.piece.now) c.loop-front.left.now
    (sym c.cut_at.ensures.parts ∙ ap seen_parts c.in_default.is) c.in-Ok-keep.ensures refl refl (c.loop-front.invariant stream h)
