use Rattle.std.proofs.Common.{◌++◌, ◌∙◌, List, Option, refl, ap, subst}
use Rattle.std.specs.Prelude.{◌<◌, IfSome}
use Rattle.std.specs.String.{string_bytes}
use Rattle.ug_types.specs.declared.key.Key.{Key}
use Rattle.ug_hearing.specs.declared.climbs.Move.{Move}
use Rattle.ug_hearing.specs.Climbed.{climb_with, keys_left, GoesOn}
use Rattle.ug_audit.specs.Texts.{climb_text}
use Rattle.ug_audit.proofs.certificate.write_next.Goals as goal

pub returns-in_ok-write_climb-in-Some-clause-went : goal.returns-in_ok-write_climb-in-Some-clause-went
returns-in_ok-write_climb-in-Some-clause-went c = λ done h. (
  climb_with c.in-Some.key c.next.new.self.moves.items,
  subst (λ (o : Option Key). GoesOn c.args.judge.now c.next.new.self done o) c.in-Some.is (c.in_ok-next.ensures.climbs done h),
  c.in_ok-write_climb-in-Some.ensures ∙ ap (λ (ms : List Move). string_bytes c.args.lines.now ++ climb_text (climb_with c.in-Some.key ms)) c.deref.ensures.value,
)

pub returns-in_ok-write_climb-in-Some-clause-fewer : goal.returns-in_ok-write_climb-in-Some-clause-fewer
returns-in_ok-write_climb-in-Some-clause-fewer c = λ more. subst (λ (o : Option Key). IfSome o (λ key. keys_left c.next.new.self < keys_left c.args.climbs.now)) c.in-Some.is c.in_ok-next.ensures.fewer

pub returns-in-None-clause-went : goal.returns-in-None-clause-went
returns-in-None-clause-went c = λ done h. (refl, subst (λ (o : Option Key). GoesOn c.args.judge.now c.next.new.self done o) c.in-None.is (c.in_ok-next.ensures.climbs done h))
