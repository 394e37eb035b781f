use Rattle.std.proofs.Common.{◌++◌}
use Rattle.std.specs.String.{string_bytes}
use Rattle.ug_audit.proofs.Writing.{none-added, one-added, all-added}
use Rattle.ug_audit.proofs.certificate.add_lines.Goals as goal

pub loop-more-init : goal.loop-more-init
loop-more-init c = λ h. none-added c.args.judge.now c.args.climbs.now (c.args.out.now ++ string_bytes c.args.lines.now) h

pub returns-then-not-more : goal.returns-then-not-more
returns-then-not-more c = λ h.
    all-added c.args.judge.now c.loop-more.climbs c.write_next.new.climbs (c.args.out.now ++ string_bytes c.args.lines.now) c.loop-more.out (string_bytes c.loop-more.lines) (string_bytes c.write_next.new.lines) c.in_ok-more.more
    (c.loop-more.invariant h) c.in_ok-more.ensures.went c.if-not-more.true

pub loop-more-preserved : goal.loop-more-preserved
loop-more-preserved c = λ h.
    one-added c.args.judge.now c.loop-more.climbs c.write_next.new.climbs (c.args.out.now ++ string_bytes c.args.lines.now) c.loop-more.out (string_bytes c.loop-more.lines) (string_bytes c.write_next.new.lines) c.in_ok-more.more
    (c.loop-more.invariant h) c.in_ok-more.ensures.went c.move_long.new.out (string_bytes c.move_long.new.lines) c.if-not-more.false c.in_ok-move_long.ensures
