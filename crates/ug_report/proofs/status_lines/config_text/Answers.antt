use Rattle.std.proofs.Common.{◌<◌, ◌^◌, sym, subst, arith}
use Rattle.ug_report.specs.Statuses.{IsOneLine}
use Rattle.ug_report.proofs.OneLine.{config_line}
use Rattle.ug_report.proofs.status_lines.config_text.Goals as goal

pub returns-clause-one_line : goal.returns-clause-one_line
returns-clause-one_line c =
    let fits = c.ranges.number.fits in
    let small : c.args.number < 2 ^ 64 = omega arith in
    subst IsOneLine (sym c.in_ok-text.ensures) (config_line c.args.number c.args.field.now small)
