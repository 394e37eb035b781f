use Rattle.std.proofs.Common.{refl, ap, subst}
use Rattle.ug_commands.specs.Grouped.{most_bytes, IsCause}
use Rattle.ug_commands.specs.declared.stop.Stop.{Stop}
use Rattle.ug_audit.specs.Auditing.{IsTooLong}
use Rattle.ug_audit.proofs.FilesTold.{long_file, named_as}
use Rattle.ug_audit.proofs.settings.read_first.Goals as goal

pub returns-in-Err-TooLong-clause-stopped : goal.returns-in-Err-TooLong-clause-stopped
returns-in-Err-TooLong-clause-stopped g c =
    let long = long_file (g.E.Source.files c.args.site.now) c.args.words.now.config.now c.args.words.now.config.now (g.E.Source.left c.pick.new.site) (g.E.Source.left c.read_world.new.source) most_bytes refl c.in-Ok.ensures.picked
    (subst (λ (s : Stop). IsCause s (g.E.Source.left c.pick.new.site) (g.E.Source.left c.read_world.new.source)) c.in-Err-TooLong.field-0-is c.in-Err-TooLong.ensures.stopped) in
    IsTooLong.Config long.0 long.1 long.2 (named_as _ _ _ c.args.words.now.config.now c.args.words.now.config.now c.in-Ok.ensures.named (ap (λ p. p.names) c.read_world.ensures.picks) refl)
