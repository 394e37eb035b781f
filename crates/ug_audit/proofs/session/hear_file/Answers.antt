use Rattle.std.proofs.Common.{ap, subst, ◌∙◌}
use Rattle.ug_types.specs.declared.memory.NoMemory.{NoMemory}
use Rattle.ug_pieces.specs.Pieces.{HasRead}
use Rattle.ug_pieces.specs.declared.halt.Halt.{Halt}
use Rattle.ug_audit.specs.Verdicts.{most_bytes, IsStop}
use Rattle.ug_audit.specs.Sessions.{file_name}
use Rattle.ug_audit.proofs.FilesTold.{long_file, named_as}
use Rattle.ug_audit.proofs.session.hear_file.Goals as goal

pub returns-in-Err-TooLong-clause-stopped : goal.returns-in-Err-TooLong-clause-stopped
returns-in-Err-TooLong-clause-stopped g c =
    let name = c.as_str.ensures.value ∙ c.in-Ok.ensures ∙ ap (λ n. file_name c.args.dir.now n c.args.number) c.text.ensures.value in
    let long = long_file (g.E.Source.files c.args.site.now) c.as_str.result.now (file_name c.args.dir.now c.args.peer.now.name c.args.number) (g.E.Source.left c.pick.new.site) (g.E.Source.left c.hear.new.source) most_bytes name
    c.in-Ok-pick.ensures.picked (subst (λ (h : Halt NoMemory). HasRead (g.E.Source.left c.pick.new.site) (g.E.Source.left c.hear.new.source) (IsStop h)) c.in-Err-TooLong.field-0-is c.in-Err-TooLong.ensures.stopped) in
    (named_as _ _ _ c.as_str.result.now (file_name c.args.dir.now c.args.peer.now.name c.args.number) c.in-Ok-pick.ensures.named (ap (λ p. p.names) c.hear.ensures.picks) name, long.0, long.1, long.2)
