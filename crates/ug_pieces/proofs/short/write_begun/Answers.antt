use Rattle.ug_pieces.specs.AppendingLaws.{AppendsFront-more, AppendsFront-longer}
use Rattle.ug_pieces.specs.Codes.{pieces_text, codes_text}
use Rattle.ug_pieces.proofs.short.write_begun.Goals as goal

pub returns-in-Err-clause-err : goal.returns-in-Err-clause-err
returns-in-Err-clause-err g c =
    AppendsFront-longer (g.K.Sink.held c.args.report.now) (g.K.Sink.held c.write_pieces.new.report) (pieces_text c.args.pieces.now) (codes_text c.args.begun.now) c.in-Err.ensures.err

pub returns-in-Err-write_spelled-clause-err : goal.returns-in-Err-write_spelled-clause-err
returns-in-Err-write_spelled-clause-err g c =
    AppendsFront-more (g.K.Sink.held c.args.report.now) (g.K.Sink.held c.write_pieces.new.report) (g.K.Sink.held c.write_spelled.new.report) (pieces_text c.args.pieces.now) (codes_text c.args.begun.now) c.in-Ok.ensures.ok c.in-Err-write_spelled.ensures.err
