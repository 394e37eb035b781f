use Rattle.std.proofs.Common.{arith, ◌≡◌, ◌+◌, ◌++◌, ◌∷◌, [], take}
use Rattle.std.proofs.lemmas.Grind.{common_steps}
use Rattle.ug_pieces.specs.Codes.{part_text}
use Rattle.ug_pieces.proofs.Coding.{item_front}
use Rattle.ug_pieces.proofs.short.write_parts.Goals as goal

pub returns-in-Err-clause-err : goal.returns-in-Err-clause-err
returns-in-Err-clause-err g c =
    let more : take (c.loop-part.part-index + 1) c.args.parts.now ≡ take c.loop-part.part-index c.args.parts.now ++ c.part-item.result ∷ [] = grind (arith, common_steps) in
    item_front part_text (g.K.Sink.held c.args.report.now) (g.K.Sink.held c.loop-part.report) (g.K.Sink.held c.write_part.new.report) c.args.parts.now c.part-item.result c.loop-part.part-index more c.loop-part.invariant.appended c.in-Err.ensures.err
