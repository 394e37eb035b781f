use Rattle.std.proofs.Common.{arith, ◌≡◌, List, ℕ, take, drop, ap, ◌∙◌}
use Rattle.ug_pieces.specs.Codes.{code_text}
use Rattle.ug_pieces.proofs.Coding.{piece_more, piece_front}
use Rattle.ug_pieces.proofs.spelling.write_spelled.Goals as goal

pub returns-in-Err-clause-err : goal.returns-in-Err-clause-err
returns-in-Err-clause-err g c =
    let piece = c.split_at-in-loop-at.result.0.now in
    let is : piece ≡ take c.min-count.result (drop c.loop-at.at c.args.codes.now) = c.split_at-in-loop-at.ensures.front ∙ ap (λ (xs : List ℕ). take c.min-count.result xs) c.split_at.ensures.back in
    piece_front code_text (g.K.Sink.held c.args.report.now) (g.K.Sink.held c.loop-at.report) (g.K.Sink.held c.write_piece.new.report) c.args.codes.now piece c.loop-at.at c.min-count.result is c.loop-at.invariant.appended c.in-Err.ensures.err

pub loop-at-preserved : goal.loop-at-preserved
loop-at-preserved g c =
    let piece = c.split_at-in-loop-at.result.0.now in
    let is : piece ≡ take c.min-count.result (drop c.loop-at.at c.args.codes.now) = c.split_at-in-loop-at.ensures.front ∙ ap (λ (xs : List ℕ). take c.min-count.result xs) c.split_at.ensures.back in
    record {
      within = omega (arith, c.split_at.ensures.back_len, c.min-count.ensures);
      appended = piece_more code_text (g.K.Sink.held c.args.report.now) (g.K.Sink.held c.loop-at.report) (g.K.Sink.held c.write_piece.new.report) c.args.codes.now piece c.loop-at.at c.min-count.result is c.loop-at.invariant.appended c.in-Ok.ensures.ok;
      faults = c.in-Ok.ensures.unharmed ∙ c.loop-at.invariant.faults;
    }
