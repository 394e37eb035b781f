use Rattle.std.proofs.Common.{List, ℕ, sym, subst}
use Rattle.std.specs.String.{string_bytes}
use Rattle.ug_edge.specs.Told.{AppendsPiece}
use Rattle.ug_pieces.specs.Reporting.{AppendsFront}
use Rattle.ug_check.specs.Written.{HasWritten}
use Rattle.ug_check.proofs.Reports.{written_line, written_out, written_front}
use Rattle.ug_check.proofs.report.put_row.Goals as goal

pub returns-then-len-lt-PIECE-clause-ok : goal.returns-then-len-lt-PIECE-clause-ok
returns-then-len-lt-PIECE-clause-ok g c = λ before lines rest h.
    subst (λ (t : List ℕ). HasWritten before (g.K.Sink.held c.args.report.now) t lines rest) (sym c.in-Ok.ensures) (written_line before _ _ _ lines rest h)

pub returns-in-Err-write_all-clause-stopped : goal.returns-in-Err-write_all-clause-stopped
returns-in-Err-write_all-clause-stopped g c = λ before lines rest h.
    written_front before (g.K.Sink.held c.args.report.now) (g.K.Sink.held c.write_all.new.report) (string_bytes c.write_row.new.out) lines rest
    (subst (λ (t : List ℕ). HasWritten before (g.K.Sink.held c.args.report.now) t lines rest) (sym c.in-Ok.ensures) (written_line before _ _ _ lines rest h))
    (subst (λ (t : List ℕ). AppendsFront (g.K.Sink.held c.args.report.now) (g.K.Sink.held c.write_all.new.report) t) c.as_bytes.ensures.value c.in-Err-write_all.ensures.err)

pub returns-clause-ok : goal.returns-clause-ok
returns-clause-ok g c = λ before lines rest h.
    subst (λ (t : List ℕ). HasWritten before (g.K.Sink.held c.write_all.new.report) t lines rest) (sym c.clear.ensures.bytes)
    (written_out before (g.K.Sink.held c.args.report.now) (g.K.Sink.held c.write_all.new.report) (string_bytes c.write_row.new.out) lines rest
    (subst (λ (t : List ℕ). HasWritten before (g.K.Sink.held c.args.report.now) t lines rest) (sym c.in-Ok.ensures) (written_line before _ _ _ lines rest h))
    (subst (λ (t : List ℕ). AppendsPiece (g.K.Sink.held c.args.report.now) (g.K.Sink.held c.write_all.new.report) t) c.as_bytes.ensures.value c.in-Ok-write_all.ensures.ok))
