use Rattle.std.proofs.Common.{ℕ, List, [], ◌∷◌, ◌++◌, length, sym, subst}
use Rattle.std.specs.String.{string_bytes}
use Rattle.ug_edge.specs.Told.{AppendsPiece}
use Rattle.ug_pieces.specs.Reporting.{AppendsFront}
use Rattle.ug_check.specs.Decoded.{row_texts, totals_text}
use Rattle.ug_check.specs.Written.{HasWritten}
use Rattle.ug_check.proofs.Reports.{written_none, written_line, written_all, written_front, written_lines}
use Rattle.ug_check.proofs.report.write_report.Goals as goal

pub returns-in-Err-clause-stopped : goal.returns-in-Err-clause-stopped
returns-in-Err-clause-stopped g c =
    let k = c.args.checker.now in
    let totals = totals_text k.messages k.eors (length k.table.rows) (length k.reader.left) in
    let lines = row_texts k.table.rows ++ totals ∷ [] in
    let held = g.K.Sink.held c.args.report.now in
    c.in-Err.ensures.stopped held lines (totals ∷ []) (subst (λ (t : List ℕ). HasWritten held held t lines lines) (sym c.new-text.ensures.bytes) (written_none held lines))

pub returns-in-Err-add_totals-clause-stopped : goal.returns-in-Err-add_totals-clause-stopped
returns-in-Err-add_totals-clause-stopped g c =
    let k = c.args.checker.now in
    let totals = totals_text k.messages k.eors (length k.table.rows) (length k.reader.left) in
    let lines = row_texts k.table.rows ++ totals ∷ [] in
    let held = g.K.Sink.held c.args.report.now in
    let rows = c.in-Ok.ensures.ok held lines (totals ∷ []) (subst (λ (t : List ℕ). HasWritten held held t lines lines) (sym c.new-text.ensures.bytes) (written_none held lines)) in
    written_lines held (g.K.Sink.held c.write_rows.new.report) (string_bytes c.write_rows.new.text) lines (totals ∷ []) rows

pub returns-in-Ok-write_all-clause-ok : goal.returns-in-Ok-write_all-clause-ok
returns-in-Ok-write_all-clause-ok g c =
    let k = c.args.checker.now in
    let totals = totals_text k.messages k.eors (length k.table.rows) (length k.reader.left) in
    let lines = row_texts k.table.rows ++ totals ∷ [] in
    let held = g.K.Sink.held c.args.report.now in
    let mid = g.K.Sink.held c.write_rows.new.report in
    let rows = c.in-Ok.ensures.ok held lines (totals ∷ []) (subst (λ (t : List ℕ). HasWritten held held t lines lines) (sym c.new-text.ensures.bytes) (written_none held lines)) in
    let all = subst (λ (t : List ℕ). HasWritten held mid t lines []) (sym c.in-Ok-add_totals.ensures) (written_line held mid (string_bytes c.write_rows.new.text) totals lines [] rows) in
    written_all held mid (g.K.Sink.held c.write_all.new.report) (string_bytes c.add_totals.new.text) lines all
    (subst (λ (t : List ℕ). AppendsPiece mid (g.K.Sink.held c.write_all.new.report) t) c.as_bytes.ensures.value c.in-Ok-write_all.ensures.ok)

pub returns-clause-stopped : goal.returns-clause-stopped
returns-clause-stopped g c =
    let k = c.args.checker.now in
    let totals = totals_text k.messages k.eors (length k.table.rows) (length k.reader.left) in
    let lines = row_texts k.table.rows ++ totals ∷ [] in
    let held = g.K.Sink.held c.args.report.now in
    let mid = g.K.Sink.held c.write_rows.new.report in
    let rows = c.in-Ok.ensures.ok held lines (totals ∷ []) (subst (λ (t : List ℕ). HasWritten held held t lines lines) (sym c.new-text.ensures.bytes) (written_none held lines)) in
    let all = subst (λ (t : List ℕ). HasWritten held mid t lines []) (sym c.in-Ok-add_totals.ensures) (written_line held mid (string_bytes c.write_rows.new.text) totals lines [] rows) in
    written_front held mid (g.K.Sink.held c.write_all.new.report) (string_bytes c.add_totals.new.text) lines [] all
    (subst (λ (t : List ℕ). AppendsFront mid (g.K.Sink.held c.write_all.new.report) t) c.as_bytes.ensures.value c.in-Err-write_all.ensures.err)
