use Rattle.std.proofs.Common.{Err, refl, ap, subst, sym, ◌∙◌, ◌≤◌, length, List, ℕ}
use Rattle.ug_pieces.specs.Lines.{lines_of}
use Rattle.ug_audit.proofs.FilesTold.{long_file, whole_is, many_bytes, many_lines, is_within, named_as}
use Rattle.ug_audit.proofs.events.read_text.Goals as goal

pub returns-in-Err-TooLong-clause-stopped : goal.returns-in-Err-TooLong-clause-stopped
returns-in-Err-TooLong-clause-stopped g c =
    let long = long_file (g.E.Source.files c.args.site.now) c.args.name.now c.args.name.now (g.E.Source.left c.pick.new.site) (g.E.Source.left c.read_whole.new.source) 1073741824 refl c.in-Ok.ensures.picked
    (c.in-Err-TooLong.ensures.too_long (ap (λ e. Err e) c.in-Err-TooLong.field-0-is)) in
    (named_as _ _ _ c.args.name.now c.args.name.now c.in-Ok.ensures.named (ap (λ p. p.names) c.read_whole.ensures.picks) refl, long.0, long.1, many_bytes long.0 long.2)

pub returns-then-count_lines-gt-MOST_LINES-clause-stopped :
    goal.returns-then-count_lines-gt-MOST_LINES-clause-stopped
returns-then-count_lines-gt-MOST_LINES-clause-stopped g c =
    let h = c.in-Ok-read_whole.ensures.ok in
    let count = c.count_lines.ensures ∙ ap (λ (b : List ℕ). length (lines_of b)) (c.as_slice.ensures ∙ h.so.2) in (
      named_as _ _ _ c.args.name.now c.args.name.now c.in-Ok.ensures.named (ap (λ p. p.names) c.read_whole.ensures.picks) refl,
      h.read,
      whole_is (g.E.Source.files c.args.site.now) c.args.name.now (g.E.Source.left c.pick.new.site) (g.E.Source.left c.read_whole.new.source) h.read c.in-Ok.ensures.picked h.taken h.so.0,
      many_lines h.read c.count_lines.result count c.if-count_lines-gt-MOST_LINES.true,
    )

pub returns-clause-within : goal.returns-clause-within
returns-clause-within g c =
    let h = c.in-Ok-read_whole.ensures.ok in
    is_within c.in-Ok-read_whole.bytes.items c.count_lines.result (subst (λ (b : List ℕ). length b ≤ 1073741824) (sym h.so.2) h.so.1) (c.count_lines.ensures ∙ ap (λ (b : List ℕ). length (lines_of b)) c.as_slice.ensures) c.if-count_lines-gt-MOST_LINES.false
