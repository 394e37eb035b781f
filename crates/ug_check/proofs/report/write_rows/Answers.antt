use Rattle.std.proofs.Common.{◌≡◌, List, ◌∷◌, ◌++◌, subst, rules}
use Rattle.std.specs.String.{string_bytes}
use Rattle.ug_types.specs.declared.key.Key.{Key}
use Rattle.ug_types.specs.Attributes.{Attributes}
use Rattle.ug_check.specs.Decoded.{row_texts}
use Rattle.ug_check.specs.Written.{HasWritten}
use Rattle.ug_check.proofs.report.write_rows.Goals as goal

pub returns-in-Err-clause-stopped : goal.returns-in-Err-clause-stopped
returns-in-Err-clause-stopped g c = λ before lines rest h.
    let is : c.loop-key.key-iterator ≡ (c.in-Some.key, c.in-Some.attrs.now) ∷ c.next.new.self = search rules in
    c.in-Err.ensures.stopped before lines (row_texts c.next.new.self ++ rest)
    (subst (λ (es : List (Key × Attributes)). HasWritten before (g.K.Sink.held c.loop-key.report) (string_bytes c.loop-key.text) lines (row_texts es ++ rest)) is (c.loop-key.invariant.written before lines rest h))
