use Rattle.std.proofs.Common.{ℕ, [], ap, subst, sym, ◌∙◌}
use Rattle.ug_types.specs.declared.capabilities.Capabilities.{Capabilities}
use Rattle.ug_update.specs.Readers.{ReaderState}
use Rattle.ug_check.specs.Checkers.{IsPieceCause}
use Rattle.ug_check.specs.Decoded.{LeavesRows}
use Rattle.ug_check.specs.declared.stop.Stop.{Stop}
use Rattle.ug_check.proofs.Done.{rows_left}
use Rattle.ug_check.proofs.Streams.{fresh_checked}
use Rattle.ug_check.proofs.counting.count_rows.Goals as goal

pub returns-in-Ok-finish-clause-ok : goal.returns-in-Ok-finish-clause-ok
returns-in-Ok-finish-clause-ok c =
    let fresh = fresh_checked c.args.session _ _ _ _ c.new-checker.ensures.reader c.new-checker.ensures.table c.new-checker.ensures.messages c.new-checker.ensures.eors in
    let session = ap (λ (r : ReaderState). r.session) c.in-Ok-finish.ensures.reader ∙ c.in-Ok.ensures.session ∙ ap (λ (r : ReaderState). r.session) c.new-checker.ensures.reader in
    subst (λ (n : ℕ). LeavesRows c.args.session c.args.bytes.now n) (sym c.len.ensures.count)
    (rows_left c.args.session c.args.bytes.now _ _ _ _ session c.len.ensures.ascending (c.in-Ok-finish.ensures.ok _ (c.in-Ok.ensures.ok [] fresh)))

pub returns-in-Err-clause-stopped : goal.returns-in-Err-clause-stopped
returns-in-Err-clause-stopped c =
    subst (λ (s : Capabilities). IsPieceCause c.in-Err.stop s c.args.bytes.now) (ap (λ (r : ReaderState). r.session) c.new-checker.ensures.reader)
    (c.in-Err.ensures.stopped [] (fresh_checked c.args.session _ _ _ _ c.new-checker.ensures.reader c.new-checker.ensures.table c.new-checker.ensures.messages c.new-checker.ensures.eors))

pub returns-clause-stopped : goal.returns-clause-stopped
returns-clause-stopped c = subst (λ (s : Stop). IsPieceCause s c.args.session c.args.bytes.now) (sym c.in-Err-finish.ensures.cause) tt
