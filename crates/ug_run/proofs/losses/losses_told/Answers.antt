use Rattle.std.proofs.Common.{◌+◌, ◌++◌, drop, sym, ap, ◌∙◌, append_assoc}
use Rattle.ug_board.specs.Seen.{seen_step, seen_entry}
use Rattle.ug_run.specs.Losses.{loss_in, losses_told}
use Rattle.ug_run.proofs.Lost.{next_told}
use Rattle.ug_run.proofs.losses.losses_told.Goals as goal

pub loop-i-preserved : goal.loop-i-preserved
loop-i-preserved g c =
    let history = c.args.history.now.items in
    let rest = losses_told (drop (c.loop-i.i + 1) history) in
    ap (λ ls. ls ++ rest) c.in_ok-add_loss.ensures
    ∙ (append_assoc c.loop-i.losses.items (loss_in (seen_step c.at-entry.result.step)) rest
    ∙ (ap (λ ls. c.loop-i.losses.items ++ ls) (sym (next_told history c.loop-i.i (seen_entry c.at-entry.result) c.at-entry.ensures)) ∙ c.loop-i.invariant))
