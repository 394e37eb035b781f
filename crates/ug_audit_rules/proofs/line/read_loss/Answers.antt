use Rattle.std.proofs.Common.{◌∷◌, List, ℕ, sym, ◌∙◌, ap}
use Rattle.ug_text.specs.Seen.{pieces_in}
use Rattle.ug_audit_rules.specs.Reports.{loss_said}
use Rattle.ug_audit_rules.proofs.Words.{no_loss, behind}
use Rattle.ug_audit_rules.proofs.line.read_loss.Goals as goal

pub returns-in-Some : goal.returns-in-Some
returns-in-Some c =
    let all = behind c.in_ok-words.was c.next_piece.ensures.pieces ∙ ap (λ (ws : List (List ℕ)). c.next_piece.result.0.now ∷ ws) (behind c.in_ok-words-2.was c.next_piece-2.ensures.pieces) in
    let more = ap (λ o. c.next_piece.result.0.now ∷ c.next_piece-2.result.0.now ∷ pieces_in 32 o) c.in-Some.is in
    sym (ap (λ (ws : List (List ℕ)). loss_said c.args.last.now ws) (all ∙ more) ∙ no_loss c.args.last.now c.next_piece.result.0.now c.next_piece-2.result.0.now c.in-Some._more.now)
