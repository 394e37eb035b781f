use Rattle.std.proofs.Common.{◌∷◌, List, ℕ, sym, ◌∙◌, ap}
use Rattle.ug_text.specs.Seen.{pieces_in}
use Rattle.ug_audit_rules.specs.Reports.{mark_said}
use Rattle.ug_audit_rules.proofs.Words.{no_mark, behind}
use Rattle.ug_audit_rules.proofs.line.read_mark.Goals as goal

pub returns-in-Some : goal.returns-in-Some
returns-in-Some c =
    let v = c.next_piece.result.0.now in
    let p = c.next_piece-2.result.0.now in
    let n = c.next_piece-3.result.0.now in
    let m = c.next_piece-4.result.0.now in
    let first = behind c.in_ok-words.was c.next_piece.ensures.pieces in
    let second = ap (λ (ws : List (List ℕ)). v ∷ ws) (behind c.in_ok-words-2.was c.next_piece-2.ensures.pieces) in
    let third = ap (λ (ws : List (List ℕ)). v ∷ p ∷ ws) (behind c.in_ok-words-3.was c.next_piece-3.ensures.pieces) in
    let fourth = ap (λ (ws : List (List ℕ)). v ∷ p ∷ n ∷ ws) (behind c.in_ok-words-4.was c.next_piece-4.ensures.pieces) in
    let more = ap (λ o. v ∷ p ∷ n ∷ m ∷ pieces_in 32 o) c.in-Some.is in
    sym (ap (λ (ws : List (List ℕ)). mark_said c.args.last.now ws) (first ∙ second ∙ third ∙ fourth ∙ more) ∙ no_mark c.args.last.now v p n m c.in-Some._more.now)
