use Rattle.std.proofs.Common.{◌≡◌, true, ◌∷◌, None, is_some, sym, arith}
use Rattle.ug_text.specs.Cutting.{pieces}
use Rattle.ug_events.specs.Entries.{bounds_of}
use Rattle.ug_events.proofs.Bounds.{no_bounds}
use Rattle.ug_events.proofs.entries.bounds_of.Goals as goal

pub returns-then-is_some-2 : goal.returns-then-is_some-2
returns-then-is_some-2 c =
    let there : is_some c.next_piece-2.result.1 ≡ true = grind arith in
    let many : bounds_of (c.next_piece.result.0.now ∷ pieces 58 c.in-Some-rest.rest.now) ≡ None = no_bounds c.next_piece.result.0.now c.next_piece-2.result.0.now c.next_piece-2.result.1 (pieces 58 c.in-Some-rest.rest.now) there c.next_piece-2.ensures.pieces in
    rw (c.in-Some.is, c.next_piece.ensures.pieces, c.in-Some-rest.is) (sym many)
