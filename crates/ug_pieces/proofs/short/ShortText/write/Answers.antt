use Rattle.std.proofs.Common.{◌≡◌, ◌++◌, ℕ, List, ap, ◌∙◌, subst}
use Rattle.std.specs.List.{flat_map}
use Rattle.ug_pieces.specs.Reporting.{AppendsFront}
use Rattle.ug_pieces.specs.AppendingLaws.{AppendsFront-more}
use Rattle.ug_pieces.specs.declared.piece.Piece.{Piece}
use Rattle.ug_pieces.specs.declared.short.Part.{Part}
use Rattle.ug_pieces.specs.Codes.{part_text, pieces_text, codes_text}
use Rattle.ug_pieces.proofs.short.ShortText.write.Goals as goal

pub returns-in-Err-write_begun-clause-err : goal.returns-in-Err-write_begun-clause-err
returns-in-Err-write_begun-clause-err g c =
    let parts = flat_map part_text c.deref.result.now in
    let behind = pieces_text c.deref-2.result.now ++ codes_text c.deref-3.result.now in
    let is : parts ++ behind ≡ c.args.self.now =
    ap (λ (xs : List Part). flat_map part_text xs ++ behind) c.deref.ensures.value
    ∙ (ap (λ (xs : List Piece). flat_map part_text c.self.inside.parts.items ++ (pieces_text xs ++ codes_text c.deref-3.result.now)) c.deref-2.ensures.value
    ∙ (ap (λ (xs : List ℕ). flat_map part_text c.self.inside.parts.items ++ (pieces_text c.self.inside.pieces.items ++ codes_text xs)) c.deref-3.ensures.value ∙ c.self.view_is)) in
    subst (AppendsFront (g.K.Sink.held c.args.report.now) (g.K.Sink.held c.write_begun.new.report)) is
    (AppendsFront-more (g.K.Sink.held c.args.report.now) (g.K.Sink.held c.write_parts.new.report) (g.K.Sink.held c.write_begun.new.report) parts behind c.in-Ok.ensures.ok c.in-Err-write_begun.ensures.err)
