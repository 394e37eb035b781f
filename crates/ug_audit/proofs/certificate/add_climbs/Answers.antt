use Rattle.std.proofs.Common.{rules, ◌≡◌, List, ℕ, ◌++◌, ◌∙◌, ap}
use Rattle.std.specs.List.{flat_map}
use Rattle.std.specs.String.{string_bytes}
use Rattle.ug_audit.specs.Texts.{climb_text}
use Rattle.ug_audit.proofs.certificate.add_climbs.Goals as goal

pub returns : goal.returns
returns c =
    let h = c.in_ok-add_lines.ensures c.in_ok-climbs.ensures in
    let end : c.add.new.self ≡ c.add_lines.new.out ++ string_bytes c.add_lines.new.lines = search rules in
    let begin : c.args.out.now ++ string_bytes c.new-lines.result ≡ c.args.out.now = search rules in
    record { climbs = h.climbs; all = h.all; added = end ∙ (h.added ∙ ap (λ (xs : List ℕ). xs ++ flat_map climb_text h.climbs) begin) }
