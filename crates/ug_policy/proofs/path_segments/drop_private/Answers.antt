use Rattle.std.proofs.Common.{◌≡◌, map, ap, ◌∙◌, rules}
use Rattle.std.proofs.lemmas.Fn.{filter_same}
use Rattle.std.specs.Prelude.{filter}
use Rattle.ug_types.specs.Attributes.{segment_of}
use Rattle.ug_types.specs.declared.attrs.Segment.{Segment}
use Rattle.ug_policy.specs.Paths.{has_numbers}
use Rattle.ug_policy.proofs.Edits.{map_filter}
use Rattle.ug_policy.proofs.path_segments.drop_private.Goals as goal

pub returns : goal.returns
returns c =
    let kept : c.retain.new.self.items ≡ filter (λ (s : Segment). has_numbers (segment_of s)) c.drop_private_in_each.new.path.items = filter_same _ _ _ (λ x b f' k. search rules) _ _ c.retain.ensures.items in
    ap (map segment_of) kept ∙ map_filter has_numbers c.drop_private_in_each.new.path.items ∙ ap (filter has_numbers) c.drop_private_in_each.ensures
