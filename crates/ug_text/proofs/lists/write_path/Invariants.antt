use Rattle.std.proofs.Common.{◌≡◌, ◌++◌, drop, map, codes}
use Rattle.std.specs.String.{string_bytes}
use Rattle.std.specs.List.{flat_map}
use Rattle.ug_types.specs.Attributes.{segment_of}
use Rattle.ug_text.specs.Texts.{segment_text, path_text}
use Rattle.ug_text.proofs.lists.write_path.Given as goal

-- what is written so far and what the rest comes to make up the whole
abbrev pub invariant-loop-segment : goal.invariant-loop-segment
invariant-loop-segment l = string_bytes l.out ++ flat_map (λ t. codes ";" ++ segment_text t) (map segment_of (drop l.segment-index l.rest)) ≡ string_bytes l.fn.out ++ path_text (map segment_of l.path)
