use Rattle.std.proofs.Common.{◌≡◌, ◌++◌, drop, codes}
use Rattle.std.specs.String.{string_bytes}
use Rattle.std.specs.List.{flat_map}
use Rattle.ug_text.specs.Texts.{dotted, with_commas}
use Rattle.ug_text.proofs.lists.write_clusters.Given as goal

-- what is written so far and what the rest comes to make up the whole
abbrev pub invariant-loop-cluster : goal.invariant-loop-cluster
invariant-loop-cluster l = string_bytes l.out ++ flat_map (λ m. codes "," ++ dotted m) (drop l.cluster-index l.rest) ≡ string_bytes l.fn.out ++ with_commas dotted l.clusters
