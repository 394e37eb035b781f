use Rattle.std.proofs.Common.{◌≡◌, ◌++◌, drop, codes}
use Rattle.std.specs.String.{string_bytes}
use Rattle.std.specs.List.{flat_map}
use Rattle.ug_text.specs.Texts.{community_text, with_commas}
use Rattle.ug_text.proofs.lists.write_communities.Given as goal

-- what is written so far and what the rest comes to make up the whole
abbrev pub invariant-loop-community : goal.invariant-loop-community
invariant-loop-community l = string_bytes l.out ++ flat_map (λ m. codes "," ++ community_text m) (drop l.community-index l.rest) ≡ string_bytes l.fn.out ++ with_commas community_text l.communities
