use Rattle.std.proofs.Common.{List, ℕ, [], Option, Some, None, refl}
use Rattle.ug_outbound.specs.Bounds.{SetsFew}
use Rattle.ug_config.specs.One.{one_parts}
use Rattle.ug_commands.proofs.laws.one_opens.Goals as goal

no_sets : (map : Option (List ℕ)) → SetsFew [] map
no_sets None = tt
no_sets (Some name) = tt

pub returns : goal.returns
returns c = record {
  parts = one_parts;
  good = refl;
  first = refl;
  few_sets = no_sets;
  in_range = record { asn = refl; cluster = refl; maps = refl; peers = refl };
}
