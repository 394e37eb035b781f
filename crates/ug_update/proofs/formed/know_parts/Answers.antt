use Rattle.std.proofs.Common.{◌≡◌, true, List, ℕ, map, subst}
use Rattle.std.specs.List.{list_all}
use Rattle.ug_types.specs.declared.attrs.Segment.{Segment}
use Rattle.ug_types.specs.Attributes.{attributes_of, segment_of}
use Rattle.ug_message.specs.Spellable.{is_number, has_numbers}
use Rattle.ug_update.proofs.Spelled.{spelled_by}
use Rattle.ug_update.proofs.formed.know_parts.Goals as goal

pub returns : goal.returns
returns c = λ formed ipv4.
    let a = attributes_of c.args.parts.now in
    let path = subst (λ (p : List Segment). list_all has_numbers (map segment_of p) ≡ true) c.as_slice.ensures c.know_path.ensures in
    let communities = subst (λ (ns : List ℕ). list_all is_number ns ≡ true) c.as_slice-2.ensures c.know_numbers.ensures in
    let clusters = subst (λ (ns : List ℕ). list_all is_number ns ≡ true) c.as_slice-3.ensures c.know_numbers-2.ensures in
    spelled_by a formed path c.know_address.ensures c.know_number.ensures c.know_number-2.ensures c.know_aggregator.ensures communities c.know_originator.ensures clusters ipv4
