use Rattle.ug_groups.proofs.Found.{none_merge, pair_is, surely}
use Rattle.ug_groups.proofs.numbered.Subgroups.first_to_merge.Goals as goal

pub returns-in_default-clause-none : goal.returns-in_default-clause-none
returns-in_default-clause-none c =
    let i = c.self.inside in
    none_merge i.classes i.pool i.live c.args.self.now c.self.view_is c.self.invariant.classed c.entries-entries.result.now c.entries-entries.ensures c.place_to_merge.result c.place_to_merge.ensures c.in_default.is

pub unreachable-requires : goal.unreachable-requires
unreachable-requires c =
    surely c.entries-entries.result.now c.place_to_merge.result c.place_of_partner.result c.in-Some.i c.index-entries-i.result c.place_to_merge.ensures c.in-Some.is c.index-entries-i.is c.place_of_partner.ensures c.in_default-place_of_partner.is

pub returns-clause-some : goal.returns-clause-some
returns-clause-some c =
    let i = c.self.inside in
    pair_is i.classes i.pool i.live c.args.self.now c.self.view_is c.self.invariant.classed c.entries-entries.result.now c.entries-entries.ensures c.place_to_merge.result c.place_of_partner.result c.in-Some.i c.in-Some-place_of_partner.j
    c.index-entries-i.result c.index-entries-j.result c.place_to_merge.ensures c.in-Some.is c.index-entries-i.is c.place_of_partner.ensures c.in-Some-place_of_partner.is c.index-entries-j.is
