use Rattle.std.proofs.Common.{◌/◌, [], Some, sym, ap, ◌∙◌, subst, arith, slice_set}
use Rattle.ug_segchain.specs.Slots.{joined, AreWhole}
use Rattle.ug_segchain.proofs.Segments.{segment_inside, joined_seen, segment_long, joined_changed, AreWhole-changed}
use Rattle.ug_segchain.proofs.row.put.Goals as goal

pub index_mut-segment-requires : goal.index_mut-segment-requires
index_mut-segment-requires g c = omega (arith, segment_inside c.args.segments.now.items c.args.place [] c.requires.whole c.requires.inside, c.args.segments.now.ok.0)

pub write-requires-clause-inside : goal.write-requires-clause-inside
write-requires-clause-inside g c = omega (arith, segment_long c.args.segments.now.items c.args.place _ c.requires.whole c.requires.inside c.index_mut-segment.ensures.value)

pub write-requires-clause-empty : goal.write-requires-clause-empty
write-requires-clause-empty g c = sym (joined_seen c.args.segments.now.items c.args.place _ c.requires.whole c.requires.inside c.index_mut-segment.ensures.value) ∙ c.requires.empty

pub returns-clause-whole : goal.returns-clause-whole
returns-clause-whole g c =
    subst (λ l. AreWhole (slice_set c.args.segments.now.items (c.args.place / 64) l)) (sym c.write.ensures)
    (AreWhole-changed c.args.segments.now.items c.args.place _ c.requires.whole c.requires.inside c.index_mut-segment.ensures.value (Some c.args.value))

pub returns-clause-joined : goal.returns-clause-joined
returns-clause-joined g c =
    ap (λ l. joined (slice_set c.args.segments.now.items (c.args.place / 64) l)) c.write.ensures
    ∙ joined_changed c.args.segments.now.items c.args.place _ c.requires.whole c.requires.inside c.index_mut-segment.ensures.value (Some c.args.value)
