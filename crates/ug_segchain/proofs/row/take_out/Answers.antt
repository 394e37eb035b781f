use Rattle.std.proofs.Common.{◌/◌, [], None, sym, ap, ◌∙◌, subst, arith, slice_set}
use Rattle.ug_segchain.specs.Slots.{joined, AreWhole}
use Rattle.ug_segchain.proofs.Segments.{filled_inside, segment_inside, joined_seen, joined_changed, AreWhole-changed}
use Rattle.ug_segchain.proofs.row.take_out.Goals as goal

pub index_mut-segment-requires : goal.index_mut-segment-requires
index_mut-segment-requires g c =
    let inside = filled_inside _ c.args.place _ c.requires.filled.1 in omega (arith, segment_inside c.args.segments.now.items c.args.place [] c.requires.whole inside, c.args.segments.now.ok.0)

pub read-requires : goal.read-requires
read-requires g c =
    let inside = filled_inside _ c.args.place _ c.requires.filled.1 in
    (c.requires.filled.0, sym (joined_seen c.args.segments.now.items c.args.place _ c.requires.whole inside c.index_mut-segment.ensures.value) ∙ c.requires.filled.1)

pub returns-clause-value : goal.returns-clause-value
returns-clause-value g c =
    let inside = filled_inside _ c.args.place _ c.requires.filled.1 in
    joined_seen c.args.segments.now.items c.args.place _ c.requires.whole inside c.index_mut-segment.ensures.value ∙ c.read.ensures.value

pub returns-clause-whole : goal.returns-clause-whole
returns-clause-whole g c =
    let inside = filled_inside _ c.args.place _ c.requires.filled.1 in
    subst (λ l. AreWhole (slice_set c.args.segments.now.items (c.args.place / 64) l)) (sym c.read.ensures.places)
    (AreWhole-changed c.args.segments.now.items c.args.place _ c.requires.whole inside c.index_mut-segment.ensures.value None)

pub returns-clause-joined : goal.returns-clause-joined
returns-clause-joined g c =
    let inside = filled_inside _ c.args.place _ c.requires.filled.1 in
    ap (λ l. joined (slice_set c.args.segments.now.items (c.args.place / 64) l)) c.read.ensures.places
    ∙ joined_changed c.args.segments.now.items c.args.place _ c.requires.whole inside c.index_mut-segment.ensures.value None
