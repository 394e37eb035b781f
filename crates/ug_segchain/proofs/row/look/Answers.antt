use Rattle.std.proofs.Common.{[], sym, ◌∙◌, arith}
use Rattle.ug_segchain.proofs.Segments.{filled_inside, segment_inside, joined_seen}
use Rattle.ug_segchain.proofs.row.look.Goals as goal

pub index-segment-requires : goal.index-segment-requires
index-segment-requires g c =
    let inside = filled_inside _ c.args.place _ c.requires.filled.1 in omega (arith, segment_inside c.args.segments.now.items c.args.place [] c.requires.whole inside, c.args.segments.now.ok.0)

pub get-requires : goal.get-requires
get-requires g c =
    let inside = filled_inside _ c.args.place _ c.requires.filled.1 in
    (c.requires.filled.0, sym (joined_seen c.args.segments.now.items c.args.place _ c.requires.whole inside c.index-segment.ensures) ∙ c.requires.filled.1)

pub returns : goal.returns
returns g c =
    let inside = filled_inside _ c.args.place _ c.requires.filled.1 in
    joined_seen c.args.segments.now.items c.args.place _ c.requires.whole inside c.index-segment.ensures ∙ c.get.ensures
