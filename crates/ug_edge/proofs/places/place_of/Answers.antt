use Rattle.std.proofs.Common.{◌≡◌, ◌<◌, length, get_or, true, ap, arith}
use Rattle.ug_types.specs.Bytes.{same_bytes}
use Rattle.ug_edge.proofs.SiteLemmas.{file_named-here}
use Rattle.ug_edge.proofs.places.place_of.Goals as goal

pub returns-then-eq-clause-found : goal.returns-then-eq-clause-found
returns-then-eq-clause-found c =
    let files = c.args.files.now.items in
    let file = c.file-item.result in
    let inside : c.loop-place.place < length files = omega (arith, ap length c.as_slice-file-items.ensures) in
    let here : file ≡ get_or files c.loop-place.place file = cc in
    let same : same_bytes c.args.name.now file.name.items ≡ true = cc in
    rw (← c.loop-place.invariant) (file_named-here c.args.name.now files c.loop-place.place file inside here same)
