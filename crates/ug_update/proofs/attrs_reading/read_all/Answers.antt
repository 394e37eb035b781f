use Rattle.std.proofs.Common.{◌+◌, ◌≤◌, refl, ◌∙◌, ap, Result, ℕ, arith, length, drop}
use Rattle.std.proofs.lemmas.List.{length-drop}
use Rattle.ug_message.specs.Walking.{at}
use Rattle.ug_message.specs.Kind.{ReadSoFar}
use Rattle.ug_message.specs.AttributesRead.{attribute_step}
use Rattle.ug_update.specs.AttrsViews.{so_far}
use Rattle.ug_update.proofs.Faults.{attributes_fail}
use Rattle.ug_message.proofs.Walks.{walk_from}
use Rattle.ug_update.proofs.attrs_reading.read_all.Goals as goal

pub loop-place-preserved : goal.loop-place-preserved
loop-place-preserved c =
    let place = c.loop-place.place in
    let read = c.in-Ok.ensures in
    let bytes = c.args.bytes.now in
    let inside : c.in-Ok.size ≤ length (drop place bytes) = omega (arith, read.within, length-drop place bytes) in
    record {
      within = omega (arith, read.within);
      limit = read.limit ∙ c.loop-place.invariant.limit;
      same =
          walk_from (attribute_step c.args.family) c.in-Ok.size place (place + c.in-Ok.size) place (so_far bytes c.loop-place.found) (so_far bytes c.read_one.new.found) bytes (drop place bytes)
          refl refl read.within.0 inside (ap (λ (r : Result (ReadSoFar × ℕ) ℕ). at place r) read.exact)
          ∙ c.loop-place.invariant.same;
    }

pub returns-in-Err-clause-exact : goal.returns-in-Err-clause-exact
returns-in-Err-clause-exact c =
    let place = c.loop-place.place in
    let bytes = c.args.bytes.now in
    rw c.placed.ensures (attributes_fail c.args.family c.in-Err.e place (so_far bytes c.loop-place.found) bytes (drop place bytes) refl (omega (arith, length-drop place bytes)) c.loop-place.invariant.same c.in-Err.ensures.exact)
