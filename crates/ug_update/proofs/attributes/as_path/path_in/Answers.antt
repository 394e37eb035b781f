use Rattle.std.proofs.Common.{◌+◌, refl, ◌∙◌, ap, List, map, arith}
use Rattle.std.proofs.lemmas.List.{map_push}
use Rattle.std.proofs.lemmas.Grind.{common_steps}
use Rattle.std.proofs.lemmas.Result.{err_from_is_err_and}
use Rattle.ug_types.specs.declared.attrs.Segment.{Segment}
use Rattle.ug_types.specs.Attributes.{segment_of}
use Rattle.ug_message.specs.AttributeTable.{segment_at}
use Rattle.ug_message.proofs.Walks.{collect_from}
use Rattle.ug_update.proofs.Faults.{path_fails}
use Rattle.ug_update.proofs.attributes.as_path.path_in.Goals as goal

pub loop-place-preserved : goal.loop-place-preserved
loop-place-preserved c =
    let path = c.loop-place.path.items in
    let segment = c.in_ok-segment.segment in
    let read = c.in_ok-segment.ensures in
    record {
      within = omega (arith, read.within);
      sound = grind (arith, common_steps, read.sound);
      same =
          collect_from (λ place. segment_at) c.in_ok-segment.size c.loop-place.place (c.loop-place.place + c.in_ok-segment.size) c.loop-place.place (segment_of segment) (map segment_of path) (map segment_of c.push.new.self.items) c.args.bytes.now c.split_at.result.1.now
          refl c.split_at.ensures.back read.within.0 read.within.1 read.exact (ap (λ (p : List Segment). map segment_of p) c.in_ok-push.ensures.items ∙ map_push segment_of path segment)
          ∙ c.loop-place.invariant.same;
    }

pub returns-in_err-segment-clause-exact : goal.returns-in_err-segment-clause-exact
returns-in_err-segment-clause-exact c =
    let p = err_from_is_err_and c.from_residual.result c.from_residual.ensures.1 in
    rw (p.1, p.2) (path_fails c.in_err-segment.field-0.0 c.loop-place.place (map segment_of c.loop-place.path.items) c.args.bytes.now c.split_at.result.1.now c.split_at.ensures.back (omega arith) c.loop-place.invariant.same c.in_err-segment.ensures.exact)
