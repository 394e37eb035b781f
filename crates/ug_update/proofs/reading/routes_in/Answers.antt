use Rattle.std.proofs.Common.{◌+◌, ◌∙◌, arith}
use Rattle.std.proofs.lemmas.Result.{err_from_is_err_and}
use Rattle.ug_message.proofs.Walks.{collect_from}
use Rattle.ug_message.specs.Reading.{one_route}
use Rattle.ug_update.specs.Views.{fault_of}
use Rattle.ug_update.proofs.RouteFaults.{routes_stop}
use Rattle.ug_update.proofs.reading.routes_in.Goals as goal

pub loop-at-preserved : goal.loop-at-preserved
loop-at-preserved c =
    let at = c.loop-at.at in
    let start = c.args.place in
    let read = c.in_ok-key.ensures in
    record {
      within = omega (arith, read.size);
      same =
          collect_from (one_route c.args.family c.args.add_path) c.in_ok-key.size (start + at) (start + (at + c.in_ok-key.size)) at c.in_ok-key.key c.loop-at.keys.items c.push.new.self.items c.args.bytes.now c.split_at.result.1.now
          (omega arith) c.split_at.ensures.back read.size.0 read.size.1 read.exact c.in_ok-push.ensures.items
          ∙ c.loop-at.invariant.same;
    }

pub returns-in_err-key-clause-exact : goal.returns-in_err-key-clause-exact
returns-in_err-key-clause-exact c =
    let p = err_from_is_err_and c.from_residual-in_err-key.result c.from_residual-in_err-key.ensures.1 in
    rw (p.1, p.2) (routes_stop c.args.family c.args.add_path c.args.place c.loop-at.at c.loop-at.keys.items (fault_of c.in_err-key.field-0.0) c.args.bytes.now c.split_at.result.1.now c.split_at.ensures.back (omega arith) c.loop-at.invariant.same c.in_err-key.ensures.exact)
