use Rattle.std.proofs.Common.{◌≡◌, length, [], ◌∷◌, arith}
use Rattle.ug_policy.specs.OrfWalking.{all_in}
use Rattle.ug_policy.specs.OrfReading.{entry_at}
use Rattle.ug_policy.proofs.OrfWalks.{more_items, all_done, all_good, one_good}
use Rattle.ug_policy.proofs.orf_reading.read_entries.Goals as goal

pub loop-rest-preserved : goal.loop-rest-preserved
loop-rest-preserved c =
    let changes = c.loop-rest.changes.items in
    let change = c.in_ok-change.change in
    let read = c.in_ok-change.ensures in
    record {
      all =
          more_items entry_at changes (change ∷ []) c.push.new.self.items c.loop-rest.rest.now c.split_at.result.1.now c.in_ok-change.size (all_in entry_at c.args.bytes.now) read.within.0 read.within.1 c.split_at.ensures.back read.read c.in_ok-push.ensures.items c.loop-rest.invariant.all;
      good = rw c.in_ok-push.ensures.items (all_good changes (change ∷ []) c.loop-rest.invariant.good (one_good change read.good));
    }

pub returns-clause-read : goal.returns-clause-read
returns-clause-read c =
    let none : length c.loop-rest.rest.now ≡ 0 = grind arith in
    all_done entry_at c.loop-rest.changes.items c.from_vec.result.items c.loop-rest.rest.now (all_in entry_at c.args.bytes.now) none c.loop-rest.invariant.all c.from_vec.ensures.items
