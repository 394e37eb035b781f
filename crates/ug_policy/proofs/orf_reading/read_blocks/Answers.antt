use Rattle.std.proofs.Common.{◌≡◌, ◌++◌, ◌∙◌, ap, length, arith}
use Rattle.ug_policy.specs.OrfWalking.{all_in}
use Rattle.ug_policy.specs.OrfReading.{block_at}
use Rattle.ug_policy.proofs.OrfWalks.{more_items, all_done, all_good}
use Rattle.ug_policy.proofs.orf_reading.read_blocks.Goals as goal

pub loop-rest-preserved : goal.loop-rest-preserved
loop-rest-preserved c =
    let changes = c.loop-rest.changes.items in
    let first = c.in_ok-entries.entries.items in
    let read = c.in_ok-entries.ensures in
    let items : c.extend_from_slice.new.self.items ≡ changes ++ first = c.in_ok-extend_from_slice.ensures.items ∙ ap (λ l. changes ++ l) c.as_slice.ensures in
    record {
      all =
          more_items block_at changes first c.extend_from_slice.new.self.items c.loop-rest.rest.now c.split_at.result.1.now c.in_ok-entries.size (all_in block_at c.args.bytes.now) read.within.0 read.within.1 c.split_at.ensures.back read.read items c.loop-rest.invariant.all;
      good = rw items (all_good changes first c.loop-rest.invariant.good read.good);
    }

pub returns-clause-read : goal.returns-clause-read
returns-clause-read c =
    let none : length c.loop-rest.rest.now ≡ 0 = grind arith in
    all_done block_at c.loop-rest.changes.items c.from_vec.result.items c.loop-rest.rest.now (all_in block_at c.args.bytes.now) none c.loop-rest.invariant.all c.from_vec.ensures.items
