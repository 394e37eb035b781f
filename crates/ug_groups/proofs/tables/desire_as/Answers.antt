use Rattle.std.proofs.Common.{subst}
use Rattle.std.proofs.lemmas.Result.{on_ok_weaker}
use Rattle.ug_adjout.specs.Tables.{IsTable}
use Rattle.ug_adjout.specs.Pending.{IsExact}
use Rattle.ug_adjout.specs.Desiring.{AreForcedShown}
use Rattle.ug_pack.specs.Ready.{key_order}
use Rattle.ug_group_rules.specs.Packets.{same_out}
use Rattle.ug_groups.specs.declared.entry.Entry.{Entry}
use Rattle.ug_groups.specs.Entries.{row_in}
use Rattle.ug_groups.specs.Walks.{desired_in}
use Rattle.ug_groups.proofs.Accounts.{counted_in}
use Rattle.ug_groups.proofs.Dones.{one_there}
use Rattle.ug_groups.proofs.WalkTables.{tabled_rows, tabled_itself}
use Rattle.ug_groups.proofs.tables.desire_as.Goals as goal

pub know_exact-requires : goal.know_exact-requires
know_exact-requires c = record { counted = counted_in c.args.pool.now c.args.live.now c.args.g c.at.result.now c.requires.kept c.at.ensures }

pub know_exact-requires-2 : goal.know_exact-requires-2
know_exact-requires-2 c = record { counted = counted_in c.args.pool.now c.args.live.now c.args.from c.at-2.result.now c.requires.kept c.at-2.ensures }

pub returns-then-g-from-clause-rows : goal.returns-then-g-from-clause-rows
returns-then-g-from-clause-rows c f there =
    let p = c.args.pool.now in let same = one_there c.args.live.now c.args.from c.at-2.result.now f c.at-2.ensures there in
    tabled_itself p c.args.live.now c.args.g c.args.from f c.if-g-from.true there
    (subst (λ (x : Entry). IsExact key_order same_out (row_in p x).sub.out) same c.know_exact-2.ensures.exact) (subst (λ (x : Entry). AreForcedShown key_order (row_in p x).sub.out) same c.know_exact-2.ensures.shown)

pub returns-clause-rows : goal.returns-clause-rows
returns-clause-rows c =
    let p = c.args.pool.now in let xs = c.args.live.now in
    on_ok_weaker c.walk.result
    (λ done f there.
    let same = one_there xs c.args.from c.at-2.result.now f c.at-2.ensures there in let exact = c.know_exact-2.ensures.exact in
    tabled_rows p c.walk.new.pool xs c.walk.new.live c.args.g c.args.from done c.at.result.now f c.at.ensures there c.know_exact.ensures.exact c.know_exact.ensures.shown
    (subst (λ (x : Entry). IsTable key_order (desired_in p x)) same exact.desired_rows))
    c.walk.ensures.ok
