use Rattle.std.specs.Prelude.{None, Option, ◌^◌}
use Rattle.std.proofs.Common.{ap, ◌∙◌, arith}
use Rattle.std.proofs.lemmas.Result.{on_ok_weaker}
use Rattle.ug_types.specs.declared.route.OutAttrs.{OutAttrs}
use Rattle.ug_groups.specs.Values.{valued_by}
use Rattle.ug_groups.specs.Standings.{desiring}
use Rattle.ug_groups.specs.Rows.{with_sub, with_row}
use Rattle.ug_groups.specs.Entries.{rows_in}
use Rattle.ug_groups.proofs.Accounts.{room_in, room_less, in_hand, kept_after, rows_after}
use Rattle.ug_groups.proofs.InHand.{kept_taken_up, kept_let_go, rows_taken_up, rows_let_go}
use Rattle.ug_groups.proofs.desires.desire_alone.Goals as goal

pub take-requires : goal.take-requires
take-requires c = let known = c.requires.kept in room_less 1 (2 ^ 66) c.args.pool.now (omega arith) (room_in c.args.pool.now c.args.live.now (known.0, None, known.1))

pub let_go-requires : goal.let_go-requires
let_go-requires c =
    let known = c.requires.kept in let q = c.take.new.pool in let id = c.in_ok-id.id in
    in_hand known.0 c.desire-done.new.pool c.desire-done.new.live id
    (kept_after q c.desire-done.new.pool c.args.live.now c.desire-done.new.live c.args.g (with_sub (desiring c.args.key.now (valued_by q id))) known.0 id
    (kept_taken_up known.0 c.args.live.now c.args.pool.now q id known.1 c.in_ok-id.ensures.uses) c.desire-done.result c.desire-done.ensures.ok c.desire-done.ensures.err c.desire-done.ensures.pool)

pub returns-clause-kept : goal.returns-clause-kept
returns-clause-kept c next kept =
    let q = c.take.new.pool in let id = c.in_ok-id.id in
    kept_let_go next c.desire-done.new.live c.desire-done.new.pool c.let_go.new.pool id
    (kept_after q c.desire-done.new.pool c.args.live.now c.desire-done.new.live c.args.g (with_sub (desiring c.args.key.now (valued_by q id))) next id
    (kept_taken_up next c.args.live.now c.args.pool.now q id kept c.in_ok-id.ensures.uses) c.desire-done.result c.desire-done.ensures.ok c.desire-done.ensures.err c.desire-done.ensures.pool)
    c.let_go.ensures.uses

pub returns-clause-rows : goal.returns-clause-rows
returns-clause-rows c =
    let known = c.requires.kept in let q = c.take.new.pool in let id = c.in_ok-id.id in let next = known.0 in
    let change = with_sub (desiring c.args.key.now (valued_by q id)) in
    let held_q = kept_taken_up next c.args.live.now c.args.pool.now q id known.1 c.in_ok-id.ensures.uses in
    let held_r = kept_after q c.desire-done.new.pool c.args.live.now c.desire-done.new.live c.args.g change next id held_q c.desire-done.result c.desire-done.ensures.ok c.desire-done.ensures.err c.desire-done.ensures.pool in
    on_ok_weaker c.desire-done.result
    (λ is. rows_let_go next c.desire-done.new.live c.desire-done.new.pool c.let_go.new.pool id held_r c.let_go.ensures.uses c.let_go.ensures.values ∙ is
    ∙ ap (λ (v : Option OutAttrs). with_row c.args.g (with_sub (desiring c.args.key.now v)) (rows_in c.args.pool.now c.args.live.now)) c.in_ok-id.ensures.value)
    (rows_after q c.desire-done.new.pool c.args.live.now c.desire-done.new.live c.args.g change next id held_q c.desire-done.result (rows_in c.args.pool.now c.args.live.now)
    (rows_taken_up next c.args.live.now c.args.pool.now q known.1 c.in_ok-id.ensures.others) c.desire-done.ensures.ok)
