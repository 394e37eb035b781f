use Rattle.std.specs.Prelude.{None, Option, ◌^◌, ◌==◌}
use Rattle.std.proofs.Common.{ap, ◌∙◌, arith}
use Rattle.std.proofs.lemmas.Result.{on_ok_weaker}
use Rattle.ug_types.specs.declared.route.OutAttrs.{OutAttrs}
use Rattle.ug_groups.specs.Values.{valued_by}
use Rattle.ug_groups.specs.Standings.{desiring}
use Rattle.ug_groups.specs.declared.entry.Entry.{Entry}
use Rattle.ug_groups.specs.Rows.{Rows, each_row, of_key}
use Rattle.ug_groups.specs.Entries.{key_of, rows_in}
use Rattle.ug_groups.specs.Sweeps.{IsClassOf}
use Rattle.ug_groups.proofs.Accounts.{room_in, room_less}
use Rattle.ug_groups.proofs.Dones.{one_there}
use Rattle.ug_groups.proofs.InHand.{kept_taken_up, kept_let_go, rows_taken_up, rows_let_go}
use Rattle.ug_groups.proofs.desires.desire_class.Goals as goal

pub take-requires : goal.take-requires
take-requires c = let known = c.requires.kept in room_less 1 (2 ^ 66) c.args.pool.now (omega arith) (room_in c.args.pool.now c.args.live.now (known.0, None, known.1))

pub returns-clause-kept : goal.returns-clause-kept
returns-clause-kept c next kept =
    let q = c.take.new.pool in let id = c.in_ok-id.id in
    kept_let_go next c.desire_each-done.new.live c.desire_each-done.new.pool c.let_go.new.pool id
    (c.desire_each-done.ensures.kept next (kept_taken_up next c.args.live.now c.args.pool.now q id kept c.in_ok-id.ensures.uses)) c.let_go.ensures.uses

pub returns-clause-rows : goal.returns-clause-rows
returns-clause-rows c =
    let known = c.requires.kept in let q = c.take.new.pool in let id = c.in_ok-id.id in let next = known.0 in let live = c.args.live.now in
    let held_r = c.desire_each-done.ensures.kept next (kept_taken_up next live c.args.pool.now q id known.1 c.in_ok-id.ensures.uses) in
    on_ok_weaker c.desire_each-done.result
    (λ is e there.
    let same = one_there live c.args.g c.at.result.now e c.at.ensures there in
    let of_class : IsClassOf live c.at.result.now.class (key_of e) = λ h f is_f. ap (λ (x : Entry). f.class == x.class) same ∙ known.1.classed.alike h c.args.g f e is_f there in
    rows_let_go next c.desire_each-done.new.live c.desire_each-done.new.pool c.let_go.new.pool id held_r c.let_go.ensures.uses c.let_go.ensures.values
    ∙ is (key_of e) of_class
    ∙ ap (λ (rs : Rows). each_row (of_key (key_of e) (desiring c.args.key.now (valued_by q id))) rs) (rows_taken_up next live c.args.pool.now q known.1 c.in_ok-id.ensures.others)
    ∙ ap (λ (v : Option OutAttrs). each_row (of_key (key_of e) (desiring c.args.key.now v)) (rows_in c.args.pool.now live)) c.in_ok-id.ensures.value)
    c.desire_each-done.ensures.rows
