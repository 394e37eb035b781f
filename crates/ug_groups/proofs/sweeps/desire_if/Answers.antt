use Rattle.std.specs.Prelude.{IfSome}
use Rattle.std.proofs.Common.{refl, sym, subst, ◌∙◌}
use Rattle.std.proofs.lemmas.Result.{on_ok_weaker}
use Rattle.ug_outbound.specs.declared.key.GroupKey.{GroupKey}
use Rattle.ug_pack.specs.Ready.{IsKeyOf}
use Rattle.ug_groups.specs.Values.{valued_by}
use Rattle.ug_groups.specs.Standings.{desiring}
use Rattle.ug_groups.specs.Rows.{with_sub}
use Rattle.ug_groups.specs.Entries.{key_of, rows_in}
use Rattle.ug_groups.proofs.Accounts.{kept_after, rows_after, class_after, value_after, other_class, own_key, same_class}
use Rattle.ug_groups.proofs.sweeps.desire_if.Goals as goal

pub returns-then-at-class-clause-rows : goal.returns-then-at-class-clause-rows
returns-then-at-class-clause-rows c group of_class =
    other_class c.args.class group (desiring c.args.key.now (valued_by c.args.pool.now c.args.id)) c.args.pool.now c.args.live.now c.args.g c.at.result.now c.at.ensures of_class c.if-at-class.true

pub desire-requires-clause-own : goal.desire-requires-clause-own
desire-requires-clause-own c =
    let known = c.requires.class in
    subst (λ o. IfSome o (λ e. IsKeyOf (key_of e).family (key_of e).add_path c.args.key.now)) (sym c.at.ensures)
    (subst (λ (k : GroupKey). IsKeyOf k.family k.add_path c.args.key.now)
    (sym (own_key c.args.class known.0 (λ x. x) c.args.pool.now c.args.live.now c.args.g c.at.result.now c.at.ensures known.1 c.if-at-class.false)) known.2)

pub returns-clause-kept : goal.returns-clause-kept
returns-clause-kept c next kept =
    kept_after c.args.pool.now c.desire.new.pool c.args.live.now c.desire.new.live c.args.g (with_sub (desiring c.args.key.now (valued_by c.args.pool.now c.args.id))) next c.args.id kept c.desire.result c.desire.ensures.ok c.desire.ensures.err c.desire.ensures.pool

pub returns-clause-class : goal.returns-clause-class
returns-clause-class c group of_class =
    class_after c.desire.result c.args.pool.now c.desire.new.pool c.args.live.now c.desire.new.live c.args.g (with_sub (desiring c.args.key.now (valued_by c.args.pool.now c.args.id))) c.desire.ensures.ok c.desire.ensures.err c.args.class group of_class

pub returns-clause-value : goal.returns-clause-value
returns-clause-value c =
    let known = c.requires.kept in
    value_after c.desire.result c.args.pool.now c.desire.new.pool c.args.live.now c.desire.new.live c.args.g (with_sub (desiring c.args.key.now (valued_by c.args.pool.now c.args.id))) c.desire.ensures.ok c.desire.ensures.pool c.args.id known.0 known.1

pub returns-clause-rows : goal.returns-clause-rows
returns-clause-rows c =
    let known = c.requires.kept in let change = desiring c.args.key.now (valued_by c.args.pool.now c.args.id) in
    on_ok_weaker c.desire.result
    (λ is group of_class. is ∙ same_class c.args.class group change c.args.pool.now c.args.live.now c.args.g c.at.result.now c.at.ensures of_class c.if-at-class.false)
    (rows_after c.args.pool.now c.desire.new.pool c.args.live.now c.desire.new.live c.args.g (with_sub change) known.0 c.args.id known.1 c.desire.result (rows_in c.args.pool.now c.args.live.now) refl c.desire.ensures.ok)
