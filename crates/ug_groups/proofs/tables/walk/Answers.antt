use Rattle.std.specs.Prelude.{IfSome}
use Rattle.std.proofs.Common.{◌≡◌, sym, subst}
use Rattle.ug_types.specs.declared.route.OutAttrs.{OutAttrs}
use Rattle.ug_intern.specs.Pools.{Pooled}
use Rattle.ug_pack.specs.Ready.{key_order}
use Rattle.ug_adjout.specs.Tables.{value_at}
use Rattle.ug_groups.specs.Standings.{desiring}
use Rattle.ug_groups.specs.Rows.{with_sub}
use Rattle.ug_groups.specs.Entries.{Entries, key_of, IsKept}
use Rattle.ug_groups.specs.Walks.{desired_in}
use Rattle.ug_groups.proofs.Accounts.{kept_done}
use Rattle.ug_groups.proofs.WalkTables.{walking_start, walking_smaller, walking_step, walking_end}
use Rattle.ug_groups.proofs.tables.walk.Goals as goal

pub loop-key-init : goal.loop-key-init
loop-key-init c = record { kept = λ next hand k. k; walking = walking_start c.args.pool.now c.args.live.now c.args.g c.args.from c.requires.there c.requires.other }

pub next_of-requires-clause-kept : goal.next_of-requires-clause-kept
next_of-requires-clause-kept c = let known = c.requires.kept in (known.0, known.1, c.loop-key.invariant.kept known.0 known.1 known.2)

pub desire_like-requires-clause-kept : goal.desire_like-requires-clause-kept
desire_like-requires-clause-kept c = let known = c.requires.kept in (known.0, known.1, c.loop-key.invariant.kept known.0 known.1 known.2)

pub desire_like-requires-clause-family : goal.desire_like-requires-clause-family
desire_like-requires-clause-family c =
    let w = c.loop-key.invariant.walking in
    subst (λ o. IfSome o (λ f. c.in-Some.key.prefix.family ≡ (key_of f).family)) (sym w.other_now) (c.in-Some.ensures.own w.other w.other_now).family_is

pub returns-in_err-desire_like-clause-kept : goal.returns-in_err-desire_like-clause-kept
returns-in_err-desire_like-clause-kept c next hand kept =
    subst (λ (q : Pooled OutAttrs). IsKept next hand q c.desire_like.new.live) (sym c.in_err-desire_like.ensures.pool)
    (subst (λ (zs : Entries). IsKept next hand c.loop-key.pool zs) (sym c.in_err-desire_like.ensures.err) (c.loop-key.invariant.kept next hand kept))

pub loop-key-smaller : goal.loop-key-smaller
loop-key-smaller c =
    let w = c.loop-key.invariant.walking in
    walking_smaller c.args.pool.now c.args.live.now c.args.g c.args.from c.loop-key.pool c.loop-key.live c.loop-key.at w c.requires.apart c.in-Some.key (c.in-Some.ensures.next w.now w.other w.now_there w.other_now)

pub loop-key-preserved : goal.loop-key-preserved
loop-key-preserved c =
    let inv = c.loop-key.invariant in let w = inv.walking in let known = c.requires.kept in let key = c.in-Some.key in
    let done = c.in_ok-desire_like.ensures.ok w.other w.other_now in
    record {
      kept = λ next hand kept. kept_done c.loop-key.pool c.desire_like.new.pool c.loop-key.live c.desire_like.new.live c.args.g (with_sub (desiring key (value_at key_order (desired_in c.loop-key.pool w.other) key))) done next hand (inv.kept next hand kept);
      walking = walking_step c.args.pool.now c.args.live.now c.args.g c.args.from c.loop-key.pool c.loop-key.live c.loop-key.at w c.requires.apart known.0 known.1 (inv.kept known.0 known.1 known.2) key
          (c.in-Some.ensures.next w.now w.other w.now_there w.other_now) (c.in-Some.ensures.own w.other w.other_now).family_is c.desire_like.new.pool c.desire_like.new.live done;
    }

pub returns-clause-ok : goal.returns-clause-ok
returns-clause-ok c =
    let w = c.loop-key.invariant.walking in
    walking_end c.args.pool.now c.args.live.now c.args.g c.args.from c.loop-key.pool c.loop-key.live c.loop-key.at w c.requires.apart (c.in_default.ensures.next w.now w.other w.now_there w.other_now)
