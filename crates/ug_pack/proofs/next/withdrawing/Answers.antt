use Rattle.std.proofs.Common.{◌≡◌, ℕ, ◌≤◌, List, sym, ap, subst, ◌∙◌}
use Rattle.ug_types.specs.declared.family.Family.{Family}
use Rattle.ug_types.specs.Keys.{weight_of}
use Rattle.ug_message.specs.Spellable.{are_of_family}
use Rattle.ug_update.specs.Updates.{weight_of_all}
use Rattle.ug_adjout.specs.Formatting.{fitting, withdrawals}
use Rattle.ug_pack.specs.Rooms.{room, withdrawal_bytes}
use Rattle.ug_pack.specs.Ready.{key_order, IsKeyOf}
use Rattle.ug_pack.proofs.Fits.{room_fits, room_least}
use Rattle.ug_pack.proofs.Keys.{key_total, key_exact}
use Rattle.ug_pack.proofs.Owed.{withdrawn_all}
use Rattle.ug_pack.proofs.Runs.{IsRun, run}
use Rattle.ug_pack.proofs.next.withdrawing.Goals as goal

the_run : (g : _) (c : goal.After-as_slice g) → IsRun c.args.first.now.prefix.family (room c.args.first.now.prefix.family c.args.limit) c.as_slice.result.now
the_run g c =
    let first = c.args.first.now in
    let keys = withdrawals key_order (g.R.Routes.adj c.args.adj.now) in
    run first.prefix.family c.requires.keys.0 keys c.as_slice.result.now (room first.prefix.family c.args.limit) first
    (c.as_slice.ensures ∙ c.in_ok-keys.ensures ∙ ap (λ (n : ℕ). fitting weight_of n keys) (c.room.ensures ∙ ap (λ (f : Family). room f c.args.limit) c.family_of-family.ensures))
    c.requires.first c.know_weight.ensures (room_least first.prefix.family c.args.limit c.requires.least)
    (withdrawn_all key_total key_exact (g.R.Routes.adj c.args.adj.now) (IsKeyOf first.prefix.family c.requires.keys.0) c.requires.keys.1)

pub withdrawal-requires-clause-some : goal.withdrawal-requires-clause-some
withdrawal-requires-clause-some g c = (the_run g c).some

pub withdrawal-requires-clause-alike : goal.withdrawal-requires-clause-alike
withdrawal-requires-clause-alike g c = (the_run g c).alike

pub withdrawal-requires-clause-family : goal.withdrawal-requires-clause-family
withdrawal-requires-clause-family g c = ap (λ (f : Family). are_of_family f c.as_slice.result.now) c.family_of-family.ensures ∙ (the_run g c).of_family

pub withdrawal-requires-clause-short : goal.withdrawal-requires-clause-short
withdrawal-requires-clause-short g c =
    subst (λ (f : Family). withdrawal_bytes f (weight_of_all c.as_slice.result.now) ≤ c.args.limit) (sym c.family_of-family.ensures)
    (room_fits c.args.first.now.prefix.family c.args.limit (weight_of_all c.as_slice.result.now) c.requires.least (the_run g c).fits)
