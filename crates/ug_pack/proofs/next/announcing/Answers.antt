use Rattle.std.proofs.Common.{◌≡◌, ℕ, ◌≤◌, nat_eq, List, sym, ap, subst, ◌∙◌}
use Rattle.ug_types.specs.declared.family.Family.{Family}
use Rattle.ug_types.specs.Keys.{weight_of}
use Rattle.ug_message.specs.Spellable.{are_of_family}
use Rattle.ug_update.specs.Updates.{weight_of_all}
use Rattle.ug_adjout.specs.Formatting.{fitting, alike}
use Rattle.ug_pack.specs.Rooms.{room_beside, announcement_bytes}
use Rattle.ug_pack.specs.Ready.{key_order, IsKeyOf}
use Rattle.ug_pack.proofs.Fits.{beside_fits, beside_least}
use Rattle.ug_pack.proofs.Keys.{key_total, key_exact}
use Rattle.ug_pack.proofs.Owed.{alike_all}
use Rattle.ug_pack.proofs.Runs.{IsRun, run}
use Rattle.ug_pack.proofs.next.announcing.Goals as goal

the_run : (g : _) (c : goal.After-as_slice g) → IsRun c.args.first.now.prefix.family (room_beside c.args.first.now.prefix.family c.args.limit c.args.out.now.attrs) c.as_slice.result.now
the_run g c =
    let first = c.args.first.now in
    let attrs = c.args.out.now.attrs in
    let keys = alike key_order nat_eq (g.R.Routes.adj c.args.adj.now) in
    run first.prefix.family c.requires.keys.0 keys c.as_slice.result.now (room_beside first.prefix.family c.args.limit attrs) first
    (c.as_slice.ensures ∙ c.in_ok-keys.ensures ∙ ap (λ (n : ℕ). fitting weight_of n keys) (c.room_beside.ensures ∙ ap (λ (f : Family). room_beside f c.args.limit attrs) c.family_of-family.ensures))
    c.requires.first c.know_weight.ensures (beside_least first.prefix.family c.args.limit attrs c.requires.least c.requires.sendable.short)
    (alike_all key_total key_exact (g.R.Routes.adj c.args.adj.now) (IsKeyOf first.prefix.family c.requires.keys.0) c.requires.keys.1)

pub announcement-requires-clause-some : goal.announcement-requires-clause-some
announcement-requires-clause-some g c = (the_run g c).some

pub announcement-requires-clause-alike : goal.announcement-requires-clause-alike
announcement-requires-clause-alike g c = (the_run g c).alike

pub announcement-requires-clause-family : goal.announcement-requires-clause-family
announcement-requires-clause-family g c = ap (λ (f : Family). are_of_family f c.as_slice.result.now) c.family_of-family.ensures ∙ (the_run g c).of_family

pub announcement-requires-clause-short : goal.announcement-requires-clause-short
announcement-requires-clause-short g c =
    subst (λ (f : Family). announcement_bytes f c.args.out.now.attrs (weight_of_all c.as_slice.result.now) ≤ c.args.limit) (sym c.family_of-family.ensures)
    (beside_fits c.args.first.now.prefix.family c.args.limit c.args.out.now.attrs (weight_of_all c.as_slice.result.now) c.requires.least c.requires.sendable.short (the_run g c).fits)
