-- The turn of a peer that leaves.
use Rattle.std.proofs.Common.{◌≡◌, ℕ, List, Option, Some, None, refl, sym, ap, subst, ◌∙◌, arith}
use Rattle.std.specs.Option.{option_map}
use Rattle.ug_outbound.specs.declared.key.GroupKey.{GroupKey}
use Rattle.ug_world.specs.World.{World}
use Rattle.ug_speaker.specs.Places.{change_at}
use Rattle.ug_group_rules.specs.Machine as machine
use Rattle.ug_group_rules.specs.Machine.{Seat, Leaves}
use Rattle.ug_groups.specs.Rows.{Rows, with_row, left_row}
use Rattle.ug_groups.specs.declared.member.Member.{Member}
use Rattle.ug_groups.specs.Members.{seat_in, system, sub_at}
use Rattle.ug_groups.specs.Kept.{AreRows}
use Rattle.ug_groups.specs.Changes.{with_sub, unless_left, left_rows}
use Rattle.ug_groups.specs.Turns.{IsBeside, IsTurned}
use Rattle.ug_groups.proofs.ListFacts.{length-changed}
use Rattle.ug_groups.proofs.MemberViews.{sub-some}
use Rattle.ug_groups.proofs.Keeping.{sub-moved, room-moved, counted-moved}
use Rattle.ug_groups.proofs.Left.{unseated, left-seated, left-inhabited, left-tabled, left-own, left-rests, left-view}
use Rattle.ug_groups.proofs.TurnKept.{seat-view}

-- who sits nowhere changes nothing by leaving
pub left-nowhere : (p : ℕ) (w : World) (key : GroupKey) (rows : Rows) (members : List Member) → IsBeside p w rows members → sub_at p members ≡ None → IsTurned Leaves p key w rows members rows members
left-nowhere p w key rows members beside none = record {
  state = λ closed made. sym (ap (λ (o : Option Seat). machine.leave p o (system w closed made rows members)) (seat-view p w closed made rows members ∙ ap (option_map (seat_in rows p)) none));
  beside = beside;
  own = λ g r sits is. absurd (let clash : None ≡ Some g = sym none ∙ sits in cc);
  remains = λ g sits. let clash : None ≡ Some g = sym none ∙ sits in absurd cc;
  counted = λ made all. all;
}

module _ (p : ℕ) (w : World) (key : GroupKey) (rows : Rows) (members : List Member) (each : AreRows rows) (beside : IsBeside p w rows members) where
  left-somewhere : (g : ℕ) → sub_at p members ≡ Some g → IsTurned Leaves p key w rows members (unless_left g (with_row g (left_row p) rows)) (change_at (with_sub None) p members)
  left-somewhere g sits =
      let found = sub-some p g members sits in
      let gone : sub_at p (change_at (with_sub None) p members) ≡ None = sub-moved p None members found.0 found.1 in
      record {
        state = λ closed made. left-view p rows members beside.seated each g sits w closed made;
        beside = record {
          good = beside.good;
          peers = beside.peers;
          all = length-changed (with_sub None) p members ∙ beside.all;
          seated = left-seated p rows members beside.seated each g sits;
          inhabited = left-inhabited p rows members beside.seated each g sits beside.inhabited;
          tabled = left-tabled p rows members beside.seated each g sits w beside.tabled;
          own = λ q h s r apart peer at is. left-own p rows members beside.seated each g sits w beside.own q h s r peer at is;
          room = room-moved p None members w beside.room;
        };
        own = λ h r at is. absurd (let clash : None ≡ Some h = sym gone ∙ at in cc);
        remains = λ h at. let clash : None ≡ Some h = sym gone ∙ at in absurd cc;
        counted = λ made all.
            counted-moved p None members made rows (unless_left g (with_row g (left_row p) rows)) (λ m is. omega arith)
            (left-rests p rows members beside.seated each g sits) all;
      }

  pub left-done : (rows' : Rows) (members' : List Member) → rows' ≡ left_rows p (sub_at p members) rows → members' ≡ change_at (with_sub None) p members → IsTurned Leaves p key w rows members rows' members'
  left-done rows' members' rows_are members_are =
      subst (λ (l : Rows). IsTurned Leaves p key w rows members l members') (sym rows_are)
      (subst (λ (l : List Member). IsTurned Leaves p key w rows members (left_rows p (sub_at p members) rows) l) (sym members_are) (by (sub_at p members) refl))
    where
      by : (o : Option ℕ) → sub_at p members ≡ o → IsTurned Leaves p key w rows members (left_rows p o rows) (change_at (with_sub None) p members)
      by None none = subst (λ (l : List Member). IsTurned Leaves p key w rows members rows l) (sym (unseated p members none)) (left-nowhere p w key rows members beside none)
      by (Some g) sits = left-somewhere g sits
