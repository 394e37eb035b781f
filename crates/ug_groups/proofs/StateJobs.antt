-- What is known of the parts of a state where a job of its own may be done.
use Rattle.std.proofs.Common.{◌≡◌, ℕ, ◌⊎◌, inl, inr, Bool, true, false, List, [], refl, sym, ap, subst, ◌∙◌}
use Rattle.std.specs.Prelude.{◌==◌, ◌&&◌, not, nat_lt, is_none}
use Rattle.ug_events.specs.Events.{Happening, IsEvent}
use Rattle.ug_world.specs.Verdicts.{verdict}
use Rattle.ug_world.specs.After.{after}
use Rattle.ug_world.specs.Good.{IsGoodWorld}
use Rattle.ug_groups.proofs.FreshMembers.{spent-kept, peers-after}
use Rattle.ug_world.specs.World.{World}
use Rattle.ug_group_rules.specs.Machine as machine
use Rattle.ug_group_rules.specs.Machine.{System, legal, may_format, may_merge, must_part, is_settled}
use Rattle.ug_groups.specs.Rows.{Row, Rows, row_at, any_at, may_format_row, may_merge_rows, must_part_row}
use Rattle.ug_groups.specs.declared.member.Member.{Member}
use Rattle.ug_groups.specs.Members.{system}
use Rattle.ug_groups.specs.Kept.{IsKept, AreRows}
use Rattle.ug_groups.proofs.Seats.{first-of, second-of}
use Rattle.ug_groups.proofs.SystemTests.{may-format-is, may-merge-is, must-part-is}

not-true : (b : Bool) → not b ≡ true → b ≡ false
not-true true e = absurd cc
not-true false e = refl

-- a job that is legal finds it open
pub open-of : (a b : Bool) → (a && not b) ≡ true → b ≡ false
open-of a b e = not-true b (second-of a (not b) e)

-- what was taken out is put back
pub same-kept : (w : World) (closed : Bool) (made : ℕ) (rows new : Rows) (members now : List Member) → IsKept w closed made rows members → closed ≡ false → new ≡ rows → now ≡ members → IsKept w false made new now
same-kept w closed made rows new members now kept is rows_are members_are =
    subst (λ (l : Rows). IsKept w false made l now) (sym rows_are)
    (subst (λ (l : List Member). IsKept w false made rows l) (sym members_are) (subst (λ (b : Bool). IsKept w b made rows members) is kept))

pub same-view : (w : World) (closed : Bool) (made : ℕ) (rows new : Rows) (members now : List Member) (s : System) → system w closed made rows members ≡ s → closed ≡ false → new ≡ rows → now ≡ members → system w false made new now ≡ s
same-view w closed made rows new members now s view is rows_are members_are =
    ap (λ (l : Rows). system w false made l now) rows_are ∙ ap (λ (l : List Member). system w false made rows l) members_are ∙ ap (λ (b : Bool). system w b made rows members) (sym is) ∙ view

module _ (w : World) (closed : Bool) (made : ℕ) (rows : Rows) (members : List Member) (s : System) (view : system w closed made rows members ≡ s) (kept : IsKept w closed made rows members) (new : Rows) (rows_are : new ≡ rows) (each : AreRows new) where
  each_row : AreRows rows
  each_row = subst AreRows rows_are each

  closed_is : (a : Bool) → (a && not s.closed) ≡ true → closed ≡ false
  closed_is a e = ap (λ (x : System). x.closed) view ∙ open-of a s.closed e

  pub format-open : (g : ℕ) → legal (machine.Format g) s ≡ true → closed ≡ false
  format-open g e = closed_is (may_format s g) e

  pub format-may : (g : ℕ) → legal (machine.Format g) s ≡ true → any_at may_format_row (row_at g new) ≡ true
  format-may g e =
      ap (λ (l : Rows). any_at may_format_row (row_at g l)) rows_are
      ∙ sym (may-format-is w closed made rows members kept each_row g) ∙ ap (λ (x : System). may_format x g) view ∙ first-of (may_format s g) (not s.closed) e

  pub merge-open : (g h : ℕ) → legal (machine.Merge g h) s ≡ true → closed ≡ false
  merge-open g h e = closed_is (may_merge s g h) e

  both_may : (g h : ℕ) → legal (machine.Merge g h) s ≡ true → (not (g == h) && any_at (λ (r : Row). any_at (λ (x : Row). may_merge_rows r x) (row_at h new)) (row_at g new)) ≡ true
  both_may g h e =
      ap (λ (l : Rows). not (g == h) && any_at (λ (r : Row). any_at (λ (x : Row). may_merge_rows r x) (row_at h l)) (row_at g l)) rows_are
      ∙ sym (may-merge-is w closed made rows members kept each_row g h) ∙ ap (λ (x : System). may_merge x g h) view ∙ first-of (may_merge s g h) (not s.closed) e

  pub merge-other : (g h : ℕ) → legal (machine.Merge g h) s ≡ true → (g == h) ≡ false
  merge-other g h e = not-true (g == h) (first-of (not (g == h)) (any_at (λ (r : Row). any_at (λ (x : Row). may_merge_rows r x) (row_at h new)) (row_at g new)) (both_may g h e))

  pub merge-may : (g h : ℕ) → legal (machine.Merge g h) s ≡ true → any_at (λ (r : Row). any_at (λ (x : Row). may_merge_rows r x) (row_at h new)) (row_at g new) ≡ true
  merge-may g h e = second-of (not (g == h)) (any_at (λ (r : Row). any_at (λ (x : Row). may_merge_rows r x) (row_at h new)) (row_at g new)) (both_may g h e)

  pub slow-open : (g : ℕ) → legal (machine.Slow g) s ≡ true → closed ≡ false
  slow-open g e = closed_is (must_part s g) e

  pub slow-may : (g : ℕ) → legal (machine.Slow g) s ≡ true → any_at (must_part_row w.local.slow_after) (row_at g new) ≡ true
  slow-may g e =
      ap (λ (l : Rows). any_at (must_part_row w.local.slow_after) (row_at g l)) rows_are
      ∙ sym (must-part-is w closed made rows members kept each_row g) ∙ ap (λ (x : System). must_part x g) view ∙ first-of (must_part s g) (not s.closed) e

-- ---- an event

third-of : (a b c d : Bool) → (a && (b && (c && d))) ≡ true → d ≡ true
third-of a b c d e = second-of c d (second-of b (c && d) (second-of a (b && (c && d)) e))

pub take-open : (w : World) (closed : Bool) (made : ℕ) (rows : Rows) (members : List Member) (s : System) → system w closed made rows members ≡ s → (e : Happening) → legal (machine.Take e) s ≡ true → closed ≡ false
take-open w closed made rows members s view e so =
    ap (λ (x : System). x.closed) view ∙ not-true s.closed (third-of (is_none (verdict s.world e)) (nat_lt s.world.version 4294967295) (is_settled s) (not s.closed) so)

-- what is left where memory ran out
pub spent-after : (w new : World) (closed : Bool) (made : ℕ) (rows then_rows : Rows) (members then_members : List Member) (e : Happening) → IsKept w closed made rows members → IsEvent e
    → ((w : World) (e : Happening) → IsGoodWorld w → IsEvent e → IsGoodWorld (after w e)) → (new ≡ w) ⊎ (new ≡ after w e) → then_rows ≡ [] → then_members ≡ [] → IsKept new true made then_rows then_members
spent-after w new closed made rows then_rows members then_members e kept form law either none nobody =
    subst (λ (l : Rows). IsKept new true made l then_members) (sym none) (subst (λ (l : List Member). IsKept new true made [] l) (sym nobody)
    (elim either [
      | inl same ↦ subst (λ (v : World). IsKept v true made [] []) (sym same) (spent-kept w made kept.good kept.peers)
      | inr next ↦ subst (λ (v : World). IsKept v true made [] []) (sym next) (spent-kept (after w e) made (law w e kept.good form) (peers-after e w kept.peers))
    ]))
