-- Another event has passed: each full queue with keys pending has stood through one more.
use Rattle.std.proofs.Common.{◌≡◌, ℕ, ◌+◌, ◌<◌, ◌≤◌, Bool, ◌&&◌, List, length, slice_get, Option, Some, None, refl, sym, ap, subst, ◌∙◌, arith}
use Rattle.std.specs.Prelude.{nat_le, if◌then◌else◌}
use Rattle.std.specs.Option.{option_map}
use Rattle.std.proofs.lemmas.Option.{slice_get-map}
use Rattle.ug_world.specs.World.{World}
use Rattle.ug_group_rules.specs.Machine as machine
use Rattle.ug_group_rules.specs.Machine.{System, Subgroup, with_counts, counted, counted_from, is_full, is_pending, there}
use Rattle.ug_group_rules.specs.Rules.{rest_due}
use Rattle.ug_group_rules.proofs.Retabling.{counted-at}
use Rattle.ug_groups.specs.Rows.{Row, Rows, row_at, any_at, sub_of, subs_of, each_row, counted_row, is_full_row}
use Rattle.ug_groups.specs.declared.member.Member.{Member}
use Rattle.ug_groups.specs.Members.{rest_in, member_of, members_from, system, is_queued, stands}
use Rattle.ug_groups.specs.Kept.{AreSeated, AreTabled, IsTabled, IsOwn, IsKept, AreRows}
use Rattle.ug_groups.proofs.ListFacts.{same-lists}
use Rattle.ug_groups.proofs.RowsAt.{each-at, each-cases}
use Rattle.ug_groups.proofs.MemberViews.{same-member, none-changed}
use Rattle.ug_groups.proofs.RowTests.{queued-is}

module _ (w : World) (rows : Rows) (members : List Member) where
  abbrev pub passed_rows : Rows
  passed_rows = each_row counted_row rows

  rest-passed : (q g : ℕ) → rest_in q (row_at g passed_rows) ≡ rest_in q (row_at g rows)
  rest-passed q g = ap (rest_in q) (each-at g counted_row rows) ∙ by (row_at g rows)
    where
      by : (o : Option Row) → rest_in q (option_map counted_row o) ≡ rest_in q o
      by None = refl
      by (Some r) = refl

  member-passed : (q : ℕ) (m : Member) → member_of passed_rows q m ≡ member_of rows q m
  member-passed q m = same-member rows passed_rows q m (λ g sub. rest-passed q g)

  stands-passed : (q g : ℕ) → stands q g passed_rows ≡ stands q g rows
  stands-passed q g = ap (any_at (is_queued q)) (each-at g counted_row rows) ∙ by (row_at g rows)
    where
      by : (o : Option Row) → any_at (is_queued q) (option_map counted_row o) ≡ any_at (is_queued q) o
      by None = refl
      by (Some r) = refl

  module _ (seats : AreSeated rows members) (tabled : AreTabled w rows) (each : AreRows rows) (closed : Bool) (made : ℕ) where
    abbrev s : System
    s = system w closed made rows members

    full-is : (g : ℕ) (r : Row) → row_at g rows ≡ Some r → is_full_row r ≡ is_full s g
    full-is g r at =
        ap (λ (n : ℕ). nat_le n (length r.queue.packets)) (tabled g r at).limit
        ∙ ap (nat_le w.local.queue_limit) (sym (queued-is rows members seats g r at (each g r at)))

    one-passed : (g : ℕ) (o : Option (Option Row)) → slice_get rows g ≡ o → option_map (option_map sub_of) (option_map (option_map counted_row) o) ≡ option_map (option_map (counted s g)) (option_map (option_map sub_of) o)
    one-passed g None at = refl
    one-passed g (Some None) at = refl
    one-passed g (Some (Some r)) at =
        ap (λ (b : Bool). Some (Some (record r.sub { stuck = if b && is_pending r.sub then r.sub.stuck + 1 else 0 }))) (full-is g r (ap (λ (o : Option (Option Row)). there o) at))

    subs-passed : subs_of passed_rows ≡ counted_from s 0 (subs_of rows)
    subs-passed =
        same-lists (subs_of passed_rows) (counted_from s 0 (subs_of rows))
        (λ g.
        slice_get-map (option_map sub_of) passed_rows g ∙ ap (option_map (option_map sub_of)) (slice_get-map (option_map counted_row) rows g)
        ∙ one-passed g (slice_get rows g) refl
        ∙ sym (counted-at s 0 (subs_of rows) g ∙ ap (λ (k : ℕ). option_map (option_map (counted s k)) (slice_get (subs_of rows) g)) (from_zero g)
        ∙ ap (option_map (option_map (counted s g))) (slice_get-map (option_map sub_of) rows g)))
      where
        from_zero : (g : ℕ) → 0 + g ≡ g
        from_zero g = omega arith

    pub passed-view : system w closed made passed_rows members ≡ with_counts (system w closed made rows members)
    passed-view =
        ap (λ (l : List (Option Subgroup)). record { world = w; closed = closed; made = made; subgroups = l; members = members_from passed_rows 0 members }) subs-passed
        ∙ ap (λ (l : List machine.Member). record s { subgroups = counted_from s 0 (subs_of rows); members = l }) (none-changed rows passed_rows members (λ q m at. member-passed q m))

  -- it keeps all that is kept
  pub passed-kept : (closed : Bool) (made : ℕ) → IsKept w closed made rows members → IsKept w closed made passed_rows members
  passed-kept closed made kept = record {
    good = kept.good;
    peers = kept.peers;
    all = kept.all;
    within = kept.within;
    seated = λ q g. stands-passed q g ∙ kept.seated q g;
    inhabited = λ g r at. let found = each-cases g counted_row rows r at in subst (λ (x : Row). 0 < length x.queue.places) (sym found.2) (kept.inhabited g found.0 found.1);
    tabled = λ g r at.
        let found = each-cases g counted_row rows r at in
        let was = kept.tabled g found.0 found.1 in
        subst (IsTabled w) (sym found.2) (record { desires = was.desires; limit = was.limit });
    own = λ q g x r peer sits at.
        let found = each-cases g counted_row rows r at in
        let was = kept.own q g x found.0 peer sits found.1 in
        subst (IsOwn w x) (sym found.2) (record { up = was.up; key = was.key });
    room = kept.room;
    counted = λ q m at. subst (λ (x : machine.Member). m.handed + rest_due x.seat ≤ made) (sym (member-passed q m)) (kept.counted q m at);
  }
