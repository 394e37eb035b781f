-- What may be done, and what has to be done first, by tests of rows.
use Rattle.std.proofs.Common.{◌≡◌, ℕ, suc, ◌+◌, Bool, true, false, List, [], ◌∷◌, length, slice_get, Option, Some, None, refl, sym, ap, subst, ◌∙◌, arith}
use Rattle.std.specs.Prelude.{nat_le, ◌==◌, ◌&&◌, ◌||◌, not}
use Rattle.std.specs.Option.{option_map}
use Rattle.std.proofs.lemmas.Option.{slice_get-map}
use Rattle.ug_world.specs.World.{World}
use Rattle.ug_group_rules.specs.Packets.{same_group}
use Rattle.ug_group_rules.specs.Machine.{System, Subgroup, there, is_there, is_so, any_from, some_so, queued, is_full, is_parted, is_pending, is_level, owes, may_format, may_merge, must_part, is_ordered, is_turn, is_settled, are_quiet, is_drained}
use Rattle.ug_groups.specs.Rows.{Row, Rows, row_at, any_at, sub_of, subs_of, is_full_row, may_format_row, may_merge_rows, must_part_row, any_row, some_row, some_merge}
use Rattle.ug_groups.specs.declared.member.Member.{Member}
use Rattle.ug_groups.specs.Members.{system}
use Rattle.ug_groups.specs.Kept.{IsKept, AreRows}
use Rattle.ug_groups.proofs.RowTests.{queued-is, parted-is}

any-rows : (test : ℕ → Subgroup → Bool) (test' : ℕ → Row → Bool) (k : ℕ) (xs : Rows) → ((g : ℕ) (r : Row) → there (slice_get xs g) ≡ Some r → test (k + g) r.sub ≡ test' (k + g) r) → any_from test k (subs_of xs) ≡ any_row test' k xs
any-rows test test' k [] h = refl
any-rows test test' k (None ∷ xs) h =
    any-rows test test' (k + 1) xs (λ g r is. let e : k + suc g ≡ k + 1 + g = omega arith in subst (λ (n : ℕ). test n r.sub ≡ test' n r) e (h (suc g) r is))
any-rows test test' k (Some x ∷ xs) h =
    let e : k + 0 ≡ k = omega arith in
    let here = subst (λ (n : ℕ). test n x.sub ≡ test' n x) e (h 0 x refl) in
    ap (λ (b : Bool). b || any_from test (k + 1) (subs_of xs)) here
    ∙ ap (λ (b : Bool). test' k x || b)
    (any-rows test test' (k + 1) xs (λ g r is. let e : k + suc g ≡ k + 1 + g = omega arith in subst (λ (n : ℕ). test n r.sub ≡ test' n r) e (h (suc g) r is)))

merge_order : (a b c d : Bool) → ((a && (b && c)) && d) ≡ (a && (b && c) && d)
merge_order true b c d = refl
merge_order false b c d = refl

module _ (w : World) (closed : Bool) (made : ℕ) (rows : Rows) (members : List Member) (kept : IsKept w closed made rows members) (each : AreRows rows) where
  abbrev s : System
  s = system w closed made rows members

  so-is : (g : ℕ) (test : Subgroup → Bool) → is_so s g test ≡ any_at (λ (r : Row). test r.sub) (row_at g rows)
  so-is g test = ap (is_there test) (slice_get-map (option_map sub_of) rows g) ∙ by (slice_get rows g)
    where
      by : (o : Option (Option Row)) → is_there test (option_map (option_map sub_of) o) ≡ any_at (λ (r : Row). test r.sub) (there o)
      by None = refl
      by (Some None) = refl
      by (Some (Some r)) = refl

  queued-row : (g : ℕ) (r : Row) → row_at g rows ≡ Some r → queued g s.members ≡ length r.queue.packets
  queued-row g r is = queued-is rows members kept.seated g r is (each g r is)

  full-is : (g : ℕ) (r : Row) → row_at g rows ≡ Some r → is_full s g ≡ is_full_row r
  full-is g r is = ap (nat_le w.local.queue_limit) (queued-row g r is) ∙ ap (λ (n : ℕ). nat_le n (length r.queue.packets)) (sym (kept.tabled g r is).limit)

  pub may-format-is : (g : ℕ) → may_format s g ≡ any_at may_format_row (row_at g rows)
  may-format-is g = ap (λ (b : Bool). b && not (is_full s g)) (so-is g owes) ∙ by (row_at g rows) refl
    where
      by : (o : Option Row) → row_at g rows ≡ o → (any_at (λ (r : Row). owes r.sub) o && not (is_full s g)) ≡ any_at may_format_row o
      by None is = refl
      by (Some r) is = ap (λ (b : Bool). owes r.sub && not b) (full-is g r is)

  pub may-merge-is : (g h : ℕ) → may_merge s g h ≡ (not (g == h) && any_at (λ (r : Row). any_at (λ (x : Row). may_merge_rows r x) (row_at h rows)) (row_at g rows))
  may-merge-is g h =
      ap (λ (b : Bool). not (g == h) && b) (ap (λ (b : Bool). b && (queued h s.members == 0)) (so-is g (λ x. is_level x && is_so s h (λ y. is_level y && same_group x.key y.key))) ∙ by (row_at g rows))
    where
      inner : (r : Row) (o : Option Row) → row_at h rows ≡ o → ((is_level r.sub && any_at (λ (x : Row). is_level x.sub && same_group r.sub.key x.sub.key) o) && (queued h s.members == 0)) ≡ any_at (λ (x : Row). may_merge_rows r x) o
      inner r None is = none (is_level r.sub) (queued h s.members == 0)
        where
          none : (a b : Bool) → ((a && false) && b) ≡ false
          none true b = refl
          none false b = refl
      inner r (Some x) is =
          ap (λ (n : ℕ). (is_level r.sub && (is_level x.sub && same_group r.sub.key x.sub.key)) && (n == 0)) (queued-row h x is)
          ∙ merge_order (is_level r.sub) (is_level x.sub) (same_group r.sub.key x.sub.key) (length x.queue.packets == 0)

      by : (o : Option Row) → (any_at (λ (r : Row). is_level r.sub && is_so s h (λ y. is_level y && same_group r.sub.key y.key)) o && (queued h s.members == 0)) ≡ any_at (λ (r : Row). any_at (λ (x : Row). may_merge_rows r x) (row_at h rows)) o
      by None = refl
      by (Some r) =
          ap (λ (b : Bool). (is_level r.sub && b) && (queued h s.members == 0)) (so-is h (λ y. is_level y && same_group r.sub.key y.key))
          ∙ inner r (row_at h rows) refl

  pub must-part-is : (g : ℕ) → must_part s g ≡ any_at (must_part_row w.local.slow_after) (row_at g rows)
  must-part-is g = ap (λ (b : Bool). b && (is_full s g && is_parted s g)) (so-is g (λ x. is_pending x && nat_le w.local.slow_after x.stuck)) ∙ by (row_at g rows) refl
    where
      by : (o : Option Row) → row_at g rows ≡ o → (any_at (λ (r : Row). is_pending r.sub && nat_le w.local.slow_after r.sub.stuck) o && (is_full s g && is_parted s g)) ≡ any_at (must_part_row w.local.slow_after) o
      by None is = refl
      by (Some r) is =
          ap (λ (b : Bool). (is_pending r.sub && nat_le w.local.slow_after r.sub.stuck) && (b && is_parted s g)) (full-is g r is)
          ∙ ap (λ (b : Bool). (is_pending r.sub && nat_le w.local.slow_after r.sub.stuck) && (is_full_row r && b)) (sym (parted-is rows members kept.seated g r is (each g r is)))

  -- some of them
  any-is : (test : ℕ → Subgroup → Bool) (test' : ℕ → Row → Bool) → ((g : ℕ) (r : Row) → row_at g rows ≡ Some r → test g r.sub ≡ test' g r) → some_so s test ≡ any_row test' 0 rows
  any-is test test' h = any-rows test test' 0 rows (λ g r is. let e : g ≡ 0 + g = omega arith in subst (λ (n : ℕ). test n r.sub ≡ test' n r) e (h g r is))

  pub some-format-is : some_so s (λ g x. owes x && not (is_full s g)) ≡ some_row may_format_row rows
  some-format-is = any-is (λ g x. owes x && not (is_full s g)) (λ g r. may_format_row r) (λ g r is. ap (λ (b : Bool). owes r.sub && not b) (full-is g r is))

  pub some-owes-is : some_so s (λ g x. owes x) ≡ some_row (λ r. owes r.sub) rows
  some-owes-is = any-is (λ g x. owes x) (λ g r. owes r.sub) (λ g r is. refl)

  pub some-part-is : some_so s (λ g x. must_part s g) ≡ some_row (must_part_row w.local.slow_after) rows
  some-part-is = any-is (λ g x. must_part s g) (λ g r. must_part_row w.local.slow_after r) (λ g r is. must-part-is g ∙ ap (any_at (must_part_row w.local.slow_after)) is)

  pub some-merge-is : some_so s (λ g x. some_so s (λ h y. may_merge s g h)) ≡ some_merge rows
  some-merge-is =
      any-is (λ g x. some_so s (λ h y. may_merge s g h)) (λ g r. any_row (λ h x. not (g == h) && may_merge_rows r x) 0 rows)
      (λ g r is. any-is (λ h y. may_merge s g h) (λ h x. not (g == h) && may_merge_rows r x)
      (λ h x there_is.
      may-merge-is g h
      ∙ ap (λ (o : Option Row). not (g == h) && any_at (λ (r : Row). any_at (λ (x : Row). may_merge_rows r x) (row_at h rows)) o) is
      ∙ ap (λ (o : Option Row). not (g == h) && any_at (λ (x : Row). may_merge_rows r x) o) there_is))

  pub ordered-is : is_ordered s ≡ (not (some_merge rows) && not (some_row (must_part_row w.local.slow_after) rows))
  ordered-is =
      ap (λ (b : Bool). not b && not (some_so s (λ g x. must_part s g))) some-merge-is
      ∙ ap (λ (b : Bool). not (some_merge rows) && not b) some-part-is

  pub settled-is : is_settled s ≡ ((not (some_merge rows) && not (some_row (must_part_row w.local.slow_after) rows)) && not (is_turn w.local.coalesce w.version && some_row may_format_row rows))
  settled-is =
      ap (λ (b : Bool). b && not (is_turn w.local.coalesce w.version && some_so s (λ g x. owes x && not (is_full s g)))) ordered-is
      ∙ ap (λ (b : Bool). (not (some_merge rows) && not (some_row (must_part_row w.local.slow_after) rows)) && not (is_turn w.local.coalesce w.version && b)) some-format-is

  pub drained-is : is_drained s ≡ ((not (some_merge rows) && not (some_row (must_part_row w.local.slow_after) rows)) && (not (some_row (λ r. owes r.sub) rows) && are_quiet w.peers s.members))
  drained-is =
      ap (λ (b : Bool). b && (not (some_so s (λ g x. owes x)) && are_quiet w.peers s.members)) ordered-is
      ∙ ap (λ (b : Bool). (not (some_merge rows) && not (some_row (must_part_row w.local.slow_after) rows)) && (not b && are_quiet w.peers s.members)) some-owes-is
