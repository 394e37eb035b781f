-- One row is changed, or all of its key.
use Rattle.std.proofs.Common.{◌≡◌, ℕ, zero, suc, Bool, true, false, [], ◌∷◌, ◌++◌, Option, Some, None, refl, sym, ◌∙◌, ap, subst}
use Rattle.std.specs.Prelude.{if◌then◌else◌}
use Rattle.std.specs.Option.{option_map}
use Rattle.ug_outbound.specs.declared.key.GroupKey.{GroupKey}
use Rattle.ug_group_rules.specs.Packets.{same_group}
use Rattle.ug_group_rules.specs.Machine.{Subgroup}
use Rattle.ug_groups.specs.Standings.{desiring}
use Rattle.ug_groups.specs.Rows.{Row, Rows, row_at, HasRow, with_sub, with_row, each_row, of_key}
use Rattle.ug_groups.specs.declared.reach.Reach.{Reach}
use Rattle.ug_groups.specs.declared.reach.Reach.TheVariants.{One, Alike}
use Rattle.ug_groups.specs.TableChanges.{Changes, key_at, HasKey, reached, with_changes}

-- ---- the row of a key

pub row-of : (g : ℕ) (rows : Rows) (key : GroupKey) → key_at g rows ≡ Some key → HasRow g rows (λ r. r.sub.key ≡ key)
row-of g rows key is = by (row_at g rows) refl is
  where
    by : (o : Option Row) → row_at g rows ≡ o → option_map (λ (r : Row). r.sub.key) o ≡ Some key → HasRow g rows (λ r. r.sub.key ≡ key)
    by None at e = absurd cc
    by (Some r) at e = (r, at, cc)

pub has_row : (g : ℕ) (rows : Rows) (P : GroupKey → Type 0) → HasKey g rows P → HasRow g rows (λ r. P r.sub.key)
has_row g rows P has = let found = row-of g rows has.key has.is in (found.0, found.1, subst P (sym found.2) has.so)

-- ---- what a change of rows leaves

abbrev pub Keeps : (Subgroup → Subgroup) → Type 0
Keeps change = (x : Subgroup) → (change x).key ≡ x.key

mapped_key : (change : Row → Row) → ((r : Row) → (change r).sub.key ≡ r.sub.key) → (h : ℕ) (rows : Rows) → key_at h (each_row change rows) ≡ key_at h rows
mapped_key change same h [] = refl
mapped_key change same zero (None ∷ rows) = refl
mapped_key change same zero (Some r ∷ rows) = ap (λ (k : GroupKey). Some k) (same r)
mapped_key change same (suc h) (None ∷ rows) = mapped_key change same h rows
mapped_key change same (suc h) (Some r ∷ rows) = mapped_key change same h rows

placed_key : (change : Row → Row) → ((r : Row) → (change r).sub.key ≡ r.sub.key) → (g h : ℕ) (rows : Rows) → key_at h (with_row g change rows) ≡ key_at h rows
placed_key change same g h [] = refl
placed_key change same zero zero (None ∷ rows) = refl
placed_key change same zero zero (Some r ∷ rows) = ap (λ (k : GroupKey). Some k) (same r)
placed_key change same zero (suc h) (r ∷ rows) = refl
placed_key change same (suc g) zero (r ∷ rows) = refl
placed_key change same (suc g) (suc h) (r ∷ rows) = placed_key change same g h rows

of_key-keeps : (key : GroupKey) (change : Subgroup → Subgroup) → Keeps change → (r : Row) → (of_key key change r).sub.key ≡ r.sub.key
of_key-keeps key change keeps r = by (same_group r.sub.key key)
  where
    by : (b : Bool) → (if b then with_sub change r else r).sub.key ≡ r.sub.key
    by true = keeps r.sub
    by false = refl

pub reached-key : (reach : Reach) (key : GroupKey) (change : Subgroup → Subgroup) → Keeps change → (h : ℕ) (rows : Rows) → key_at h (reached reach key change rows) ≡ key_at h rows
reached-key (One g) key change keeps h rows = placed_key (with_sub change) (λ r. keeps r.sub) g h rows
reached-key (Alike g) key change keeps h rows = mapped_key (of_key key change) (of_key-keeps key change keeps) h rows

-- ---- one change after another

pub mapped_twice : (one other both : Row → Row) → ((r : Row) → other (one r) ≡ both r) → (rows : Rows) → each_row other (each_row one rows) ≡ each_row both rows
mapped_twice one other both is [] = refl
mapped_twice one other both is (None ∷ rows) = ap (λ (rs : Rows). None ∷ rs) (mapped_twice one other both is rows)
mapped_twice one other both is (Some r ∷ rows) = let here = is r in let rest = mapped_twice one other both is rows in λ i. Some (here i) ∷ rest i

pub placed_twice : (one other both : Row → Row) → ((r : Row) → other (one r) ≡ both r) → (g : ℕ) (rows : Rows) → with_row g other (with_row g one rows) ≡ with_row g both rows
placed_twice one other both is g [] = refl
placed_twice one other both is zero (None ∷ rows) = refl
placed_twice one other both is zero (Some r ∷ rows) = ap (λ (x : Row). Some x ∷ rows) (is r)
placed_twice one other both is (suc g) (r ∷ rows) = ap (λ (rs : Rows). r ∷ rs) (placed_twice one other both is g rows)

of_key-twice : (key : GroupKey) (one other : Subgroup → Subgroup) → Keeps one → (r : Row) → of_key key other (of_key key one r) ≡ of_key key (λ x. other (one x)) r
of_key-twice key one other keeps r = by (same_group r.sub.key key) refl
  where
    by : (b : Bool) → same_group r.sub.key key ≡ b → of_key key other (if b then with_sub one r else r) ≡ (if b then with_sub (λ x. other (one x)) r else r)
    by true e = ap (λ (b : Bool). if b then with_sub other (with_sub one r) else with_sub one r) (ap (λ (k : GroupKey). same_group k key) (keeps r.sub) ∙ e)
    by false e = ap (λ (b : Bool). if b then with_sub other r else r) e

pub reached-twice : (reach : Reach) (key : GroupKey) (one other : Subgroup → Subgroup) → Keeps one → (rows : Rows) → reached reach key other (reached reach key one rows) ≡ reached reach key (λ x. other (one x)) rows
reached-twice (One g) key one other keeps rows = placed_twice (with_sub one) (with_sub other) (with_sub (λ x. other (one x))) (λ r. refl) g rows
reached-twice (Alike g) key one other keeps rows = mapped_twice (of_key key one) (of_key key other) (of_key key (λ x. other (one x))) (of_key-twice key one other keeps) rows

pub mapped_none : (none : Row → Row) → ((r : Row) → none r ≡ r) → (rows : Rows) → each_row none rows ≡ rows
mapped_none none is [] = refl
mapped_none none is (None ∷ rows) = ap (λ (rs : Rows). None ∷ rs) (mapped_none none is rows)
mapped_none none is (Some r ∷ rows) = let here = is r in let rest = mapped_none none is rows in λ i. Some (here i) ∷ rest i

placed_none : (none : Row → Row) → ((r : Row) → none r ≡ r) → (g : ℕ) (rows : Rows) → with_row g none rows ≡ rows
placed_none none is g [] = refl
placed_none none is zero (None ∷ rows) = refl
placed_none none is zero (Some r ∷ rows) = ap (λ (x : Row). Some x ∷ rows) (is r)
placed_none none is (suc g) (r ∷ rows) = ap (λ (rs : Rows). r ∷ rs) (placed_none none is g rows)

of_key-none : (key : GroupKey) (r : Row) → of_key key (λ x. x) r ≡ r
of_key-none key r = by (same_group r.sub.key key)
  where
    by : (b : Bool) → (if b then with_sub (λ x. x) r else r) ≡ r
    by true = refl
    by false = refl

pub reached-none : (reach : Reach) (key : GroupKey) (rows : Rows) → reached reach key (λ x. x) rows ≡ rows
reached-none (One g) key rows = placed_none (with_sub (λ x. x)) (λ r. refl) g rows
reached-none (Alike g) key rows = mapped_none (of_key key (λ x. x)) (of_key-none key) rows

-- ---- changes

pub changes-key : (changes : Changes) → Keeps (with_changes changes)
changes-key [] x = refl
changes-key (c ∷ changes) x = changes-key changes (desiring c.0 c.1 x)

pub changes-append : (one other : Changes) (x : Subgroup) → with_changes (one ++ other) x ≡ with_changes other (with_changes one x)
changes-append [] other x = refl
changes-append (c ∷ one) other x = changes-append one other (desiring c.0 c.1 x)

-- changes after changes are those of both
pub reached-append : (reach : Reach) (key : GroupKey) (one other : Changes) (rows : Rows) → reached reach key (with_changes other) (reached reach key (with_changes one) rows) ≡ reached reach key (with_changes (one ++ other)) rows
reached-append reach key one other rows =
    reached-twice reach key (with_changes one) (with_changes other) (changes-key one) rows
    ∙ (λ i. reached reach key (λ x. sym (changes-append one other x) i) rows)

-- the key of a row stays
pub still-key : (reach : Reach) (key : GroupKey) (changes : Changes) (h : ℕ) (old now : Rows) → now ≡ reached reach key (with_changes changes) old → key_at h now ≡ key_at h old
still-key reach key changes h old now is = ap (key_at h) is ∙ reached-key reach key (with_changes changes) (changes-key changes) h old
