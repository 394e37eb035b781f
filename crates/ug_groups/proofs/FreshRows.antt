-- One subgroup is given what its key should have: a new one, or one that has another key.
use Rattle.std.proofs.Common.{◌≡◌, ℕ, zero, suc, Bool, true, false, [], ◌∷◌, length, Option, Some, None, inl, inr, refl, sym, ◌∙◌, ap, subst}
use Rattle.std.specs.Prelude.{IfNone, IfSome, ◌⊎◌, if◌then◌else◌}
use Rattle.std.specs.List.Sorted.{IsStrictlySortedBy}
use Rattle.std.specs.Map.{keys_of}
use Rattle.std.specs.Option.{option_map}
use Rattle.ug_types.specs.Keys.{prefix_cmp}
use Rattle.ug_types.specs.declared.capabilities.Capabilities.{Capabilities}
use Rattle.ug_outbound.specs.declared.key.GroupKey.{GroupKey}
use Rattle.ug_world.specs.World.{World}
use Rattle.ug_adjout.specs.Tables.{has, value_at}
use Rattle.ug_pack.specs.Ready.{key_order}
use Rattle.ug_group_rules.specs.Packets.{Rows as TableRows, with_all_desired, wanted_rows}
use Rattle.ug_group_rules.specs.Machine.{Subgroup, there}
use Rattle.ug_group_rules.specs.Evaluations.{has_key, all_heeded}
use Rattle.ug_group_rules.proofs.Tables.{nothing-exact}
use Rattle.ug_group_rules.proofs.WantedTables.{rows-value}
use Rattle.ug_groups.specs.Sent.{session_of}
use Rattle.ug_groups.specs.Rows.{Row, Rows, row_at, HasRow, keys_in, with_sub, with_row, with_next, empty_row, rekeyed_row, tabled_row}
use Rattle.ug_groups.specs.TableChanges.{HasTableOf, IsFillable, asked_beside, changes_of, key_at, with_changes}
use Rattle.ug_groups.specs.Entered.{AreKept, asking, fresh_row, rekeyed_to, retabled_row}
use Rattle.ug_groups.proofs.Reached.{placed_twice}
use Rattle.ug_groups.proofs.Retabled.{changed-table}
use Rattle.ug_groups.proofs.AllPrefixes.{all-are-wanted, none-of-session}

-- ---- one row

-- two changes that agree on the row
pub row-same : (one other : Row → Row) (g : ℕ) (rows : Rows) → ((r : Row) → row_at g rows ≡ Some r → one r ≡ other r) → with_row g one rows ≡ with_row g other rows
row-same one other g [] same = refl
row-same one other zero (None ∷ rows) same = refl
row-same one other zero (Some r ∷ rows) same = ap (λ (s : Row). Some s ∷ rows) (same r refl)
row-same one other (suc g) (r ∷ rows) same = ap (λ (rs : Rows). r ∷ rs) (row-same one other g rows (λ s at. same s at))

-- ---- of a key that another row has

pub tabled-same : (w : World) (g from : ℕ) (rows : Rows) → ((r : Row) → row_at g rows ≡ Some r → HasTableOf w r.sub.key from rows) → (s : Row) → row_at from rows ≡ Some s
    → with_row g (tabled_row s) rows ≡ with_row g (retabled_row w) rows
tabled-same w g from rows has s at =
    row-same (tabled_row s) (retabled_row w) g rows
    (λ r here.
    let found = has r here in
    let one : found.0 ≡ s = (let both = found.1 in cc) in
    let table : s.sub.out.desired ≡ wanted_rows r.sub.key w = ap (λ (z : Row). z.sub.out.desired) (sym one) ∙ found.2.1 in
    ap (λ (desired : TableRows). with_sub (λ x. record x { out = with_all_desired desired x.out }) r) table)

-- ---- of one that none has

pub filled : (w : World) (g : ℕ) (rows : Rows) → IsStrictlySortedBy prefix_cmp (keys_of w.routes) → HasRow g rows (λ r. IsFillable w r.sub)
    → (key : GroupKey) → key_at g rows ≡ Some key → with_row g (with_sub (with_changes (changes_of w w.routes key))) rows ≡ with_row g (retabled_row w) rows
filled w g rows sorted has key at =
    row-same (with_sub (with_changes (changes_of w w.routes key))) (retabled_row w) g rows
    (λ r here.
    let one : has.0 ≡ r = (let both = has.1 in cc) in
    let fillable : IsFillable w r.sub = subst (λ (z : Row). IsFillable w z.sub) one has.2 in
    let same : key ≡ r.sub.key = (let both = sym at ∙ ap (option_map (λ (z : Row). z.sub.key)) here in cc) in
    ap (λ (k : GroupKey). with_sub (with_changes (changes_of w w.routes k)) r) same
    ∙ ap (λ (x : Subgroup). record { sub = x; queue = r.queue })
    (changed-table w r.sub (changes_of w w.routes r.sub.key) fillable.exact fillable.shown (all-are-wanted w r.sub.key (value_at key_order r.sub.out.desired) sorted fillable.within)))

-- ---- as the contracts say it

pub key-there : (g : ℕ) (rows : Rows) (P : Row → Type 0) (has : HasRow g rows P) → key_at g rows ≡ Some has.0.sub.key
key-there g rows P has = ap (option_map (λ (z : Row). z.sub.key)) has.1

source : (w : World) (from : Option ℕ) (f g : ℕ) (rows : Rows) → from ≡ Some f → IfSome from (λ h. (r : Row) → row_at g rows ≡ Some r → HasTableOf w r.sub.key h rows)
    → (r : Row) → row_at g rows ≡ Some r → HasTableOf w r.sub.key f rows
source w from f g rows is has = subst (λ (o : Option ℕ). IfSome o (λ h. (r : Row) → row_at g rows ≡ Some r → HasTableOf w r.sub.key h rows)) is has

pub tabled-now : (w : World) (from : Option ℕ) (f g : ℕ) (rows new : Rows) → from ≡ Some f → IfSome from (λ h. (r : Row) → row_at g rows ≡ Some r → HasTableOf w r.sub.key h rows)
    → HasRow g rows (λ r. IsFillable w r.sub) → ((s : Row) → row_at f rows ≡ Some s → new ≡ with_row g (tabled_row s) rows) → new ≡ with_row g (retabled_row w) rows
tabled-now w from f g rows new is has there so =
    let found = source w from f g rows is has there.0 there.1 in
    so found.0 found.1 ∙ tabled-same w g f rows (source w from f g rows is has) found.0 found.1

-- ---- how often it is asked

pub beside-asked : (w : World) (rows : Rows) (key : GroupKey) (from : Option ℕ) → IfNone from (has_key (keys_in rows) key ≡ false) → IfSome from (λ _. has_key (keys_in rows) key ≡ true)
    → asked_beside from w key ≡ asking w rows key
beside-asked w rows key None none some = sym (ap (λ (b : Bool). if b then 0 else all_heeded key.add_path w.routes) none)
beside-asked w rows key (Some f) none some = sym (ap (λ (b : Bool). if b then 0 else all_heeded key.add_path w.routes) some)

-- ---- a new one

next_row : (r : Row) (rows : Rows) → row_at (length rows) (with_next r rows) ≡ Some r
next_row r [] = refl
next_row r (x ∷ rows) = next_row r rows

next_others : (r : Row) (f : ℕ) (rows : Rows) (s : Row) → row_at f rows ≡ Some s → row_at f (with_next r rows) ≡ Some s
next_others r f [] s at = absurd cc
next_others r zero (x ∷ rows) s at = at
next_others r (suc f) (x ∷ rows) s at = next_others r f rows s at

next_changed : (change : Row → Row) (r : Row) (rows : Rows) → with_row (length rows) change (with_next r rows) ≡ with_next (change r) rows
next_changed change r [] = refl
next_changed change r (x ∷ rows) = ap (λ (rs : Rows). x ∷ rs) (next_changed change r rows)

fillable_empty : (w : World) (key : GroupKey) (limit : ℕ) → IsFillable w (empty_row key limit).sub
fillable_empty w key limit = record { exact = nothing-exact; shown = λ q e. absurd cc; within = λ q e. refl }

module _ (w : World) (old : Rows) (kept : AreKept w old) (key : GroupKey) (limit : ℕ) (mid : Rows) (added : mid ≡ with_next (empty_row key limit) old) (g : ℕ) (number : g ≡ length old) where
  new_row : row_at g mid ≡ Some (empty_row key limit)
  new_row = ap (λ (rows : Rows). row_at g rows) added ∙ ap (λ (n : ℕ). row_at n (with_next (empty_row key limit) old)) number ∙ next_row (empty_row key limit) old

  pub fresh-there : HasRow g mid (λ r. IsFillable w r.sub)
  fresh-there = (empty_row key limit, new_row, fillable_empty w key limit)

  pub fresh-key : key_at g mid ≡ Some key
  fresh-key = ap (option_map (λ (z : Row). z.sub.key)) new_row

  pub fresh-from : (from : Option ℕ) → IfSome from (λ f. HasRow f old (λ r. r.sub.key ≡ key)) → IfSome from (λ f. (r : Row) → row_at g mid ≡ Some r → HasTableOf w r.sub.key f mid)
  fresh-from None has = tt
  fresh-from (Some f) has = λ r at.
      let same : key ≡ r.sub.key = (let both = sym (ap (option_map (λ (z : Row). z.sub.key)) at) ∙ fresh-key in cc) in
      subst (λ (k : GroupKey). HasTableOf w k f mid) same (
        has.0,
        ap (λ (rows : Rows). row_at f rows) added ∙ next_others (empty_row key limit) f old has.0 has.1,
        (has.2, (kept f has.0 has.1).desires ∙ ap (λ (k : GroupKey). wanted_rows k w) has.2),
      )

  pub fresh-rows : limit ≡ w.local.queue_limit → with_row g (retabled_row w) mid ≡ with_next (fresh_row key w) old
  fresh-rows same =
      ap (λ (rows : Rows). with_row g (retabled_row w) rows) added ∙ ap (λ (n : ℕ). with_row n (retabled_row w) (with_next (empty_row key limit) old)) number
      ∙ next_changed (retabled_row w) (empty_row key limit) old ∙ ap (λ (n : ℕ). with_next (retabled_row w (empty_row key n)) old) same

-- ---- one that has another key

changed_here : (change : Row → Row) (g : ℕ) (rows : Rows) (r : Row) → row_at g rows ≡ Some r → row_at g (with_row g change rows) ≡ Some (change r)
changed_here change g [] r at = absurd cc
changed_here change zero (None ∷ rows) r at = absurd cc
changed_here change zero (Some s ∷ rows) r at = ap (option_map change) at
changed_here change (suc g) (s ∷ rows) r at = changed_here change g rows r at

either_there : (change : Row → Row) (f g : ℕ) (rows : Rows) (s : Row) → row_at f rows ≡ Some s → (row_at f (with_row g change rows) ≡ Some s) ⊎ (row_at f (with_row g change rows) ≡ Some (change s))
either_there change f g [] s at = absurd cc
either_there change zero zero (None ∷ rows) s at = absurd cc
either_there change zero zero (Some r ∷ rows) s at = inr (ap (option_map change) at)
either_there change zero (suc g) (r ∷ rows) s at = inl at
either_there change (suc f) zero (r ∷ rows) s at = inl at
either_there change (suc f) (suc g) (r ∷ rows) s at = either_there change f g rows s at

module _ (w : World) (old : Rows) (kept : AreKept w old) (key : GroupKey) (g : ℕ) (has : HasRow g old (λ r. session_of key ≡ session_of r.sub.key)) (mid : Rows) (changed : mid ≡ with_row g (rekeyed_row key) old) where
  changed_row : row_at g mid ≡ Some (rekeyed_row key has.0)
  changed_row = ap (λ (rows : Rows). row_at g rows) changed ∙ changed_here (rekeyed_row key) g old has.0 has.1

  fillable : IsFillable w (rekeyed_row key has.0).sub
  fillable =
      let was = kept g has.0 has.1 in
      record {
        exact = was.exact;
        shown = was.shown;
        within = λ q absent.
            ap (λ (rows : TableRows). value_at key_order rows q) was.desires ∙ rows-value has.0.sub.key w q
            ∙ none-of-session w key has.0.sub.key (sym (ap (λ (c : Capabilities). c.family) has.2)) (sym (ap (λ (c : Capabilities). c.add_path) has.2)) q absent;
      }

  pub rekeyed-there : HasRow g mid (λ r. IsFillable w r.sub)
  rekeyed-there = (rekeyed_row key has.0, changed_row, fillable)

  pub rekeyed-key : key_at g mid ≡ Some key
  rekeyed-key = ap (option_map (λ (z : Row). z.sub.key)) changed_row

  pub rekeyed-from : (from : Option ℕ) → IfSome from (λ f. HasRow f old (λ r. r.sub.key ≡ key)) → IfSome from (λ f. (r : Row) → row_at g mid ≡ Some r → HasTableOf w r.sub.key f mid)
  rekeyed-from None found = tt
  rekeyed-from (Some f) found = λ r at.
      let same : key ≡ r.sub.key = (let both = sym (ap (option_map (λ (z : Row). z.sub.key)) at) ∙ rekeyed-key in cc) in
      let table : found.0.sub.out.desired ≡ wanted_rows key w = (kept f found.0 found.1).desires ∙ ap (λ (k : GroupKey). wanted_rows k w) found.2 in
      let moved = ap (λ (rows : Rows). row_at f rows) changed in
      subst (λ (k : GroupKey). HasTableOf w k f mid) same
      (elim (either_there (rekeyed_row key) f g old found.0 found.1) as (λ _. HasTableOf w key f mid) [
        | inl stays ↦ (found.0, moved ∙ stays, (found.2, table))
        | inr now ↦ (rekeyed_row key found.0, moved ∙ now, (refl, table))
      ])

  pub rekeyed-rows : with_row g (retabled_row w) mid ≡ with_row g (rekeyed_to key w) old
  rekeyed-rows = ap (λ (rows : Rows). with_row g (retabled_row w) rows) changed ∙ placed_twice (rekeyed_row key) (retabled_row w) (rekeyed_to key w) (λ r. refl) g old
