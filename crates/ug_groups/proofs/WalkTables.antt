-- One subgroup desires key by key what another one desires.
use Rattle.std.proofs.Common.{◌≡◌, ℕ, zero, suc, ◌<◌, false, List, [], ◌∷◌, ◌++◌, Option, Some, None, refl, sym, ◌∙◌, ap, subst}
use Rattle.std.specs.Prelude.{◌==◌, IsSome, IfSome}
use Rattle.std.specs.Option.{option_map}
use Rattle.std.specs.List.Sorted.{IsStrictlySortedBy}
use Rattle.ug_types.specs.declared.key.Key.{Key}
use Rattle.ug_types.specs.declared.route.OutAttrs.{OutAttrs}
use Rattle.ug_intern.specs.Pools.{Pooled}
use Rattle.ug_adjout.specs.Tables.{has, value_at, IsTable}
use Rattle.ug_adjout.specs.Pending.{IsExact, with_desired}
use Rattle.ug_adjout.specs.Desiring.{with_each_desired, with_all_desired, AreForcedShown}
use Rattle.ug_adjout.proofs.Desiring.{each-desired}
use Rattle.ug_pack.specs.Ready.{key_order}
use Rattle.ug_pack.proofs.Keys.{key_total, key_exact}
use Rattle.ug_queue.specs.Spread.{value_of}
use Rattle.ug_group_rules.specs.Packets.{Out, same_out}
use Rattle.ug_group_rules.specs.Machine.{Subgroup}
use Rattle.ug_groups.specs.Standings.{desiring}
use Rattle.ug_groups.specs.declared.entry.Entry.{Entry}
use Rattle.ug_groups.specs.Rows.{Row, Rows, row_at, with_row, with_sub, tabled_row}
use Rattle.ug_groups.specs.Entries.{Entries, key_of, row_in, rows_in, IsKept, IsDone}
use Rattle.ug_groups.specs.Walks.{IsNext, desired_in, IsWalked}
use Rattle.ug_groups.proofs.Lists.{set_here, set_other}
use Rattle.ug_groups.proofs.Accounts.{row_there, rows_done, with_alike, with_none}
use Rattle.ug_groups.proofs.Dones.{one_there}
use Rattle.ug_groups.proofs.PartAndMeet.{apart_by}
use Rattle.ug_groups.proofs.Swept.{change_here, change_other}
use Rattle.ug_groups.proofs.WalkSteps.{IsWalk, walk_start, walk_step, walk_end, next_there, each_more, left_of, fewer_left}

-- with these keys desired as the other desires them
abbrev pub walked : List (Key × OutAttrs) → List Key → Subgroup → Subgroup
walked rows done x = record x { out = with_each_desired key_order same_out (value_at key_order rows) x.out done }

pub record IsWalking (p0 : Pooled OutAttrs) (xs0 : Entries) (g from : ℕ) (p : Pooled OutAttrs) (xs : Entries) (at : Option Key) : Type 0 where
  pub mine : Entry
  pub other : Entry
  pub now : Entry
  pub mine_there : value_of g xs0 ≡ Some mine
  pub other_there : value_of from xs0 ≡ Some other
  pub now_there : value_of g xs ≡ Some now
  pub other_now : value_of from xs ≡ Some other
  pub key : key_of now ≡ key_of mine
  pub done : List Key
  pub walk : IsWalk same_out (desired_in p0 other) (row_in p0 mine).sub.out at done
  pub rows : rows_in p xs ≡ with_row g (with_sub (walked (desired_in p0 other) done)) (rows_in p0 xs0)
  pub family : IfSome at (λ q. q.prefix.family ≡ (key_of other).family)

abbrev pub desired_of : Pooled OutAttrs → Option Entry → List (Key × OutAttrs)
desired_of pool None = []
desired_of pool (Some e) = desired_in pool e

the_one : (o : Option Entry) → IsSome o → (e : Entry) × (o ≡ Some e)
the_one None some = absurd cc
the_one (Some e) some = (e, refl)

pub walking_start : (p : Pooled OutAttrs) (xs : Entries) (g from : ℕ) → IsSome (value_of g xs) → IsSome (value_of from xs) → IsWalking p xs g from p xs None
walking_start p xs g from there with_it = by (the_one (value_of g xs) there) (the_one (value_of from xs) with_it)
  where
    by : (e : Entry) × (value_of g xs ≡ Some e) → (f : Entry) × (value_of from xs ≡ Some f) → IsWalking p xs g from p xs None
    by (e, is) (f, at) = record {
      mine = e;
      other = f;
      now = e;
      mine_there = is;
      other_there = at;
      now_there = is;
      other_now = at;
      key = refl;
      done = [];
      walk = walk_start same_out (desired_in p f) (row_in p e).sub.out;
      rows = sym (with_none (rows_in p xs) g);
      family = tt;
    }

with_twice : (rows : Rows) (g : ℕ) (f h : Row → Row) → with_row g f (with_row g h rows) ≡ with_row g (λ r. f (h r)) rows
with_twice [] g f h = refl
with_twice (None ∷ rows) zero f h = refl
with_twice (Some r ∷ rows) zero f h = refl
with_twice (x ∷ rows) (suc g) f h = ap (λ (rs : Rows). x ∷ rs) (with_twice rows g f h)

module _ (p0 : Pooled OutAttrs) (xs0 : Entries) (g from : ℕ) (p : Pooled OutAttrs) (xs : Entries) (at : Option Key) (w : IsWalking p0 xs0 g from p xs at) (apart : (g == from) ≡ false) where
  change : Row → Row
  change = with_sub (walked (desired_in p0 w.other) w.done)

  now_is : row_in p w.now ≡ with_sub (walked (desired_in p0 w.other) w.done) (row_in p0 w.mine)
  now_is =
      let f = with_sub (walked (desired_in p0 w.other) w.done) in
      let same : Some (row_in p w.now) ≡ Some (f (row_in p0 w.mine)) =
      sym (row_there p xs g (rows_in p xs) w.now refl w.now_there) ∙ ap (row_at g) w.rows ∙ change_here f (rows_in p0 xs0) g ∙ ap (option_map f) (row_there p0 xs0 g (rows_in p0 xs0) w.mine refl w.mine_there) in
      cc

  other_is : row_in p w.other ≡ row_in p0 w.other
  other_is =
      let f = with_sub (walked (desired_in p0 w.other) w.done) in
      let same : Some (row_in p w.other) ≡ Some (row_in p0 w.other) =
      sym (row_there p xs from (rows_in p xs) w.other refl w.other_now) ∙ ap (row_at from) w.rows ∙ change_other f (rows_in p0 xs0) g from (λ e. apart_by g from apart (sym e))
      ∙ row_there p0 xs0 from (rows_in p0 xs0) w.other refl w.other_there in
      cc

  abbrev a : Out
  a = (row_in p0 w.mine).sub.out

  abbrev wants : Key → Option OutAttrs
  wants = value_at key_order (desired_in p0 w.other)

  -- the next key, by the tables as they were
  next_was : (o : Option Key) → IsNext (desired_in p w.other) (desired_in p w.now) at o → IsNext (desired_in p0 w.other) (with_each_desired key_order same_out (value_at key_order (desired_in p0 w.other)) (row_in p0 w.mine).sub.out w.done).desired at o
  next_was o next =
      subst (λ (rows : List (Key × OutAttrs)). IsNext (desired_in p0 w.other) rows at o) (ap (λ (r : Row). r.sub.out.desired) now_is)
      (subst (λ (rows : List (Key × OutAttrs)). IsNext rows (desired_in p w.now) at o) (ap (λ (r : Row). r.sub.out.desired) other_is) next)

  pub walking_smaller : (k : Key) → IsNext (desired_in p w.other) (desired_in p w.now) at (Some k)
      → left_of (desired_of p0 (value_of from xs0)) (desired_of p0 (value_of g xs0)) (Some k) < left_of (desired_of p0 (value_of from xs0)) (desired_of p0 (value_of g xs0)) at
  walking_smaller k next =
      let was = next_was (Some k) next in
      let less : left_of (desired_in p0 w.other) (desired_in p0 w.mine) (Some k) < left_of (desired_in p0 w.other) (desired_in p0 w.mine) at =
      fewer_left (desired_in p0 w.other) (desired_in p0 w.mine) at k was.0 (next_there same_out (desired_in p0 w.other) (row_in p0 w.mine).sub.out (value_at key_order (desired_in p0 w.other)) at w.done w.walk k was) in
      subst (λ (o : Option Entry). left_of (desired_of p0 o) (desired_of p0 (value_of g xs0)) (Some k) < left_of (desired_of p0 o) (desired_of p0 (value_of g xs0)) at) (sym w.other_there)
      (subst (λ (o : Option Entry). left_of (desired_in p0 w.other) (desired_of p0 o) (Some k) < left_of (desired_in p0 w.other) (desired_of p0 o) at) (sym w.mine_there) less)

  pub walking_step : (next : ℕ) (hand : Option ℕ) → IsKept next hand p xs → (k : Key) → IsNext (desired_in p w.other) (desired_in p w.now) at (Some k) → k.prefix.family ≡ (key_of w.other).family → (q : Pooled OutAttrs) (ys : Entries)
      → IsDone p q xs ys g (with_sub (desiring k (value_at key_order (desired_in p w.other) k))) → IsWalking p0 xs0 g from q ys (Some k)
  walking_step next hand kept k is_next family q ys done = record {
    mine = w.mine;
    other = w.other;
    now = done.now;
    mine_there = w.mine_there;
    other_there = w.other_there;
    now_there = ap (value_of g) done.changed ∙ set_here xs g done.was (Some done.now) done.there;
    other_now = ap (value_of from) done.changed ∙ set_other xs g from (Some done.now) (λ e. apart_by g from apart (sym e)) ∙ w.other_now;
    key = done.key ∙ ap key_of (one_there xs g done.was w.now done.there w.now_there) ∙ w.key;
    done = w.done ++ k ∷ [];
    walk = walk_step same_out (desired_in p0 w.other) (row_in p0 w.mine).sub.out (value_at key_order (desired_in p0 w.other)) at w.done w.walk k (next_was (Some k) is_next);
    rows =
        rows_done p q xs ys g (with_sub (desiring k (value_at key_order (desired_in p w.other) k))) done next hand kept
        ∙ ap (λ (rs : Rows). with_row g (with_sub (desiring k (value_at key_order (desired_in p w.other) k))) rs) w.rows
        ∙ with_twice (rows_in p0 xs0) g (with_sub (desiring k (value_at key_order (desired_in p w.other) k))) (with_sub (walked (desired_in p0 w.other) w.done))
        ∙ ap (λ (f : Row → Row). with_row g f (rows_in p0 xs0)) one_more;
    family = family;
  }
    where
      value_same : value_at key_order (desired_in p w.other) k ≡ value_at key_order (desired_in p0 w.other) k
      value_same = ap (λ (r : Row). value_at key_order r.sub.out.desired k) other_is

      more_is : (x : Subgroup) → with_desired key_order same_out (with_each_desired key_order same_out (value_at key_order (desired_in p0 w.other)) x.out w.done) k (value_at key_order (desired_in p w.other) k)
          ≡ with_each_desired key_order same_out (value_at key_order (desired_in p0 w.other)) x.out (w.done ++ k ∷ [])
      more_is x =
          ap (λ (v : Option OutAttrs). with_desired key_order same_out (with_each_desired key_order same_out (value_at key_order (desired_in p0 w.other)) x.out w.done) k v) value_same
          ∙ sym (each_more same_out (value_at key_order (desired_in p0 w.other)) x.out w.done k)

      one_more : (◌≡◌ {A = Row → Row} (λ r. with_sub (desiring k (value_at key_order (desired_in p w.other) k)) (with_sub (walked (desired_in p0 w.other) w.done) r)) (with_sub (walked (desired_in p0 w.other) (w.done ++ k ∷ []))))
      one_more = λ i r. with_sub (λ x. record x { out = more_is x i }) r

  pub walking_end : IsNext (desired_in p w.other) (desired_in p w.now) at None → IsWalked p0 p xs0 xs g from
  walking_end next = record {
    mine = w.mine;
    other = w.other;
    mine_there = w.mine_there;
    other_there = w.other_there;
    done = w.done;
    sorted = w.walk.sorted;
    whole = λ k none. let both = walk_end same_out (desired_in p0 w.other) (row_in p0 w.mine).sub.out (value_at key_order (desired_in p0 w.other)) at w.done w.walk (next_was None next) k none in both.0 ∙ sym both.1;
    rows = w.rows;
  }

-- ---- the table at once

module _ (p : Pooled OutAttrs) (e f : Entry) (exact : IsExact key_order same_out (row_in p e).sub.out) (shown : AreForcedShown key_order (row_in p e).sub.out) (table : IsTable key_order (desired_in p f)) where
  at_once : (done : List Key) → IsStrictlySortedBy key_order done → ((k : Key) → has key_order done k ≡ false → value_at key_order (desired_in p f) k ≡ value_at key_order (desired_in p e) k)
      → with_each_desired key_order same_out (value_at key_order (desired_in p f)) (row_in p e).sub.out done ≡ with_all_desired key_order same_out (desired_in p f) (row_in p e).sub.out
  at_once done sorted whole = each-desired key_total key_exact same_out (row_in p e).sub.out (desired_in p f) (value_at key_order (desired_in p f)) done exact shown table sorted (λ q. refl) whole

  pub tabled_is : (done : List Key) → IsStrictlySortedBy key_order done → ((k : Key) → has key_order done k ≡ false → value_at key_order (desired_in p f) k ≡ value_at key_order (desired_in p e) k)
      → with_sub (walked (desired_in p f) done) (row_in p e) ≡ tabled_row (row_in p f) (row_in p e)
  tabled_is done sorted whole = ap (λ (o : Out). record { sub = record (row_in p e).sub { out = o }; queue = (row_in p e).queue }) (at_once done sorted whole)

pub tabled_rows : (p q : Pooled OutAttrs) (xs ys : Entries) (g from : ℕ) → (done : IsWalked p q xs ys g from) → (e f : Entry) → value_of g xs ≡ Some e → value_of from xs ≡ Some f
    → IsExact key_order same_out (row_in p e).sub.out → AreForcedShown key_order (row_in p e).sub.out → IsTable key_order (desired_in p f) → rows_in q ys ≡ with_row g (tabled_row (row_in p f)) (rows_in p xs)
tabled_rows p q xs ys g from done e f is_e is_f exact shown table =
    let mine = one_there xs g done.mine e done.mine_there is_e in let other = one_there xs from done.other f done.other_there is_f in
    done.rows ∙ ap (λ (x : Entry). with_row g (with_sub (walked (desired_in p x) done.done)) (rows_in p xs)) other
    ∙ with_alike (rows_in p xs) g (row_in p e) (with_sub (walked (desired_in p f) done.done)) (tabled_row (row_in p f)) (row_there p xs g (rows_in p xs) e refl is_e)
    (tabled_is p e f exact shown table done.done done.sorted
    (λ k none. subst (λ (x : Entry). value_at key_order (desired_in p x) k ≡ value_at key_order (desired_in p e) k) other (subst (λ (x : Entry). value_at key_order (desired_in p done.other) k ≡ value_at key_order (desired_in p x) k) mine (done.whole k none))))

pub tabled_itself : (p : Pooled OutAttrs) (xs : Entries) (g from : ℕ) (f : Entry) → g ≡ from → value_of from xs ≡ Some f → IsExact key_order same_out (row_in p f).sub.out → AreForcedShown key_order (row_in p f).sub.out
    → rows_in p xs ≡ with_row g (tabled_row (row_in p f)) (rows_in p xs)
unfolding IsStrictlySortedBy
tabled_itself p xs g from f same there exact shown =
    sym (with_none (rows_in p xs) g)
    ∙ with_alike (rows_in p xs) g (row_in p f) (λ r. r) (tabled_row (row_in p f)) (row_there p xs g (rows_in p xs) f refl (ap (λ (n : ℕ). value_of n xs) same ∙ there))
    (tabled_is p f f exact shown exact.desired_rows [] tt (λ k none. refl))
