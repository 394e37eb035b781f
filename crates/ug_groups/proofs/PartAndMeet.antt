-- Subgroups that part and meet.
use Rattle.std.proofs.Common.{◌≡◌, ℕ, zero, suc, ◌+◌, ◌^◌, ◌<◌, false, List, [], ◌∷◌, ◌++◌, length, Option, Some, None, refl, sym, ◌∙◌, ap, subst, arith, slice_set, Result, Ok, Err, OnOk, OnErr}
use Rattle.std.specs.Option.{option_map}
use Rattle.std.specs.Prelude.{◌==◌, IsSome, IfSome}
use Rattle.std.specs.Map.{keys_of}
use Rattle.std.proofs.lemmas.Bool.{eq-eqb}
use Rattle.ug_types.specs.declared.key.Key.{Key}
use Rattle.ug_types.specs.declared.route.OutAttrs.{OutAttrs}
use Rattle.ug_intern.specs.Pools.{Pooled, held, uses_of}
use Rattle.ug_adjout.specs.Pending.{AdjRibOut}
use Rattle.ug_queue.specs.Spread.{value_of}
use Rattle.ug_queue.specs.Queues.{Queued, IsMember, place_of, shed, without_members, with_members}
use Rattle.ug_group_rules.specs.Packets.{same_group, Packet}
use Rattle.ug_group_rules.proofs.Keys.{laws}
use Rattle.ug_groups.specs.Values.{value_in}
use Rattle.ug_groups.specs.Holders.{holds, IsMoved, HasRoom}
use Rattle.ug_groups.specs.Sent.{session_of}
use Rattle.ug_groups.specs.Standings.{Standing}
use Rattle.ug_groups.specs.Subgroups.{Grouped}
use Rattle.ug_groups.specs.declared.entry.Entry.{Entry}
use Rattle.ug_groups.specs.Rows.{Row, Rows, with_row, without_row, with_next, with_queue, rest_row, part_row, absorbing_row, row_at, HasRow}
use Rattle.ug_groups.specs.Entries.{Entries, key_of, adj_of, row_in, rows_in, IsSmall, IsKept, AreKept, IsClass, IsDone, IsGone, IsSplit, IsMerged}
use Rattle.ug_groups.proofs.Lists.{set_here, set_other, set_length, value_map}
use Rattle.ug_groups.proofs.Accounts.{kept_done, rows_done, class_known, row_same, room_in, room_less, if_in}
use Rattle.ug_groups.proofs.ComeAndGone.{kept_pushed, rows_pushed, kept_gone, rows_gone}
use Rattle.ug_groups.proofs.Dones.{with_grouped, unchanged}

-- a queue is changed, and the pool counts what it did
pub queue_moved : (p q : Pooled OutAttrs) (xs ys : Entries) (g : ℕ) (e now : Entry) (f : Queued Packet → Queued Packet) → value_of g xs ≡ Some e → ys ≡ slice_set xs g (Some now) → now.class ≡ e.class
    → now.subgroup ≡ record e.subgroup { queue = f e.subgroup.queue } → ((id : ℕ) → uses_of (held q id) ≡ uses_of (held p id)) → ((id : ℕ) → IsSome (held q id) → value_in q id ≡ value_in p id)
    → row_in q e ≡ row_in p e → IsDone p q xs ys g (with_queue f)
queue_moved p q xs ys g e now f there changed class is uses values row = record {
  was = e;
  now = now;
  there = there;
  changed = changed;
  class = class;
  key = ap (λ (s : Grouped). s.point.key) is;
  small = λ small. subst (λ (s : Grouped). (length s.point.adj.formatted < 2 ^ 64) × (length s.point.adj.desired < 2 ^ 64)) (sym is) small;
  moved = subst (λ (s : Grouped). IsMoved p q (adj_of e) s.point.adj) (sym is) (record { counts = λ id. ap (λ (n : ℕ). n + holds (adj_of e) id) (uses id); values = values });
  row = ap (λ (s : Grouped). row_in q (with_grouped now s)) is ∙ ap (λ (r : Row). with_queue f r) row;
}

module _ (p q : Pooled OutAttrs) (xs ys : Entries) (g : ℕ) (members : List ℕ) (done : IsSplit p q xs ys g members) where
  rest_rows : Entries
  rest_rows = slice_set xs g (Some done.rest)

  rest_done : IsDone p p xs rest_rows g (rest_row members)
  unfolding rest_rows
  rest_done = queue_moved p p xs (slice_set xs g (Some done.rest)) g done.was done.rest (λ l. shed (without_members l members)) done.there refl done.rest_class done.rest_is (λ id. refl) (λ id is. refl) refl

  part_key : key_of done.part ≡ key_of done.was
  part_key = ap (λ (k : Standing). k.key) done.point

  part_uses : (id : ℕ) → uses_of (held q id) ≡ uses_of (held p id) + holds (adj_of done.part) id
  part_uses id = done.uses id ∙ ap (λ (a : AdjRibOut Key ℕ). uses_of (held p id) + holds a id) (sym (ap (λ (k : Standing). k.adj) done.point))

  module _ (next : ℕ) (hand : Option ℕ) (kept : IsKept next hand p xs) where
    rest_kept : IsKept next hand p rest_rows
    rest_kept = kept_done p p xs rest_rows g (rest_row members) rest_done next hand kept

    rest_there : value_of g rest_rows ≡ Some done.rest
    unfolding rest_rows
    rest_there = set_here xs g done.was (Some done.rest) done.there

    rest_length : length rest_rows ≡ length xs
    unfolding rest_rows
    rest_length = set_length xs g (Some done.rest)

    more_is : ys ≡ rest_rows ++ Some done.part ∷ []
    unfolding rest_rows
    more_is = done.more

    part_class : IsClass next rest_rows (key_of done.part) done.part.class
    part_class =
        let one : done.rest.class ≡ done.part.class = done.rest_class ∙ sym done.part_class in
        let key : key_of done.rest ≡ key_of done.part = ap (λ (s : Grouped). s.point.key) done.rest_is ∙ sym part_key in
        subst (λ (n : ℕ). IsClass next rest_rows (key_of done.part) n) one
        (class_known next rest_rows (key_of done.part) rest_kept.classed g done.rest rest_there (ap (same_group (key_of done.rest)) (sym key) ∙ laws.refl (key_of done.rest)))

    pub kept_split : IsKept next hand q ys
    kept_split =
        let low : done.was.class < next = kept.classed.used g done.was done.there in
        let small : IsSmall done.was = kept.small g done.was done.there in
        let short = done.short in let same = rest_length in
        subst (λ (zs : Entries). IsKept next hand q zs) (sym more_is)
        (kept_pushed next next hand p q rest_rows done.part rest_kept part_uses part_class (omega (arith, low, done.part_class)) (omega arith)
        (subst (λ (a : AdjRibOut Key ℕ). (length a.formatted < 2 ^ 64) × (length a.desired < 2 ^ 64)) (sym (ap (λ (k : Standing). k.adj) done.point)) small) (omega (arith, short, same)))

    part_is : row_in q done.part ≡ part_row members (row_in p done.was)
    part_is =
        row_same p q done.part (λ id more. done.values id)
        ∙ ap (λ (k : Standing). row_in p (with_grouped done.part (record { point = k; queue = done.part.subgroup.queue }))) done.point
        ∙ ap (λ (l : Queued Packet). row_in p (with_grouped done.part (record { point = record done.was.subgroup.point { stuck = 0 }; queue = l }))) done.queue

    pub rows_split : rows_in q ys ≡ with_next (part_row members (row_in p done.was)) (with_row g (rest_row members) (rows_in p xs))
    rows_split =
        ap (rows_in q) more_is ∙ rows_pushed next next hand p q rest_rows done.part rest_kept part_uses done.values (part_row members (row_in p done.was)) part_is
        ∙ ap (λ (rs : Rows). with_next (part_row members (row_in p done.was)) rs) (rows_done p p xs rest_rows g (rest_row members) rest_done next hand kept)

-- ---- two meet

set_apart : {T : Type 0} (xs : List (Option T)) (g h : ℕ) (o p : Option T) → (g ≡ h → ⊥) → slice_set (slice_set xs h p) g o ≡ slice_set (slice_set xs g o) h p
set_apart [] g h o p apart = refl
set_apart (x ∷ xs) zero zero o p apart = absurd (apart refl)
set_apart (x ∷ xs) zero (suc h) o p apart = refl
set_apart (x ∷ xs) (suc g) zero o p apart = refl
set_apart {T} (x ∷ xs) (suc g) (suc h) o p apart = ap (λ (ys : List (Option T)). x ∷ ys) (set_apart xs g h o p (λ same. apart (ap suc same)))

pub apart_by : (g h : ℕ) → (g == h) ≡ false → g ≡ h → ⊥
apart_by g h e same = let so = eq-eqb g h same in absurd cc

pub still_there : {T : Type 0} (xs : List (Option T)) (g h : ℕ) (x : T) → (g == h) ≡ false → value_of g (slice_set xs h None) ≡ Some x → value_of g xs ≡ Some x
still_there xs g h x e is = sym (set_other xs h g None (apart_by g h e)) ∙ is

-- what is there stays where another goes
pub stays_there : {T : Type 0} (xs ys : List (Option T)) (g h : ℕ) → (g == h) ≡ false → ys ≡ slice_set xs h None → IsSome (value_of g xs) → IsSome (value_of g ys)
stays_there xs ys g h apart gone there = subst (λ zs. IsSome (value_of g zs)) (sym gone) (subst IsSome (sym (set_other xs h g None (apart_by g h apart))) there)

module _ (p q : Pooled OutAttrs) (xs ys : Entries) (g h : ℕ) (apart : (g == h) ≡ false) (done : IsMerged p q xs ys g h) where
  with_rows : Entries
  with_rows = slice_set xs g (Some done.now)

  with_done : IsDone p p xs with_rows g (with_queue (λ l. with_members l (keys_of done.other.subgroup.queue.places)))
  unfolding with_rows
  with_done = queue_moved p p xs (slice_set xs g (Some done.now)) g done.was done.now (λ l. with_members l (keys_of done.other.subgroup.queue.places)) done.there refl done.class done.now_is (λ id. refl) (λ id is. refl) refl

  other_gone : IsGone p q with_rows ys h
  unfolding with_rows
  other_gone = record {
    was = done.other;
    there = set_other xs g h (Some done.now) (λ same. apart_by g h apart (sym same)) ∙ done.with_it;
    gone = done.changed ∙ set_apart xs g h (Some done.now) None (apart_by g h apart);
    uses = done.uses;
    values = done.values;
  }

  module _ (next : ℕ) (hand : Option ℕ) (kept : IsKept next hand p xs) where
    with_kept : IsKept next hand p with_rows
    with_kept = kept_done p p xs with_rows g (with_queue (λ l. with_members l (keys_of done.other.subgroup.queue.places))) with_done next hand kept

    pub kept_merged : IsKept next hand q ys
    kept_merged = kept_gone next hand p q with_rows ys h with_kept other_gone

    pub rows_merged : rows_in q ys ≡ without_row h (with_row g (absorbing_row (row_in p done.other)) (rows_in p xs))
    rows_merged =
        rows_gone next hand p q with_rows ys h with_kept other_gone (rows_in p with_rows) refl
        ∙ ap (λ (rs : Rows). without_row h rs) (rows_done p p xs with_rows g (with_queue (λ l. with_members l (keys_of done.other.subgroup.queue.places))) with_done next hand kept)

-- ---- where memory ran out

pub part_room : (pool : Pooled OutAttrs) (xs : Entries) (g : ℕ) (e : Entry) → AreKept pool xs → value_of g xs ≡ Some e → HasRoom (length (adj_of e).formatted + length (adj_of e).desired) pool
part_room pool xs g e kept there = by kept (room_in pool xs kept)
  where
    by : AreKept pool xs → HasRoom (2 ^ 66) pool → HasRoom (length (adj_of e).formatted + length (adj_of e).desired) pool
    by (next, hand, k) room = let small = k.small g e there in room_less (length (adj_of e).formatted + length (adj_of e).desired) (2 ^ 66) pool (omega (arith, small.0, small.1)) room

-- some have left, and the one of their own was given back
pub kept_parted : (p q r : Pooled OutAttrs) (xs : Entries) (g : ℕ) (e : Entry) (s : Grouped) (members : List ℕ) (part back : Entry) → value_of g xs ≡ Some e → s ≡ record e.subgroup { queue = shed (without_members e.subgroup.queue members) }
    → part.subgroup.point ≡ record e.subgroup.point { stuck = 0 } → back ≡ part → ((id : ℕ) → uses_of (held q id) ≡ uses_of (held p id) + holds (adj_of e) id) → ((id : ℕ) → uses_of (held r id) + holds (adj_of back) id ≡ uses_of (held q id))
    → (next : ℕ) (hand : Option ℕ) → IsKept next hand p xs → IsKept next hand r (slice_set xs g (Some (with_grouped e s)))
kept_parted p q r xs g e s members part back there is point returned held let_go next hand kept =
    kept_done r r xs (slice_set xs g (Some (with_grouped e s))) g (rest_row members)
    (queue_moved r r xs (slice_set xs g (Some (with_grouped e s))) g e (with_grouped e s) (λ l. shed (without_members l members)) there refl refl is (λ id. refl) (λ id some. refl) refl) next hand
    (record {
      counted = λ id. (let all = kept.counted id in let more = held id in let less = let_go id in let same = holds_same id in omega (arith, all, more, less, same));
      small = kept.small;
      classed = kept.classed;
      short = kept.short;
    })
  where
    holds_same : (id : ℕ) → holds (adj_of back) id ≡ holds (adj_of e) id
    holds_same id = ap (λ (b : Entry). holds (adj_of b) id) returned ∙ ap (λ (k : Standing). holds k.adj id) point

-- the other was given back, and ended all the same
pub kept_back : (p q r : Pooled OutAttrs) (xs : Entries) (g h : ℕ) (e other : Entry) (s back : Grouped) → value_of h xs ≡ Some other → value_of g (slice_set xs h None) ≡ Some e → s ≡ e.subgroup → back ≡ other.subgroup → q ≡ p
    → ((id : ℕ) → uses_of (held r id) + holds back.point.adj id ≡ uses_of (held q id)) → ((id : ℕ) → IsSome (held r id) → value_in r id ≡ value_in q id)
    → (next : ℕ) (hand : Option ℕ) → IsKept next hand p xs → IsKept next hand r (slice_set (slice_set xs h None) g (Some (with_grouped e s)))
kept_back p q r xs g h e other s back with_it there same returned pool uses values next hand kept =
    kept_gone next hand p r xs (slice_set (slice_set xs h None) g (Some (with_grouped e s))) h kept
    (record {
      was = other;
      there = with_it;
      gone = unchanged (slice_set xs h None) g e s there same;
      uses = λ id. ap (λ (b : Grouped). uses_of (held r id) + holds b.point.adj id) (sym returned) ∙ uses id ∙ ap (λ (o : Pooled OutAttrs). uses_of (held o id)) pool;
      values = λ id some. values id some ∙ ap (λ (o : Pooled OutAttrs). value_in o id) pool;
    })

-- ---- what a call leaves

pub kept_or : {T E : Type 0} {P : Type 0} (r : Result T E) (p q : Pooled OutAttrs) (xs ys : Entries) (next : ℕ) (hand : Option ℕ) → IsKept next hand p xs → (P → IsKept next hand q ys) → OnOk r P
    → OnErr r ((next : ℕ) (hand : Option ℕ) → IsKept next hand p xs → IsKept next hand q ys) → IsKept next hand q ys
kept_or (Ok x) p q xs ys next hand kept so done err = so done
kept_or (Err x) p q xs ys next hand kept so done err = err next hand kept

row_of : (pool : Pooled OutAttrs) (xs : Entries) (g : ℕ) (rows : Rows) (e : Entry) (r : Row) → rows_in pool xs ≡ rows → value_of g xs ≡ Some e → row_at g rows ≡ Some r → row_in pool e ≡ r
row_of pool xs g rows e r is there at = let same : Some (row_in pool e) ≡ Some r = ap (option_map (row_in pool)) (sym there) ∙ sym (value_map (row_in pool) xs g) ∙ ap (λ (rs : Rows). row_at g rs) is ∙ at in cc

pub seen_split : {T E : Type 0} (r : Result T E) (p q : Pooled OutAttrs) (xs ys : Entries) (g : ℕ) (members : List ℕ) (next : ℕ) (hand : Option ℕ) (rows : Rows) → IsKept next hand p xs → rows_in p xs ≡ rows → OnOk r (IsSplit p q xs ys g members)
    → OnOk r ((row : Row) → row_at g rows ≡ Some row → rows_in q ys ≡ with_next (part_row members row) (with_row g (rest_row members) rows))
seen_split (Ok x) p q xs ys g members next hand rows kept is done = λ row at.
    rows_split p q xs ys g members done next hand kept
    ∙ ap (λ (s : Row). with_next (part_row members s) (with_row g (rest_row members) (rows_in p xs))) (row_of p xs g rows done.was row is done.there at)
    ∙ ap (λ (rs : Rows). with_next (part_row members row) (with_row g (rest_row members) rs)) is
seen_split (Err x) p q xs ys g members next hand rows kept is done = tt

pub seen_merged : {T E : Type 0} (r : Result T E) (p q : Pooled OutAttrs) (xs ys : Entries) (g h : ℕ) (next : ℕ) (hand : Option ℕ) (rows : Rows) → (g == h) ≡ false → IsKept next hand p xs → rows_in p xs ≡ rows → OnOk r (IsMerged p q xs ys g h)
    → OnOk r ((row : Row) → row_at h rows ≡ Some row → rows_in q ys ≡ without_row h (with_row g (absorbing_row row) rows))
seen_merged (Ok x) p q xs ys g h next hand rows apart kept is done = λ row at.
    rows_merged p q xs ys g h apart done next hand kept
    ∙ ap (λ (s : Row). without_row h (with_row g (absorbing_row s) (rows_in p xs))) (row_of p xs h rows done.other row is done.with_it at)
    ∙ ap (λ (rs : Rows). without_row h (with_row g (absorbing_row row) rs)) is
seen_merged (Err x) p q xs ys g h next hand rows apart kept is done = tt

-- what the row of the one says of that of the other
pub apart_in : (pool : Pooled OutAttrs) (xs : Entries) (g h : ℕ) (rows : Rows) → rows_in pool xs ≡ rows
    → HasRow h rows (λ s. (m : ℕ) → IsMember s.queue m → (r : Row) → row_at g rows ≡ Some r → place_of r.queue m ≡ None)
    → IfSome (value_of h xs) (λ f. IfSome (value_of g xs) (λ e. (m : ℕ) → IsMember f.subgroup.queue m → place_of e.subgroup.queue m ≡ None))
apart_in pool xs g h rows is apart = if_in (λ s. IfSome (value_of g xs) (λ e. (m : ℕ) → IsMember s.queue m → place_of e.subgroup.queue m ≡ None)) pool xs h rows is (apart.0, apart.1, by (value_of g xs) refl)
  where
    by : (o : Option Entry) → value_of g xs ≡ o → IfSome o (λ e. (m : ℕ) → IsMember (apart.0).queue m → place_of e.subgroup.queue m ≡ None)
    by None at = tt
    by (Some e) at = λ m member. apart.2 m member (row_in pool e) (ap (λ (rs : Rows). row_at g rs) (sym is) ∙ value_map (row_in pool) xs g ∙ ap (option_map (row_in pool)) at)

-- what the rows say of the sessions of two
pub alike_in : (pool : Pooled OutAttrs) (xs : Entries) (g h : ℕ) (rows : Rows) → rows_in pool xs ≡ rows → HasRow g rows (λ r. HasRow h rows (λ s. session_of s.sub.key ≡ session_of r.sub.key))
    → (e f : Entry) → value_of g xs ≡ Some e → value_of h xs ≡ Some f → session_of (key_of e) ≡ session_of (key_of f)
alike_in pool xs g h rows is (r, r_at, (s, s_at, same)) e f e_there f_there =
    ap (λ (x : Row). session_of x.sub.key) (row_of pool xs g rows e r is e_there r_at) ∙ sym same ∙ ap (λ (x : Row). session_of x.sub.key) (sym (row_of pool xs h rows f s is f_there s_at))
