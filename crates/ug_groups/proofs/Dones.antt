-- One of the subgroups is changed so, by what a call of it says.
use Rattle.std.proofs.Common.{◌≡◌, ℕ, ◌<◌, Option, Some, None, refl, sym, ◌∙◌, ap, subst, arith, slice_set, length, Result, Ok, Err, OnErr}
use Rattle.std.specs.Prelude.{IfSome, IfNone, ◌≤◌, ◌^◌}
use Rattle.ug_types.specs.declared.key.Key.{Key}
use Rattle.ug_types.specs.declared.route.OutAttrs.{OutAttrs}
use Rattle.ug_intern.specs.Pools.{Pooled}
use Rattle.ug_queue.specs.Queues.{Queued}
use Rattle.ug_queue.specs.Spread.{value_of}
use Rattle.ug_group_rules.specs.Packets.{Packet}
use Rattle.ug_groups.specs.Holders.{IsMoved}
use Rattle.ug_groups.specs.Subgroups.{Grouped}
use Rattle.ug_groups.proofs.Holders.{moved_none}
use Rattle.ug_groups.specs.declared.entry.Entry.{Entry}
use Rattle.ug_adjout.specs.Pending.{AdjRibOut}
use Rattle.ug_group_rules.specs.Machine.{Subgroup}
use Rattle.ug_groups.specs.Standings.{Standing, seen}
use Rattle.ug_groups.proofs.Lists.{set_same}
use Rattle.ug_groups.specs.Rows.{Row, with_queue, with_sub}
use Rattle.ug_groups.specs.Entries.{Entries, key_of, adj_of, row_in, IsSmall, IsDone}

abbrev pub with_grouped : Entry → Grouped → Entry
with_grouped e s = record { class = e.class; subgroup = s }

pub queue_done : (pool : Pooled OutAttrs) (xs : Entries) (g : ℕ) (e : Entry) (s : Grouped) (f : Queued Packet → Queued Packet) → value_of g xs ≡ Some e → s ≡ record { point = e.subgroup.point; queue = f e.subgroup.queue }
    → IsDone pool pool xs (slice_set xs g (Some (with_grouped e s))) g (with_queue f)
queue_done pool xs g e s f there is = record {
  was = e;
  now = with_grouped e s;
  there = there;
  changed = refl;
  class = refl;
  key = ap (λ (t : Grouped). t.point.key) is;
  small = λ small. subst (λ (t : Grouped). IsSmall (with_grouped e t)) (sym is) small;
  moved = subst (λ (t : Grouped). IsMoved pool pool (adj_of e) t.point.adj) (sym is) (moved_none pool (adj_of e));
  row = ap (λ (t : Grouped). row_in pool (with_grouped e t)) is;
}

pub point_done : (p q : Pooled OutAttrs) (xs : Entries) (g : ℕ) (e : Entry) (s : Grouped) (f : Subgroup → Subgroup) → value_of g xs ≡ Some e → s.point.key ≡ key_of e → (IsSmall e → IsSmall (with_grouped e s))
    → IsMoved p q (adj_of e) s.point.adj → seen q s.point ≡ f (seen p e.subgroup.point) → s.queue ≡ e.subgroup.queue → IsDone p q xs (slice_set xs g (Some (with_grouped e s))) g (with_sub f)
point_done p q xs g e s f there key small moved is queue = record {
  was = e;
  now = with_grouped e s;
  there = there;
  changed = refl;
  class = refl;
  key = key;
  small = small;
  moved = moved;
  row = ap (λ (x : Subgroup). record { sub = x; queue = s.queue }) is ∙ ap (λ (l : Queued Packet). record { sub = f (seen p e.subgroup.point); queue = l }) queue;
}

-- the tables stay
pub flags_done : (pool : Pooled OutAttrs) (xs : Entries) (g : ℕ) (e : Entry) (s : Grouped) (k : Standing) (change : Row → Row) → value_of g xs ≡ Some e → s.point ≡ k → k.key ≡ key_of e → k.adj ≡ adj_of e → s.queue ≡ e.subgroup.queue
    → row_in pool (with_grouped e (record { point = k; queue = e.subgroup.queue })) ≡ change (row_in pool e) → IsDone pool pool xs (slice_set xs g (Some (with_grouped e s))) g change
flags_done pool xs g e s k change there point key adj queue is = record {
  was = e;
  now = with_grouped e s;
  there = there;
  changed = refl;
  class = refl;
  key = ap (λ (t : Standing). t.key) point ∙ key;
  small = λ small. let same : s.point.adj ≡ adj_of e = ap (λ (t : Standing). t.adj) point ∙ adj in subst (λ (a : AdjRibOut Key ℕ). (length a.formatted < 2 ^ 64) × (length a.desired < 2 ^ 64)) (sym same) small;
  moved = let same : s.point.adj ≡ adj_of e = ap (λ (t : Standing). t.adj) point ∙ adj in subst (λ (a : AdjRibOut Key ℕ). IsMoved pool pool (adj_of e) a) (sym same) (moved_none pool (adj_of e));
  row = ap (λ (t : Standing). row_in pool (with_grouped e (record { point = t; queue = s.queue }))) point ∙ ap (λ (l : Queued Packet). row_in pool (with_grouped e (record { point = k; queue = l }))) queue ∙ is;
}

pub small_by : (e : Entry) (n : ℕ) → length (adj_of e).formatted ≤ n → length (adj_of e).desired ≤ n → n < 2 ^ 64 → IsSmall e
small_by e n formatted desired small = (omega (arith, formatted, small), omega (arith, desired, small))

-- what stays where nothing was done
pub unchanged : (xs : Entries) (g : ℕ) (e : Entry) (s : Grouped) → value_of g xs ≡ Some e → s ≡ e.subgroup → slice_set xs g (Some (with_grouped e s)) ≡ xs
unchanged xs g e s there is = ap (λ (t : Grouped). slice_set xs g (Some (with_grouped e t))) is ∙ set_same xs g e there

-- what is required of the one that is there
pub at_there : (P : Entry → Type 0) (xs : Entries) (g : ℕ) (e : Entry) → value_of g xs ≡ Some e → IfSome (value_of g xs) P → P e
at_there P xs g e there h = subst (λ (o : Option Entry). IfSome o P) there h

pub one_there : (xs : Entries) (g : ℕ) (e f : Entry) → value_of g xs ≡ Some e → value_of g xs ≡ Some f → e ≡ f
one_there xs g e f here there = let same : Some e ≡ Some f = sym here ∙ there in cc

pub none_weaker : {T : Type 0} {P Q : Type 0} (o : Option T) → (P → Q) → IfNone o P → IfNone o Q
none_weaker None f p = f p
none_weaker (Some x) f p = tt

pub some_weaker : {T : Type 0} {P Q : T → Type 0} (o : Option T) → ((x : T) → P x → Q x) → IfSome o P → IfSome o Q
some_weaker None f p = tt
some_weaker (Some x) f p = f x p

pub on_err_of : {T E Q : Type 0} (r : Result T E) → Q → OnErr r Q
on_err_of (Ok x) q = tt
on_err_of (Err x) q = q
