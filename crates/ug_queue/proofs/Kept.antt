-- What a line keeps when a member comes, goes or moves, a packet is added, or the first one goes.
use Rattle.std.proofs.Common.{◌≡◌, ℕ, zero, suc, ◌+◌, ◌-◌, ◌<◌, ◌≤◌, ◌==◌, ◌%◌, ◌^◌, inl, inr, true, false, List, [], ◌∷◌, ◌++◌, length, drop, set, get_or, slice_get, Option, Some, None, refl, sym, ap, ◌∙◌, subst, arith, length-append, length-drop, length-set}
use Rattle.std.specs.Prelude.{IfSome, IfNone}
use Rattle.std.specs.Map.{lookup, remove_entry, keys_of}
use Rattle.std.specs.List.Sorted.{IsStrictlySortedBy}
use Rattle.std.specs.Ordering.{nat_cmp, match_ordering}
use Rattle.std.specs.declared.cmp.Ordering.{Ordering}
use Rattle.std.specs.declared.cmp.Ordering.TheVariants.{Less, Equal, Greater}
use Rattle.std.proofs.lemmas.List.{append_assoc}
use Rattle.std.specs.BTreeMap.{insert_entry}
use Rattle.std.proofs.lemmas.Bool.{cases_eq}
use Rattle.std.proofs.lemmas.Bool.Decides.{nat_tests}
use Rattle.std.proofs.lemmas.Cmp.{nat_cmp_total}
use Rattle.std.proofs.lemmas.Map.Entries.{lookup_from_place}
use Rattle.std.proofs.lemmas.Map.Keys.{IsDistinct-from_sorted}
use Rattle.std.specs.Cmp.{eq_by_cmp_equiv}
use Rattle.ug_queue.specs.Queues.{Queued, is_member, mapped, least_place, seat_all}
use Rattle.ug_queue.specs.Lines.{place_from, places_from, AreCounted, IsLine}
use Rattle.ug_queue.proofs.Counts.{standing-remove, standing-insert, standing-move, standing_at_most, member_stands, someone_stands, counted_inside, counted_lower, counted_raise, get_or-more, first_passed, counted_drop}
use Rattle.ug_queue.proofs.Placed.{cursor_at, next_cursor, entry_before, remove_entry-mapped, insert_entry-mapped, keys_of-mapped, places_after}
use Rattle.ug_queue.proofs.Sheds.{place_inside}

pub length-mapped : (f : ℕ → ℕ) (es : List (ℕ × ℕ)) → length (mapped f es) ≡ length es
length-mapped f [] = refl
length-mapped f (e ∷ es) = omega (arith, length-mapped f es)

-- a line and what its places are
pub record Keeps (n : ℕ) (w : List ℕ) (s : ℕ) (es now : List (ℕ × ℕ)) : Type 0 where
  pub line : IsLine n w s es
  pub places : places_from s es ≡ now

kept : (n : ℕ) (w : List ℕ) (s : ℕ) (es now : List (ℕ × ℕ)) → places_from s es ≡ now → AreCounted w now → (0 < length w → length w ≡ n + 1) → (length w ≡ 0 → n ≡ 0)
    → IsStrictlySortedBy nat_cmp (keys_of es) → s < 2 ^ 64 → Keeps n w s es now
kept n w s es now e c long fresh sorted small = record { line = record { counted = subst (AreCounted w) (sym e) c; long = long; fresh = fresh; sorted = sorted; small = small }; places = e }

module _ (n : ℕ) (w : List ℕ) (s : ℕ) (es : List (ℕ × ℕ)) (l : IsLine n w s es) where
  abbrev here : List (ℕ × ℕ)
  here = places_from s es

  here_sorted : IsStrictlySortedBy nat_cmp (keys_of here)
  here_sorted = subst (IsStrictlySortedBy nat_cmp) (sym (keys_of-mapped (place_from s) es)) l.sorted

  pub stands_inside : (m p : ℕ) → lookup (is_member m) here ≡ Some p → (p < length w) × (p ≤ n)
  stands_inside m p at = place_inside n w here (is_member m) p l.counted l.long at

  -- whose entry it is
  pub stands_at : (i m p : ℕ) → slice_get here i ≡ Some (m, p) → lookup (is_member m) here ≡ Some p
  stands_at i m p at = lookup_from_place (eq_by_cmp_equiv nat_cmp_total) here i m p (IsDistinct-from_sorted nat_cmp (keys_of here) here_sorted) at

  pub stands_some : (m p : ℕ) → lookup (is_member m) here ≡ Some p → 1 ≤ get_or w p 0
  stands_some m p at = omega (arith, l.counted p, member_stands (is_member m) here p at)

  -- its cursor goes on by one
  pub cursor_on : (fs : List (ℕ × ℕ)) (i m p : ℕ) → slice_get here i ≡ Some (m, p) → ((e : ℕ × ℕ) → slice_get es i ≡ Some e → fs ≡ insert_entry nat_cmp es e.0 ((e.1 + 1) % 2 ^ 64))
      → fs ≡ insert_entry nat_cmp es m ((s + (p + 1)) % 2 ^ 64)
  cursor_on fs i m p at on =
      let entry = entry_before (place_from s) es i m p at in
      on (m, entry.0) entry.1 ∙ ap (insert_entry nat_cmp es m) (next_cursor s entry.0 l.small ∙ ap (λ k. (s + (k + 1)) % 2 ^ 64) entry.2)

  lowered : (m p : ℕ) → lookup (is_member m) here ≡ Some p → AreCounted (set w p (get_or w p 0 - 1)) (remove_entry (is_member m) here)
  lowered m p at = counted_lower w here (remove_entry (is_member m) here) p l.counted (stands_inside m p at).0 (λ i. standing-remove (is_member m) here p i at)

  pub removed : (v : List ℕ) (fs : List (ℕ × ℕ)) (m p : ℕ) → lookup (is_member m) here ≡ Some p → v ≡ set w p (get_or w p 0 - 1) → fs ≡ remove_entry (is_member m) es
      → IsStrictlySortedBy nat_cmp (keys_of fs) → Keeps n v s fs (remove_entry (is_member m) here)
  removed v fs m p at ve fe sorted =
      let long : length v ≡ length w = ap length ve ∙ length-set w p (get_or w p 0 - 1) in
      kept n v s fs (remove_entry (is_member m) here) (ap (places_from s) fe ∙ remove_entry-mapped (place_from s) (is_member m) es) (subst (λ u. AreCounted u (remove_entry (is_member m) here)) (sym ve) (lowered m p at))
      (λ lt. omega (arith, long, l.long (omega (arith, lt, long)))) (λ z. l.fresh (omega (arith, z, long))) sorted l.small

  -- after the member is taken off its place, fewer stand at each
  pub lowered_at_most : (v : List ℕ) (m p i : ℕ) → lookup (is_member m) here ≡ Some p → v ≡ set w p (get_or w p 0 - 1) → get_or v i 0 ≤ length es
  lowered_at_most v m p i at ve =
      omega (arith, ap (λ u. get_or u i 0) ve, lowered m p at i, standing-remove (is_member m) here p i at, standing_at_most here i, length-mapped (place_from s) es)

  pub moved : (v u : List ℕ) (fs : List (ℕ × ℕ)) (m p : ℕ) → lookup (is_member m) here ≡ Some p → p < n → n < 2 ^ 64 → v ≡ set w p (get_or w p 0 - 1) → u ≡ set v (p + 1) (get_or v (p + 1) 0 + 1)
      → fs ≡ insert_entry nat_cmp es m ((s + (p + 1)) % 2 ^ 64) → IsStrictlySortedBy nat_cmp (keys_of fs) → Keeps n u s fs (insert_entry nat_cmp here m (p + 1))
  moved v u fs m p at lt ln ve ue fe sorted =
      let inside = (stands_inside m p at).0 in let whole = l.long (omega (arith, inside)) in
      let vlong : length v ≡ length w = ap length ve ∙ length-set w p (get_or w p 0 - 1) in
      let ulong : length u ≡ length v = ap length ue ∙ length-set v (p + 1) (get_or v (p + 1) 0 + 1) in
      let new = insert_entry nat_cmp here m (p + 1) in
      let vc = subst (λ x. AreCounted x (remove_entry (is_member m) here)) (sym ve) (lowered m p at) in
      let uc = counted_raise v (remove_entry (is_member m) here) new (p + 1) vc (omega (arith, lt, whole, vlong)) (λ i. standing-move here m p (p + 1) i here_sorted at) in
      kept n u s fs new (ap (places_from s) fe ∙ insert_entry-mapped (place_from s) m ((s + (p + 1)) % 2 ^ 64) es ∙ ap (λ x. insert_entry nat_cmp here m x) (cursor_at s (p + 1) l.small (omega (arith, lt, ln))))
      (subst (λ x. AreCounted x new) (sym ue) uc) (λ _. omega (arith, ulong, vlong, whole)) (λ z. absurd (omega (arith, z, ulong, vlong, whole))) sorted l.small

  -- `begin` has made the place of the front
  pub begun_long : (v : List ℕ) → (0 < length w → length v ≡ length w) → (length w ≡ 0 → length v ≡ 1) → length v ≡ n + 1
  begun_long v same first = elim (cases_eq (length w) 0) [
    | inl z ↦ omega (arith, first z, l.fresh z)
    | inr nz ↦ omega (arith, same (omega (arith, nz)), l.long (omega (arith, nz)))
  ]

  pub begun_at_most : (v : List ℕ) (i : ℕ) → get_or v i 0 ≡ get_or w i 0 → get_or v i 0 ≤ length es
  begun_at_most v i same = omega (arith, same, l.counted i, standing_at_most here i, length-mapped (place_from s) es)

  pub joined : (v u : List ℕ) (fs : List (ℕ × ℕ)) (m : ℕ) → lookup (is_member m) here ≡ None → n < 2 ^ 64 → ((i : ℕ) → get_or v i 0 ≡ get_or w i 0) → length v ≡ n + 1
      → u ≡ set v n (get_or v n 0 + 1) → fs ≡ insert_entry nat_cmp es m ((s + n) % 2 ^ 64) → IsStrictlySortedBy nat_cmp (keys_of fs) → Keeps n u s fs (insert_entry nat_cmp here m n)
  joined v u fs m at ln same vlong ue fe sorted =
      let ulong : length u ≡ length v = ap length ue ∙ length-set v n (get_or v n 0 + 1) in
      let new = insert_entry nat_cmp here m n in
      let uc = counted_raise v here new n (λ i. same i ∙ l.counted i) (omega (arith, vlong)) (λ i. standing-insert here m n i here_sorted at) in
      kept n u s fs new (ap (places_from s) fe ∙ insert_entry-mapped (place_from s) m ((s + n) % 2 ^ 64) es ∙ ap (λ x. insert_entry nat_cmp here m x) (cursor_at s n l.small ln))
      (subst (λ x. AreCounted x new) (sym ue) uc) (λ _. omega (arith, ulong, vlong)) (λ z. absurd (omega (arith, z, ulong, vlong))) sorted l.small

  pub appended : 0 < length here → IsLine (n + 1) (w ++ 0 ∷ []) s es
  appended some =
      let one = someone_stands here some in let inside = counted_inside w one.0 (omega (arith, l.counted one.0, one.1)) in
      let whole : length (w ++ 0 ∷ []) ≡ n + 1 + 1 = omega (arith, l.long (omega (arith, inside)), length-append w (0 ∷ [])) in
      record { counted = λ i. get_or-more w i ∙ l.counted i; long = λ _. whole; fresh = λ z. absurd (omega (arith, z, whole)); sorted = l.sorted; small = l.small }

  pub dropped : 0 < least_place n here → Keeps (n - 1) (drop 1 w) ((s + 1) % 2 ^ 64) es (mapped (λ p. p - 1) here)
  dropped lt =
      let first = first_passed n here lt in
      let some : 0 < length w = elim (cases_eq (length w) 0) [ inl z ↦ absurd (omega (arith, l.fresh z, first.0)) | inr nz ↦ omega (arith, nz) ] in
      let long : length (drop 1 w) ≡ n = omega (arith, length-drop 1 w, l.long some) in
      kept (n - 1) (drop 1 w) ((s + 1) % 2 ^ 64) es (mapped (λ p. p - 1) here) (places_after s n es l.small lt) (counted_drop w n here l.counted lt)
      (λ _. omega (arith, long, first.0)) (λ z. absurd (omega (arith, z, long, first.0))) l.sorted (omega arith)

module _ {P : Type 0} where
  pub popped : (o : Option P) (xs ys : List P) → IfNone o ((xs ≡ []) × (ys ≡ [])) → IfSome o (λ x. xs ≡ x ∷ ys) → ys ≡ drop 1 xs
  popped None xs ys none some = none.1 ∙ sym (ap (drop 1) none.0)
  popped (Some x) xs ys none some = sym (ap (drop 1) some)

pub false_true : false ≡ true → ⊥
false_true e = cc

pub zero_test : (x : ℕ) → x ≡ 0 → (x == 0) ≡ true
zero_test x e = grind (arith, nat_tests)

pub test_zero : (x : ℕ) → (x == 0) ≡ true → x ≡ 0
test_zero x e = grind (arith, nat_tests)

module _ {P : Type 0} where
  abbrev pub queued : List P → List (ℕ × ℕ) → ℕ → Queued P
  queued ps es k = record { packets = ps; places = es; limit = k }

  pub queued_same : (ps qs : List P) (es fs : List (ℕ × ℕ)) (k : ℕ) → ps ≡ qs → es ≡ fs → queued ps es k ≡ queued qs fs k
  queued_same ps qs es fs k pe ee = λ i. queued (pe i) (ee i) k

insert_cases : (r : Ordering) (m v : ℕ) (e : ℕ × ℕ) (es fs : List (ℕ × ℕ)) → 0 < length (match_ordering r ((m, v) ∷ e ∷ es) ((e.0, v) ∷ es) (e ∷ fs))
insert_cases Less m v e es fs = omega arith
insert_cases Equal m v e es fs = omega arith
insert_cases Greater m v e es fs = omega arith

insert_some : (es : List (ℕ × ℕ)) (m v : ℕ) → 0 < length (insert_entry nat_cmp es m v)
insert_some [] m v = omega arith
insert_some (e ∷ es) m v = insert_cases (nat_cmp m e.0) m v e es (insert_entry nat_cmp es m v)

seated_some : (es : List (ℕ × ℕ)) (ms : List ℕ) → 0 < length es → 0 < length (seat_all es ms)
seated_some es [] lt = lt
seated_some es (m ∷ ms) lt = seated_some (insert_entry nat_cmp es m 0) ms (insert_some es m 0)

pub listed_seated : (es : List (ℕ × ℕ)) (ms : List ℕ) → 0 < length ms → 0 < length (seat_all es ms)
listed_seated es [] lt = absurd (omega arith)
listed_seated es (m ∷ ms) lt = seated_some (insert_entry nat_cmp es m 0) ms (insert_some es m 0)

module _ {P : Type 0} where
  same_some : (x y : P) → Some x ≡ Some y → x ≡ y
  same_some x y e = cc

  drop_next : (ps : List P) (i : ℕ) (x : P) → slice_get ps i ≡ Some x → drop i ps ≡ x ∷ drop (suc i) ps
  drop_next [] i x e = cc
  drop_next (y ∷ ps) zero x e = ap (λ z. z ∷ ps) (same_some y x e)
  drop_next (y ∷ ps) (suc i) x e = drop_next ps i x e

  pub twin_next : (cs ps : List P) (i : ℕ) (x : P) → slice_get ps i ≡ Some x → (cs ++ x ∷ []) ++ drop (i + 1) ps ≡ cs ++ drop i ps
  twin_next cs ps i x e =
      let next : i + 1 ≡ suc i = omega arith in
      append_assoc cs (x ∷ []) (drop (i + 1) ps) ∙ ap (λ k. cs ++ x ∷ drop k ps) next ∙ sym (ap (λ l. cs ++ l) (drop_next ps i x e))
