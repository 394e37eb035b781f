-- What a table has with announcements that wait.
use Rattle.std.proofs.Common.{◌≡◌, ℕ, Bool, true, false, cond, not, ◌&&◌, ◌||◌, List, [], ◌∷◌, ◌++◌, ◌+◌, ◌<◌, suc, length, get_or, drop, Option, Some, Ordering, refl, sym, ap, ◌∙◌, drop-cons, add-one}
use Rattle.std.specs.Prelude.{if◌then◌else◌}
use Rattle.std.specs.declared.cmp.Ordering.TheVariants.{Less, Equal, Greater}
use Rattle.std.specs.Ordering.{is_eq, is_lt, ordering_reverse}
use Rattle.std.specs.List.{filter}
use Rattle.std.specs.List.Sorted.{IsPermutation, ties}
use Rattle.std.proofs.lemmas.List.{nil_from_length}
use Rattle.std.proofs.lemmas.List.Elements.{filter_agree}
use Rattle.std.proofs.lemmas.List.Sorted.{length_permutation}
use Rattle.ug_types.specs.declared.key.Key.{Key}
use Rattle.ug_types.specs.Keys.{same_key}
use Rattle.ug_types.specs.Attributes.{Attributes}
use Rattle.ug_short_key.specs.Keys.{key_order, keys_total}
use Rattle.ug_message.specs.Tables.{among}
use Rattle.ug_check.specs.declared.waiting.Change.{Change}
use Rattle.ug_check.specs.Rows.{Rows, row_at}
use Rattle.ug_check.specs.Waiting.{with_waiting, with_change, of_key}
use Rattle.ug_check.proofs.Keys.{tied, same_is, key_turned}

-- ---- one more announcement

other_step : (x q : Key) (s t u a : Bool) (rest : List Key) → same_key q x ≡ u → (s ≡ true → u ≡ t) → (t ≡ true → u ≡ s) → among rest q ≡ (if t then false else a)
    → among (cond (not s) (x ∷ rest) rest) q ≡ (if t then false else (u || a))
other_step x q true true u a rest is like turned ih = ih
other_step x q true false u a rest is like turned ih = ih ∙ ap (λ (b : Bool). b || a) (sym (like refl))
other_step x q false true u a rest is like turned ih = ap (λ (b : Bool). b || among rest q) (is ∙ turned refl) ∙ ih
other_step x q false false u a rest is like turned ih = ap (λ (b : Bool). b || among rest q) is ∙ ap (λ (b : Bool). u || b) ih

none_left : (t : Bool) → false ≡ (if t then false else false)
none_left true = refl
none_left false = refl

-- what is among keys but for one
pub among_others : (k q : Key) (keys : List Key) → among (filter (λ (x : Key). not (same_key x k)) keys) q ≡ (if same_key q k then false else among keys q)
among_others k q [] = none_left (same_key q k)
among_others k q (x ∷ keys) =
    other_step x q (same_key x k) (same_key q k) (same_key q x) (among keys q) (filter (λ (y : Key). not (same_key y k)) keys) refl
    (λ e. ap (λ (z : Key). same_key q z) (same_is x k e)) (λ e. ap (λ (z : Key). same_key z x) (same_is q k e) ∙ key_turned k x) (among_others k q keys)

pub with_waiting_push : (t : Rows) (cs : List Change) (c : Change) → with_waiting t (cs ++ c ∷ []) ≡ with_change c (with_waiting t cs)
with_waiting_push t [] c = refl
with_waiting_push t (d ∷ cs) c = with_waiting_push (with_change d t) cs c

pub row_pushed : (t : Rows) (cs : List Change) (c : Change) (q : Key)
    → row_at (with_waiting t (cs ++ c ∷ [])).rows q ≡ (if same_key q c.key then Some c.row.shared.value.attrs else row_at (with_waiting t cs).rows q)
row_pushed t cs c q = ap (λ (r : Rows). row_at r.rows q) (with_waiting_push t cs c)

pub stale_pushed : (t : Rows) (cs : List Change) (c : Change) (q : Key) → among (with_waiting t (cs ++ c ∷ [])).stale q ≡ (if same_key q c.key then false else among (with_waiting t cs).stale q)
stale_pushed t cs c q = ap (λ (r : Rows). among r.stale q) (with_waiting_push t cs c) ∙ among_others c.key q (with_waiting t cs).stale

-- ---- tables that are alike at a key

pub rows_alike : (cs : List Change) (s t : Rows) (q : Key) → row_at s.rows q ≡ row_at t.rows q → row_at (with_waiting s cs).rows q ≡ row_at (with_waiting t cs).rows q
rows_alike [] s t q h = h
rows_alike (c ∷ cs) s t q h = rows_alike cs (with_change c s) (with_change c t) q (ap (λ (o : Option Attributes). cond (same_key q c.key) (Some c.row.shared.value.attrs) o) h)

pub stale_alike : (cs : List Change) (s t : Rows) (q : Key) → among s.stale q ≡ among t.stale q → among (with_waiting s cs).stale q ≡ among (with_waiting t cs).stale q
stale_alike [] s t q h = h
stale_alike (c ∷ cs) s t q h =
    stale_alike cs (with_change c s) (with_change c t) q
    (among_others c.key q s.stale ∙ ap (λ (b : Bool). if same_key q c.key then false else b) h ∙ sym (among_others c.key q t.stale))

-- ---- only the announcements of a key matter to it

row_step : (q : Key) (b : Bool) (c : Change) (t : Rows) (cs rest : List Change) → same_key q c.key ≡ b → ((s : Rows) → row_at (with_waiting s cs).rows q ≡ row_at (with_waiting s rest).rows q)
    → row_at (with_waiting (with_change c t) cs).rows q ≡ row_at (with_waiting t (cond b (c ∷ rest) rest)).rows q
row_step q true c t cs rest is ih = ih (with_change c t)
row_step q false c t cs rest is ih =
    ih (with_change c t) ∙ rows_alike rest (with_change c t) t q (ap (λ (b : Bool). cond b (Some c.row.shared.value.attrs) (row_at t.rows q)) is)

row_by_key : (q : Key) (cs : List Change) (t : Rows) → row_at (with_waiting t cs).rows q ≡ row_at (with_waiting t (of_key q cs)).rows q
row_by_key q [] t = refl
row_by_key q (c ∷ cs) t = row_step q (same_key q c.key) c t cs (of_key q cs) refl (λ s. row_by_key q cs s)

stale_step : (q : Key) (b : Bool) (c : Change) (t : Rows) (cs rest : List Change) → same_key q c.key ≡ b → ((s : Rows) → among (with_waiting s cs).stale q ≡ among (with_waiting s rest).stale q)
    → among (with_waiting (with_change c t) cs).stale q ≡ among (with_waiting t (cond b (c ∷ rest) rest)).stale q
stale_step q true c t cs rest is ih = ih (with_change c t)
stale_step q false c t cs rest is ih =
    ih (with_change c t) ∙ stale_alike rest (with_change c t) t q (among_others c.key q t.stale ∙ ap (λ (b : Bool). if b then false else among t.stale q) is)

stale_by_key : (q : Key) (cs : List Change) (t : Rows) → among (with_waiting t cs).stale q ≡ among (with_waiting t (of_key q cs)).stale q
stale_by_key q [] t = refl
stale_by_key q (c ∷ cs) t = stale_step q (same_key q c.key) c t cs (of_key q cs) refl (λ s. stale_by_key q cs s)

pub row_in_order : (q : Key) (cs ds : List Change) (t : Rows) → of_key q ds ≡ of_key q cs → row_at (with_waiting t ds).rows q ≡ row_at (with_waiting t cs).rows q
row_in_order q cs ds t same = row_by_key q ds t ∙ ap (λ (l : List Change). row_at (with_waiting t l).rows q) same ∙ sym (row_by_key q cs t)

pub stale_in_order : (q : Key) (cs ds : List Change) (t : Rows) → of_key q ds ≡ of_key q cs → among (with_waiting t ds).stale q ≡ among (with_waiting t cs).stale q
stale_in_order q cs ds t same = stale_by_key q ds t ∙ ap (λ (l : List Change). among (with_waiting t l).stale q) same ∙ sym (stale_by_key q cs t)

-- ---- a sort that keeps the order of what ties

neither : (o : Ordering) → (not (is_lt o) && not (is_lt (ordering_reverse o))) ≡ is_eq o
neither Less = refl
neither Equal = refl
neither Greater = refl

ties_same : (c d : Change) → ties (λ (x : Change) (y : Change). is_lt (key_order x.key y.key)) c d ≡ same_key c.key d.key
ties_same c d =
    ap (λ (o : Ordering). not (is_lt (key_order c.key d.key)) && not (is_lt o)) (keys_total.antisymm d.key c.key)
    ∙ neither (key_order c.key d.key) ∙ tied c.key d.key

pub kept_by_key : (cs ds : List Change) → IsPermutation cs ds
    → ((c : Change) → filter (ties (λ (x : Change) (y : Change). is_lt (key_order x.key y.key)) c) ds ≡ filter (ties (λ (x : Change) (y : Change). is_lt (key_order x.key y.key)) c) cs)
    → (q : Key) → of_key q ds ≡ of_key q cs
kept_by_key [] ds moved stable q = ap (λ (l : List Change). of_key q l) (nil_from_length ds (length_permutation [] ds moved))
kept_by_key (e ∷ cs) ds moved stable q =
    let c : Change = record { key = q; row = e.row } in
    filter_agree (λ (d : Change). same_key q d.key) (ties (λ (x : Change) (y : Change). is_lt (key_order x.key y.key)) c) (λ d. sym (ties_same c d)) ds
    ∙ stable c
    ∙ filter_agree (ties (λ (x : Change) (y : Change). is_lt (key_order x.key y.key)) c) (λ (d : Change). same_key q d.key) (λ d. ties_same c d) (e ∷ cs)

-- ---- several announcements

-- one of several keys is done
pub key_done : {V : Type 0} (s b : Bool) (w new old all : V) → new ≡ (if s then w else old) → (if s || b then w else old) ≡ all → (if b then w else new) ≡ all
key_done true true w new old all e h = h
key_done true false w new old all e h = e ∙ h
key_done false true w new old all e h = h
key_done false false w new old all e h = e ∙ h

pub next_key : (keys : List Key) (i : ℕ) (key : Key) → i < length keys → key ≡ get_or keys i key → drop i keys ≡ key ∷ drop (i + 1) keys
next_key keys i key there is = drop-cons keys i key there ∙ ap (λ (k : Key). k ∷ drop (suc i) keys) (sym is) ∙ ap (λ (n : ℕ). key ∷ drop n keys) (sym (add-one i))
