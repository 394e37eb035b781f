-- How a change of one row is seen.
use Rattle.std.proofs.Common.{◌≡◌, ℕ, Bool, true, false, cond, not, ◌&&◌, ◌||◌, List, [], ◌∷◌, ◌++◌, Option, Some, None, refl, sym, ap, ◌∙◌, arith}
use Rattle.std.specs.Prelude.{is_some, nat_eq, if◌then◌else◌}
use Rattle.std.specs.Option.{option_eq}
use Rattle.std.specs.Ordering.{nat_cmp}
use Rattle.std.specs.Map.{keys_of, remove_entry}
use Rattle.std.specs.BTreeMap.{insert_entry, is_at}
use Rattle.std.specs.Cmp.{IsTotalOrder, both_ways}
use Rattle.std.specs.FinMap.{IsAntisymmetric}
use Rattle.std.specs.declared.cmp.Ordering.{Ordering}
use Rattle.std.proofs.lemmas.Map.Keys.{sorted_head, sorted_tail}
use Rattle.std.proofs.lemmas.Bool.{cond-true, cond-false, not_from_true, not_from_false}
use Rattle.std.proofs.lemmas.Bool.Decides.{nat_tests}
use Rattle.ug_adjout.specs.Tables.{has, without, value_at, with_value, IsTable}
use Rattle.ug_adjout.specs.TableLaws.{value_at-here, value_at-other, with_value-same, none_above, has-keys_of, has-filter, filter_but_one, one_key, at_itself, at_turned}
use Rattle.ug_adjout.specs.Pending.{AdjRibOut, waits, still_forced, requeue, with_desired, with_formatted}
use Rattle.ug_adjout.specs.PendingLaws.{requeue_one, without_absent, waits-with_desired, waits-with_formatted}
use Rattle.ug_adjout.specs.declared.row.Row.{Row}
use Rattle.ug_adjout.specs.declared.row.Change.{Change}
use Rattle.ug_adjout.specs.declared.waiting.Waiting.{Waiting}
use Rattle.ug_adjout.specs.Waits.{waiting_keys}
use Rattle.ug_adjout.specs.Stored.{IsStored, IsRowBy, is_owed, adj_of, projected, of_row, formatted_of, desired_of, desired_by, mark_of, is_forced, pends, with_change, quiet}
use Rattle.ug_adjout.proofs.Lists.{sorted_projected, value_at-projected, projected-with_value, put_last, keys-append, has_place, place_of, keys_kept, keys_removed}

pub option_itself : (o : Option ℕ) → option_eq nat_eq o o ≡ true
option_itself None = refl
option_itself (Some v) = grind (arith, nat_tests)

pub marked : (b : Bool) → is_some {T = ℕ} (if b then Some 0 else None) ≡ b
marked true = refl
marked false = refl

mark_some : (o : Option Row) → is_some (of_row mark_of o) ≡ is_forced o
mark_some None = refl
mark_some (Some row) = marked row.forced

-- whether a row owes a packet
abbrev owed_row : Option Row → Bool
owed_row o = is_owed (of_row formatted_of o) (of_row desired_of o) (is_forced o)

owed_by : (row : Row) (c : Option Change) → row.change ≡ c → IsRowBy row c → is_owed row.formatted (desired_by row.formatted c) row.forced ≡ is_some c
owed_by row None e s =
    ap (λ b. not b || (row.forced && is_some row.formatted)) (option_itself row.formatted) ∙ ap (λ b. b && is_some row.formatted) s.1
owed_by row (Some change) e s = s

module _ {K : Type 0} {cmp : K → K → Ordering} (total : IsTotalOrder cmp) (exact : IsAntisymmetric cmp)
    (rows : List (K × Row)) (waiting : List (ℕ × Waiting K)) (next : ℕ) (s : IsStored cmp rows waiting next) where
  abbrev adj : AdjRibOut K ℕ
  adj = adj_of rows waiting

  abbrev row_at : K → Option Row
  row_at q = value_at cmp rows q

  pub formatted_at : (q : K) → value_at cmp adj.formatted q ≡ of_row formatted_of (row_at q)
  formatted_at q = value_at-projected total exact formatted_of rows q s.ordered

  pub desired_at : (q : K) → value_at cmp adj.desired q ≡ of_row desired_of (row_at q)
  desired_at q = value_at-projected total exact desired_of rows q s.ordered

  pub forced_at : (q : K) → has cmp adj.forced q ≡ is_forced (row_at q)
  forced_at q = has-keys_of total exact (projected mark_of rows) q ∙ ap is_some (value_at-projected total exact mark_of rows q s.ordered) ∙ mark_some (row_at q)

  -- a key is in the list where its row waits
  pub pending_at : (q : K) → has cmp adj.pending q ≡ pends (row_at q)
  pending_at q = both_ways (has cmp adj.pending q) (pends (row_at q)) there (back (row_at q) refl)
    where
      there : has cmp adj.pending q ≡ true → pends (row_at q) ≡ true
      there h = let p = place_of total exact waiting q s.in_line h in let k = s.known p.0 p.1 p.2 in
          ap (λ z. pends (row_at z)) (sym p.3) ∙ ap pends k.1 ∙ ap is_some k.2

      back_by : (row : Row) (c : Option Change) → row_at q ≡ Some row → row.change ≡ c → is_some c ≡ true → has cmp adj.pending q ≡ true
      back_by row None e h t = absurd cc
      back_by row (Some change) e h t = has_place total exact waiting change.place _ (s.listed q row change e h)

      back : (o : Option Row) → row_at q ≡ o → pends o ≡ true → has cmp adj.pending q ≡ true
      back None e t = absurd cc
      back (Some row) e t = back_by row row.change e refl t

  pub owed_pends : (q : K) (o : Option Row) → row_at q ≡ o → owed_row o ≡ pends o
  owed_pends q None e = refl
  owed_pends q (Some row) e = owed_by row row.change refl (s.sound q row e)

  pub waits_at : (q : K) → waits cmp nat_eq adj.formatted adj.desired adj.forced q ≡ owed_row (row_at q)
  waits_at q =
      ap (λ o. not (option_eq nat_eq o (value_at cmp adj.desired q)) || (has cmp adj.forced q && is_some (value_at cmp adj.desired q))) (formatted_at q)
      ∙ ap (λ o. not (option_eq nat_eq (of_row formatted_of (row_at q)) o) || (has cmp adj.forced q && is_some o)) (desired_at q)
      ∙ ap (λ b. not (option_eq nat_eq (of_row formatted_of (row_at q)) (of_row desired_of (row_at q))) || (b && is_some (of_row desired_of (row_at q)))) (forced_at q)

  -- the list has exactly the keys that wait
  pub exact_at : (q : K) → has cmp adj.pending q ≡ waits cmp nat_eq adj.formatted adj.desired adj.forced q
  exact_at q = pending_at q ∙ sym (owed_pends q (row_at q) refl) ∙ sym (waits_at q)

pub shown_by : (f d : Option ℕ) (forced : Bool) → is_owed f d forced ≡ true → (is_some f || is_some d) ≡ true
shown_by None None true e = absurd cc
shown_by None None false e = absurd cc
shown_by None (Some d) forced e = refl
shown_by (Some f) d forced e = refl

pub shown_row : (row : Row) (c : Option Change) → row.change ≡ c → IsRowBy row c → (is_some row.formatted || is_some (desired_by row.formatted c)) ≡ true
shown_row row None e s = ap (λ b. b || is_some row.formatted) s.0
shown_row row (Some change) e s = shown_by row.formatted change.desired row.forced s

quiet_formatted : (w : Option ℕ) → of_row formatted_of (quiet w) ≡ w
quiet_formatted None = refl
quiet_formatted (Some v) = refl

quiet_desired : (w : Option ℕ) → of_row desired_of (quiet w) ≡ w
quiet_desired None = refl
quiet_desired (Some v) = refl

quiet_mark : (w : Option ℕ) → of_row mark_of (quiet w) ≡ None
quiet_mark None = refl
quiet_mark (Some v) = refl

forced_twice : (a b d : Bool) → (((a || d) && b) && d) ≡ (b && d)
forced_twice true true d = refl
forced_twice true false d = refl
forced_twice false true true = refl
forced_twice false true false = refl
forced_twice false false true = refl
forced_twice false false false = refl

module _ {K : Type 0} {cmp : K → K → Ordering} (total : IsTotalOrder cmp) (exact : IsAntisymmetric cmp) where
  keys_without : (key : K) (es : List (K × ℕ)) → IsTable cmp es → keys_of (remove_entry (is_at (cmp key)) es) ≡ without cmp (keys_of es) key
  keys_without key [] s = refl
  keys_without key (e ∷ es) s = by (is_at (cmp key) e.0) refl (keys_without key es (sorted_tail cmp e.0 (keys_of es) s))
    where
      by : (b : Bool) → is_at (cmp key) e.0 ≡ b → keys_of (remove_entry (is_at (cmp key)) es) ≡ without cmp (keys_of es) key
          → keys_of (cond b es (e ∷ remove_entry (is_at (cmp key)) es)) ≡ without cmp (keys_of (e ∷ es)) key
      by true at more =
          let gone : has cmp (keys_of es) key ≡ false = has-keys_of total exact es key
          ∙ ap (λ z. is_some (value_at cmp es z)) (one_key total exact key e.0 at) ∙ ap is_some (none_above total exact e.0 es (sorted_head cmp e.0 (keys_of es) s)) in
          sym (without_absent total exact key (keys_of es) gone) ∙ sym (cond-false _ (e.0 ∷ without cmp (keys_of es) key) _ (not_from_true _ at))
      by false at more = ap (λ l. e.0 ∷ l) more ∙ sym (cond-true _ (e.0 ∷ without cmp (keys_of es) key) _ (not_from_false _ at))

  marks : (b t : Bool) (key : K) (es : List (K × ℕ)) (m : Option ℕ) → IsTable cmp es → value_at cmp es key ≡ (if b then Some 0 else None) → m ≡ (if b && t then Some 0 else None)
      → keys_of (with_value cmp es key m) ≡ cond t (keys_of es) (without cmp (keys_of es) key)
  marks true true key es m s was e = ap keys_of (with_value-same total exact es key m s (was ∙ sym e))
  marks true false key es m s was e = ap (λ z. keys_of (with_value cmp es key z)) e ∙ keys_without key es s
  marks false true key es m s was e =
      ap (λ z. keys_of (with_value cmp es key z)) e ∙ keys_without key es s
      ∙ without_absent total exact key (keys_of es) (has-keys_of total exact es key ∙ ap is_some was)
  marks false false key es m s was e = ap (λ z. keys_of (with_value cmp es key z)) e ∙ keys_without key es s

mark_value : (o : Option Row) → of_row mark_of o ≡ (if is_forced o then Some 0 else None)
mark_value None = refl
mark_value (Some row) = refl

module _ {K : Type 0} {cmp : K → K → Ordering} (total : IsTotalOrder cmp) (exact : IsAntisymmetric cmp)
    (rows : List (K × Row)) (waiting : List (ℕ × Waiting K)) (next : ℕ) (s : IsStored cmp rows waiting next) (key : K) where
  abbrev F : List (K × ℕ)
  F = projected formatted_of rows

  abbrev D : List (K × ℕ)
  D = projected desired_of rows

  abbrev M : List (K × ℕ)
  M = projected mark_of rows

  abbrev now : AdjRibOut K ℕ
  now = adj_of rows waiting

  abbrev o : Option Row
  o = value_at cmp rows key

  flip : (q : K) (b : Bool) → is_at (cmp key) q ≡ b → is_at (cmp q) key ≡ b
  flip q b e = at_turned total exact q key ∙ e

  module _ (w : Option ℕ) where
    abbrev desired_now : List (K × ℕ)
    desired_now = with_value cmp D key w

    D_here : value_at cmp desired_now key ≡ w
    D_here = value_at-here total exact D key w (sorted_projected total exact desired_of rows s.ordered)

    shown_at : (q : K) (r : Option Row) → value_at cmp rows q ≡ r → is_forced r ≡ true → (is_some (of_row formatted_of r) || is_some (of_row desired_of r)) ≡ true
    shown_at q None e f = absurd cc
    shown_at q (Some row) e f = shown_row row row.change refl (s.sound q row e)

    still : still_forced cmp F desired_now now.forced ≡ cond (is_some (of_row formatted_of o) || is_some w) now.forced (without cmp now.forced key)
    still =
        filter_but_one total exact (λ q. is_some (value_at cmp F q) || is_some (value_at cmp desired_now q)) key now.forced
        (λ q apart listed. ap (λ z. is_some z || is_some (value_at cmp desired_now q)) (formatted_at total exact rows waiting next s q)
        ∙ ap (λ z. is_some (of_row formatted_of (value_at cmp rows q)) || is_some z) (value_at-other total exact D key q w (flip q false apart) ∙ desired_at total exact rows waiting next s q)
        ∙ shown_at q (value_at cmp rows q) refl (sym (forced_at total exact rows waiting next s q) ∙ listed))
        ∙ ap (λ b. cond b now.forced (without cmp now.forced key))
        (ap (λ z. is_some z || is_some (value_at cmp desired_now key)) (formatted_at total exact rows waiting next s key) ∙ ap (λ z. is_some (of_row formatted_of o) || is_some z) D_here)

    owes : waits cmp nat_eq F desired_now (still_forced cmp F desired_now now.forced) key ≡ is_owed (of_row formatted_of o) w (is_forced o)
    owes =
        ap (λ z. not (option_eq nat_eq z (value_at cmp desired_now key)) || (has cmp (still_forced cmp F desired_now now.forced) key && is_some (value_at cmp desired_now key))) (formatted_at total exact rows waiting next s key)
        ∙ ap (λ z. not (option_eq nat_eq (of_row formatted_of o) z) || (has cmp (still_forced cmp F desired_now now.forced) key && is_some z)) D_here
        ∙ ap (λ b. not (option_eq nat_eq (of_row formatted_of o) w) || (b && is_some w))
        (has-filter total exact (λ q. is_some (value_at cmp F q) || is_some (value_at cmp desired_now q)) now.forced key
        ∙ ap (λ b. (is_some (value_at cmp F key) || is_some (value_at cmp desired_now key)) && b) (forced_at total exact rows waiting next s key)
        ∙ ap (λ z. (is_some (value_at cmp F key) || is_some z) && is_forced o) D_here)
        ∙ ap (λ b. not (option_eq nat_eq (of_row formatted_of o) w) || b) (forced_twice (is_some (value_at cmp F key)) (is_forced o) (is_some w))

    listed : requeue cmp (waits cmp nat_eq F desired_now (still_forced cmp F desired_now now.forced)) now.pending (key ∷ [])
        ≡ cond (is_owed (of_row formatted_of o) w (is_forced o)) (cond (pends o) now.pending (now.pending ++ key ∷ [])) (without cmp now.pending key)
    listed =
        requeue_one total exact (waits cmp nat_eq F desired_now (still_forced cmp F desired_now now.forced)) now.pending key
        (λ q apart there. waits-with_desired total exact nat_eq F D now.forced key q w (flip q false apart) ∙ sym (exact_at total exact rows waiting next s q) ∙ there)
        ∙ ap (λ b. cond b (cond (has cmp now.pending key) now.pending (now.pending ++ key ∷ [])) (without cmp now.pending key)) owes
        ∙ ap (λ b. cond (is_owed (of_row formatted_of o) w (is_forced o)) (cond b now.pending (now.pending ++ key ∷ [])) (without cmp now.pending key)) (pending_at total exact rows waiting next s key)

    pub view_desired : (row : Option Row) (later : List (ℕ × Waiting K)) → of_row formatted_of row ≡ of_row formatted_of o → of_row desired_of row ≡ w
        → of_row mark_of row ≡ (if is_forced o && (is_some (of_row formatted_of o) || is_some w) then Some 0 else None)
        → waiting_keys later ≡ cond (is_owed (of_row formatted_of o) w (is_forced o)) (cond (pends o) now.pending (now.pending ++ key ∷ [])) (without cmp now.pending key)
        → adj_of (with_value cmp rows key row) later ≡ with_desired cmp nat_eq now key w
    view_desired row later fe de me pe =
        let fs : projected formatted_of (with_value cmp rows key row) ≡ F =
        projected-with_value total exact formatted_of rows key row s.ordered
        ∙ with_value-same total exact F key _ (sorted_projected total exact formatted_of rows s.ordered) (formatted_at total exact rows waiting next s key ∙ sym fe) in
        let ds : projected desired_of (with_value cmp rows key row) ≡ desired_now = projected-with_value total exact desired_of rows key row s.ordered ∙ ap (with_value cmp D key) de in
        let ms : keys_of (projected mark_of (with_value cmp rows key row)) ≡ still_forced cmp F desired_now now.forced =
        ap keys_of (projected-with_value total exact mark_of rows key row s.ordered)
        ∙ marks total exact (is_forced o) (is_some (of_row formatted_of o) || is_some w) key M _ (sorted_projected total exact mark_of rows s.ordered)
        (value_at-projected total exact mark_of rows key s.ordered ∙ mark_value o) me ∙ sym still in
        let ps = pe ∙ sym listed in
        λ i. record { formatted = fs i; desired = ds i; forced = ms i; pending = ps i }

  -- ---- the key is formatted

  abbrev d : Option ℕ
  d = value_at cmp D key

  abbrev F2 : List (K × ℕ)
  F2 = with_value cmp F key d

  owes_no_more : waits cmp nat_eq F2 D (without cmp now.forced key) key ≡ false
  owes_no_more =
      ap (λ z. not (option_eq nat_eq z d) || (has cmp (without cmp now.forced key) key && is_some d)) (value_at-here total exact F key d (sorted_projected total exact formatted_of rows s.ordered))
      ∙ ap (λ b. not b || (has cmp (without cmp now.forced key) key && is_some d)) (option_itself d)
      ∙ ap (λ b. b && is_some d) (has-filter total exact (λ q. not (is_at (cmp key) q)) now.forced key ∙ ap (λ b. not b && has cmp now.forced key) (at_itself total exact key))

  pub view_formatted : (later : List (ℕ × Waiting K)) → waiting_keys later ≡ without cmp now.pending key
      → adj_of (with_value cmp rows key (quiet (of_row desired_of o))) later ≡ with_formatted cmp nat_eq now key
  view_formatted later pe =
      let is_d = desired_at total exact rows waiting next s key in
      let fs : projected formatted_of (with_value cmp rows key (quiet (of_row desired_of o))) ≡ F2 =
      projected-with_value total exact formatted_of rows key _ s.ordered ∙ ap (with_value cmp F key) (quiet_formatted (of_row desired_of o) ∙ sym is_d) in
      let ds : projected desired_of (with_value cmp rows key (quiet (of_row desired_of o))) ≡ D =
      projected-with_value total exact desired_of rows key _ s.ordered
      ∙ with_value-same total exact D key _ (sorted_projected total exact desired_of rows s.ordered) (is_d ∙ sym (quiet_desired (of_row desired_of o))) in
      let ms : keys_of (projected mark_of (with_value cmp rows key (quiet (of_row desired_of o)))) ≡ without cmp now.forced key =
      ap keys_of (projected-with_value total exact mark_of rows key _ s.ordered ∙ ap (with_value cmp M key) (quiet_mark (of_row desired_of o)))
      ∙ keys_without total exact key M (sorted_projected total exact mark_of rows s.ordered) in
      let ps = pe ∙ sym (requeue_one total exact (waits cmp nat_eq F2 D (without cmp now.forced key)) now.pending key
      (λ q apart there. waits-with_formatted total exact nat_eq F D now.forced key q d (flip q false apart) ∙ sym (exact_at total exact rows waiting next s q) ∙ there)
      ∙ ap (λ b. cond b (cond (has cmp now.pending key) now.pending (now.pending ++ key ∷ [])) (without cmp now.pending key)) owes_no_more) in
      λ i. record { formatted = fs i; desired = ds i; forced = ms i; pending = ps i }

  -- ---- the list of keys

  pub keys_begin : (w : Waiting K) → w.key ≡ key → waiting_keys (insert_entry nat_cmp waiting next w) ≡ now.pending ++ key ∷ []
  keys_begin w e = ap waiting_keys (put_last next w waiting s.in_line s.before) ∙ keys-append total exact waiting ((next, w) ∷ []) ∙ ap (λ k. now.pending ++ k ∷ []) e

  row_waits : (row : Row) (change : Change) → o ≡ Some row → row.change ≡ Some change → value_at nat_cmp waiting change.place ≡ Some (record { key = key; value = change.desired })
  row_waits row change is at = s.listed key row change is at

  key_here : (row : Row) (change : Change) → o ≡ Some row → row.change ≡ Some change → (v : Waiting K) → value_at nat_cmp waiting change.place ≡ Some v → v.key ≡ key
  key_here row change is at v h = key_of v _ (sym h ∙ row_waits row change is at)
    where
      key_of : (x y : Waiting K) → Some x ≡ Some y → x.key ≡ y.key
      key_of x y t = cc

  pub keys_change : (row : Row) (change : Change) (w : Waiting K) → o ≡ Some row → row.change ≡ Some change → w.key ≡ key → waiting_keys (insert_entry nat_cmp waiting change.place w) ≡ now.pending
  keys_change row change w is at e =
      keys_kept total exact waiting change.place w s.in_line (ap is_some (row_waits row change is at)) (λ v h. key_here row change is at v h ∙ sym e)

  pub keys_end : (row : Row) (change : Change) → o ≡ Some row → row.change ≡ Some change → waiting_keys (remove_entry (is_at (nat_cmp change.place)) waiting) ≡ without cmp now.pending key
  keys_end row change is at =
      keys_removed total exact waiting change.place key s.in_line (λ q w h k. one q w h k (s.known q w h)) (key_here row change is at)
    where
      place_of_change : (a b : Change) → Some a ≡ Some b → a.place ≡ b.place
      place_of_change a b t = cc

      same_row : (a b : Row) → Some a ≡ Some b → a ≡ b
      same_row a b t = cc

      one : (q : ℕ) (w : Waiting K) → value_at nat_cmp waiting q ≡ Some w → w.key ≡ key → (r : Row) × (value_at cmp rows w.key ≡ Some r) × (r.change ≡ Some (record { place = q; desired = w.value })) → q ≡ change.place
      one q w h k r = place_of_change _ change (sym r.2 ∙ ap (λ (x : Row). x.change) (same_row r.0 row (sym r.1 ∙ ap (value_at cmp rows) k ∙ is)) ∙ at)

pub option_same : (a b : Option ℕ) → option_eq nat_eq a b ≡ true → a ≡ b
option_same None None e = refl
option_same None (Some y) e = absurd cc
option_same (Some x) None e = absurd cc
option_same (Some x) (Some y) e = ap Some (grind (arith, nat_tests))

both_parts : (x forced d : Bool) → (not x || (forced && d)) ≡ false → (x ≡ true) × ((forced && d) ≡ false)
both_parts true forced d e = (refl, e)
both_parts false forced d e = absurd cc

same_twice : (a : Bool) → (a || a) ≡ a
same_twice true = refl
same_twice false = refl

all_shown : (forced a : Bool) → a ≡ true → forced ≡ (forced && a)
all_shown true a e = sym e
all_shown false a e = refl

module _ {K : Type 0} {cmp : K → K → Ordering} (total : IsTotalOrder cmp) (exact : IsAntisymmetric cmp)
    (rows : List (K × Row)) (waiting : List (ℕ × Waiting K)) (next : ℕ) (s : IsStored cmp rows waiting next) (key : K) (w : Option ℕ) where
  abbrev before : AdjRibOut K ℕ
  before = adj_of rows waiting

  abbrev after : AdjRibOut K ℕ
  after = with_desired cmp nat_eq before key w

  pub want_begin : (row : Row) → of_row formatted_of (value_at cmp rows key) ≡ row.formatted → is_forced (value_at cmp rows key) ≡ row.forced → pends (value_at cmp rows key) ≡ false
      → is_owed row.formatted w row.forced ≡ true
      → adj_of (insert_entry cmp rows key (with_change row next w)) (insert_entry nat_cmp waiting next (record { key = key; value = w })) ≡ after
  want_begin row fe ge pe owed =
      let owes = ap (λ z. is_owed z w (is_forced (value_at cmp rows key))) fe ∙ ap (λ b. is_owed row.formatted w b) ge ∙ owed in
      let shown = ap (λ z. is_some z || is_some w) fe ∙ shown_by row.formatted w row.forced owed in
      view_desired total exact rows waiting next s key w (Some (with_change row next w)) _ (sym fe) refl
      (ap (λ b. if b then Some 0 else None) (sym ge ∙ all_shown (is_forced (value_at cmp rows key)) _ shown))
      (keys_begin total exact rows waiting next s key (record { key = key; value = w }) refl
      ∙ sym (cond-true _ (cond (pends (value_at cmp rows key)) before.pending (before.pending ++ key ∷ [])) (without cmp before.pending key) owes ∙ cond-false _ before.pending (before.pending ++ key ∷ []) pe))

  pub want_change : (row : Row) (change : Change) → value_at cmp rows key ≡ Some row → row.change ≡ Some change → is_owed row.formatted w row.forced ≡ true
      → adj_of (insert_entry cmp rows key (with_change row change.place w)) (insert_entry nat_cmp waiting change.place (record { key = key; value = w })) ≡ after
  want_change row change is at owed =
      let owes = ap (λ z. is_owed (of_row formatted_of z) w (is_forced z)) is ∙ owed in
      let shown = ap (λ z. is_some (of_row formatted_of z) || is_some w) is ∙ shown_by row.formatted w row.forced owed in
      view_desired total exact rows waiting next s key w (Some (with_change row change.place w)) _ (sym (ap (of_row formatted_of) is)) refl
      (ap (λ b. if b then Some 0 else None) (sym (ap is_forced is) ∙ all_shown (is_forced (value_at cmp rows key)) _ shown))
      (keys_change total exact rows waiting next s key row change (record { key = key; value = w }) is at refl
      ∙ sym (cond-true _ (cond (pends (value_at cmp rows key)) before.pending (before.pending ++ key ∷ [])) (without cmp before.pending key) owes
      ∙ cond-true _ before.pending (before.pending ++ key ∷ []) (ap pends is ∙ ap is_some at)))

  pub want_end : (row : Row) (change : Change) → value_at cmp rows key ≡ Some row → row.change ≡ Some change → is_owed row.formatted w row.forced ≡ false
      → adj_of (with_value cmp rows key (quiet row.formatted)) (remove_entry (is_at (nat_cmp change.place)) waiting) ≡ after
  want_end row change is at owed =
      let owes = ap (λ z. is_owed (of_row formatted_of z) w (is_forced z)) is ∙ owed in
      let parts = both_parts (option_eq nat_eq row.formatted w) row.forced (is_some w) owed in let same = option_same row.formatted w parts.0 in
      view_desired total exact rows waiting next s key w (quiet row.formatted) _ (quiet_formatted row.formatted ∙ sym (ap (of_row formatted_of) is)) (quiet_desired row.formatted ∙ same)
      (quiet_mark row.formatted
      ∙ sym (ap (λ z. if is_forced z && (is_some (of_row formatted_of z) || is_some w) then Some 0 else None) is
      ∙ ap (λ z. if row.forced && (is_some z || is_some w) then Some 0 else None) same ∙ ap (λ b. if row.forced && b then Some 0 else None) (same_twice (is_some w))
      ∙ ap (λ b. if b then Some 0 else None) parts.1))
      (keys_end total exact rows waiting next s key row change is at ∙ sym (cond-false _ (cond (pends (value_at cmp rows key)) before.pending (before.pending ++ key ∷ [])) (without cmp before.pending key) owes))

  pending_still : (b : Bool) → pends (value_at cmp rows key) ≡ b → before.pending ≡ cond b (cond b before.pending (before.pending ++ key ∷ [])) (without cmp before.pending key)
  pending_still true e = refl
  pending_still false e = sym (without_absent total exact key before.pending (pending_at total exact rows waiting next s key ∙ e))

  mark_still : (o : Option Row) → value_at cmp rows key ≡ o → of_row desired_of o ≡ w → of_row mark_of o ≡ (if is_forced o && (is_some (of_row formatted_of o) || is_some w) then Some 0 else None)
  mark_still None e d = refl
  mark_still (Some row) e d =
      ap (λ b. if b then Some 0 else None)
      (all_shown row.forced (is_some row.formatted || is_some w) (ap (λ z. is_some row.formatted || is_some z) (sym d) ∙ shown_row row row.change refl (s.sound key row e)))

  -- a key that is desired as before
  pub want_same : of_row desired_of (value_at cmp rows key) ≡ w → before ≡ after
  want_same de =
      let o = value_at cmp rows key in
      ap (λ l. adj_of l waiting) (sym (with_value-same total exact rows key o s.ordered refl))
      ∙ view_desired total exact rows waiting next s key w o waiting refl de (mark_still o refl de)
      (pending_still (pends o) refl ∙ ap (λ b. cond b (cond (pends o) before.pending (before.pending ++ key ∷ [])) (without cmp before.pending key))
      (sym (ap (λ z. is_owed (of_row formatted_of o) z (is_forced o)) (sym de) ∙ owed_pends total exact rows waiting next s key o refl)))

pub fresh_owes : (w : Option ℕ) (v : ℕ) → w ≡ Some v → is_owed None w false ≡ true
fresh_owes w v e = ap (λ z. is_owed None z false) e

pub idle_desired : (row : Row) → row.change ≡ None → desired_of row ≡ row.formatted
idle_desired row e = ap (desired_by row.formatted) e

pub waiting_desired : (row : Row) (change : Change) → row.change ≡ Some change → desired_of row ≡ change.desired
waiting_desired row change e = ap (desired_by row.formatted) e

pub pends_none : (o : Option Row) → pends o ≡ true → o ≡ None → ⊥
pends_none o p e = let z = sym p ∙ ap pends e in cc

pub pends_quiet : (o : Option Row) (row : Row) → pends o ≡ true → o ≡ Some row → row.change ≡ None → ⊥
pends_quiet o row p e q = let z = sym p ∙ ap pends e ∙ ap is_some q in cc

pub idle_owes : (f w : Option ℕ) (forced : Bool) → option_eq nat_eq f w ≡ false → is_owed f w forced ≡ true
idle_owes f w forced e = ap (λ b. not b || (forced && is_some w)) e
