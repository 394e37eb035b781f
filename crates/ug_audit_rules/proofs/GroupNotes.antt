-- What goes out under keys, noted one after another, and group after group.
use Rattle.std.proofs.Common.{◌≡◌, ℕ, zero, suc, ◌+◌, ◌<◌, ◌≤◌, inl, inr, Bool, true, false, List, [], ◌∷◌, ◌++◌, length, take, drop, get_or, slice_get, slice_set, Option, Some, None, refl, sym, ◌∙◌, ap, subst, arith}
use Rattle.std.specs.Prelude.{◌||◌}
use Rattle.ug_types.specs.declared.key.Key.{Key}
use Rattle.ug_types.specs.declared.route.OutAttrs.{OutAttrs}
use Rattle.ug_types.specs.Keys.{same_key}
use Rattle.ug_message.specs.Tables.{among}
use Rattle.ug_events.specs.Events.{Happening}
use Rattle.ug_outbound.specs.declared.key.GroupKey.{GroupKey}
use Rattle.ug_world.specs.World.{World}
use Rattle.ug_world.specs.Private.{keys_of}
use Rattle.ug_world.specs.Touches.{is_about}
use Rattle.ug_world.specs.declared.peer_state.PeerState.{PeerState}
use Rattle.ug_hearing.proofs.Keys.{same_is}
use Rattle.ug_hearing.proofs.Among.{same-self, same-sym, or-second, among-last}
use Rattle.ug_audit_rules.specs.declared.group.Group.{Group}
use Rattle.ug_audit_rules.specs.declared.seat.Seat.{Seat}
use Rattle.ug_audit_rules.specs.declared.touched.Touched.{Touched}
use Rattle.ug_audit_rules.specs.Held.{last_held}
use Rattle.ug_audit_rules.specs.GroupLogs.{Outs, Entries, changes_in, Adds, IsSet, AddsWhere, IsNotedAt}
use Rattle.ug_audit_rules.specs.Seats.{IsLonger, IsKeyed, IsBegun, IsTurned}
use Rattle.ug_audit_rules.specs.Histories.{IsNotedOf, AreNotedFor, IsTurnedIf, AreTurnedFrom}
use Rattle.ug_audit_rules.proofs.Holding.{last-added}
use Rattle.ug_audit_rules.proofs.Coming.{some_there}
use Rattle.ug_audit_rules.proofs.GroupTables.{world-last}
use Rattle.ug_audit_rules.proofs.MergedKeys.{past-all}

-- ---- one key more

or_none : (b : Bool) → (b || false) ≡ b
or_none true = refl
or_none false = refl

twice : (b : Bool) (n : ℕ) (v : Option OutAttrs) (old now new : Outs) → AddsWhere b n v old now → Adds n v now new → Adds n v old new
twice false n v old now new same adds = subst (λ (xs : Outs). Adds n v xs new) same adds
twice true n v old now new (inl same) adds = subst (λ (xs : Outs). Adds n v xs new) same.0 adds
twice true n v old now new (inr more) (inl same) = inr (more.0, same.0 ∙ more.1)
twice true n v old now new (inr more) (inr again) = absurd (again.0 (ap (λ (xs : Outs). last_held None xs) more.1 ∙ last-added None old (record { version = n; value = v })))

pub noted-one : (front : List Key) (k : Key) (n : ℕ) (x : Key → Option OutAttrs) (old now new : Entries) → ((q : Key) → AddsWhere (among front q) n (x q) (changes_in old q) (changes_in now q)) → IsSet n k (x k) now new
    → (q : Key) → AddsWhere (among (front ++ k ∷ []) q) n (x q) (changes_in old q) (changes_in new q)
noted-one front k n x old now new h set q = by (same_key k q) refl
  where
    here : AddsWhere (among (front ++ k ∷ []) k) n (x k) (changes_in old k) (changes_in new k)
    here =
        subst (λ (b : Bool). AddsWhere b n (x k) (changes_in old k) (changes_in new k)) (sym (among-last front k k ∙ or-second (among front k) (same_key k k) (same-self k)))
        (twice (among front k) n (x k) (changes_in old k) (changes_in now k) (changes_in new k) (h k) set.adds)

    by : (b : Bool) → same_key k q ≡ b → AddsWhere (among (front ++ k ∷ []) q) n (x q) (changes_in old q) (changes_in new q)
    by true same = subst (λ (y : Key). AddsWhere (among (front ++ k ∷ []) y) n (x y) (changes_in old y) (changes_in new y)) (same_is k q same) here
    by false other =
        subst (λ (b : Bool). AddsWhere b n (x q) (changes_in old q) (changes_in new q))
        (sym (among-last front k q ∙ (ap (λ (b : Bool). among front q || b) (same-sym q k ∙ other) ∙ or_none (among front q))))
        (subst (λ (xs : Outs). AddsWhere (among front q) n (x q) (changes_in old q) xs) (sym (set.others q other)) (h q))

-- ---- one item more of a list

pub take-item : {A : Type 0} (xs : List A) (i : ℕ) (d : A) → i < length xs → take (suc i) xs ≡ take i xs ++ get_or xs i d ∷ []
take-item [] i d less = absurd (omega (arith, less))
take-item (y ∷ xs) zero d less = refl
take-item (y ∷ xs) (suc i) d less = ap (λ ys. y ∷ ys) (take-item xs i d (omega (arith, less)))

pub take-set : {A : Type 0} (xs : List A) (i : ℕ) (x : A) → i < length xs → take (suc i) (slice_set xs i x) ≡ take i xs ++ x ∷ []
take-set [] i x less = absurd (omega (arith, less))
take-set (y ∷ xs) zero x less = refl
take-set (y ∷ xs) (suc i) x less = ap (λ ys. y ∷ ys) (take-set xs i x (omega (arith, less)))

pub drop-set : {A : Type 0} (xs : List A) (i : ℕ) (x : A) → drop (suc i) (slice_set xs i x) ≡ drop (suc i) xs
drop-set [] i x = refl
drop-set (y ∷ xs) zero x = refl
drop-set (y ∷ xs) (suc i) x = drop-set xs i x

drop_one : {A : Type 0} (xs : List A) (i : ℕ) → drop (suc i) xs ≡ drop 1 (drop i xs)
drop_one xs zero = refl
drop_one [] (suc i) = refl
drop_one (y ∷ xs) (suc i) = drop_one xs i

pub drop-more : {A : Type 0} (xs ys : List A) (i : ℕ) → drop i xs ≡ drop i ys → drop (suc i) xs ≡ drop (suc i) ys
drop-more xs ys i same = drop_one xs i ∙ (ap (λ zs. drop 1 zs) same ∙ sym (drop_one ys i))

get_first : {A : Type 0} (xs : List A) (i : ℕ) (d : A) → get_or xs i d ≡ get_or (drop i xs) 0 d
get_first xs zero d = refl
get_first [] (suc i) d = refl
get_first (y ∷ xs) (suc i) d = get_first xs i d

pub item-there : {A : Type 0} (xs ys : List A) (i : ℕ) (d : A) → drop i xs ≡ drop i ys → get_or xs i d ≡ get_or ys i d
item-there xs ys i d same = get_first xs i d ∙ (ap (λ zs. get_or zs 0 d) same ∙ sym (get_first ys i d))

pub take-size : {A : Type 0} (xs : List A) (i : ℕ) → i ≤ length xs → length (take i xs) ≡ i
take-size xs zero within = refl
take-size [] (suc i) within = absurd (omega (arith, within))
take-size (y ∷ xs) (suc i) within = ap suc (take-size xs i (omega (arith, within)))

next_is : (i : ℕ) → suc i ≡ i + 1
next_is i = omega arith

zero_plus : (i : ℕ) → 0 + i ≡ i
zero_plus i = omega arith

-- ---- one group more

noted_last : (w : World) (touched : Touched) (olds news : List Group) (old new : Group) → AreNotedFor w touched olds news → IsNotedOf w touched old new → AreNotedFor w touched (olds ++ old ∷ []) (news ++ new ∷ [])
noted_last w touched [] [] old new h is = (is, tt)
noted_last w touched [] (y ∷ news) old new h is = absurd h
noted_last w touched (x ∷ olds) [] old new h is = absurd h
noted_last w touched (x ∷ olds) (y ∷ news) old new h is = (h.0, noted_last w touched olds news old new h.1 is)

pub groups-on : (w : World) (touched : Touched) (all now : List Group) (i : ℕ) (r new : Group) → i < length all → i < length now → AreNotedFor w touched (take i all) (take i now) → drop i now ≡ drop i all
    → IsNotedOf w touched (get_or now i r) new → AreNotedFor w touched (take (i + 1) all) (take (i + 1) (slice_set now i new)) × (drop (i + 1) (slice_set now i new) ≡ drop (i + 1) all)
groups-on w touched all now i r new in_all in_now h same is =
    let d = get_or now i r in
    let front : take (suc i) all ≡ take i all ++ d ∷ [] = take-item all i r in_all ∙ ap (λ (x : Group). take i all ++ x ∷ []) (sym (item-there now all i r same)) in
    subst (λ (j : ℕ). AreNotedFor w touched (take j all) (take j (slice_set now i new)) × (drop j (slice_set now i new) ≡ drop j all)) (next_is i) (
      subst (λ (xs : List Group). AreNotedFor w touched xs (take (suc i) (slice_set now i new))) (sym front)
          (subst (λ (ys : List Group). AreNotedFor w touched (take i all ++ d ∷ []) ys) (sym (take-set now i new in_now)) (noted_last w touched (take i all) (take i now) d new h is)),
      drop-set now i new ∙ drop-more now all i same,
    )

-- ---- one peer more

turned_last : (p : ℕ) (w : World) (e : Happening) (groups mid last : List Group) (olds news : List Seat) (old new : Seat) → AreTurnedFrom p w e groups mid olds news → IsLonger w mid last → IsTurnedIf w e last (slice_get w.peers (p + length olds)) old new
    → AreTurnedFrom p w e groups last (olds ++ old ∷ []) (news ++ new ∷ [])
turned_last p w e groups mid last [] [] old new h longer is =
    (last, subst (λ (gs : List Group). IsLonger w gs last) h longer, subst (λ (k : ℕ). IsTurnedIf w e last (slice_get w.peers k) old new) (plus_zero p) is, refl)
  where
    plus_zero : (n : ℕ) → n + 0 ≡ n
    plus_zero n = omega arith
turned_last p w e groups mid last [] (y ∷ news) old new h longer is = absurd h
turned_last p w e groups mid last (x ∷ olds) [] old new h longer is = absurd h
turned_last p w e groups mid last (x ∷ olds) (y ∷ news) old new h longer is =
    (h.0, h.1, h.2, turned_last (p + 1) w e h.0 mid last olds news old new h.3 longer (subst (λ (k : ℕ). IsTurnedIf w e last (slice_get w.peers k) old new) (plus_suc p (length olds)) is))
  where
    plus_suc : (n m : ℕ) → n + suc m ≡ n + 1 + m
    plus_suc n m = omega arith

pub seats-on : (w : World) (e : Happening) (groups mid last : List Group) (all now : List Seat) (i : ℕ) (r new : Seat) → i < length all → i < length now → AreTurnedFrom 0 w e groups mid (take i all) (take i now) → drop i now ≡ drop i all
    → IsLonger w mid last → IsTurnedIf w e last (slice_get w.peers i) (get_or now i r) new → AreTurnedFrom 0 w e groups last (take (i + 1) all) (take (i + 1) (slice_set now i new)) × (drop (i + 1) (slice_set now i new) ≡ drop (i + 1) all)
seats-on w e groups mid last all now i r new in_all in_now h same longer is =
    let d = get_or now i r in
    let front : take (suc i) all ≡ take i all ++ d ∷ [] = take-item all i r in_all ∙ ap (λ (x : Seat). take i all ++ x ∷ []) (sym (item-there now all i r same)) in
    let place : 0 + length (take i all) ≡ i = zero_plus (length (take i all)) ∙ take-size all i (omega (arith, in_all)) in
    subst (λ (j : ℕ). AreTurnedFrom 0 w e groups last (take j all) (take j (slice_set now i new)) × (drop j (slice_set now i new) ≡ drop j all)) (next_is i) (
      subst (λ (xs : List Seat). AreTurnedFrom 0 w e groups last xs (take (suc i) (slice_set now i new))) (sym front)
          (subst (λ (ys : List Seat). AreTurnedFrom 0 w e groups last (take i all ++ d ∷ []) ys) (sym (take-set now i new in_now))
          (turned_last 0 w e groups mid last (take i all) (take i now) d new h longer (subst (λ (k : ℕ). IsTurnedIf w e last (slice_get w.peers k) d new) (sym place) is))),
      drop-set now i new ∙ drop-more now all i same,
    )

-- the peer at a place was turned
pub turned-at : (w : World) (e : Happening) (groups : List Group) (place : ℕ) (old new : Seat) → place < length w.peers → ((s : PeerState) → slice_get w.peers place ≡ Some s → IsTurned w s (is_about e s) groups old new)
    → IsTurnedIf w e groups (slice_get w.peers place) old new
turned-at w e groups place old new less turned = let x = some_there w.peers place less in subst (λ (o : Option PeerState). IsTurnedIf w e groups o old new) (sym x.1) (turned x.0 x.1)

pub none-at : (w : World) (e : Happening) (groups : List Group) (place : ℕ) (seat : Seat) → length w.peers ≤ place → IsTurnedIf w e groups (slice_get w.peers place) seat seat
none-at w e groups place seat far = subst (λ (o : Option PeerState). IsTurnedIf w e groups o seat seat) (sym (past-all w.peers place far)) refl

-- ---- a group that begins

pub keyed-last : (key : GroupKey) (groups : List Group) (group : Group) → group.key ≡ key → IsKeyed key (slice_get (groups ++ group ∷ []) (length groups))
keyed-last key groups group same = subst (λ (o : Option Group). IsKeyed key o) (sym (world-last groups group)) same

pub begun-with : (w : World) (key : GroupKey) (group : Group) → group.key ≡ key → group.start ≡ w.version → IsNotedAt w key (keys_of key.add_path w.routes) [] group.log.changes → IsBegun w group
begun-with w key group same start noted = record { start = start; noted = subst (λ (k : GroupKey). IsNotedAt w k (keys_of k.add_path w.routes) [] group.log.changes) (sym same) noted }
