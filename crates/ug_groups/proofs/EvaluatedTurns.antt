-- What the event that turns a peer evaluates: the key that it gives, if no subgroup had it.
use Rattle.std.proofs.Common.{◌≡◌, ℕ, ◌+◌, ◌⊎◌, inl, inr, suc, Bool, true, false, List, [], ◌∷◌, ◌++◌, length, map, slice_get, Option, Some, None, refl, sym, ◌∙◌, ap, subst, arith}
use Rattle.std.specs.Prelude.{◌||◌, ◌&&◌, if◌then◌else◌}
use Rattle.std.specs.List.{sum_by, IsDistinct, AllByRecursion}
use Rattle.std.specs.Option.{option_map}
use Rattle.std.proofs.lemmas.Bool.{cases_eq}
use Rattle.std.proofs.lemmas.List.Sums.{sum_by-cons}
use Rattle.std.proofs.lemmas.Map.Keys.{IsDistinct-head, IsDistinct-tail}
use Rattle.ug_outbound.specs.declared.key.GroupKey.{GroupKey}
use Rattle.ug_events.specs.Events.{Happening}
use Rattle.ug_world.specs.World.{World}
use Rattle.ug_speaker.specs.Places.{change_at}
use Rattle.ug_speaker.proofs.Places.{changed-here, changed-there}
use Rattle.ug_group_rules.specs.declared.phase.Phase.TheVariants.{Owed}
use Rattle.ug_group_rules.specs.Packets.{same_group, all_forced}
use Rattle.ug_group_rules.specs.Machine.{Subgroup, Seat, Member, System, Turn, Leaves, Starts, Asks, Rekeys, Stays, with_turn, take_event, with_counts, counted_from, retabled, leave, join, first_joinable, is_joinable, fresh_subgroup, at_end, apart, split, split_by, has_company, seat_at, seat_of, with_seat, with_own, rekey, rekeyed, ask, asked, unstuck, there, subgroup_at}
use Rattle.ug_group_rules.specs.Evaluations.{has_key, keys_from, live_keys, paths_touched, all_heeded, evaluations, evaluations_for}
use Rattle.ug_group_rules.proofs.Groups.{group-same}
use Rattle.ug_group_rules.proofs.Keys.{laws, or-so, live-distinct, live-met, live-found}
use Rattle.ug_group_rules.proofs.Others.{leave-kept}
use Rattle.ug_groups.proofs.ListFacts.{end-here, end-there}

-- ---- sums over keys

pub sum-none : (f : GroupKey → ℕ) (ks : List GroupKey) → ((k : GroupKey) → has_key ks k ≡ true → f k ≡ 0) → sum_by f ks ≡ 0
sum-none f [] none = refl
sum-none f (k ∷ ks) none =
    let here : f k ≡ 0 = none k (ap (λ (b : Bool). b || has_key ks k) (laws.refl k)) in
    let rest = sum-none f ks (λ j is. none j (or-so (same_group j k) (has_key ks j) is)) in
    let first = sum_by-cons f k ks in omega (arith, here, rest, first)

-- one that is apart from some is none of them
other_one : (k q : GroupKey) (ks : List GroupKey) → AllByRecursion (λ (y : GroupKey). same_group k y ≡ false) ks → has_key ks q ≡ true → same_group k q ≡ false
other_one k q [] apart is = absurd cc
other_one k q (y ∷ ks) apart is = by (same_group q y) refl is (other_one k q ks apart.1)
  where
    by : (b : Bool) → same_group q y ≡ b → (b || has_key ks q) ≡ true → (has_key ks q ≡ true → same_group k q ≡ false) → same_group k q ≡ false
    by true e is rest = ap (same_group k) (group-same q y e) ∙ apart.0
    by false e is rest = rest is

-- over keys that differ, of which but one count for nothing, the sum is that one's
pub sum-one : (f : GroupKey → ℕ) (ks : List GroupKey) (key : GroupKey) → IsDistinct same_group ks → has_key ks key ≡ true → ((k : GroupKey) → has_key ks k ≡ true → (k ≡ key) ⊎ (f k ≡ 0)) → sum_by f ks ≡ f key
sum-one f [] key differ is but = absurd cc
sum-one f (k ∷ ks) key differ is but = by (same_group key k) refl is (λ there_is. sum-one f ks key (IsDistinct-tail same_group k ks differ) there_is (λ j among. but j (or-so (same_group j k) (has_key ks j) among)))
  where
    first : sum_by f (k ∷ ks) ≡ f k + sum_by f ks
    first = sum_by-cons f k ks

    by : (b : Bool) → same_group key k ≡ b → (b || has_key ks key) ≡ true → (has_key ks key ≡ true → sum_by f ks ≡ f key) → sum_by f (k ∷ ks) ≡ f key
    by true e is rest =
        let same : f key ≡ f k = ap f (group-same key k e) in
        let none : sum_by f ks ≡ 0 = sum-none f ks (λ j among. elim (but j (or-so (same_group j k) (has_key ks j) among)) [
          | inl it ↦ absurd (let clash : true ≡ false = sym (laws.refl k) ∙ ap (same_group k) (sym (group-same key k e) ∙ sym it) ∙ other_one k j ks (IsDistinct-head same_group k ks differ) among in cc)
          | inr it ↦ it
        ]) in
        omega (arith, same, none, first)
    by false e is rest =
        let here : f k ≡ 0 = elim (but k (ap (λ (b : Bool). b || has_key ks k) (laws.refl k))) [
          | inl it ↦ absurd (let clash : true ≡ false = sym (laws.refl key) ∙ ap (same_group key) (sym it) ∙ e in cc)
          | inr it ↦ it
        ] in
        let after_it = rest is in
        omega (arith, here, after_it, first)

-- ---- what leaves the keys as they are

pub keys-retabled : (w : World) (before : List GroupKey) (xs : List (Option Subgroup)) → keys_from before (map (option_map (retabled w)) xs) ≡ keys_from before xs
keys-retabled w before [] = refl
keys-retabled w before (None ∷ xs) = keys-retabled w before xs
keys-retabled w before (Some x ∷ xs) = by (has_key before x.key) (keys-retabled w before xs) (keys-retabled w (x.key ∷ before) xs)
  where
    by : (b : Bool) → keys_from before (map (option_map (retabled w)) xs) ≡ keys_from before xs → keys_from (x.key ∷ before) (map (option_map (retabled w)) xs) ≡ keys_from (x.key ∷ before) xs
        → (if b then keys_from before (map (option_map (retabled w)) xs) else x.key ∷ keys_from (x.key ∷ before) (map (option_map (retabled w)) xs)) ≡ (if b then keys_from before xs else x.key ∷ keys_from (x.key ∷ before) xs)
    by true one other = one
    by false one other = ap (λ (ks : List GroupKey). x.key ∷ ks) other

keys_counted : (s : System) (g : ℕ) (before : List GroupKey) (xs : List (Option Subgroup)) → keys_from before (counted_from s g xs) ≡ keys_from before xs
keys_counted s g before [] = refl
keys_counted s g before (None ∷ xs) = keys_counted s (g + 1) before xs
keys_counted s g before (Some x ∷ xs) = by (has_key before x.key) (keys_counted s (g + 1) before xs) (keys_counted s (g + 1) (x.key ∷ before) xs)
  where
    by : (b : Bool) → keys_from before (counted_from s (g + 1) xs) ≡ keys_from before xs → keys_from (x.key ∷ before) (counted_from s (g + 1) xs) ≡ keys_from (x.key ∷ before) xs
        → (if b then keys_from before (counted_from s (g + 1) xs) else x.key ∷ keys_from (x.key ∷ before) (counted_from s (g + 1) xs)) ≡ (if b then keys_from before xs else x.key ∷ keys_from (x.key ∷ before) xs)
    by true one other = one
    by false one other = ap (λ (ks : List GroupKey). x.key ∷ ks) other

pub live-counted : (s : System) → live_keys (with_counts s) ≡ live_keys s
live-counted s = keys_counted s 0 [] s.subgroups

-- ---- the keys after a turn

-- each subgroup then has a key that one had, or this one
abbrev pub HasFew : GroupKey → System → System → Type 0
HasFew key s t = (g : ℕ) (x : Subgroup) → slice_get t.subgroups g ≡ Some (Some x) → (has_key (live_keys s) x.key ≡ true) ⊎ (x.key ≡ key)

same-few : (key : GroupKey) (s t : System) → ((g : ℕ) (x : Subgroup) → slice_get t.subgroups g ≡ Some (Some x) → slice_get s.subgroups g ≡ Some (Some x)) → HasFew key s t
same-few key s t same g x is = inl (live-met s g x (same g x is))

-- those of a system between
few-then : (key : GroupKey) (s t u : System) → HasFew key s t → HasFew key t u → HasFew key s u
few-then key s t u h k g x is = elim (k g x is) [
  | inl there_is ↦
      let found = live-found t x.key there_is in
      elim (h found.place found.subgroup found.is) [
        | inl it ↦ inl (subst (λ (j : GroupKey). has_key (live_keys s) j ≡ true) found.same it)
        | inr it ↦ inr (sym found.same ∙ it)
      ]
  | inr it ↦ inr it
]

some-some : (x y : Subgroup) → Some (Some x) ≡ Some (Some y) → x ≡ y
some-some x y e = cc

pub few-leave : (key : GroupKey) (p : ℕ) (seat : Option Seat) (s : System) → HasFew key s (leave p seat s)
few-leave key p seat s = same-few key s (leave p seat s) (λ g x is. leave-kept p seat s g x is)

end-few : (key : GroupKey) (s : System) (o : Option Subgroup) (xs : List Member) (w : World) → ((x : Subgroup) → o ≡ Some x → (has_key (live_keys s) x.key ≡ true) ⊎ (x.key ≡ key))
    → HasFew key s (record { world = w; closed = s.closed; made = s.made; subgroups = s.subgroups ++ o ∷ []; members = xs })
end-few key s o xs w new g x is =
    elim (cases_eq g (length s.subgroups)) [
      | inl same ↦ new x (let e : Some o ≡ Some (Some x) = sym (end-here s.subgroups o) ∙ subst (λ (k : ℕ). slice_get (s.subgroups ++ o ∷ []) k ≡ Some (Some x)) same is in cc)
      | inr apart ↦ inl (live-met s g x (sym (end-there s.subgroups o g apart) ∙ is))
    ]

few-join : (key : GroupKey) (p : ℕ) (o : Option ℕ) (s : System) → HasFew key s (join p key o s)
few-join key p (Some g) s = same-few key s (join p key (Some g) s) (λ h x is. is)
few-join key p None s = end-few key s (Some (fresh_subgroup key s.world)) (change_at (with_seat (at_end (length s.subgroups))) p s.members) s.world (λ x e. inr (let same : fresh_subgroup key s.world ≡ x = cc in ap (λ (y : Subgroup). y.key) (sym same)))

copy_from : (s : System) (g : ℕ) (x : Subgroup) → option_map unstuck (subgroup_at g s) ≡ Some x → (y : Subgroup) × (slice_get s.subgroups g ≡ Some (Some y)) × (y.key ≡ x.key)
copy_from s g x e = by (slice_get s.subgroups g) refl e
  where
    by : (o : Option (Option Subgroup)) → slice_get s.subgroups g ≡ o → option_map unstuck (there o) ≡ Some x → (y : Subgroup) × (slice_get s.subgroups g ≡ Some (Some y)) × (y.key ≡ x.key)
    by None is e = absurd cc
    by (Some None) is e = absurd cc
    by (Some (Some y)) is e = (y, is, (let same : unstuck y ≡ x = cc in ap (λ (z : Subgroup). z.key) same))

few-split : (key : GroupKey) (p : ℕ) (seat : Option Seat) (s : System) → HasFew key s (split p seat s)
few-split key p None s = same-few key s s (λ g x is. is)
few-split key p (Some t) s = by (has_company t.sub s.members)
  where
    by : (b : Bool) → HasFew key s (split_by b p t s)
    by true = end-few key s (option_map unstuck (subgroup_at t.sub s)) (change_at (with_seat (Some (record t { sub = length s.subgroups }))) p s.members) s.world
        (λ x e. let found = copy_from s t.sub x e in inl (subst (λ (k : GroupKey). has_key (live_keys s) k ≡ true) found.2 (live-met s t.sub found.0 found.1)))
    by false = same-few key s s (λ g x is. is)

few-own : (key : GroupKey) (change : Subgroup → Subgroup) (seat : Option Seat) (s : System) → ((x : Subgroup) → ((change x).key ≡ x.key) ⊎ ((change x).key ≡ key)) → HasFew key s (with_own change seat s)
few-own key change None s keeps = same-few key s s (λ g x is. is)
few-own key change (Some t) s keeps = λ g x is.
    elim (cases_eq g t.sub) [
      | inl same ↦ by x (slice_get s.subgroups t.sub) refl (sym (changed-here (option_map change) t.sub s.subgroups) ∙ subst (λ (k : ℕ). slice_get (change_at (option_map change) t.sub s.subgroups) k ≡ Some (Some x)) same is)
      | inr apart ↦ inl (live-met s g x (sym (changed-there (option_map change) t.sub g s.subgroups apart) ∙ is))
    ]
  where
    by : (x : Subgroup) (o : Option (Option Subgroup)) → slice_get s.subgroups t.sub ≡ o → option_map (option_map change) o ≡ Some (Some x) → (has_key (live_keys s) x.key ≡ true) ⊎ (x.key ≡ key)
    by x None at e = absurd cc
    by x (Some None) at e = absurd cc
    by x (Some (Some y)) at e =
        let same : change y ≡ x = cc in
        elim (keeps y) [
          | inl it ↦ inl (subst (λ (k : GroupKey). has_key (live_keys s) k ≡ true) (sym it ∙ ap (λ (z : Subgroup). z.key) same) (live-met s t.sub y at))
          | inr it ↦ inr (ap (λ (z : Subgroup). z.key) (sym same) ∙ it)
        ]

pub key-asked : (x : Subgroup) → (asked x).key ≡ x.key
key-asked x = by x.key.enhanced_refresh
  where
    by : (b : Bool) → (if b then record x { phase = Owed } else record x { out = all_forced x.out }).key ≡ x.key
    by true = refl
    by false = refl

few-rekey : (key : GroupKey) (p : ℕ) (s : System) → HasFew key s (rekey p key (apart p s))
few-rekey key p s =
    let own = apart p s in
    few-then key s own (rekey p key own) (few-split key p (seat_at p s) s) (few-own key (rekeyed key own.world) (seat_at p own) own (λ x. inr refl))

pub few-turn : (turn : Turn) (p : ℕ) (key : GroupKey) (s : System) → HasFew key s (with_turn turn p key s)
few-turn Leaves p key s = few-leave key p (seat_at p s) s
few-turn Starts p key s =
    let gone = leave p (seat_at p s) s in
    few-then key s gone (join p key (first_joinable key 0 gone.subgroups) gone) (few-leave key p (seat_at p s) s) (few-join key p (first_joinable key 0 gone.subgroups) gone)
few-turn Asks p key s = let own = rekey p key (apart p s) in few-then key s own (ask p own) (few-rekey key p s) (few-own key asked (seat_at p own) own (λ x. inl (key-asked x)))
few-turn Rekeys p key s = few-rekey key p s
few-turn Stays p key s = same-few key s s (λ g x is. is)

-- who leaves or stays gives no key
pub few-none : (p : ℕ) (key : GroupKey) (s : System) (k : GroupKey) → has_key (live_keys (with_turn Leaves p key s)) k ≡ true → has_key (live_keys s) k ≡ true
few-none p key s k is =
    let found = live-found (leave p (seat_at p s) s) k is in
    subst (λ (j : GroupKey). has_key (live_keys s) j ≡ true) found.same (live-met s found.place found.subgroup (leave-kept p (seat_at p s) s found.place found.subgroup found.is))

-- ---- and the key is among them

found_first : (key : GroupKey) (g k : ℕ) (xs : List (Option Subgroup)) → first_joinable key g xs ≡ Some k → (j : ℕ) × (x : Subgroup) × (k ≡ g + j) × (slice_get xs j ≡ Some (Some x)) × (is_joinable key x ≡ true)
found_first key g k [] e = absurd cc
found_first key g k (None ∷ xs) e = let rest = found_first key (g + 1) k xs e in let number = rest.2 in (suc rest.0, rest.1, omega arith, rest.3, rest.4)
found_first key g k (Some x ∷ xs) e = by (is_joinable key x) refl e (λ rest. found_first key (g + 1) k xs rest)
  where
    by : (b : Bool) → is_joinable key x ≡ b → (if b then Some g else first_joinable key (g + 1) xs) ≡ Some k
        → (first_joinable key (g + 1) xs ≡ Some k → (j : ℕ) × (y : Subgroup) × (k ≡ g + 1 + j) × (slice_get xs j ≡ Some (Some y)) × (is_joinable key y ≡ true))
        → (j : ℕ) × (y : Subgroup) × (k ≡ g + j) × (slice_get (Some x ∷ xs) j ≡ Some (Some y)) × (is_joinable key y ≡ true)
    by true joins e rest = let same : g ≡ k = cc in (0, x, omega arith, refl, joins)
    by false joins e rest = let more = rest e in let number = more.2 in (suc more.0, more.1, omega arith, more.3, more.4)

first_so : (a b : Bool) → (a && b) ≡ true → a ≡ true
first_so true b e = refl
first_so false b e = absurd cc

-- a subgroup that a session may join is of its key
pub joinable-is : (key : GroupKey) (xs : List (Option Subgroup)) (k : ℕ) → first_joinable key 0 xs ≡ Some k → (x : Subgroup) × (slice_get xs k ≡ Some (Some x)) × (x.key ≡ key)
joinable-is key xs k e =
    let found = found_first key 0 k xs e in
    let number = found.2 in
    let at : k ≡ found.0 = omega arith in
    (found.1, ap (slice_get xs) at ∙ found.3, group-same found.1.key key (first_so (same_group found.1.key key) (found.1.fresh && found.1.ending) found.4))

pub has-joined : (key : GroupKey) (p : ℕ) (s : System) → has_key (live_keys (join p key (first_joinable key 0 s.subgroups) s)) key ≡ true
has-joined key p s = by (first_joinable key 0 s.subgroups) refl
  where
    by : (o : Option ℕ) → first_joinable key 0 s.subgroups ≡ o → has_key (live_keys (join p key o s)) key ≡ true
    by (Some g) e = let found = joinable-is key s.subgroups g e in subst (λ (k : GroupKey). has_key (live_keys s) k ≡ true) found.2 (live-met s g found.0 found.1)
    by None e = live-met (join p key None s) (length s.subgroups) (fresh_subgroup key s.world) (end-here s.subgroups (Some (fresh_subgroup key s.world)))

module _ (p : ℕ) (s : System) (t : Seat) (x : Subgroup) (sits : seat_at p s ≡ Some t) (at : slice_get s.subgroups t.sub ≡ Some (Some x)) where
  -- it sits in a subgroup of its own then
  own_there : (u : Seat) × (y : Subgroup) × (seat_at p (apart p s) ≡ Some u) × (slice_get (apart p s).subgroups u.sub ≡ Some (Some y))
  own_there = subst (λ (o : Option Seat). (u : Seat) × (y : Subgroup) × (seat_at p (split p o s) ≡ Some u) × (slice_get (split p o s).subgroups u.sub ≡ Some (Some y))) (sym sits) (by (has_company t.sub s.members))
    where
      seat_now : (o : Option Member) (u : Seat) → seat_of o ≡ Some t → seat_of (option_map (with_seat (Some u)) o) ≡ Some u
      seat_now None u e = absurd cc
      seat_now (Some m) u e = refl

      by : (b : Bool) → (u : Seat) × (y : Subgroup) × (seat_at p (split_by b p t s) ≡ Some u) × (slice_get (split_by b p t s).subgroups u.sub ≡ Some (Some y))
      by true = (
        record t { sub = length s.subgroups },
        unstuck x,
        ap seat_of (changed-here (with_seat (Some (record t { sub = length s.subgroups }))) p s.members) ∙ seat_now (slice_get s.members p) (record t { sub = length s.subgroups }) sits,
        end-here s.subgroups (option_map unstuck (subgroup_at t.sub s)) ∙ ap (λ (o : Option (Option Subgroup)). Some (option_map unstuck (there o))) at,
      )
      by false = (t, x, sits, at)

  own_has : (change : Subgroup → Subgroup) (st : System) (u : Seat) (y : Subgroup) → seat_at p st ≡ Some u → slice_get st.subgroups u.sub ≡ Some (Some y) → slice_get (with_own change (seat_at p st) st).subgroups u.sub ≡ Some (Some (change y))
  own_has change st u y seat there_is =
      ap (λ (o : Option Seat). slice_get (with_own change o st).subgroups u.sub) seat
      ∙ changed-here (option_map change) u.sub st.subgroups ∙ ap (option_map (option_map change)) there_is

  own_seat : (change : Subgroup → Subgroup) (o : Option Seat) (st : System) → seat_at p (with_own change o st) ≡ seat_at p st
  own_seat change None st = refl
  own_seat change (Some u) st = refl

  pub has-rekeyed : (key : GroupKey) → has_key (live_keys (rekey p key (apart p s))) key ≡ true
  has-rekeyed key =
      let own = apart p s in
      live-met (rekey p key own) own_there.0.sub (rekeyed key own.world own_there.1) (own_has (rekeyed key own.world) own own_there.0 own_there.1 own_there.2 own_there.3)

  pub has-asked : (key : GroupKey) → has_key (live_keys (ask p (rekey p key (apart p s)))) key ≡ true
  has-asked key =
      let own = apart p s in
      let two = rekeyed key own.world own_there.1 in
      let state = rekey p key own in
      let seat = own_seat (rekeyed key own.world) (seat_at p own) own ∙ own_there.2 in
      let there_is = own_has (rekeyed key own.world) own own_there.0 own_there.1 own_there.2 own_there.3 in
      subst (λ (k : GroupKey). has_key (live_keys (ask p state)) k ≡ true) (key-asked two)
      (live-met (ask p state) own_there.0.sub (asked two) (own_has asked state own_there.0 two seat there_is))

-- ---- what is evaluated

module _ (e : Happening) (s new : System) (w : World) (taken : take_event e s ≡ with_counts new) (world : new.world ≡ w) (untouched : (key : GroupKey) (v : World) → paths_touched e key v ≡ 0) where
  evaluated : GroupKey → ℕ
  evaluated k = if has_key (live_keys s) k then 0 else all_heeded k.add_path w.routes

  sums : evaluations e s ≡ sum_by (λ (k : GroupKey). if has_key (live_keys s) k then 0 else all_heeded k.add_path w.routes) (live_keys new)
  sums =
      ap (λ (t : System). sum_by (evaluations_for e (live_keys s) t.world) (live_keys t)) taken
      ∙ ap (sum_by (evaluations_for e (live_keys s) new.world)) (live-counted new)
      ∙ ap (λ (v : World). sum_by (evaluations_for e (live_keys s) v) (live_keys new)) world
      ∙ ap (λ (f : GroupKey → World → ℕ). sum_by (λ (k : GroupKey). if has_key (live_keys s) k then f k w else all_heeded k.add_path w.routes) (live_keys new)) (λ i key v. untouched key v i)

  counts_nothing : (k : GroupKey) → has_key (live_keys s) k ≡ true → (if has_key (live_keys s) k then 0 else all_heeded k.add_path w.routes) ≡ 0
  counts_nothing k is = ap (λ (b : Bool). if b then 0 else all_heeded k.add_path w.routes) is

  -- the key that it gives
  pub evaluates-one : (key : GroupKey) → HasFew key s new → has_key (live_keys new) key ≡ true → evaluations e s ≡ (if has_key (live_keys s) key then 0 else all_heeded key.add_path w.routes)
  evaluates-one key few has =
      sums ∙ sum-one (λ (k : GroupKey). if has_key (live_keys s) k then 0 else all_heeded k.add_path w.routes) (live_keys new) key (live-distinct new) has
      (λ k is. let found = live-found new k is in
      elim (few found.place found.subgroup found.is) [
        | inl it ↦ inr (counts_nothing k (subst (λ (j : GroupKey). has_key (live_keys s) j ≡ true) found.same it))
        | inr it ↦ inl (sym found.same ∙ it)
      ])

  -- or none
  pub evaluates-none : ((k : GroupKey) → has_key (live_keys new) k ≡ true → has_key (live_keys s) k ≡ true) → evaluations e s ≡ 0
  evaluates-none few =
      sums ∙ sum-none (λ (k : GroupKey). if has_key (live_keys s) k then 0 else all_heeded k.add_path w.routes) (live_keys new) (λ k is. counts_nothing k (few k is))
