-- The logs of groups after one event more.
use Rattle.std.proofs.Common.{◌≡◌, ℕ, zero, suc, ◌+◌, ◌<◌, ◌≤◌, ◌⊎◌, inl, inr, Bool, true, false, List, [], ◌∷◌, ◌++◌, length, slice_get, Option, Some, None, refl, sym, ◌∙◌, ap, subst, arith, length-append}
use Rattle.std.specs.Prelude.{option_and_then}
use Rattle.std.proofs.lemmas.Bool.{cases_lt}
use Rattle.std.proofs.lemmas.List.Folds.{list_any-append}
use Rattle.ug_types.specs.Ip.{IpPrefix}
use Rattle.ug_types.specs.Keys.{same_prefix, same_key}
use Rattle.ug_types.specs.declared.key.Key.{Key}
use Rattle.ug_types.specs.declared.route.Path.{Path}
use Rattle.ug_types.specs.declared.route.OutAttrs.{OutAttrs}
use Rattle.ug_message.specs.Tables.{among}
use Rattle.ug_outbound.specs.declared.key.GroupKey.{GroupKey}
use Rattle.ug_outbound.specs.Outbound.{out}
use Rattle.ug_events.specs.Events.{Happening, ComesUp, GoesDown, HasPaths, HasNone, HasPolicy, HasEntries, AsksAgain, SendsRequest, SendsList}
use Rattle.ug_world.specs.World.{World, paths_to}
use Rattle.ug_world.specs.Private.{keys_to, keys_of, path_at, wanted}
use Rattle.ug_world.specs.After.{after}
use Rattle.ug_world.proofs.Keeping.{kept}
use Rattle.ug_world.proofs.Relisting.{neither}
use Rattle.ug_speaker.proofs.PathKeys.{path_among, path_in_routes}
use Rattle.ug_speaker.proofs.SameKeys.{prefix-is}
use Rattle.ug_audit_rules.specs.declared.group.Group.{Group}
use Rattle.ug_audit_rules.specs.declared.touched.Touched.{Touched}
use Rattle.ug_audit_rules.specs.Held.{held, IsRising}
use Rattle.ug_audit_rules.specs.Touched.{keys_touched}
use Rattle.ug_audit_rules.specs.GroupLogs.{Outs, Entries, changes_in, Adds, AddsWhere, IsNotedAt, IsGroupLog}
use Rattle.ug_audit_rules.specs.Seats.{IsLonger, AreGroups}
use Rattle.ug_audit_rules.specs.Histories.{keys_for, IsNotedOf, AreNotedFor}
use Rattle.ug_audit_rules.proofs.Holding.{rising-wider, rising-added, held-before, held-at, held-last}

not_both : (b : Bool) → b ≡ true → b ≡ false → ⊥
not_both true is isnt = absurd cc
not_both false is isnt = absurd cc

-- ---- what goes out

without_path : (group : GroupKey) (w : World) (q : Key) → path_at group.add_path q.id (paths_to w.routes q.prefix) ≡ None → wanted group w q ≡ None
unfolding wanted
without_path group w q none = ap (λ (o : Option Path). option_and_then (out group w.tables w.local q.prefix) o) none

pub none-in-world : (group : GroupKey) (w : World) (q : Key) → among (keys_of group.add_path w.routes) q ≡ false → wanted group w q ≡ None
none-in-world group w q absent = by (path_at group.add_path q.id (paths_to w.routes q.prefix)) refl
  where
    by : (o : Option Path) → path_at group.add_path q.id (paths_to w.routes q.prefix) ≡ o → wanted group w q ≡ None
    by None e = without_path group w q e
    by (Some path) e = absurd (not_both (among (keys_of group.add_path w.routes) q) (path_in_routes group.add_path q.prefix q.id w.routes path e) absent)

none_of_prefix : (group : GroupKey) (w : World) (q : Key) (prefix : IpPrefix) → same_prefix q.prefix prefix ≡ true → among (keys_to group.add_path prefix (paths_to w.routes prefix)) q ≡ false → wanted group w q ≡ None
none_of_prefix group w q prefix same absent = by (path_at group.add_path q.id (paths_to w.routes q.prefix)) refl
  where
    by : (o : Option Path) → path_at group.add_path q.id (paths_to w.routes q.prefix) ≡ o → wanted group w q ≡ None
    by None e = without_path group w q e
    by (Some path) e =
        absurd (not_both (among (keys_to group.add_path prefix (paths_to w.routes prefix)) q)
        (path_among group.add_path q.prefix prefix q.id (paths_to w.routes prefix) path same (subst (λ (x : IpPrefix). path_at group.add_path q.id (paths_to w.routes x) ≡ Some path) (prefix-is q.prefix prefix same) e)) absent)

module _ (w : World) (group : GroupKey) (q : Key) where
  by_prefix : (e : Happening) (prefix : IpPrefix) → (same_prefix q.prefix prefix ≡ false → wanted group (after w e) q ≡ wanted group w q) → among (keys_to group.add_path prefix (paths_to (after w e).routes prefix)) q ≡ false
      → among (keys_to group.add_path prefix (paths_to w.routes prefix)) q ≡ false → wanted group (after w e) q ≡ wanted group w q
  by_prefix e prefix other new old = by (same_prefix q.prefix prefix) refl
    where
      by : (b : Bool) → same_prefix q.prefix prefix ≡ b → wanted group (after w e) q ≡ wanted group w q
      by true same = none_of_prefix group (after w e) q prefix same new ∙ sym (none_of_prefix group w q prefix same old)
      by false is = other is

  stays_by : (e : Happening) → among (keys_touched e group.add_path (after w e)) q ≡ false → among (keys_touched e group.add_path w) q ≡ false → wanted group (after w e) q ≡ wanted group w q
  stays_by (HasPaths prefix paths) new old = by_prefix (HasPaths prefix paths) prefix (λ other. kept w (HasPaths prefix paths) group q other) new old
  stays_by (HasNone prefix) new old = by_prefix (HasNone prefix) prefix (λ other. kept w (HasNone prefix) group q other) new old
  stays_by (HasEntries name entries) new old = none-in-world group (after w (HasEntries name entries)) q new ∙ sym (none-in-world group w q old)
  stays_by (ComesUp name) new old = kept w (ComesUp name) group q refl
  stays_by (GoesDown name) new old = kept w (GoesDown name) group q refl
  stays_by (HasPolicy name policy) new old = kept w (HasPolicy name policy) group q refl
  stays_by (AsksAgain name) new old = kept w (AsksAgain name) group q refl
  stays_by (SendsRequest name) new old = kept w (SendsRequest name) group q refl
  stays_by (SendsList name request) new old = kept w (SendsList name request) group q refl

  -- under a key that an event doesn't touch what goes out stays
  pub wanted-stays : (e : Happening) → among (keys_touched e group.add_path (after w e) ++ keys_touched e group.add_path w) q ≡ false → wanted group (after w e) q ≡ wanted group w q
  wanted-stays e absent =
      let parts = neither (among (keys_touched e group.add_path (after w e)) q) (among (keys_touched e group.add_path w) q)
      (sym (list_any-append (same_key q) (keys_touched e group.add_path (after w e)) (keys_touched e group.add_path w)) ∙ absent) in
      stays_by e parts.0 parts.1

-- ---- worlds

pub world-early : {A : Type 0} (xs : List A) (x : A) (v : ℕ) → v < length xs → slice_get (xs ++ x ∷ []) v ≡ slice_get xs v
world-early [] x v less = absurd (omega arith)
world-early (y ∷ xs) x zero less = refl
world-early (y ∷ xs) x (suc v) less = world-early xs x v (omega arith)

pub world-last : {A : Type 0} (xs : List A) (x : A) → slice_get (xs ++ x ∷ []) (length xs) ≡ Some x
world-last [] x = refl
world-last (y ∷ xs) x = world-last xs x

pub get-inside : {A : Type 0} (xs : List A) (v : ℕ) (x : A) → slice_get xs v ≡ Some x → v < length xs
get-inside [] v x e = absurd cc
get-inside (y ∷ xs) zero x e = omega arith
get-inside (y ∷ xs) (suc v) x e = let rest = get-inside xs v x e in omega arith

pub same-one : {A : Type 0} (x y : A) → Some x ≡ Some y → x ≡ y
same-one x y e = cc

-- what stands at a place is one of those before, or the last
pub which-world : {A : Type 0} (ws : List A) (w' : A) (v : ℕ) (x : A) → slice_get (ws ++ w' ∷ []) v ≡ Some x → ((v < length ws) × (slice_get ws v ≡ Some x)) ⊎ ((v ≡ length ws) × (x ≡ w'))
which-world ws w' v x there = elim (cases_lt v (length ws)) [
  | inl less ↦ inl (less, sym (world-early ws w' v less) ∙ there)
  | inr late ↦ (
      let inside = get-inside (ws ++ w' ∷ []) v x there in
      let size = length-append ws (w' ∷ []) in
      let at : v ≡ length ws = omega arith in
      inr (at, same-one x w' (sym there ∙ (ap (λ (k : ℕ). slice_get (ws ++ w' ∷ []) k) at ∙ world-last ws w'))))
]

-- ---- a log

added-before : (b : Bool) (n : ℕ) (x : Option OutAttrs) (old new : Outs) → AddsWhere b n x old new → (v : ℕ) → v < n → held v None new ≡ held v None old
added-before true n x old new (inl same) v less = ap (λ (xs : Outs). held v None xs) same.0
added-before true n x old new (inr more) v less = ap (λ (xs : Outs). held v None xs) more.1 ∙ held-before v None old (record { version = n; value = x }) less
added-before false n x old new same v less = ap (λ (xs : Outs). held v None xs) same

added-rising : (b : Bool) (n : ℕ) (x : Option OutAttrs) (old new : Outs) → AddsWhere b n x old new → IsRising 1 old n → IsRising 1 new (suc n)
added-rising true n x old new (inl same) h = subst (λ (xs : Outs). IsRising 1 xs (suc n)) (sym same.0) (rising-wider 1 old n (suc n) (omega arith) h)
added-rising true n x old new (inr more) h = subst (λ (xs : Outs). IsRising 1 xs (suc n)) (sym more.1) (rising-added 1 old (record { version = n; value = x }) h)
added-rising false n x old new same h = subst (λ (xs : Outs). IsRising 1 xs (suc n)) (sym same) (rising-wider 1 old n (suc n) (omega arith) h)

added-there : (n : ℕ) (x : Option OutAttrs) (old new : Outs) → Adds n x old new → IsRising 1 old n → held n None new ≡ x
added-there n x old new (inl same) h = ap (λ (xs : Outs). held n None xs) same.0 ∙ (held-last n 1 None old n h (omega arith) ∙ same.1)
added-there n x old new (inr more) h = ap (λ (xs : Outs). held n None xs) more.1 ∙ held-at 1 None old (record { version = n; value = x }) h

-- nothing was added since the version before
quiet_there : (n m : ℕ) (old new : Outs) → new ≡ old → IsRising 1 old n → n ≡ suc m → held n None new ≡ held m None old
quiet_there n m old new same h next = ap (λ (xs : Outs). held n None xs) same ∙ (held-last n 1 None old n h (omega arith) ∙ sym (held-last m 1 None old n h (omega arith)))

-- what was noted tells one world more
pub log-goes-on : (key : GroupKey) (start : ℕ) (old new : Entries) (ws front : List World) (w w' : World) (keys : List Key) → ws ≡ front ++ w ∷ [] → w'.version ≡ length ws
    → ((q : Key) → among keys q ≡ false → wanted key w' q ≡ wanted key w q) → IsGroupLog key start old ws → IsNotedAt w' key keys old new → IsGroupLog key start new (ws ++ w' ∷ [])
log-goes-on key start old new ws front w w' keys parts version stays h noted = record {
  begun = (let b = h.begun in let size = length-append ws (w' ∷ []) in omega arith);
  rising = λ q. subst (λ (n : ℕ). IsRising 1 (changes_in new q) n) (sym (length-append ws (w' ∷ []) ∙ one_more (length ws)))
      (added-rising (among keys q) (length ws) (wanted key w' q) (changes_in old q) (changes_in new q) (at_size q) (h.rising q));
  tells = λ v x q low there. tell v x q low (which-world ws w' v x there);
}
  where
    one_more : (n : ℕ) → n + 1 ≡ suc n
    one_more n = omega arith

    at_size : (q : Key) → AddsWhere (among keys q) (length ws) (wanted key w' q) (changes_in old q) (changes_in new q)
    at_size q = subst (λ (n : ℕ). AddsWhere (among keys q) n (wanted key w' q) (changes_in old q) (changes_in new q)) version (noted q)

    last_there : slice_get ws (length front) ≡ Some w
    last_there = ap (λ (xs : List World). slice_get xs (length front)) parts ∙ world-last front w

    size : length ws ≡ suc (length front)
    size = ap (λ (xs : List World). length xs) parts ∙ (length-append front (w ∷ []) ∙ one_more (length front))

    now : (q : Key) (b : Bool) → among keys q ≡ b → AddsWhere b (length ws) (wanted key w' q) (changes_in old q) (changes_in new q) → held (length ws) None (changes_in new q) ≡ wanted key w' q
    now q true is adds = added-there (length ws) (wanted key w' q) (changes_in old q) (changes_in new q) adds (h.rising q)
    now q false is same =
        quiet_there (length ws) (length front) (changes_in old q) (changes_in new q) same (h.rising q) size
        ∙ (h.tells (length front) w q (let b = h.begun in omega (arith, b, size)) last_there ∙ sym (stays q is))

    tell : (v : ℕ) (x : World) (q : Key) → start ≤ v → ((v < length ws) × (slice_get ws v ≡ Some x)) ⊎ ((v ≡ length ws) × (x ≡ w')) → held v None (changes_in new q) ≡ wanted key x q
    tell v x q low (inl early) = added-before (among keys q) (length ws) (wanted key w' q) (changes_in old q) (changes_in new q) (at_size q) v early.0 ∙ h.tells v x q low early.1
    tell v x q low (inr last) = ap (λ (k : ℕ). held k None (changes_in new q)) last.0 ∙ (now q (among keys q) refl (at_size q) ∙ ap (λ (y : World). wanted key y q) (sym last.1))

-- what begins with a world tells it
pub log-begins : (key : GroupKey) (entries : Entries) (ws : List World) (w' : World) → 0 < length ws → w'.version ≡ length ws → IsNotedAt w' key (keys_of key.add_path w'.routes) [] entries → IsGroupLog key w'.version entries (ws ++ w' ∷ [])
log-begins key entries ws w' some version noted = record {
  begun = (let size = length-append ws (w' ∷ []) in omega (arith, size, version));
  rising = λ q. subst (λ (n : ℕ). IsRising 1 (changes_in entries q) n) (sym (length-append ws (w' ∷ []) ∙ one_more (length ws)))
      (added-rising (among (keys_of key.add_path w'.routes) q) (length ws) (wanted key w' q) [] (changes_in entries q) (at_size q) (omega arith));
  tells = λ v x q low there. tell v x q low (which-world ws w' v x there);
}
  where
    one_more : (n : ℕ) → n + 1 ≡ suc n
    one_more n = omega arith

    at_size : (q : Key) → AddsWhere (among (keys_of key.add_path w'.routes) q) (length ws) (wanted key w' q) [] (changes_in entries q)
    at_size q = subst (λ (n : ℕ). AddsWhere (among (keys_of key.add_path w'.routes) q) n (wanted key w' q) [] (changes_in entries q)) version (noted q)

    now : (q : Key) (b : Bool) → among (keys_of key.add_path w'.routes) q ≡ b → AddsWhere b (length ws) (wanted key w' q) [] (changes_in entries q) → held (length ws) None (changes_in entries q) ≡ wanted key w' q
    now q true is adds = added-there (length ws) (wanted key w' q) [] (changes_in entries q) adds (omega arith)
    now q false is same = ap (λ (xs : Outs). held (length ws) None xs) same ∙ sym (none-in-world key w' q is)

    tell : (v : ℕ) (x : World) (q : Key) → w'.version ≤ v → ((v < length ws) × (slice_get ws v ≡ Some x)) ⊎ ((v ≡ length ws) × (x ≡ w')) → held v None (changes_in entries q) ≡ wanted key x q
    tell v x q low (inl early) = absurd (let less = early.0 in omega (arith, less, low, version))
    tell v x q low (inr last) = ap (λ (k : ℕ). held k None (changes_in entries q)) last.0 ∙ (now q (among (keys_of key.add_path w'.routes) q) refl (at_size q) ∙ ap (λ (y : World). wanted key y q) (sym last.1))

-- ---- all groups

-- The group is there with its key, and what it told before a version it tells still.
pub record IsFollowed (n : ℕ) (old : Group) (news : List Group) (g : ℕ) : Type 0 where
  pub new : Group
  pub there : slice_get news g ≡ Some new
  pub key : new.key ≡ old.key
  pub before : (v : ℕ) (q : Key) → v < n → held v None (changes_in new.log.changes q) ≡ held v None (changes_in old.log.changes q)

abbrev pub Follows : ℕ → List Group → List Group → Type 0
Follows n olds news = (g : ℕ) (old : Group) → slice_get olds g ≡ Some old → IsFollowed n old news g

-- Each group is there as it was.
abbrev pub Keeps : List Group → List Group → Type 0
Keeps olds news = (g : ℕ) (old : Group) → slice_get olds g ≡ Some old → slice_get news g ≡ Some old

noted_was : (w : World) (touched : Touched) (olds news : List Group) (g : ℕ) (new : Group) → AreNotedFor w touched olds news → slice_get news g ≡ Some new → (old : Group) × (slice_get olds g ≡ Some old) × IsNotedOf w touched old new
noted_was w touched [] [] g new h is = absurd cc
noted_was w touched [] (y ∷ news) g new h is = absurd h
noted_was w touched (x ∷ olds) [] g new h is = absurd h
noted_was w touched (x ∷ olds) (y ∷ news) zero new h is = (x, refl, subst (λ (z : Group). IsNotedOf w touched x z) (same-one y new is) h.0)
noted_was w touched (x ∷ olds) (y ∷ news) (suc g) new h is = noted_was w touched olds news g new h.1 is

noted_is : (w : World) (touched : Touched) (olds news : List Group) (g : ℕ) (old : Group) → AreNotedFor w touched olds news → slice_get olds g ≡ Some old → (new : Group) × (slice_get news g ≡ Some new) × IsNotedOf w touched old new
noted_is w touched [] [] g old h is = absurd cc
noted_is w touched [] (y ∷ news) g old h is = absurd h
noted_is w touched (x ∷ olds) [] g old h is = absurd h
noted_is w touched (x ∷ olds) (y ∷ news) zero old h is = (y, refl, subst (λ (z : Group). IsNotedOf w touched z y) (same-one x old is) h.0)
noted_is w touched (x ∷ olds) (y ∷ news) (suc g) old h is = noted_is w touched olds news g old h.1 is

module _ (e : Happening) (ws front : List World) (w w' : World) (touched : Touched) (parts : ws ≡ front ++ w ∷ []) (led : w' ≡ after w e) (version : w'.version ≡ length ws)
    (plain : touched.plain.items ≡ keys_touched e false w' ++ keys_touched e false w) (own : touched.own.items ≡ keys_touched e true w' ++ keys_touched e true w) where
  keys_are : (b : Bool) → keys_for b touched ≡ keys_touched e b w' ++ keys_touched e b w
  keys_are true = own
  keys_are false = plain

  stays : (key : GroupKey) (q : Key) → among (keys_for key.add_path touched) q ≡ false → wanted key w' q ≡ wanted key w q
  stays key q absent =
      ap (λ (x : World). wanted key x q) led
      ∙ wanted-stays w key q e
      (sym (ap (λ (ks : List Key). among ks q) (keys_are key.add_path ∙ ap (λ (x : World). keys_touched e key.add_path x ++ keys_touched e key.add_path w) led)) ∙ absent)

  pub groups-go-on : (olds news : List Group) → AreGroups ws olds → AreNotedFor w' touched olds news → AreGroups (ws ++ w' ∷ []) news
  groups-go-on olds news h noted g new is =
      let was = noted_was w' touched olds news g new noted is in
      let old = was.0 in
      let of = was.2 in
      let log = log-goes-on old.key old.start old.log.changes new.log.changes ws front w w' (keys_for old.key.add_path touched) parts version (λ q absent. stays old.key q absent) (h g old was.1) of.noted in
      subst (λ (k : GroupKey). IsGroupLog k new.start new.log.changes (ws ++ w' ∷ [])) (sym of.key) (subst (λ (n : ℕ). IsGroupLog old.key n new.log.changes (ws ++ w' ∷ [])) (sym of.start) log)

  pub groups-follow : (olds news : List Group) → AreNotedFor w' touched olds news → Follows (length ws) olds news
  groups-follow olds news noted g old is =
      let now = noted_is w' touched olds news g old noted is in
      let new = now.0 in
      let of = now.2 in
      record {
        new = new;
        there = now.1;
        key = of.key;
        before = λ v q less.
            added-before (among (keys_for old.key.add_path touched) q) (length ws) (wanted old.key w' q) (changes_in old.log.changes q) (changes_in new.log.changes q)
            (subst (λ (n : ℕ). AddsWhere (among (keys_for old.key.add_path touched) q) n (wanted old.key w' q) (changes_in old.log.changes q) (changes_in new.log.changes q)) version (of.noted q)) v less;
      }

-- groups that are added at the end
pub longer-keeps : (w : World) (olds news : List Group) → IsLonger w olds news → Keeps olds news
longer-keeps w olds news (inl same) g old is = ap (λ (gs : List Group). slice_get gs g) same ∙ is
longer-keeps w olds news (inr more) g old is = ap (λ (gs : List Group). slice_get gs g) more.1 ∙ (world-early olds more.0 g (get-inside olds g old is) ∙ is)

pub longer-groups : (ws : List World) (w' : World) (olds news : List Group) → 0 < length ws → w'.version ≡ length ws → IsLonger w' olds news → AreGroups (ws ++ w' ∷ []) olds → AreGroups (ws ++ w' ∷ []) news
longer-groups ws w' olds news some version (inl same) h g new is = h g new (ap (λ (gs : List Group). slice_get gs g) (sym same) ∙ is)
longer-groups ws w' olds news some version (inr more) h g new is = by (cases_lt g (length olds))
  where
    there : slice_get (olds ++ more.0 ∷ []) g ≡ Some new
    there = ap (λ (gs : List Group). slice_get gs g) (sym more.1) ∙ is

    by : (g < length olds) ⊎ (length olds ≤ g) → IsGroupLog new.key new.start new.log.changes (ws ++ w' ∷ [])
    by (inl early) = h g new (sym (world-early olds more.0 g early) ∙ there)
    by (inr late) =
        let inside = get-inside (olds ++ more.0 ∷ []) g new there in
        let size = length-append olds (more.0 ∷ []) in
        let at : g ≡ length olds = omega arith in
        let same : more.0 ≡ new = same-one more.0 new (sym (ap (λ (k : ℕ). slice_get (olds ++ more.0 ∷ []) k) at ∙ world-last olds more.0) ∙ there) in
        let begun = more.2 in
        subst (λ (x : Group). IsGroupLog x.key x.start x.log.changes (ws ++ w' ∷ [])) same
        (subst (λ (n : ℕ). IsGroupLog more.0.key n more.0.log.changes (ws ++ w' ∷ [])) (sym begun.start) (log-begins more.0.key more.0.log.changes ws w' some version begun.noted))

pub keeps-follow : (n : ℕ) (olds mids news : List Group) → Follows n olds mids → Keeps mids news → Follows n olds news
keeps-follow n olds mids news f k g old is = let at = f g old is in record { new = at.new; there = k g at.new at.there; key = at.key; before = at.before }

pub keeps-on : (olds mids news : List Group) → Keeps olds mids → Keeps mids news → Keeps olds news
keeps-on olds mids news a b g old is = b g old (a g old is)
