-- What an event makes of all rows, and how often it asks.
use Rattle.std.proofs.Common.{◌≡◌, ℕ, ◌+◌, Bool, true, false, List, [], ◌∷◌, map, refl, sym, ◌∙◌, ap, subst, arith}
use Rattle.std.specs.List.{filter, sum_by}
use Rattle.std.specs.List.Sorted.{IsStrictlySortedBy}
use Rattle.std.specs.Map.{keys_of, remove_entry}
use Rattle.std.specs.BTreeMap.{insert_entry}
use Rattle.std.proofs.lemmas.List.Sums.{sum_by-cons}
use Rattle.std.specs.Prelude.{◌||◌, cond, if◌then◌else◌}
use Rattle.ug_types.specs.Ip.{IpPrefix, same_family}
use Rattle.ug_types.specs.Keys.{prefix_cmp, same_prefix}
use Rattle.ug_types.specs.declared.key.Key.{Key}
use Rattle.ug_types.specs.declared.route.Path.{Path}
use Rattle.ug_events.specs.Events.{Happening, IsEvent, ComesUp, GoesDown, HasPaths, HasNone, HasPolicy, HasEntries, AsksAgain, SendsRequest, SendsList}
use Rattle.ug_outbound.specs.Outbound.{out}
use Rattle.ug_outbound.specs.declared.key.GroupKey.{GroupKey}
use Rattle.ug_world.specs.World.{Routes, World, paths_to}
use Rattle.ug_world.specs.Private.{keys_to, wanted}
use Rattle.ug_world.specs.After.{after, told_row}
use Rattle.ug_world.specs.Good.{IsGoodWorld}
use Rattle.ug_world.specs.Touches.{decides_for}
use Rattle.ug_world.specs.Verdicts.{path_of}
use Rattle.ug_world.proofs.GoodWorlds.{good-after}
use Rattle.ug_world.proofs.Keeping.{kept}
use Rattle.ug_pack.specs.Ready.{key_order}
use Rattle.ug_group_rules.specs.Machine.{Subgroup, retabled}
use Rattle.ug_group_rules.specs.Packets.{same_group}
use Rattle.ug_group_rules.specs.Evaluations.{has_key, paths_heeded, all_heeded, paths_touched}
use Rattle.ug_group_rules.proofs.Groups.{group-same}
use Rattle.ug_group_rules.specs.Touched.{IsKeptIn}
use Rattle.ug_group_rules.proofs.TouchedKeys.{event-touched, no-keys}
use Rattle.ug_groups.specs.Rows.{Row, Rows, keys_in, with_sub, each_row}
use Rattle.ug_groups.specs.TableChanges.{AreNumbered, Changes, IsUnder, IsList, IsOfPeer, changes_by, changes_of, changes_to, clearing, of_first, with_each_path, keys_before, keys_decided, some_add_path, with_changes, by_keys, each_by_key}
use Rattle.ug_groups.specs.Entered.{AreKept, entering, retabled_row}
use Rattle.ug_groups.proofs.EventCases.{by-list, by-prefix}
use Rattle.ug_groups.proofs.Walked.{paths-numbered}
use Rattle.ug_groups.proofs.Reached.{mapped_none, changes-key}
use Rattle.ug_groups.proofs.ByKeys.{each-same, row-met, by-some}
use Rattle.ug_groups.proofs.Retabled.{changed-table}
use Rattle.ug_groups.proofs.PrefixEvents.{kept-wanted, prefix-retabled}
use Rattle.ug_groups.proofs.AllPrefixes.{none-left, row-set, all-are-wanted, none-elsewhere}

changed_row : (one other : Subgroup → Subgroup) (r : Row) → one r.sub ≡ other r.sub → with_sub one r ≡ with_sub other r
changed_row one other r same = ap (λ (x : Subgroup). record { sub = x; queue = r.queue }) same

-- ---- what goes out hangs on the settings and the policies of a world alone

module _ (v w : World) (tables : v.tables ≡ w.tables) (local : v.local ≡ w.local) (prefix : IpPrefix) (key : GroupKey) where
  each_alike : (changes : Changes) (paths : List Path) → with_each_path key v prefix changes paths ≡ with_each_path key w prefix changes paths
  each_alike changes [] = refl
  each_alike changes (p ∷ paths) = λ i. insert_entry key_order (each_alike changes paths i) (record { prefix = prefix; id = p.id }) (out key (tables i) (local i) prefix p)

  first_alike : (paths : List Path) → of_first key v prefix paths ≡ of_first key w prefix paths
  first_alike [] = refl
  first_alike (p ∷ paths) = λ i. out key (tables i) (local i) prefix p

  by_alike : (b : Bool) (before : List Key) (paths : List Path) → changes_by b key v prefix before paths ≡ changes_by b key w prefix before paths
  by_alike false before paths = λ i. (record { prefix = prefix; id = 0 }, first_alike paths i) ∷ []
  by_alike true before paths = each_alike (clearing before) paths

  to_alike : (before : List Key) (paths : List Path) → changes_to v prefix before paths key ≡ changes_to w prefix before paths key
  to_alike before paths = λ i. if same_family key.family prefix.family then by_alike key.add_path before paths i else []

-- ---- an event about a prefix

none-adds : (keys : List GroupKey) (key : GroupKey) → has_key keys key ≡ true → some_add_path keys ≡ false → key.add_path ≡ false
none-adds [] key there none = absurd cc
none-adds (k ∷ keys) key there none = by (same_group key k) refl there (k.add_path) refl none (λ more rest. none-adds keys key more rest)
  where
    by : (b : Bool) → same_group key k ≡ b → (b || has_key keys key) ≡ true → (a : Bool) → k.add_path ≡ a → (a || some_add_path keys) ≡ false
        → (has_key keys key ≡ true → some_add_path keys ≡ false → key.add_path ≡ false) → key.add_path ≡ false
    by b e is true adds none rest = absurd cc
    by true e is false adds none rest = ap (λ (j : GroupKey). j.add_path) (group-same key k e) ∙ adds
    by false e is false adds none rest = rest is none

module _ (e : Happening) (prefix : IpPrefix) (w : World) (about : IsUnder prefix e) where
  abbrev told : List Path
  told = paths_to (after w e).routes prefix

  abbrev changing : List Key → List Path → GroupKey → Subgroup → Subgroup
  changing before paths key = with_changes (changes_to (after w e) prefix before paths key)

  prefix_rows : IsGoodWorld w → (rows : Rows) → AreKept w rows → each_by_key (changing (keys_to true prefix (paths_to w.routes prefix)) told) rows ≡ each_row (retabled_row (after w e)) rows
  prefix_rows good rows kept =
      each-same (λ (r : Row). with_sub (changing (keys_to true prefix (paths_to w.routes prefix)) told r.sub.key) r) (retabled_row (after w e)) rows
      (λ g r at.
      changed_row (changing (keys_to true prefix (paths_to w.routes prefix)) told r.sub.key) (retabled (after w e)) r
      (prefix-retabled e prefix w about good r.sub (kept g r at)))

  no_heeded : (b : Bool) → paths_heeded b [] ≡ 0
  no_heeded true = refl
  no_heeded false = refl

  removed_routes : (after w (HasNone prefix)).routes ≡ remove_entry (same_prefix prefix) w.routes
  unfolding after
  removed_routes = refl

  prefix_touched : IsStrictlySortedBy prefix_cmp (keys_of w.routes) → (key : GroupKey) → paths_heeded key.add_path told ≡ paths_touched e key (after w e)
  prefix_touched sorted key =
      by-prefix (λ (f : Happening). paths_heeded key.add_path (paths_to (after w f).routes prefix) ≡ paths_touched f key (after w f)) prefix e about (λ given. refl)
      (ap (λ (rs : Routes). paths_heeded key.add_path (paths_to rs prefix)) removed_routes ∙ ap (paths_heeded key.add_path) (none-left w.routes prefix sorted) ∙ no_heeded key.add_path)

  -- without ADD-PATH the keys that there were don't matter
  changes_alike : (before : List Key) (key : GroupKey) → key.add_path ≡ false → changes_to (after w e) prefix [] told key ≡ changes_to (after w e) prefix before told key
  changes_alike before key plain = by key.add_path plain (same_family key.family prefix.family)
    where
      by : (a : Bool) → a ≡ false → (b : Bool) → (if b then changes_by a key (after w e) prefix [] told else []) ≡ (if b then changes_by a key (after w e) prefix before told else [])
      by false plain true = refl
      by false plain false = refl
      by true plain b = absurd cc

  before_alike : (rows : Rows) (b : Bool) → some_add_path (keys_in rows) ≡ b
      → each_by_key (changing (keys_before b w prefix) told) rows ≡ each_by_key (changing (keys_to true prefix (paths_to w.routes prefix)) told) rows
  before_alike rows true some = refl
  before_alike rows false some =
      each-same (λ (r : Row). with_sub (changing [] told r.sub.key) r) (λ (r : Row). with_sub (changing (keys_to true prefix (paths_to w.routes prefix)) told r.sub.key) r) rows
      (λ g r at. ap (λ (cs : Changes). with_sub (with_changes cs) r) (changes_alike (keys_to true prefix (paths_to w.routes prefix)) r.sub.key (none-adds (keys_in rows) r.sub.key (row-met w rows g r at) some)))

  -- what goes out doesn't hang on the routes beside
  changes_before : (before : List Key) (paths : List Path) (key : GroupKey) → changes_to w prefix before paths key ≡ changes_to (after w e) prefix before paths key
  unfolding after
  changes_before before paths key =
      by-prefix (λ (f : Happening). changes_to w prefix before paths key ≡ changes_to (after w f) prefix before paths key) prefix e about
      (λ given. to_alike w (after w (HasPaths prefix given)) refl refl prefix key before paths) (to_alike w (after w (HasNone prefix)) refl refl prefix key before paths)

  -- the paths that the event tells are those of the prefix then
  pub row-told : IsStrictlySortedBy prefix_cmp (keys_of w.routes) → told_row w e ≡ told
  unfolding after
  row-told sorted =
      by-prefix (λ (f : Happening). told_row w f ≡ paths_to (after w f).routes prefix) prefix e about (λ given. sym (row-set w.routes prefix (map (path_of w) given) sorted)) (sym (none-left w.routes prefix sorted))

  module _ (paths : List Path) (row : paths ≡ told_row w e) (sorted : IsStrictlySortedBy prefix_cmp (keys_of w.routes)) where
    pub prefix-entered : IsGoodWorld w → (rows : Rows) → AreKept w rows → (before : List Key) → before ≡ keys_before (some_add_path (keys_in rows)) w prefix
        → each_by_key (λ key. with_changes (changes_to w prefix before paths key)) rows ≡ each_row (retabled_row (after w e)) rows
    prefix-entered good rows kept before are =
        (λ i. each_by_key (λ key. with_changes (changes_before before paths key i)) rows)
        ∙ ap (λ (ps : List Path). each_by_key (changing before ps) rows) (row ∙ row-told sorted)
        ∙ ap (λ (ks : List Key). each_by_key (changing ks told) rows) are
        ∙ before_alike rows (some_add_path (keys_in rows)) refl ∙ prefix_rows good rows kept

    pub prefix-cost : (rows : Rows) → sum_by (λ (key : GroupKey). paths_heeded key.add_path paths) (keys_in rows) ≡ entering e w rows
    prefix-cost rows =
        ap (λ (ps : List Path). sum_by (λ (key : GroupKey). paths_heeded key.add_path ps) (keys_in rows)) (row ∙ row-told sorted) ∙ (λ i. sum_by (λ (key : GroupKey). prefix_touched sorted key i) (keys_in rows))

    pub numbered-row : IsGoodWorld w → IsEvent e → AreNumbered paths
    numbered-row good form = subst AreNumbered (sym (row ∙ row-told sorted)) (paths-numbered (after w e).routes prefix (good-after w e good form).routes)

-- ---- new entries of a list

same_routes : (e : Happening) (list : List ℕ) (w : World) → IsList list e → (after w e).routes ≡ w.routes
unfolding after
same_routes e list w about = by-list (λ (f : Happening). (after w f).routes ≡ w.routes) list e about (λ entries. refl)

-- where the list doesn't decide for a key nothing of what it wants changes
kept_undecided : (e : Happening) (list : List ℕ) (w : World) (key : GroupKey) (q : Key) → IsList list e → decides_for (after w e).tables key list ≡ false → wanted key (after w e) q ≡ wanted key w q
unfolding after
kept_undecided e list w key q about =
    by-list (λ (f : Happening). decides_for (after w f).tables key list ≡ false → wanted key (after w f) q ≡ wanted key w q) list e about (λ entries not. kept w (HasEntries list entries) key q not)

sum_some : (test : GroupKey → Bool) (f : GroupKey → ℕ) (keys : List GroupKey) → sum_by f (filter test keys) ≡ sum_by (λ (k : GroupKey). if test k then f k else 0) keys
sum_some test f [] = refl
sum_some test f (k ∷ keys) = by (test k) (sum_some test f keys) ∙ sym (sum_by-cons (λ (k : GroupKey). if test k then f k else 0) k keys)
  where
    by : (b : Bool) → sum_by f (filter test keys) ≡ sum_by (λ (k : GroupKey). if test k then f k else 0) keys
        → sum_by f (cond b (k ∷ filter test keys) (filter test keys)) ≡ (if b then f k else 0) + sum_by (λ (k : GroupKey). if test k then f k else 0) keys
    by true rest = let first = sum_by-cons f k (filter test keys) in omega arith
    by false rest = omega arith

list_touched : (e : Happening) (list : List ℕ) (w : World) → IsList list e → (key : GroupKey) → (if decides_for w.tables key list then all_heeded key.add_path w.routes else 0) ≡ paths_touched e key w
list_touched e list w about key = by-list (λ (f : Happening). (if decides_for w.tables key list then all_heeded key.add_path w.routes else 0) ≡ paths_touched f key w) list e about (λ entries. refl)

module _ (e : Happening) (list : List ℕ) (w : World) (about : IsList list e) where
  decided_retabled : IsStrictlySortedBy prefix_cmp (keys_of (after w e).routes) → (x : Subgroup) → IsKeptIn w x → with_changes (changes_of (after w e) (after w e).routes x.key) x ≡ retabled (after w e) x
  decided_retabled sorted x kept =
      let changes = changes_of (after w e) (after w e).routes x.key in
      changed-table (after w e) x changes kept.exact kept.shown
      (kept-wanted w (after w e) x changes kept
      (all-are-wanted (after w e) x.key (wanted x.key w) sorted (λ q absent. none-elsewhere (after w e) x.key w (sym (same_routes e list w about)) q absent)))

  undecided_retabled : (x : Subgroup) → IsKeptIn w x → decides_for (after w e).tables x.key list ≡ false → x ≡ retabled (after w e) x
  undecided_retabled x kept not =
      changed-table (after w e) x [] kept.exact kept.shown
      (kept-wanted w (after w e) x [] kept (record { sorted = no-keys; values = tt; others = λ q absent. kept_undecided e list w x.key q about not }))

  list_rows : IsStrictlySortedBy prefix_cmp (keys_of (after w e).routes) → (rows : Rows) → AreKept w rows
      → by_keys (λ key. with_changes (changes_of (after w e) (after w e).routes key)) (keys_decided (after w e) list (keys_in rows)) rows ≡ each_row (retabled_row (after w e)) rows
  list_rows sorted rows kept =
      by-some (λ key. with_changes (changes_of (after w e) (after w e).routes key)) (λ key. changes-key (changes_of (after w e) (after w e).routes key)) (λ (key : GroupKey). decides_for (after w e).tables key list) w rows
      ∙ each-same (λ (r : Row). if decides_for (after w e).tables r.sub.key list then with_sub (with_changes (changes_of (after w e) (after w e).routes r.sub.key)) r else r) (retabled_row (after w e)) rows
      (λ g r at. by r (kept g r at) (decides_for (after w e).tables r.sub.key list) refl)
    where
      by : (r : Row) → IsKeptIn w r.sub → (b : Bool) → decides_for (after w e).tables r.sub.key list ≡ b
          → (if b then with_sub (with_changes (changes_of (after w e) (after w e).routes r.sub.key)) r else r) ≡ retabled_row (after w e) r
      by r is true decides = changed_row (with_changes (changes_of (after w e) (after w e).routes r.sub.key)) (retabled (after w e)) r (decided_retabled sorted r.sub is)
      by r is false not = changed_row (λ x. x) (retabled (after w e)) r (undecided_retabled r.sub is not)

  list_asked : (rows : Rows) → sum_by (λ (key : GroupKey). all_heeded key.add_path (after w e).routes) (keys_decided (after w e) list (keys_in rows)) ≡ entering e w rows
  list_asked rows =
      sum_some (λ (key : GroupKey). decides_for (after w e).tables key list) (λ (key : GroupKey). all_heeded key.add_path (after w e).routes) (keys_in rows)
      ∙ (λ i. sum_by (λ (key : GroupKey). list_touched e list (after w e) about key i) (keys_in rows))

  module _ (new : World) (taken : new ≡ after w e) where
    pub list-entered : IsStrictlySortedBy prefix_cmp (keys_of new.routes) → (rows : Rows) → AreKept w rows
        → by_keys (λ key. with_changes (changes_of new new.routes key)) (keys_decided new list (keys_in rows)) rows ≡ each_row (retabled_row (after w e)) rows
    list-entered sorted rows kept =
        ap (λ (v : World). by_keys (λ key. with_changes (changes_of v v.routes key)) (keys_decided v list (keys_in rows)) rows) taken
        ∙ list_rows (subst (λ (v : World). IsStrictlySortedBy prefix_cmp (keys_of v.routes)) taken sorted) rows kept

    pub list-cost : (rows : Rows) → sum_by (λ (key : GroupKey). all_heeded key.add_path new.routes) (keys_decided new list (keys_in rows)) ≡ entering e w rows
    list-cost rows = ap (λ (v : World). sum_by (λ (key : GroupKey). all_heeded key.add_path v.routes) (keys_decided v list (keys_in rows))) taken ∙ list_asked rows

-- ---- an event of a peer

untouched : (e : Happening) (w : World) → IsOfPeer e → (x : Subgroup) → IsKeptIn w x → retabled (after w e) x ≡ x
untouched (ComesUp name) w about x kept = event-touched (ComesUp name) w x kept
untouched (GoesDown name) w about x kept = event-touched (GoesDown name) w x kept
untouched (HasPolicy name policy) w about x kept = event-touched (HasPolicy name policy) w x kept
untouched (AsksAgain name) w about x kept = event-touched (AsksAgain name) w x kept
untouched (SendsRequest name) w about x kept = event-touched (SendsRequest name) w x kept
untouched (SendsList name request) w about x kept = event-touched (SendsList name request) w x kept
untouched (HasPaths prefix paths) w about x kept = absurd about
untouched (HasNone prefix) w about x kept = absurd about
untouched (HasEntries name entries) w about x kept = absurd about

pub peer-rows : (e : Happening) (w : World) → IsOfPeer e → (rows : Rows) → AreKept w rows → rows ≡ each_row (retabled_row (after w e)) rows
peer-rows e w about rows kept =
    sym (mapped_none (λ r. r) (λ r. refl) rows)
    ∙ each-same (λ r. r) (retabled_row (after w e)) rows (λ g r at. changed_row (λ x. x) (retabled (after w e)) r (sym (untouched e w about r.sub (kept g r at))))

none_touched : (e : Happening) (w : World) → IsOfPeer e → (key : GroupKey) → paths_touched e key (after w e) ≡ 0
none_touched (ComesUp name) w about key = refl
none_touched (GoesDown name) w about key = refl
none_touched (HasPolicy name policy) w about key = refl
none_touched (AsksAgain name) w about key = refl
none_touched (SendsRequest name) w about key = refl
none_touched (SendsList name request) w about key = refl
none_touched (HasPaths prefix paths) w about key = absurd about
none_touched (HasNone prefix) w about key = absurd about
none_touched (HasEntries name entries) w about key = absurd about

no_sum : (keys : List GroupKey) → sum_by (λ (key : GroupKey). 0) keys ≡ 0
no_sum [] = refl
no_sum (k ∷ keys) = let rest = no_sum keys in let all = sum_by-cons (λ (key : GroupKey). 0) k keys in omega arith

pub none-asked : (e : Happening) (w : World) → IsOfPeer e → (rows : Rows) → entering e w rows ≡ 0
none-asked e w about rows = (λ i. sum_by (λ (key : GroupKey). none_touched e w about key i) (keys_in rows)) ∙ no_sum (keys_in rows)
