-- Counting pairs of a group key and a path.
use Rattle.std.proofs.Common.{◌≡◌, ℕ, ◌+◌, ◌≤◌, ◌*◌, Bool, true, false, cond, List, [], ◌∷◌, length, refl, ◌∙◌, ap, arith}
use Rattle.std.specs.Prelude.{◌||◌, not, if◌then◌else◌}
use Rattle.std.specs.List.{filter, sum_by}
use Rattle.std.specs.Map.{values_of}
use Rattle.std.proofs.lemmas.List.Filters.{sum_by-filter_both}
use Rattle.std.proofs.lemmas.List.Sums.{sum_by-cons, sum_by-le}
use Rattle.std.proofs.lemmas.Map.Views.{All-from_any}
use Rattle.std.proofs.lemmas.Nat.{mul-le}
use Rattle.ug_types.specs.Ip.{IpPrefix}
use Rattle.ug_types.specs.declared.route.Path.{Path}
use Rattle.ug_outbound.specs.declared.key.GroupKey.{GroupKey}
use Rattle.ug_events.specs.Events.{Happening, ComesUp, GoesDown, HasPaths, HasNone, HasPolicy, HasEntries, AsksAgain, SendsRequest, SendsList}
use Rattle.ug_world.specs.World.{World, Routes, paths_to}
use Rattle.ug_world.specs.Touches.{decides_for}
use Rattle.ug_world.specs.Verdicts.{path_count}
use Rattle.ug_group_rules.specs.Packets.{same_group}
use Rattle.ug_group_rules.specs.Evaluations.{has_key, paths_heeded, all_heeded, evaluations_for}
use Rattle.ug_group_rules.specs.PeerKeys.{new_keys, pairs_with_all, pairs_asked, paths_at_most}
use Rattle.ug_group_rules.proofs.Keys.{laws, or-so}

-- ---- sums over keys

-- where two terms are the same at each of the keys, so are the sums
sum_alike : (f g : GroupKey → ℕ) (keys : List GroupKey) → ((k : GroupKey) → has_key keys k ≡ true → f k ≡ g k) → sum_by f keys ≡ sum_by g keys
sum_alike f g [] same = refl
sum_alike f g (key ∷ keys) same =
    let here = same key (ap (λ (b : Bool). b || has_key keys key) (laws.refl key)) in
    let rest = sum_alike f g keys (λ k there. same k (or-so (same_group k key) (has_key keys k) there)) in
    let one = sum_by-cons f key keys in
    let two = sum_by-cons g key keys in
    omega arith

-- the keys that are new are those that count
sum_new : (before : List GroupKey) (f : GroupKey → ℕ) (keys : List GroupKey) → sum_by (λ (k : GroupKey). if has_key before k then 0 else f k) keys ≡ sum_by f (new_keys before keys)
sum_new before f [] = refl
sum_new before f (key ∷ keys) = sum_by-cons (λ (k : GroupKey). if has_key before k then 0 else f k) key keys ∙ by (has_key before key) (sum_new before f keys)
  where
    by : (b : Bool) → sum_by (λ (k : GroupKey). if has_key before k then 0 else f k) keys ≡ sum_by f (new_keys before keys)
        → (if b then 0 else f key) + sum_by (λ (k : GroupKey). if has_key before k then 0 else f k) keys ≡ sum_by f (cond (not b) (key ∷ new_keys before keys) (new_keys before keys))
    by true rest = omega arith
    by false rest = let first = sum_by-cons f key (new_keys before keys) in omega arith

-- the sum over those that pass a test
sum_kept : (test : GroupKey → Bool) (f : GroupKey → ℕ) (keys : List GroupKey) → sum_by (λ (k : GroupKey). if test k then f k else 0) keys ≡ sum_by f (filter test keys)
sum_kept test f [] = refl
sum_kept test f (key ∷ keys) = sum_by-cons (λ (k : GroupKey). if test k then f k else 0) key keys ∙ by (test key) (sum_kept test f keys)
  where
    by : (b : Bool) → sum_by (λ (k : GroupKey). if test k then f k else 0) keys ≡ sum_by f (filter test keys)
        → (if b then f key else 0) + sum_by (λ (k : GroupKey). if test k then f k else 0) keys ≡ sum_by f (cond b (key ∷ filter test keys) (filter test keys))
    by true rest = let first = sum_by-cons f key (filter test keys) in omega arith
    by false rest = omega arith

-- none is new where all were there
pub new-none : (before now : List GroupKey) → ((k : GroupKey) → has_key now k ≡ true → has_key before k ≡ true) → new_keys before now ≡ []
new-none before [] known = refl
new-none before (key ∷ now) known =
    let here = known key (ap (λ (b : Bool). b || has_key now key) (laws.refl key)) in
    ap (λ (b : Bool). cond (not b) (key ∷ new_keys before now) (new_keys before now)) here ∙ new-none before now (λ k there. known k (or-so (same_group k key) (has_key now k) there))

-- ---- what an event evaluates is what it asks

-- where a prefix has other paths or none, where a list has other entries, and where a session goes down, no key is new
abbrev pub AreKnown : Happening → List GroupKey → List GroupKey → Type 0
AreKnown (HasPaths prefix paths) before now = (k : GroupKey) → has_key now k ≡ true → has_key before k ≡ true
AreKnown (HasNone prefix) before now = (k : GroupKey) → has_key now k ≡ true → has_key before k ≡ true
AreKnown (HasEntries name entries) before now = (k : GroupKey) → has_key now k ≡ true → has_key before k ≡ true
AreKnown (GoesDown name) before now = (k : GroupKey) → has_key now k ≡ true → has_key before k ≡ true
AreKnown (ComesUp name) before now = Unit {0}
AreKnown (HasPolicy name policy) before now = Unit {0}
AreKnown (AsksAgain name) before now = Unit {0}
AreKnown (SendsRequest name) before now = Unit {0}
AreKnown (SendsList name request) before now = Unit {0}

module _ (before now : List GroupKey) (w : World) where
  abbrev all : GroupKey → ℕ
  all key = all_heeded key.add_path w.routes

  pub pairs-of : (e : Happening) → AreKnown e before now → sum_by (evaluations_for e before w) now ≡ pairs_asked e before now w
  pairs-of (HasPaths prefix paths) known =
      sum_alike (evaluations_for (HasPaths prefix paths) before w) (λ (key : GroupKey). paths_heeded key.add_path (paths_to w.routes prefix)) now
      (λ k there. ap (λ (b : Bool). if b then paths_heeded k.add_path (paths_to w.routes prefix) else all k) (known k there))
  pairs-of (HasEntries name entries) known =
      let decided : GroupKey → Bool = λ key. decides_for w.tables key name in
      sum_alike (evaluations_for (HasEntries name entries) before w) (λ (key : GroupKey). if decided key then all key else 0) now
      (λ k there. ap (λ (b : Bool). if b then (if decided k then all k else 0) else all k) (known k there))
      ∙ sum_kept decided all now
  pairs-of (HasNone prefix) known = sum_new before all now
  pairs-of (ComesUp name) known = sum_new before all now
  pairs-of (GoesDown name) known = sum_new before all now
  pairs-of (HasPolicy name policy) known = sum_new before all now
  pairs-of (AsksAgain name) known = sum_new before all now
  pairs-of (SendsRequest name) known = sum_new before all now
  pairs-of (SendsList name request) known = sum_new before all now

-- ---- bounds

heeds_few : (add_path : Bool) (paths : List Path) → paths_heeded add_path paths ≤ length paths
heeds_few true paths = omega arith
heeds_few false paths = omega arith

heeds_few_all : (add_path : Bool) (routes : Routes) → all_heeded add_path routes ≤ path_count routes
heeds_few_all add_path [] = omega arith
heeds_few_all add_path (r ∷ routes) =
    let here = heeds_few add_path r.1 in
    let rest = heeds_few_all add_path routes in
    let one = sum_by-cons (λ (q : IpPrefix × List Path). paths_heeded add_path q.1) r routes in
    let two : path_count (r ∷ routes) ≡ length r.1 + path_count routes = sum_by-cons length r.1 (values_of routes) in
    omega arith

module _ (before now ups : List GroupKey) (fewer : length now ≤ length ups) where
  sum_few : (f : GroupKey → ℕ) (m : ℕ) → ((k : GroupKey) → f k ≤ m) → sum_by f now ≤ length ups * m
  sum_few f m few =
      let each = sum_by-le f m now (All-from_any laws (λ (k : GroupKey). f k ≤ m) now (λ k there. few k)) in
      let more = mul-le (length now) m (length ups) m fewer (omega arith) in
      omega arith

  some_few : (test : GroupKey → Bool) (routes : Routes) → pairs_with_all routes (filter test now) ≤ length ups * path_count routes
  some_few test routes =
      let f : GroupKey → ℕ = λ key. all_heeded key.add_path routes in
      let both = sum_by-filter_both test (λ (k : GroupKey). not (test k)) (λ k. refl) f now in
      let all = sum_few f (path_count routes) (λ k. heeds_few_all k.add_path routes) in
      omega arith

  new_few : (routes : Routes) → pairs_with_all routes (new_keys before now) ≤ length ups * path_count routes
  new_few routes = some_few (λ (k : GroupKey). not (has_key before k)) routes

  none_new : (routes : Routes) → ((k : GroupKey) → has_key now k ≡ true → has_key before k ≡ true) → pairs_with_all routes (new_keys before now) ≤ length ups * 0
  none_new routes known = let none = ap (pairs_with_all routes) (new-none before now known) in omega arith

  pub pairs-few : (e : Happening) (w : World) → AreKnown e before now → pairs_asked e before now w ≤ length ups * paths_at_most e w.routes
  pairs-few (HasPaths prefix paths) w known = sum_few (λ (key : GroupKey). paths_heeded key.add_path (paths_to w.routes prefix)) (length (paths_to w.routes prefix)) (λ k. heeds_few k.add_path (paths_to w.routes prefix))
  pairs-few (HasEntries name entries) w known = some_few (λ (key : GroupKey). decides_for w.tables key name) w.routes
  pairs-few (HasNone prefix) w known = none_new w.routes known
  pairs-few (GoesDown name) w known = none_new w.routes known
  pairs-few (ComesUp name) w known = new_few w.routes
  pairs-few (HasPolicy name policy) w known = new_few w.routes
  pairs-few (AsksAgain name) w known = new_few w.routes
  pairs-few (SendsRequest name) w known = new_few w.routes
  pairs-few (SendsList name request) w known = new_few w.routes
