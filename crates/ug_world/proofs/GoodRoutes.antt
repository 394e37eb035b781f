-- Routes that are good stay so, and what is found among them is good.
use Rattle.std.proofs.Common.{◌≡◌, ℕ, ◌<◌, Bool, true, false, cond, List, [], ◌∷◌, Option, Some, None, Ordering, refl, sym, ◌∙◌, ap, subst, arith, nat_lt}
use Rattle.std.specs.Prelude.{◌==◌, ◌&&◌, ◌||◌, find, unwrap_or, is_none, if◌then◌else◌}
use Rattle.std.specs.List.{list_all}
use Rattle.std.specs.Map.{lookup, remove_entry}
use Rattle.std.specs.BTreeMap.{insert_entry}
use Rattle.std.specs.Ordering.{match_ordering, is_eq}
use Rattle.std.specs.declared.cmp.Ordering.TheVariants.{Less, Equal, Greater}
use Rattle.std.proofs.lemmas.Bool.{eqb-true}
use Rattle.std.proofs.lemmas.Bool.Decides.{nat_tests}
use Rattle.ug_types.specs.declared.family.Family.{Family}
use Rattle.ug_types.specs.declared.route.Path.{Path}
use Rattle.ug_types.specs.Ip.{IpPrefix, same_family}
use Rattle.ug_types.specs.Attributes.{refusal_of}
use Rattle.ug_types.specs.Keys.{same_prefix, prefix_cmp}
use Rattle.ug_message.specs.Spellable.{is_number, is_prefix, can_be_spelled}
use Rattle.ug_message.proofs.Formed.{both, and, family_is}
use Rattle.ug_world.specs.World.{Routes, paths_to}
use Rattle.ug_world.specs.Private.{path_at}
use Rattle.ug_world.specs.Good.{is_learned_in_range, is_path_good, is_route_good}
use Rattle.ug_world.proofs.Lookups.{tied}

prefix_is : (a b : IpPrefix) → same_prefix a b ≡ true → a ≡ b
prefix_is a b e =
    let parts = both (same_family a.family b.family) ((a.bits == b.bits) && (a.len == b.len)) e in
    let numbers = both (a.bits == b.bits) (a.len == b.len) parts.1 in
    let family = family_is a.family b.family parts.0 in
    let bits = eqb-true a.bits b.bits numbers.0 in
    let len = eqb-true a.len b.len numbers.1 in
    λ i. record { family = family i; bits = bits i; len = len i }

-- ---- routes

all_two : {A : Type 0} (p : A → Bool) (x : A) (xs : List A) → list_all p (x ∷ xs) ≡ true → (p x ≡ true) × (list_all p xs ≡ true)
all_two p x xs h = both (p x) (list_all p xs) h

two_all : {A : Type 0} (p : A → Bool) (x : A) (xs : List A) → p x ≡ true → list_all p xs ≡ true → list_all p (x ∷ xs) ≡ true
two_all p x xs one others = and (p x) (list_all p xs) one others

abbrev pub AreGood : Routes → Type 0
AreGood routes = list_all is_route_good routes ≡ true

pub good-inserted : (routes : Routes) (prefix : IpPrefix) (paths : List Path) → AreGood routes → is_route_good (prefix, paths) ≡ true → AreGood (insert_entry prefix_cmp routes prefix paths)
good-inserted [] prefix paths h new = two_all is_route_good (prefix, paths) [] new refl
good-inserted (r ∷ routes) prefix paths h new = by (prefix_cmp prefix r.0) refl (good-inserted routes prefix paths (all_two is_route_good r routes h).1 new)
  where
    by : (o : Ordering) → prefix_cmp prefix r.0 ≡ o → AreGood (insert_entry prefix_cmp routes prefix paths)
        → AreGood (match_ordering o ((prefix, paths) ∷ r ∷ routes) ((r.0, paths) ∷ routes) (r ∷ insert_entry prefix_cmp routes prefix paths))
    by Less is rest = two_all is_route_good (prefix, paths) (r ∷ routes) new h
    by Equal is rest =
        two_all is_route_good (r.0, paths) routes (subst (λ (q : IpPrefix). is_route_good (q, paths) ≡ true) (prefix_is prefix r.0 (sym (tied prefix r.0) ∙ ap is_eq is)) new)
        (all_two is_route_good r routes h).1
    by Greater is rest = two_all is_route_good r (insert_entry prefix_cmp routes prefix paths) (all_two is_route_good r routes h).0 rest

pub good-removed : (test : IpPrefix → Bool) (routes : Routes) → AreGood routes → AreGood (remove_entry test routes)
good-removed test [] h = refl
good-removed test (r ∷ routes) h = by (test r.0) (good-removed test routes (all_two is_route_good r routes h).1)
  where
    by : (b : Bool) → AreGood (remove_entry test routes) → AreGood (cond b routes (r ∷ remove_entry test routes))
    by true rest = (all_two is_route_good r routes h).1
    by false rest = two_all is_route_good r (remove_entry test routes) (all_two is_route_good r routes h).0 rest

-- ---- a path

-- what a good path is, fact by fact
pub record IsGoodPath (family : Family) (path : Path) : Type 0 where
  pub positive : 0 < path.id
  pub number : is_number path.id ≡ true
  pub within : refusal_of path.attrs ≡ None
  pub spelled : can_be_spelled family path.attrs ≡ true
  pub learned_is : is_learned_in_range path.learned ≡ true

none_is : (o : Option ℕ) → is_none o ≡ true → o ≡ None
none_is None e = refl
none_is (Some n) e = absurd cc

above_zero : (n : ℕ) → nat_lt 0 n ≡ true → 0 < n
above_zero n e = grind (arith, nat_tests)

is_above_zero : (n : ℕ) → 0 < n → nat_lt 0 n ≡ true
is_above_zero n lt = grind (arith, nat_tests)

path_parts : (family : Family) (path : Path) → is_path_good family path ≡ true → IsGoodPath family path
path_parts family path h =
    let p1 = both (nat_lt 0 path.id) _ h in
    let p2 = both (is_number path.id) _ p1.1 in
    let p3 = both (is_none (refusal_of path.attrs)) _ p2.1 in
    let p4 = both (can_be_spelled family path.attrs) (is_learned_in_range path.learned) p3.1 in
    record { positive = above_zero path.id p1.0; number = p2.0; within = none_is (refusal_of path.attrs) p3.0; spelled = p4.0; learned_is = p4.1 }

pub path-whole : (family : Family) (path : Path) → IsGoodPath family path → is_path_good family path ≡ true
path-whole family path good =
    let last = and (can_be_spelled family path.attrs) (is_learned_in_range path.learned) good.spelled good.learned_is in
    let third = and (is_none (refusal_of path.attrs)) (can_be_spelled family path.attrs && is_learned_in_range path.learned) (ap is_none good.within) last in
    let second = and (is_number path.id) (is_none (refusal_of path.attrs) && (can_be_spelled family path.attrs && is_learned_in_range path.learned)) good.number third in
    and (nat_lt 0 path.id) (is_number path.id && (is_none (refusal_of path.attrs) && (can_be_spelled family path.attrs && is_learned_in_range path.learned))) (is_above_zero path.id good.positive) second

-- ---- a path that is found

-- it is good, and it stands under an identifier that a key of its session can have
pub record IsFound (add_path : Bool) (family : Family) (id : ℕ) (path : Path) : Type 0 where
  pub good : IsGoodPath family path
  pub number : is_number id ≡ true
  pub plain : (add_path || (id == 0)) ≡ true

found_own : (family : Family) (id : ℕ) (paths : List Path) (path : Path) → list_all (is_path_good family) paths ≡ true → find (λ (path : Path). path.id == id) paths ≡ Some path → IsFound true family id path
found_own family id [] path h is = absurd cc
found_own family id (x ∷ paths) path h is = by (x.id == id) refl is (λ rest. found_own family id paths path (all_two (is_path_good family) x paths h).1 rest)
  where
    by : (b : Bool) → (x.id == id) ≡ b → (if b then Some x else find (λ (path : Path). path.id == id) paths) ≡ Some path → (find (λ (path : Path). path.id == id) paths ≡ Some path → IsFound true family id path) → IsFound true family id path
    by true e is rest =
        let same : x ≡ path = cc in
        let good = path_parts family x (all_two (is_path_good family) x paths h).0 in
        record { good = subst (IsGoodPath family) same good; number = subst (λ n. is_number n ≡ true) (eqb-true x.id id e) good.number; plain = refl }
    by false e is rest = rest is

found_at : (add_path : Bool) (family : Family) (id : ℕ) (paths : List Path) (path : Path) → list_all (is_path_good family) paths ≡ true → path_at add_path id paths ≡ Some path → IsFound add_path family id path
found_at true family id paths path h is = found_own family id paths path h is
found_at false family id [] path h is = absurd cc
found_at false family id (x ∷ paths) path h is = by (id == 0) refl is
  where
    by : (b : Bool) → (id == 0) ≡ b → (if b then Some x else None) ≡ Some path → IsFound false family id path
    by true e is =
        let same : x ≡ path = cc in
        let good = path_parts family x (all_two (is_path_good family) x paths h).0 in
        record { good = subst (IsGoodPath family) same good; number = subst (λ n. is_number n ≡ true) (sym (eqb-true id 0 e)) refl; plain = e }
    by false e is = absurd cc

no_path : (add_path : Bool) (id : ℕ) → path_at add_path id [] ≡ None
no_path true id = refl
no_path false id = refl

abbrev IsFoundTo : Bool → ℕ → Path → IpPrefix → Type 0
IsFoundTo add_path id path prefix = (is_prefix prefix.family prefix ≡ true) × IsFound add_path prefix.family id path

pub found-good : (add_path : Bool) (prefix : IpPrefix) (id : ℕ) (routes : Routes) (path : Path) → AreGood routes → path_at add_path id (paths_to routes prefix) ≡ Some path → IsFoundTo add_path id path prefix
found-good add_path prefix id [] path h is = let none = no_path add_path id in absurd cc
found-good add_path prefix id (r ∷ routes) path h is = by (same_prefix prefix r.0) refl is (λ rest. found-good add_path prefix id routes path (all_two is_route_good r routes h).1 rest)
  where
    by : (b : Bool) → same_prefix prefix r.0 ≡ b → path_at add_path id (unwrap_or (cond b (Some r.1) (lookup (same_prefix prefix) routes)) []) ≡ Some path
        → (path_at add_path id (paths_to routes prefix) ≡ Some path → IsFoundTo add_path id path prefix) → IsFoundTo add_path id path prefix
    by true e is rest =
        let route = both (is_prefix r.0.family r.0) (list_all (is_path_good r.0.family) r.1) (all_two is_route_good r routes h).0 in
        subst (IsFoundTo add_path id path) (sym (prefix_is prefix r.0 e)) (route.0, found_at add_path r.0.family id r.1 path route.1 is)
    by false e is rest = rest is
