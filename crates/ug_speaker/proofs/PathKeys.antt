-- Each path stands under one of the keys of the world.
use Rattle.std.proofs.Common.{◌≡◌, ℕ, Bool, true, false, List, [], ◌∷◌, Some, None, refl, sym, ◌∙◌}
use Rattle.std.specs.Prelude.{◌==◌, ◌&&◌, ◌||◌, find, unwrap_or, if◌then◌else◌}
use Rattle.std.specs.Map.{lookup}
use Rattle.std.proofs.lemmas.Bool.{eqb-true, eq-eqb}
use Rattle.std.proofs.lemmas.List.Folds.{list_any-append}
use Rattle.ug_types.specs.Ip.{IpPrefix}
use Rattle.ug_types.specs.Keys.{same_prefix, same_key}
use Rattle.ug_types.specs.declared.route.Path.{Path}
use Rattle.ug_message.specs.Tables.{among}
use Rattle.ug_world.specs.World.{Routes, paths_to}
use Rattle.ug_world.specs.Private.{own_keys, keys_to, keys_of, path_at}
use Rattle.ug_world.proofs.Ascending.{among_ascending}
use Rattle.ug_speaker.proofs.Bools.{both, true_or, or_true}

at_own : (prefix q : IpPrefix) (id : ℕ) (paths : List Path) (path : Path) → same_prefix prefix q ≡ true → find (λ (path : Path). path.id == id) paths ≡ Some path → among (own_keys q paths) (record { prefix = prefix; id = id }) ≡ true
at_own prefix q id [] path same is = absurd cc
at_own prefix q id (x ∷ paths) path same is = by (x.id == id) refl is (λ rest. at_own prefix q id paths path same rest)
  where
    by : (b : Bool) → (x.id == id) ≡ b → (if b then Some x else find (λ (path : Path). path.id == id) paths) ≡ Some path
        → (find (λ (path : Path). path.id == id) paths ≡ Some path → among (own_keys q paths) (record { prefix = prefix; id = id }) ≡ true)
        → among (own_keys q (x ∷ paths)) (record { prefix = prefix; id = id }) ≡ true
    by true e is rest = true_or (same_prefix prefix q && (id == x.id)) (among (own_keys q paths) (record { prefix = prefix; id = id })) (both (same_prefix prefix q) (id == x.id) same (eq-eqb id x.id (sym (eqb-true x.id id e))))
    by false e is rest = or_true (same_prefix prefix q && (id == x.id)) (among (own_keys q paths) (record { prefix = prefix; id = id })) (rest is)

at_zero : (prefix q : IpPrefix) (id : ℕ) (paths : List Path) (path : Path) → same_prefix prefix q ≡ true → path_at false id paths ≡ Some path → among (keys_to false q paths) (record { prefix = prefix; id = id }) ≡ true
at_zero prefix q id [] path same is = absurd cc
at_zero prefix q id (x ∷ paths) path same is = by (id == 0) refl is
  where
    by : (b : Bool) → (id == 0) ≡ b → (if b then Some x else None) ≡ Some path → ((same_prefix prefix q && (id == 0)) || false) ≡ true
    by true e is = true_or (same_prefix prefix q && (id == 0)) false (both (same_prefix prefix q) (id == 0) same e)
    by false e is = absurd cc

pub path_among : (add_path : Bool) (prefix q : IpPrefix) (id : ℕ) (paths : List Path) (path : Path) → same_prefix prefix q ≡ true → path_at add_path id paths ≡ Some path → among (keys_to add_path q paths) (record { prefix = prefix; id = id }) ≡ true
path_among true prefix q id paths path same is = among_ascending q paths (record { prefix = prefix; id = id }) ∙ at_own prefix q id paths path same is
path_among false prefix q id paths path same is = at_zero prefix q id paths path same is

no_path : (add_path : Bool) (id : ℕ) → path_at add_path id [] ≡ None
no_path true id = refl
no_path false id = refl

pub path_in_routes : (add_path : Bool) (prefix : IpPrefix) (id : ℕ) (routes : Routes) (path : Path) → path_at add_path id (paths_to routes prefix) ≡ Some path → among (keys_of add_path routes) (record { prefix = prefix; id = id }) ≡ true
path_in_routes add_path prefix id [] path is = let none = no_path add_path id in absurd cc
path_in_routes add_path prefix id (r ∷ routes) path is =
    list_any-append (same_key (record { prefix = prefix; id = id })) (keys_to add_path r.0 r.1) (keys_of add_path routes)
    ∙ by (same_prefix prefix r.0) refl is (λ rest. path_in_routes add_path prefix id routes path rest)
  where
    by : (b : Bool) → same_prefix prefix r.0 ≡ b → path_at add_path id (unwrap_or (if b then Some r.1 else lookup (same_prefix prefix) routes) []) ≡ Some path
        → (path_at add_path id (paths_to routes prefix) ≡ Some path → among (keys_of add_path routes) (record { prefix = prefix; id = id }) ≡ true)
        → (among (keys_to add_path r.0 r.1) (record { prefix = prefix; id = id }) || among (keys_of add_path routes) (record { prefix = prefix; id = id })) ≡ true
    by true e is rest = true_or (among (keys_to add_path r.0 r.1) (record { prefix = prefix; id = id })) (among (keys_of add_path routes) (record { prefix = prefix; id = id })) (path_among add_path prefix r.0 id r.1 path e is)
    by false e is rest = or_true (among (keys_to add_path r.0 r.1) (record { prefix = prefix; id = id })) (among (keys_of add_path routes) (record { prefix = prefix; id = id })) (rest is)
