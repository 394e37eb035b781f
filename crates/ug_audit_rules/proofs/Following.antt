-- A session follows the tables of its worlds.
use Rattle.std.proofs.Common.{◌≡◌, ℕ, ◌-◌, List, [], ◌∷◌, ◌++◌, length, map, take, drop, slice_get, Some, None, refl, sym, ◌∙◌, ap, arith, length-append}
use Rattle.std.proofs.lemmas.List.{map-append, length-map}
use Rattle.ug_types.specs.declared.key.Key.{Key}
use Rattle.ug_message.specs.Tables.{Table}
use Rattle.ug_message.specs.Climbing.{values_at}
use Rattle.ug_hearing.specs.declared.change.Change.{Change}
use Rattle.ug_hearing.specs.Pasts.{Value}
use Rattle.ug_hearing.specs.Courses.{IsCourse}
use Rattle.ug_hearing.specs.Logs.{IsLog}
use Rattle.ug_world.specs.World.{World}
use Rattle.ug_world.specs.Private.{private_table}
use Rattle.ug_world.specs.Worlds.{past}
use Rattle.ug_audit_rules.specs.Timelines.{IsSpan}

behind_front : {A : Type 0} (front more : List A) → drop (length front) (front ++ more) ≡ more
behind_front [] more = refl
behind_front (x ∷ front) more = behind_front front more

front_of : {A : Type 0} (front more : List A) → take (length front) (front ++ more) ≡ front
front_of [] more = refl
front_of {A} (x ∷ front) more = ap (λ (xs : List A). x ∷ xs) (front_of front more)

at_front : {A : Type 0} (front more : List A) (x : A) → slice_get (front ++ x ∷ more) (length front) ≡ Some x
at_front [] more x = refl
at_front (y ∷ front) more x = at_front front more x

-- what the tables of some worlds have for a key
module _ (p : ℕ) (key : Key) where
  values : List World → List Value
  values ws = values_at key (map (private_table p) ws)

  values-split : (xs ys : List World) → values_at key (map (private_table p) (xs ++ ys)) ≡ values_at key (map (private_table p) xs) ++ values_at key (map (private_table p) ys)
  values-split xs ys =
      ap (λ (ts : List Table). values_at key ts) (map-append (private_table p) xs ys) ∙ map-append (λ (t : Table). t key) (map (private_table p) xs) (map (private_table p) ys)

  values-size : (xs : List World) → length (values_at key (map (private_table p) xs)) ≡ length xs
  values-size xs = length-map (map (private_table p) xs) (λ (t : Table). t key) ∙ length-map xs (private_table p)

module _ (p n : ℕ) (ws : List World) (from to : ℕ) (s : IsSpan p n ws from to) (key : Key) where
  old : List Value
  old = values_at key (map (private_table p) s.before)

  here : List Value
  here = values_at key (map (private_table p) s.inside)

  next : List Value
  next = values_at key (map (private_table p) s.behind)

  all : values_at key (map (private_table p) ws) ≡ values_at key (map (private_table p) s.before) ++ private_table p s.first key ∷ (values_at key (map (private_table p) s.inside) ++ values_at key (map (private_table p) s.behind))
  all =
      ap (λ (xs : List World). values_at key (map (private_table p) xs)) s.parts ∙ values-split p key s.before (s.first ∷ (s.inside ++ s.behind))
      ∙ ap (λ (vs : List Value). values_at key (map (private_table p) s.before) ++ private_table p s.first key ∷ vs) (values-split p key s.inside s.behind)

  from_size : from ≡ length (values_at key (map (private_table p) s.before))
  from_size = s.from_is ∙ sym (values-size p key s.before)

  pub part : values_at key (past p n ws) ≡ take (to - from) (drop from (values_at key (map (private_table p) ws)))
  part =
      let os = values_at key (map (private_table p) s.before) in
      let hs = values_at key (map (private_table p) s.inside) in
      let ns = values_at key (map (private_table p) s.behind) in
      let f = private_table p s.first key in
      let inside_size = values-size p key s.inside in
      let count : to - from ≡ length (f ∷ hs) = omega (arith, s.to_is, s.from_is, inside_size) in
      let dropped = ap (λ (k : ℕ). drop k (values_at key (map (private_table p) ws))) from_size ∙ ap (λ (vs : List Value). drop (length os) vs) all ∙ behind_front os (f ∷ (hs ++ ns)) in
      let taken = ap (λ (vs : List Value). take (to - from) vs) dropped ∙ ap (λ (k : ℕ). take k (f ∷ (hs ++ ns))) count ∙ front_of (f ∷ hs) ns in
      ap (λ (xs : List World). None ∷ values_at key (map (private_table p) xs)) s.kept ∙ ap (λ (v : Value). v ∷ hs) (sym (s.empty key)) ∙ sym taken

  pub empty_at : slice_get (values_at key (map (private_table p) ws)) from ≡ Some None
  empty_at =
      let os = values_at key (map (private_table p) s.before) in
      let hs = values_at key (map (private_table p) s.inside) in
      let ns = values_at key (map (private_table p) s.behind) in
      ap (λ (k : ℕ). slice_get (values_at key (map (private_table p) ws)) k) from_size ∙ ap (λ (vs : List Value). slice_get vs (length os)) all ∙ at_front os (hs ++ ns) (private_table p s.first key) ∙ ap (λ (v : Value). Some v) (s.empty key)

pub course : (entries : List (Key × List Change)) (p n : ℕ) (ws : List World) (from to : ℕ) → IsLog entries (map (private_table p) ws) → IsSpan p n ws from to → IsCourse entries from to (past p n ws) (map (private_table p) ws)
course entries p n ws from to log s =
    let size = length-map ws (private_table p) in
    let outer = ap (λ (xs : List World). length xs) s.parts ∙ length-append s.before (s.first ∷ (s.inside ++ s.behind)) in
    let inner = length-append s.inside s.behind in
    record {
      told = log;
      part = λ key. part p n ws from to s key;
      begins = omega (arith, s.from_is, s.to_is);
      ends = omega (arith, s.to_is, size, outer, inner);
      empty = λ key. empty_at p n ws from to s key;
    }
