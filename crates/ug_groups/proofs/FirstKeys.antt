-- The first of each class are the first of each key.
use Rattle.std.proofs.Common.{◌≡◌, ℕ, suc, ◌+◌, Bool, true, false, List, [], ◌∷◌, ◌++◌, map, Option, Some, None, refl, sym, ◌∙◌, ap, arith}
use Rattle.std.specs.Prelude.{◌==◌, ◌||◌, if◌then◌else◌}
use Rattle.std.specs.Option.{option_map}
use Rattle.ug_types.specs.declared.route.OutAttrs.{OutAttrs}
use Rattle.ug_outbound.specs.declared.key.GroupKey.{GroupKey}
use Rattle.ug_intern.specs.Pools.{Pooled}
use Rattle.ug_queue.specs.Spread.{numbered, value_of}
use Rattle.ug_group_rules.specs.Packets.{same_group}
use Rattle.ug_group_rules.specs.Evaluations.{has_key, keys_from}
use Rattle.ug_group_rules.proofs.Groups.{group-same}
use Rattle.ug_group_rules.proofs.Keys.{laws}
use Rattle.ug_groups.specs.declared.entry.Entry.{Entry}
use Rattle.ug_groups.specs.Rows.{Row, Rows, row_at, subs_of, keys_in}
use Rattle.ug_groups.specs.Entries.{Entries, key_of, rows_in, AreClassed}
use Rattle.ug_groups.specs.Scans.{has_class, firsts}
use Rattle.ug_groups.proofs.Accounts.{row_there}

class_more : (before : List (ℕ × Entry)) (r : ℕ × Entry) (class : ℕ) → has_class (before ++ r ∷ []) class ≡ (has_class before class || (r.1.class == class))
class_more [] r class = ends (r.1.class == class)
  where
    ends : (b : Bool) → (b || false) ≡ b
    ends true = refl
    ends false = refl
class_more (s ∷ before) r class = ap (λ (b : Bool). (s.1.class == class) || b) (class_more before r class) ∙ moved (s.1.class == class) (has_class before class) (r.1.class == class)
  where
    moved : (a b c : Bool) → (a || (b || c)) ≡ ((a || b) || c)
    moved true b c = refl
    moved false b c = refl

same_in : (before : List GroupKey) (k j : GroupKey) → same_group k j ≡ true → has_key before j ≡ true → has_key before k ≡ true
same_in before k j same is = ap (has_key before) (group-same k j same) ∙ is

module _ (rows : Rows) where
  key_at : ℕ → Option GroupKey
  key_at g = option_map (λ (r : Row). r.sub.key) (row_at g rows)

  -- what stands before tells of each key whether its class stood before
  abbrev Agree : List (ℕ × Entry) → List GroupKey → Entries → Type 0
  Agree before keys xs = (h : ℕ) (e : Entry) → value_of h xs ≡ Some e → has_key keys (key_of e) ≡ has_class before e.class

  abbrev Alike : Entries → Type 0
  Alike xs = (g h : ℕ) (a b : Entry) → value_of g xs ≡ Some a → value_of h xs ≡ Some b → (a.class == b.class) ≡ same_group (key_of a) (key_of b)

  firsts_keys : (before : List (ℕ × Entry)) (keys : List GroupKey) (pool : Pooled OutAttrs) (g : ℕ) (xs : Entries) → Agree before keys xs → Alike xs → ((h : ℕ) (e : Entry) → value_of h xs ≡ Some e → key_at (g + h) ≡ Some (key_of e))
      → map key_at (firsts before (numbered g xs)) ≡ map Some (keys_from keys (subs_of (rows_in pool xs)))
  firsts_keys before keys pool g [] agree alike at = refl
  firsts_keys before keys pool g (None ∷ xs) agree alike at =
      firsts_keys before keys pool (g + 1) xs (λ h e is. agree (suc h) e is) (λ g h a b is js. alike (suc g) (suc h) a b is js) (λ h e is. let number : g + 1 + h ≡ g + suc h = omega arith in ap key_at number ∙ at (suc h) e is)
  firsts_keys before keys pool g (Some x ∷ xs) agree alike at =
      by (has_class before x.class) refl
      (λ known. firsts_keys (before ++ (g, x) ∷ []) keys pool (g + 1) xs (known_agree known) (λ g h a b is js. alike (suc g) (suc h) a b is js) (λ h e is. let number : g + 1 + h ≡ g + suc h = omega arith in ap key_at number ∙ at (suc h) e is))
      (firsts_keys (before ++ (g, x) ∷ []) (key_of x ∷ keys) pool (g + 1) xs new_agree (λ g h a b is js. alike (suc g) (suc h) a b is js) (λ h e is. let number : g + 1 + h ≡ g + suc h = omega arith in ap key_at number ∙ at (suc h) e is))
    where
      known_agree : has_class before x.class ≡ true → Agree (before ++ (g, x) ∷ []) keys xs
      known_agree known h e is = agree (suc h) e is ∙ by (has_class before e.class) (x.class == e.class) refl refl ∙ sym (class_more before (g, x) e.class)
        where
          by : (a b : Bool) → has_class before e.class ≡ a → (x.class == e.class) ≡ b → a ≡ (a || b)
          by true b p q = refl
          by false false p q = refl
          by false true p q =
              let same : same_group (key_of e) (key_of x) ≡ true = laws.symm (key_of e) (key_of x) ∙ sym (alike 0 (suc h) x e refl is) ∙ q in
              let so : has_key keys (key_of e) ≡ true = same_in keys (key_of e) (key_of x) same (agree 0 x refl ∙ known) in
              sym p ∙ sym (agree (suc h) e is) ∙ so

      new_agree : Agree (before ++ (g, x) ∷ []) (key_of x ∷ keys) xs
      new_agree h e is =
          ap (λ (b : Bool). b || has_key keys (key_of e)) (laws.symm (key_of e) (key_of x) ∙ sym (alike 0 (suc h) x e refl is)) ∙ ap (λ (b : Bool). (x.class == e.class) || b) (agree (suc h) e is)
          ∙ turned (x.class == e.class) (has_class before e.class) ∙ sym (class_more before (g, x) e.class)
        where
          turned : (a b : Bool) → (a || b) ≡ (b || a)
          turned true true = refl
          turned true false = refl
          turned false true = refl
          turned false false = refl

      key_here : key_at g ≡ Some (key_of x)
      key_here = let number : g ≡ g + 0 = omega arith in ap key_at number ∙ at 0 x refl

      by : (b : Bool) → has_class before x.class ≡ b
          → (has_class before x.class ≡ true → map key_at (firsts (before ++ (g, x) ∷ []) (numbered (g + 1) xs)) ≡ map Some (keys_from keys (subs_of (rows_in pool xs))))
          → map key_at (firsts (before ++ (g, x) ∷ []) (numbered (g + 1) xs)) ≡ map Some (keys_from (key_of x ∷ keys) (subs_of (rows_in pool xs)))
          → map key_at (firsts before (numbered g (Some x ∷ xs))) ≡ map Some (keys_from keys (subs_of (rows_in pool (Some x ∷ xs))))
      by true e known new =
          ap (λ (b : Bool). map key_at (if b then firsts (before ++ (g, x) ∷ []) (numbered (g + 1) xs) else g ∷ firsts (before ++ (g, x) ∷ []) (numbered (g + 1) xs))) e ∙ known e
          ∙ ap (λ (b : Bool). map Some (if b then keys_from keys (subs_of (rows_in pool xs)) else key_of x ∷ keys_from (key_of x ∷ keys) (subs_of (rows_in pool xs)))) (sym (agree 0 x refl ∙ e))
      by false e known new =
          ap (λ (b : Bool). map key_at (if b then firsts (before ++ (g, x) ∷ []) (numbered (g + 1) xs) else g ∷ firsts (before ++ (g, x) ∷ []) (numbered (g + 1) xs))) e
          ∙ ap (λ (k : Option GroupKey). k ∷ map key_at (firsts (before ++ (g, x) ∷ []) (numbered (g + 1) xs))) key_here ∙ ap (λ (ks : List (Option GroupKey)). Some (key_of x) ∷ ks) new
          ∙ ap (λ (b : Bool). map Some (if b then keys_from keys (subs_of (rows_in pool xs)) else key_of x ∷ keys_from (key_of x ∷ keys) (subs_of (rows_in pool xs)))) (sym (agree 0 x refl ∙ e))

pub groups_are : (next : ℕ) (pool : Pooled OutAttrs) (xs : Entries) (rows : Rows) → rows_in pool xs ≡ rows → AreClassed next xs → (entries : List (ℕ × Entry)) → entries ≡ numbered 0 xs
    → map (λ g. option_map (λ (r : Row). r.sub.key) (row_at g rows)) (firsts [] entries) ≡ map Some (keys_in rows)
unfolding key_at
groups_are next pool xs rows is classed entries all =
    ap (λ (l : List (ℕ × Entry)). map (λ g. option_map (λ (r : Row). r.sub.key) (row_at g rows)) (firsts [] l)) all
    ∙ firsts_keys rows [] [] pool 0 xs (λ h e there. refl) classed.alike (λ h e there. ap (option_map (λ (r : Row). r.sub.key)) (row_there pool xs (0 + h) rows e is (let number : 0 + h ≡ h = omega arith in ap (λ (n : ℕ). value_of n xs) number ∙ there)))
    ∙ ap (λ (rs : Rows). map Some (keys_in rs)) is
