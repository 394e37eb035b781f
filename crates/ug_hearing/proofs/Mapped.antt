-- Lists by key, of vectors by key.
use Rattle.std.proofs.Common.{◌≡◌, Bool, true, false, cond, List, [], ◌∷◌, length, suc, Option, Some, None, refl, sym, ◌∙◌, ap}
use Rattle.std.specs.Prelude.{if◌then◌else◌}
use Rattle.std.specs.Global.{Vec}
use Rattle.std.specs.Map.{keys_of}
use Rattle.ug_types.specs.declared.key.Key.{Key}
use Rattle.ug_types.specs.Keys.{same_key}
use Rattle.ug_hearing.specs.Keyed.{value_for, list_for, items_or_none}
use Rattle.ug_hearing.specs.Lists.{listed, items_in}
use Rattle.ug_hearing.proofs.Among.{same-self}

abbrev list_in : {T : Type 0} → Option (Vec T) → Option (List T)
list_in None = None
list_in (Some v) = Some v.items

module _ {T : Type 0} where
  pub listed-for : (entries : List (Key × Vec T)) (q : Key) → value_for (listed entries) q ≡ list_in (value_for entries q)
  listed-for [] q = refl
  listed-for (e ∷ entries) q = by (same_key q e.0) (listed-for entries q)
    where
      by : (b : Bool) → value_for (listed entries) q ≡ list_in (value_for entries q) → cond b (Some e.1.items) (value_for (listed entries) q) ≡ list_in (cond b (Some e.1) (value_for entries q))
      by true rest = refl
      by false rest = rest

  pub listed-keys : (entries : List (Key × Vec T)) → keys_of (listed entries) ≡ keys_of entries
  listed-keys [] = refl
  listed-keys (e ∷ entries) = ap (λ (ks : List Key). e.0 ∷ ks) (listed-keys entries)

  pub listed-count : (entries : List (Key × Vec T)) → length (listed entries) ≡ length entries
  listed-count [] = refl
  listed-count (e ∷ entries) = ap suc (listed-count entries)

  in-none : (o : Option (Vec T)) → items_in o ≡ items_or_none (list_in o)
  in-none None = refl
  in-none (Some v) = refl

  -- what a key has, or has not
  pub list-found : (entries : List (Key × Vec T)) (lists : List (Key × List T)) (q : Key) (o : Option (Vec T)) → listed entries ≡ lists → o ≡ value_for entries q → items_in o ≡ list_for lists q
  list-found entries lists q o view is =
      in-none o
      ∙ (ap (λ (x : Option (Vec T)). items_or_none (list_in x)) is ∙ (ap items_or_none (sym (listed-for entries q)) ∙ ap (λ (es : List (Key × List T)). list_for es q) view))

  -- a key whose vector is as it was
  pub list-kept : (old new : List (Key × Vec T)) (lists : List (Key × List T)) (q : Key) → listed old ≡ lists → value_for new q ≡ value_for old q → value_for (listed new) q ≡ value_for lists q
  list-kept old new lists q view same = listed-for new q ∙ (ap list_in same ∙ (sym (listed-for old q) ∙ ap (λ (es : List (Key × List T)). value_for es q) view))

  -- one that was put
  pub list-put : (old new : List (Key × Vec T)) (key : Key) (v : Vec T) → value_for new key ≡ (if same_key key key then Some v else value_for old key) → list_for (listed new) key ≡ v.items
  list-put old new key v is = ap items_or_none (listed-for new key ∙ ap list_in (is ∙ ap (λ (b : Bool). if b then Some v else value_for old key) (same-self key)))
