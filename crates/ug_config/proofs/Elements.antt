-- Arrays of a document as lists, read one after the other.
use Rattle.std.proofs.Common.{◌≡◌, List, [], ◌∷◌, ◌++◌, map, Option, Some, None, refl, ap, append_assoc}
use Rattle.toml.specs.Data.{Data}
use Rattle.toml.specs.View.{view, items_of, items_view}
use Rattle.toml.specs.declared.value.Value.{Value}
use Rattle.ug_text.specs.Cutting.{◌>>=◌}
use Rattle.ug_config.specs.Kinds.{list_of, each}

listed : (ds : List Data) → list_of (items_of ds) ≡ ds
listed [] = refl
listed (d ∷ ds) = ap (λ xs. d ∷ xs) (listed ds)

pub elements_seen : (vs : List Value) → list_of (items_view vs) ≡ map view vs
elements_seen vs = listed (map view vs)

-- behind some items those that are read then
abbrev pub behind : {A : Type 0} → List A → Option (List A) → Option (List A)
behind items None = None
behind items (Some more) = Some (items ++ more)

one_behind : {A : Type 0} (items : List A) (x : A) (rest : Option (List A)) → behind (items ++ x ∷ []) rest ≡ behind items (rest >>= λ xs. Some (x ∷ xs))
one_behind items x None = refl
one_behind items x (Some xs) = ap Some (append_assoc items (x ∷ []) xs)

-- one more is read
pub each_more : {A : Type 0} (read : Data → Option A) (items : List A) (x : A) (d : Data) (ds : List Data) → read d ≡ Some x → behind (items ++ x ∷ []) (each read ds) ≡ behind items (each read (d ∷ ds))
each_more read items x d ds e = rw e (one_behind items x (each read ds))
