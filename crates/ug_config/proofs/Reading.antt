-- Reading one after the other.
use Rattle.std.proofs.Common.{◌≡◌, ℕ, ◌+◌, List, [], ◌∷◌, ◌++◌, Some, None, Ok, Err, refl, ap, append_assoc}
use Rattle.ug_config.specs.declared.refusals.ConfigRefusal.{ConfigRefusal}
use Rattle.ug_config.specs.declared.refusals.ConfigRefusal.TheVariants as refusals
use Rattle.ug_config.specs.Reads.{Reads, ◌>>=◌, each_read, each_table, way_into, behind_read, fault_of}
use Rattle.ug_config.specs.Gives.{Tells}

one_behind : {A : Type 0} (given : List A) (a : A) (rest : Reads (List A)) → behind_read (given ++ a ∷ []) rest ≡ behind_read given (rest >>= λ more. Ok (a ∷ more))
one_behind given a (Ok more) = ap Ok (append_assoc given (a ∷ []) more)
one_behind given a (Err refusal) = refl

-- one more is read
pub read_more : {X A : Type 0} (f : X → Reads A) (given : List A) (x : X) (a : A) (xs : List X) → f x ≡ Ok a → behind_read (given ++ a ∷ []) (each_read f xs) ≡ behind_read given (each_read f (x ∷ xs))
read_more f given x a xs e = rw e (one_behind given a (each_read f xs))

-- one more table is read
pub table_more : {X A : Type 0} (f : List ℕ → X → Reads A) (array : List ℕ) (place : ℕ) (given : List A) (x : X) (a : A) (xs : List X) → f (way_into array place) x ≡ Ok a
    → behind_read (given ++ a ∷ []) (each_table f array (place + 1) xs) ≡ behind_read given (each_table f array place (x ∷ xs))
table_more f array place given x a xs e = rw e (one_behind given a (each_table f array (place + 1) xs))

-- a fault in what is read first is the fault
pub tells_first : {A B : Type 0} (e : ConfigRefusal) (r : Reads A) (g : A → Reads B) → Tells e (fault_of r) → Tells e (fault_of (r >>= g))
tells_first refusals.NoMemory r g h = tt
tells_first (refusals.Refused number field) (Ok x) g h = absurd cc
tells_first (refusals.Refused number field) (Err refusal) g h = h

tells_behind : {A : Type 0} (e : ConfigRefusal) (given : List A) (r : Reads (List A)) → Tells e (fault_of r) → Tells e (fault_of (behind_read given r))
tells_behind refusals.NoMemory given r h = tt
tells_behind (refusals.Refused number field) given (Ok x) h = absurd cc
tells_behind (refusals.Refused number field) given (Err refusal) h = h

told : {A : Type 0} (e : ConfigRefusal) (r s : Reads A) → r ≡ s → Tells e (fault_of r) → Tells e (fault_of s)
told e r s same h = rw same at h

-- the first that can't be read decides
pub refused_on : {X A : Type 0} (f : X → Reads A) (given : List A) (x : X) (xs : List X) (e : ConfigRefusal) (whole : Reads (List A)) → behind_read given (each_read f (x ∷ xs)) ≡ whole → Tells e (fault_of (f x)) → Tells e (fault_of whole)
refused_on f given x xs e whole same h =
    told e (behind_read given (each_read f (x ∷ xs))) whole same
    (tells_behind e given (each_read f (x ∷ xs)) (tells_first e (f x) (λ first. each_read f xs >>= λ more. Ok (first ∷ more)) h))

pub table_refused : {X A : Type 0} (f : List ℕ → X → Reads A) (array : List ℕ) (place : ℕ) (given : List A) (x : X) (xs : List X) (e : ConfigRefusal) (whole : Reads (List A))
    → behind_read given (each_table f array place (x ∷ xs)) ≡ whole → Tells e (fault_of (f (way_into array place) x)) → Tells e (fault_of whole)
table_refused f array place given x xs e whole same h =
    told e (behind_read given (each_table f array place (x ∷ xs))) whole same
    (tells_behind e given (each_table f array place (x ∷ xs)) (tells_first e (f (way_into array place) x) (λ first. each_table f array (place + 1) xs >>= λ more. Ok (first ∷ more)) h))

pub behind_nothing : {A : Type 0} (rest : Reads (List A)) → behind_read [] rest ≡ rest
behind_nothing (Ok more) = refl
behind_nothing (Err refusal) = refl
