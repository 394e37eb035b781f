-- Reading one after the other.
use Rattle.std.proofs.Common.{◌≡◌, List, [], ◌∷◌, ◌++◌, Ok, Err, refl, ap, sym, ◌∙◌, append_assoc}
use Rattle.ug_events.specs.declared.refusal.LineRefusal.{LineRefusal}
use Rattle.ug_events.specs.declared.refusal.LineRefusal.TheVariants as refusals
use Rattle.ug_events.specs.Reads.{Reads, ◌>>=◌, each_read, behind_read}
use Rattle.ug_events.specs.Views.{IsRefusedBy}

behind_more : {A : Type 0} (given : List A) (a : A) (rest : Reads (List A)) → behind_read (given ++ a ∷ []) rest ≡ behind_read given (rest >>= λ more. Ok (a ∷ more))
behind_more given a (Ok more) = ap Ok (append_assoc given (a ∷ []) more)
behind_more given a (Err refusal) = refl

-- one more is read
pub read_more : {X A : Type 0} (f : X → Reads A) (given : List A) (x : X) (a : A) (xs : List X) → f x ≡ Ok a → behind_read (given ++ a ∷ []) (each_read f xs) ≡ behind_read given (each_read f (x ∷ xs))
read_more f given x a xs e = rw e (behind_more given a (each_read f xs))

-- the first that can't be read decides
pub refused_on : {X A : Type 0} (f : X → Reads A) (given : List A) (x : X) (xs : List X) (e : LineRefusal) (whole : Reads (List A)) → behind_read given (each_read f (x ∷ xs)) ≡ whole → IsRefusedBy e (f x) → IsRefusedBy e whole
refused_on f given x xs refusals.NoMemory whole same h = tt
refused_on f given x xs (refusals.Refused number inner) whole same h = sym same ∙ (rw h refl)

pub behind_nothing : {A : Type 0} (rest : Reads (List A)) → behind_read [] rest ≡ rest
behind_nothing (Ok more) = refl
behind_nothing (Err refusal) = refl
