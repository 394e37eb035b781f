-- A pass over keys that are told in another way.
use Rattle.std.proofs.Common.{◌≡◌, ℕ, List, subst}
use Rattle.ug_types.specs.declared.key.Key.{Key}
use Rattle.ug_hearing.specs.declared.change.Change.{Change}
use Rattle.ug_hearing.specs.Pasts.{Value}
use Rattle.ug_hearing.specs.declared.standings.Standings.{Standings}
use Rattle.ug_hearing.specs.Passes.{ArePassed}

pub passed-as : (entries : List (Key × List Change)) (from to message n : ℕ) (keys keys' before before' : List Key) (v w : Value) (failed : List Key) (old new : Standings) → message ≡ n → keys ≡ keys' → before ≡ before' → v ≡ w
    → ArePassed entries from to message keys v before failed old new → ArePassed entries from to n keys' w before' failed old new
passed-as entries from to message n keys keys' before before' v w failed old new number same none value h =
    subst (λ (x : Value). ArePassed entries from to n keys' x before' failed old new) value
    (subst (λ (b : List Key). ArePassed entries from to n keys' v b failed old new) none
    (subst (λ (ks : List Key). ArePassed entries from to n ks v before failed old new) same (subst (λ k. ArePassed entries from to k keys v before failed old new) number h)))
