-- That the paths of an event keep their rules is a fact, which has one proof at most.
use Rattle.std.proofs.Common.{List, [], ◌∷◌}
use Rattle.std.proofs.Props.{props}
use Rattle.ug_events.specs.Events.{GivenPath, IsGiven, AreGiven}

IsGiven-prop : (g : GivenPath) → IsProp (IsGiven g)
IsGiven-prop g = Prim.hlevel props

pub AreGiven-prop : (given : List GivenPath) → IsProp (AreGiven given)
AreGiven-prop [] = Prim.hlevel props
AreGiven-prop (g ∷ given) = λ x y i. (IsGiven-prop g x.0 y.0 i, AreGiven-prop given x.1 y.1 i)
