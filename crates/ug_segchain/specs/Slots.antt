-- The places of the segments: each is empty, or holds a value.
use Rattle.std.specs.Prelude.{◌≡◌, ℕ, ◌<◌, ◌≤◌, ◌^◌, List, [], ◌∷◌, ◌++◌, map, length, replicate, get_or, Option, Some, None}

module _ {X : Type 0} where
  -- the values that are there, in order
  abbrev pub values : List (Option X) → List X
  values [] = []
  values (None ∷ cs) = values cs
  values (Some x ∷ cs) = x ∷ values cs

  -- the place at the index holds a value
  abbrev pub IsFilled : List (Option X) → ℕ → Type 0
  IsFilled cs i = (x : X) × (get_or cs i None ≡ Some x)

  -- the places of the segments, one after the other
  abbrev pub joined : List (List (Option X)) → List (Option X)
  joined [] = []
  joined (s ∷ ss) = s ++ joined ss

  -- each segment has 64 places
  abbrev pub AreWhole : List (List (Option X)) → Type 0
  AreWhole [] = Unit {0}
  AreWhole (s ∷ ss) = (length s ≡ 64) × AreWhole ss

  -- no place holds a value
  abbrev pub AreEmpty : List (List (Option X)) → Type 0
  AreEmpty [] = Unit {0}
  AreEmpty (s ∷ ss) = (s ≡ replicate 64 None) × AreEmpty ss

  -- h empty places, the items, and k empty places
  unfoldable pub laid : ℕ → List X → ℕ → List (Option X)
  laid h xs k = replicate h None ++ (map Some xs ++ replicate k None)

  -- how the items of a chain lie in its segments: from the place `head` of the first one on, with `spare` places behind them
  pub record IsChain (segments : List (List (Option X))) (head len spare : ℕ) : Type 0 where
    pub whole : AreWhole segments
    pub laid_out : joined segments ≡ laid head (values (joined segments)) spare
    pub counted : len ≡ length (values (joined segments))
    pub starts : head < 64
    pub few : length segments ≤ 2 ^ 57
