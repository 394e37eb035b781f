-- The packet that is owed next: withdrawals first, else the first pending announcement and those after it of equal value
-- (RFC 4271 section 4.3: an UPDATE announces routes of one set of attributes).
use Rattle.std.specs.Prelude.{◌≡◌, ℕ, ◌+◌, ◌-◌, ◌<◌, ◌≤◌, nat_le, Bool, not, List, [], ◌∷◌, ◌++◌, Option, Some, None, is_some, IfSome, slice_get, cond}
use Rattle.std.specs.Option.{option_eq}
use Rattle.std.specs.List.{filter, sum_by}
use Rattle.std.specs.declared.cmp.Ordering.{Ordering}
use Rattle.ug_adjout.specs.Tables.{value_at}
use Rattle.ug_adjout.specs.Pending.{AdjRibOut}

module _ {K : Type 0} (weigh : K → ℕ) where
  -- the first of the keys, as many as have room together
  abbrev pub fitting : ℕ → List K → List K
  fitting room [] = []
  fitting room (key ∷ keys) = cond (nat_le (weigh key) room) (key ∷ fitting (room - weigh key) keys) []

  -- the run is the first of the keys, together they have room, and with one more they have not
  pub record IsLongestRun (room : ℕ) (keys run : List K) : Type 0 where
    pub rest : List K
    pub first : keys ≡ run ++ rest
    pub fits : sum_by weigh run ≤ room
    pub longest : IfSome (slice_get rest 0) (λ key. room < sum_by weigh run + weigh key)

module _ {K V : Type 0} (cmp : K → K → Ordering) where
  -- the pending keys that are to be withdrawn
  abbrev pub withdrawals : AdjRibOut K V → List K
  withdrawals a = filter (λ q. not (is_some (value_at cmp a.desired q))) a.pending

  -- the pending keys that are to be announced
  abbrev pub announcements : AdjRibOut K V → List K
  announcements a = filter (λ q. is_some (value_at cmp a.desired q)) a.pending

module _ {K V : Type 0} (same : V → V → Bool) where
  -- of these keys the first, and those of its value
  abbrev pub of_first_value : (K → Option V) → List K → List K
  of_first_value value [] = []
  of_first_value value (key ∷ keys) = filter (λ q. option_eq same (value q) (value key)) (key ∷ keys)

module _ {K V : Type 0} (cmp : K → K → Ordering) (same : V → V → Bool) where
  -- the first pending announcement, and those of its value
  abbrev pub alike : AdjRibOut K V → List K
  alike a = of_first_value same (value_at cmp a.desired) (announcements cmp a)

-- what a packet is to say
pub data Due (K V : Type 0) : Type 0 where
  Nothing : Due K V
  Withdraws : List K → Due K V
  Announces : V → List K → Due K V

module _ {K V : Type 0} (weigh : K → ℕ) (room : ℕ) (room_beside : V → ℕ) where
  -- as many as fit of those to be announced, where the first has a value
  abbrev pub announced_next : Option V → List K → Due K V
  announced_next None keys = Nothing
  announced_next (Some v) keys = Announces v (fitting weigh (room_beside v) keys)

  -- as many as fit of those to be withdrawn, where there are any
  abbrev pub withdrawn_next : List K → Due K V → Due K V
  withdrawn_next [] other = other
  withdrawn_next (key ∷ keys) other = Withdraws (fitting weigh room (key ∷ keys))

-- the value of the first of the keys
abbrev pub value_of_first : {K V : Type 0} → (K → Option V) → List K → Option V
value_of_first value [] = None
value_of_first value (key ∷ keys) = value key

module _ {K V : Type 0} (cmp : K → K → Ordering) (same : V → V → Bool) (weigh : K → ℕ) where
  -- the next packet, where withdrawals have so much room in a message, and announcements so much beside their attributes
  abbrev pub due : ℕ → (V → ℕ) → AdjRibOut K V → Due K V
  due room room_beside a =
      withdrawn_next weigh room room_beside (withdrawals cmp a) (announced_next weigh room room_beside (value_of_first (value_at cmp a.desired) (announcements cmp a)) (alike cmp same a))
