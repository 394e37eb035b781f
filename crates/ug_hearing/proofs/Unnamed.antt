-- A key that no message names stays at its first place.
use Rattle.std.proofs.Common.{◌≡◌, ℕ, ◌+◌, Bool, true, false, List, [], ◌∷◌, Option, Some, None, refl, sym, ◌∙◌, ap, arith}
use Rattle.std.specs.Prelude.{◌||◌, if◌then◌else◌}
use Rattle.std.specs.List.{list_any}
use Rattle.ug_types.specs.declared.key.Key.{Key}
use Rattle.ug_types.specs.Attributes.{Attributes}
use Rattle.ug_types.specs.Messages.{Message, Updates, Begins, Ends, Ignored}
use Rattle.ug_message.specs.Tables.{Table, Reading, nothing_read, no_routes, among, applied, tables_from, tables_after}
use Rattle.ug_message.specs.Climbing.{IsLeastPlace, ClimbsTo, values_at}
use Rattle.ug_hearing.specs.Shifts.{shifts_from}
use Rattle.ug_hearing.specs.Certificates.{names}

neither : (a b : Bool) → (a || b) ≡ false → (a ≡ false) × (b ≡ false)
neither true b e = absurd cc
neither false b e = (refl, e)

chosen : (a w : Bool) (attrs old : Option Attributes) → (w || a) ≡ false → (if a then attrs else (if w then None else old)) ≡ old
chosen false false attrs old e = refl
chosen false true attrs old e = absurd cc
chosen true false attrs old e = absurd cc
chosen true true attrs old e = absurd cc

where_stale : (b : Bool) (old : Option Attributes) → old ≡ None → (if b then None else old) ≡ None
where_stale true old none = refl
where_stale false old none = none

-- what isn't named, and isn't there, isn't there behind the message
still_none : (key : Key) (r : Reading) (m : Message) → names key m ≡ false → r.table key ≡ None → (applied r m).table key ≡ None
still_none key r (Updates u) unnamed none = chosen (among u.announced key) (among u.withdrawn key) u.attrs (r.table key) unnamed ∙ none
still_none key r Begins unnamed none = none
still_none key r Ends unnamed none = where_stale (r.stale key) (r.table key) none
still_none key r Ignored unnamed none = none

first_place : (past : List (Option Attributes)) (v : Option Attributes) → v ≡ None → IsLeastPlace (None ∷ past) 0 v 0
first_place past v none = record { not_before = omega arith; stands = ap Some (sym none); least = λ n low less is. absurd (omega arith) }

record Stays (past : List (Option Attributes)) (values : List (Option Attributes)) (message : ℕ) : Type 0 where
  places : List ℕ
  climb : ClimbsTo (None ∷ past) 0 places values
  still : shifts_from 0 message places ≡ []

go : (key : Key) (past : List (Option Attributes)) (r : Reading) (ms : List Message) (message : ℕ) → r.table key ≡ None → list_any (names key) ms ≡ false → Stays past (values_at key (tables_from r ms)) message
go key past r [] message none unnamed = record { places = []; climb = tt; still = refl }
go key past r (m ∷ ms) message none unnamed =
    let parts = neither (names key m) (list_any (names key) ms) unnamed in
    let here = still_none key r m parts.0 none in
    let rest = go key past (applied r m) ms (message + 1) here parts.1 in
    record { places = 0 ∷ rest.places; climb = (first_place past ((applied r m).table key) here, rest.climb); still = rest.still }

pub unnamed-stays : (key : Key) (tables : List Table) (ms : List Message) → list_any (names key) ms ≡ false
    → (places : List ℕ) × ClimbsTo (values_at key (no_routes ∷ tables)) 0 places (values_at key (tables_after ms)) × (shifts_from 0 1 places ≡ [])
unnamed-stays key tables ms unnamed = let all = go key (values_at key tables) nothing_read ms 1 refl unnamed in (all.places, all.climb, all.still)
