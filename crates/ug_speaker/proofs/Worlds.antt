-- In the worlds that events lead through each route of a peer can be told, in a message of its own.
use Rattle.std.proofs.Common.{◌≡◌, inl, inr, true, List, [], ◌∷◌, refl, sym, subst}
use Rattle.std.specs.List.{list_all}
use Rattle.ug_events.specs.Events.{Happening}
use Rattle.ug_world.specs.World.{World}
use Rattle.ug_world.specs.After.{after}
use Rattle.ug_world.specs.Good.{is_route_good, IsGoodWorld}
use Rattle.ug_world.proofs.GoodWorlds.{good-after}
use Rattle.ug_world.proofs.Sendable.{told-sendable, told-key}
use Rattle.ug_speaker.specs.Speech.{capabilities_of}
use Rattle.ug_speaker.specs.Told.{worlds_through}
use Rattle.ug_speaker.specs.Right.{IsAmong, AreTellable, FitAlone}
use Rattle.ug_speaker.specs.Owes.{IsOpening, AreEvents}
use Rattle.ug_speaker.proofs.Sizes.{withdrawn-alone, announced-alone}

-- a world in which a run may begin is good
pub good-first : (w : World) → IsOpening w → IsGoodWorld w
good-first w opens = record {
  in_range = opens.in_range;
  few_sets = opens.few_sets;
  routes = subst (λ (x : World). list_all is_route_good x.routes ≡ true) (sym opens.first) refl;
}

good_through : (w x : World) (es : List Happening) → AreEvents es → IsGoodWorld w → IsAmong x (worlds_through w es) → IsGoodWorld x
good_through w x [] are good is = elim is [ inl here ↦ subst IsGoodWorld (sym here) good | inr none ↦ absurd none ]
good_through w x (e ∷ es) are good is = elim is [ inl here ↦ subst IsGoodWorld (sym here) good | inr there ↦ good_through (after w e) x es are.1 (good-after w e good are.0) there ]

-- So is each that events lead through.
pub good-through : (opening x : World) (events : List Happening) → IsOpening opening → AreEvents events → IsAmong x (worlds_through opening events) → IsGoodWorld x
good-through opening x events opens are is = good_through opening x events are (good-first opening opens) is

-- A message of the peer's session can spell each of its routes.
pub are-tellable : (opening : World) (events : List Happening) → IsOpening opening → AreEvents events → AreTellable (worlds_through opening events)
are-tellable opening events opens are w p s key a among is there =
    let good = good-through opening w events opens are among in
    record { key_is = told-key w p s key a good is there; attributes_are = (told-sendable w p s key a good is there).spelled }

-- Each route of a peer fits a message of its own.
pub fit-alone : (opening : World) (events : List Happening) → IsOpening opening → AreEvents events → FitAlone (worlds_through opening events)
fit-alone opening events opens are w p s key a among is there =
    let good = good-through opening w events opens are among in
    let key_is = told-key w p s key a good is there in
    let sent = told-sendable w p s key a good is there in
    record {
      announced = announced-alone (capabilities_of s.peer) key a key_is sent.spelled sent.short;
      withdrawn = withdrawn-alone (capabilities_of s.peer) key key_is;
    }
