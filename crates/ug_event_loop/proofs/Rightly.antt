-- A front of what a session was told is told right.
use Rattle.std.proofs.Common.{◌≡◌, ℕ, Bool, true, false, List, [], ◌∷◌, ◌++◌, Option, refl, ◌∙◌, ap, subst, arith, append_assoc}
use Rattle.std.specs.Prelude.{◌||◌, if◌then◌else◌}
use Rattle.std.proofs.lemmas.List.Sums.{sum_by-append}
use Rattle.ug_types.specs.declared.key.Key.{Key}
use Rattle.ug_types.specs.Attributes.{Attributes}
use Rattle.ug_types.specs.Messages.{Message, Updates, Begins, Ends, Ignored}
use Rattle.ug_message.specs.Tables.{Reading, nothing_read, applied, reading_from, tables_from, tables_after}
use Rattle.ug_message.specs.Climbing.{Climbs, values_at}
use Rattle.ug_message.specs.ClimbingLaws.{NeverBack-from, Follows-from}
use Rattle.ug_message.specs.Streams.{AreOf, IsUpdate, IsHeeded, says_nothing}
use Rattle.ug_outbound.specs.declared.peer.Peer.{Peer}
use Rattle.ug_world.specs.World.{World}
use Rattle.ug_world.specs.Worlds.{past}
use Rattle.ug_speaker.specs.Right.{IsInTurn, AreFor, IsToldRight}
use Rattle.ug_event_loop.specs.Kept.{IsSent}

pub are-front : (kind : Message → Type 0) (ms ns : List Message) → AreOf kind (ms ++ ns) → AreOf kind ms
are-front kind [] ns h = tt
are-front kind (m ∷ ms) ns h = (h.0, are-front kind ms ns h.1)

pub are-back : (kind : Message → Type 0) (ms ns : List Message) → AreOf kind (ms ++ ns) → AreOf kind ns
are-back kind [] ns h = h
are-back kind (m ∷ ms) ns h = are-back kind ms ns h.1

values_append : (key : Key) (r : Reading) (ms ns : List Message) → values_at key (tables_from r (ms ++ ns)) ≡ values_at key (tables_from r ms) ++ values_at key (tables_from (reading_from r ms) ns)
values_append key r [] ns = refl
values_append key r (m ∷ ms) ns = ap (λ (vs : List (Option Attributes)). (applied r m).table key ∷ vs) (values_append key (applied r m) ms ns)

in_turn_front : (r : Reading) (ended begun : Bool) (ms ns : List Message) → IsInTurn r ended begun (ms ++ ns) → IsInTurn r ended begun ms
in_turn_front r ended begun [] ns h = tt
in_turn_front r ended begun (Updates u ∷ ms) ns h = in_turn_front (applied r (Updates u)) (ended || says_nothing (Updates u)) begun ms ns h
in_turn_front r ended begun (Begins ∷ ms) ns h = (h.0, in_turn_front (applied r Begins) ended true ms ns h.1)
in_turn_front r ended begun (Ends ∷ ms) ns h = (h.0, h.1, in_turn_front (applied r Ends) ended false ms ns h.2)
in_turn_front r ended begun (Ignored ∷ ms) ns h = absurd h

climbs_front : {V : Type 0} (past vs us : List V) → Climbs past (vs ++ us) → Climbs past vs
climbs_front past [] us h = tt
climbs_front {V} past (v ∷ vs) us h = (h.0, h.1, climbs_front _ vs us h.2)

for_front : (peer : Peer) (b : Bool) (ms ns : List Message) → AreFor peer b (ms ++ ns) → AreFor peer b ms
for_front peer true ms ns h = tt
for_front peer false ms ns h = are-front IsUpdate ms ns h

pub right-front : (p n : ℕ) (peer : Peer) (ws : List World) (ms ns : List Message) → IsToldRight p n peer ws (ms ++ ns) → IsToldRight p n peer ws ms
right-front p n peer ws ms ns right = record {
  never_back = NeverBack-from (past p n ws) (tables_after ms) (λ key. climbs_front (values_at key (past p n ws)) (values_at key (tables_after ms)) (values_at key (tables_from (reading_from nothing_read ms) ns))
      (subst (λ (vs : List (Option Attributes)). Climbs (values_at key (past p n ws)) vs) (values_append key nothing_read ms ns) (Follows-from (past p n ws) (tables_after (ms ++ ns)) right.never_back key)));
  end_of_rib = let sum = sum_by-append (λ m. if says_nothing m then 1 else 0) ms ns in let few = right.end_of_rib in omega arith;
  whole = λ before later m parts says. right.whole before (later ++ ns) m (ap (λ (l : List Message). l ++ ns) parts ∙ append_assoc before (m ∷ later) ns) says;
  in_turn = in_turn_front nothing_read false false ms ns right.in_turn;
  no_marks = for_front peer peer.enhanced_refresh ms ns right.no_marks;
}

heeded : (r : Reading) (ended begun : Bool) (ms : List Message) → IsInTurn r ended begun ms → AreOf IsHeeded ms
heeded r ended begun [] h = tt
heeded r ended begun (Updates u ∷ ms) h = (tt, heeded (applied r (Updates u)) (ended || says_nothing (Updates u)) begun ms h)
heeded r ended begun (Begins ∷ ms) h = (tt, heeded (applied r Begins) ended true ms h.1)
heeded r ended begun (Ends ∷ ms) h = (tt, heeded (applied r Ends) ended false ms h.2)
heeded r ended begun (Ignored ∷ ms) h = absurd h

-- What is told right is what may be sent.
pub right-sent : (p n : ℕ) (peer : Peer) (ws : List World) (ms : List Message) → IsToldRight p n peer ws ms → AreOf (IsSent peer.enhanced_refresh) ms
right-sent p n peer ws ms right = by peer.enhanced_refresh right.no_marks
  where
    by : (b : Bool) → AreFor peer b ms → AreOf (IsSent b) ms
    by true none = heeded nothing_read false false ms right.in_turn
    by false none = none
