-- What a session was told stays right as worlds follow, and each part of it is right.
use Rattle.std.proofs.Common.{◌≡◌, ℕ, ◌+◌, Bool, true, false, List, [], ◌∷◌, ◌++◌, map, Option, sym, ◌∙◌, ap, subst, arith}
use Rattle.std.specs.Prelude.{filter}
use Rattle.std.proofs.lemmas.List.{append_assoc}
use Rattle.std.proofs.lemmas.List.Elements.{filter-append}
use Rattle.ug_types.specs.Attributes.{Attributes}
use Rattle.ug_types.specs.Messages.{Message}
use Rattle.ug_message.specs.Tables.{Table, nothing_read, reading_from, tables_from, tables_after}
use Rattle.ug_message.specs.Climbing.{Climbs, NeverBack, values_at}
use Rattle.ug_message.specs.ClimbingLaws.{NeverBack-from, Follows-from, NeverBack-longer}
use Rattle.ug_message.specs.Streams.{IsUpdate, says_nothing}
use Rattle.ug_outbound.specs.declared.peer.Peer.{Peer}
use Rattle.ug_world.specs.World.{World}
use Rattle.ug_world.specs.Private.{private_table}
use Rattle.ug_world.specs.Worlds.{in_session, past}
use Rattle.ug_speaker.specs.Right.{IsAmong, AreFor, IsToldRight}
use Rattle.ug_speaker.proofs.Readings.{values-append, are-front, count-append, in_turn-front}
use Rattle.ug_speaker.proofs.Pasts.{among-more, past-append}

pub right-longer : (p n : ℕ) (peer : Peer) (ws more : List World) (ms : List Message) → IsToldRight p n peer ws ms → IsToldRight p n peer (ws ++ more) ms
right-longer p n peer ws more ms right = record {
  never_back = subst (λ (tables : List Table). NeverBack tables (tables_after ms)) (sym (past-append p n ws more)) (NeverBack-longer (past p n ws) (map (private_table p) (filter (in_session p n) more)) (tables_after ms) right.never_back);
  end_of_rib = right.end_of_rib;
  whole = λ before later m parts says.
      let found = right.whole before later m parts says in
      (found.0, subst (λ (found' : List World). IsAmong found.0 found') (sym (filter-append (in_session p n) ws more)) (among-more found.0 (filter (in_session p n) ws) (filter (in_session p n) more) found.1), found.2);
  in_turn = right.in_turn;
  no_marks = right.no_marks;
}

climbs_front : {V : Type 0} (past vs us : List V) → Climbs past (vs ++ us) → Climbs past vs
climbs_front past [] us h = tt
climbs_front {V} past (v ∷ vs) us h = (h.0, h.1, climbs_front _ vs us h.2)

for_front : (peer : Peer) (b : Bool) (ms ns : List Message) → AreFor peer b (ms ++ ns) → AreFor peer b ms
for_front peer true ms ns h = tt
for_front peer false ms ns h = are-front IsUpdate ms ns h

pub right-front : (p n : ℕ) (peer : Peer) (ws : List World) (ms ns : List Message) → IsToldRight p n peer ws (ms ++ ns) → IsToldRight p n peer ws ms
right-front p n peer ws ms ns right = record {
  never_back = NeverBack-from (past p n ws) (tables_after ms) (λ key. climbs_front (values_at key (past p n ws)) (values_at key (tables_after ms)) (values_at key (tables_from (reading_from nothing_read ms) ns))
      (subst (λ (vs : List (Option Attributes)). Climbs (values_at key (past p n ws)) vs) (values-append key nothing_read ms ns) (Follows-from (past p n ws) (tables_after (ms ++ ns)) right.never_back key)));
  end_of_rib = let sum = count-append says_nothing ms ns in let few = right.end_of_rib in omega arith;
  whole = λ before later m parts says. right.whole before (later ++ ns) m (ap (λ (l : List Message). l ++ ns) parts ∙ append_assoc before (m ∷ later) ns) says;
  in_turn = in_turn-front nothing_read false false ms ns right.in_turn;
  no_marks = for_front peer peer.enhanced_refresh ms ns right.no_marks;
}

pub right-nothing : (p n : ℕ) (peer : Peer) (ws : List World) → IsToldRight p n peer ws []
right-nothing p n peer ws = record {
  never_back = λ key. tt;
  end_of_rib = omega arith;
  whole = λ before later m parts says. absurd (no_parts before later m parts);
  in_turn = tt;
  no_marks = for_nothing peer.enhanced_refresh;
}
  where
    no_parts : (before later : List Message) (m : Message) → [] ≡ before ++ m ∷ later → ⊥
    no_parts [] later m parts = absurd cc
    no_parts (x ∷ before) later m parts = absurd cc

    for_nothing : (b : Bool) → AreFor peer b []
    for_nothing true = tt
    for_nothing false = tt
