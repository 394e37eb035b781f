-- The stream of a session stays right as worlds follow, and as its subgroup changes with nothing formatted.
use Rattle.std.proofs.Common.{◌≡◌, ℕ, Bool, true, false, List, [], ◌∷◌, ◌++◌, map, Option, Some, None, refl, sym, ◌∙◌, ap, subst}
use Rattle.std.specs.Prelude.{is_some, filter}
use Rattle.std.proofs.lemmas.List.{map-append}
use Rattle.std.proofs.lemmas.List.Elements.{filter-append}
use Rattle.ug_types.specs.declared.key.Key.{Key}
use Rattle.ug_types.specs.Attributes.{Attributes}
use Rattle.ug_types.specs.Messages.{Message}
use Rattle.ug_message.specs.Tables.{Table, no_routes, tables_after}
use Rattle.ug_message.specs.Climbing.{Climbs, values_at}
use Rattle.ug_message.specs.ClimbingLaws.{Climbs-longer}
use Rattle.ug_outbound.specs.declared.peer.Peer.{Peer}
use Rattle.ug_world.specs.World.{World}
use Rattle.ug_world.specs.Private.{private_table}
use Rattle.ug_world.specs.Worlds.{in_session, past}
use Rattle.ug_speaker.specs.Right.{AreFor, IsToldRight}
use Rattle.ug_speaker.proofs.ToldRight.{right-longer, right-nothing}
use Rattle.ug_group_rules.specs.declared.phase.Phase.{Phase}
use Rattle.ug_group_rules.specs.declared.phase.Phase.TheVariants.{Quiet, Open}
use Rattle.ug_group_rules.proofs.Streams.{IsStream}

-- ---- worlds that follow

past_then : (p n : ℕ) (ws more : List World) → past p n (ws ++ more) ≡ past p n ws ++ map (private_table p) (filter (in_session p n) more)
past_then p n ws more =
    ap (λ (found : List World). no_routes ∷ map (private_table p) found) (filter-append (in_session p n) ws more)
    ∙ ap (λ (tables : List Table). no_routes ∷ tables) (map-append (private_table p) (filter (in_session p n) ws) (filter (in_session p n) more))

values_then : (p n : ℕ) (ws more : List World) (key : Key) → values_at key (past p n (ws ++ more)) ≡ values_at key (past p n ws) ++ values_at key (map (private_table p) (filter (in_session p n) more))
values_then p n ws more key = ap (values_at key) (past_then p n ws more) ∙ map-append (λ (table : Table). table key) (past p n ws) (map (private_table p) (filter (in_session p n) more))

pub stream-longer : (p n : ℕ) (peer : Peer) (ws more : List World) (table : Table) (forced : Key → Bool) (ending : Bool) (phase : Phase) (ms : List Message)
    → IsStream p n peer ws table forced ending phase ms → IsStream p n peer (ws ++ more) table forced ending phase ms
stream-longer p n peer ws more table forced ending phase ms stream = record {
  right = right-longer p n peer ws more ms stream.right;
  climbs = λ key.
      subst (λ (vs : List (Option Attributes)). Climbs vs (values_at key (tables_after ms) ++ table key ∷ [])) (sym (values_then p n ws more key))
      (Climbs-longer (values_at key (tables_after ms) ++ table key ∷ []) (values_at key (past p n ws)) (values_at key (map (private_table p) (filter (in_session p n) more))) (stream.climbs key));
  has = stream.has;
  stale = stream.stale;
  ended = stream.ended;
  one = stream.one;
  rests = stream.rests;
  begun = stream.begun;
  after = stream.after;
}

-- ---- another peer record, table, set of forced keys or phase

for_as : (one other : Peer) (b c : Bool) (ms : List Message) → b ≡ c → AreFor one b ms → AreFor other c ms
for_as one other true true ms e h = tt
for_as one other false false ms e h = h
for_as one other true false ms e h = absurd cc
for_as one other false true ms e h = absurd cc

pub right-peer : (p n : ℕ) (one other : Peer) (ws : List World) (ms : List Message) → one.enhanced_refresh ≡ other.enhanced_refresh → IsToldRight p n one ws ms → IsToldRight p n other ws ms
right-peer p n one other ws ms same right = record {
  never_back = right.never_back;
  end_of_rib = right.end_of_rib;
  whole = right.whole;
  in_turn = right.in_turn;
  no_marks = for_as one other one.enhanced_refresh other.enhanced_refresh ms same right.no_marks;
}

-- what a stream asks of the change of its subgroup
pub record IsAs (table next : Table) (forced later : Key → Bool) (phase then_phase : Phase) : Type 0 where
  pub same : (key : Key) → table key ≡ next key
  pub forces : (key : Key) → forced key ≡ true → is_some (table key) ≡ true → later key ≡ true
  pub rests : then_phase ≡ Quiet → phase ≡ Quiet
  pub begun : then_phase ≡ Open → phase ≡ Open

pub stream-as : (p n : ℕ) (peer : Peer) (ws : List World) (table next : Table) (forced later : Key → Bool) (ending : Bool) (phase then_phase : Phase) (ms : List Message)
    → IsAs table next forced later phase then_phase → IsStream p n peer ws table forced ending phase ms → IsStream p n peer ws next later ending then_phase ms
stream-as p n peer ws table next forced later ending phase then_phase ms change stream = record {
  right = stream.right;
  climbs = λ key. subst (λ (v : Option Attributes). Climbs (values_at key (past p n ws)) (values_at key (tables_after ms) ++ v ∷ [])) (change.same key) (stream.climbs key);
  has = λ key. stream.has key ∙ change.same key;
  stale = λ key e. let was = stream.stale key e in (change.forces key was.0 was.1, ap is_some (sym (change.same key)) ∙ was.1);
  ended = stream.ended;
  one = stream.one;
  rests = λ e. stream.rests (change.rests e);
  begun = λ e. stream.begun (change.begun e);
  after = λ e. stream.after (change.begun e);
}

pub stream-peer : (p n : ℕ) (one other : Peer) (ws : List World) (table : Table) (forced : Key → Bool) (ending : Bool) (phase : Phase) (ms : List Message)
    → one.enhanced_refresh ≡ other.enhanced_refresh → IsStream p n one ws table forced ending phase ms → IsStream p n other ws table forced ending phase ms
stream-peer p n one other ws table forced ending phase ms same stream = record {
  right = right-peer p n one other ws ms same stream.right;
  climbs = stream.climbs;
  has = stream.has;
  stale = stream.stale;
  ended = stream.ended;
  one = stream.one;
  rests = stream.rests;
  begun = stream.begun;
  after = stream.after;
}

-- ---- a session that starts

pub stream-starts : (p n : ℕ) (peer : Peer) (ws : List World) (table : Table) (forced : Key → Bool) (phase : Phase) → ((key : Key) → table key ≡ None) → (phase ≡ Open → ⊥) → IsStream p n peer ws table forced true phase []
stream-starts p n peer ws table forced phase none closed = record {
  right = right-nothing p n peer ws;
  climbs = λ key. (0, ap Some (sym (none key)), tt);
  has = λ key. sym (none key);
  stale = λ key e. absurd cc;
  ended = refl;
  one = refl;
  rests = λ e. refl;
  begun = λ e. absurd (closed e);
  after = λ e. absurd (closed e);
}
