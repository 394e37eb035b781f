-- A session's messages, with those that are still to be handed out, go on by one packet at a time.
use Rattle.std.proofs.Common.{◌≡◌, ℕ, zero, suc, ◌+◌, ◌≤◌, ◌⊎◌, inl, inr, Bool, true, false, List, [], ◌∷◌, ◌++◌, drop, slice_get, Option, Some, None, refl, sym, ◌∙◌, ap, subst, arith}
use Rattle.std.specs.Prelude.{◌&&◌, ◌||◌, not, is_some, count_by, filter, if◌then◌else◌}
use Rattle.ug_types.specs.declared.key.Key.{Key}
use Rattle.ug_types.specs.Attributes.{Attributes}
use Rattle.ug_types.specs.Messages.{Changes, Message, Updates, Begins, Ends}
use Rattle.ug_message.specs.Tables.{Table, Reading, nothing_read, applied, changed, among, reading_from, tables_after, table_of}
use Rattle.ug_message.specs.Climbing.{Climbs, values_at}
use Rattle.ug_message.specs.ClimbingLaws.{NeverBack-from}
use Rattle.ug_message.specs.Streams.{IsUpdate, says_nothing}
use Rattle.ug_outbound.specs.declared.peer.Peer.{Peer}
use Rattle.ug_world.specs.World.{World}
use Rattle.ug_world.specs.Private.{private_table}
use Rattle.ug_world.specs.Worlds.{in_session, past}
use Rattle.ug_speaker.specs.Right.{IsAmong, EndsInWhole, IsInTurn, is_refreshing, ends_of_rib, AreFor, IsToldRight}
use Rattle.ug_message.specs.Fitting.{withdrawing}
use Rattle.ug_group_rules.specs.declared.phase.Phase.{Phase}
use Rattle.ug_group_rules.specs.declared.phase.Phase.TheVariants.{Quiet, Open}
use Rattle.ug_speaker.proofs.Pasts.{IsLast}
use Rattle.ug_speaker.proofs.Readings.{mentions, reading-append, values-append, are-append, count-append, count-none, has_ended, in_turn-append, refreshing-append, ended-append}

-- ---- climbs that go on

climb_front : {V : Type 0} (xs vs : List V) (v : V) → Climbs xs (vs ++ v ∷ []) → Climbs xs vs
climb_front xs [] v h = tt
climb_front {V} xs (u ∷ vs) v h = (h.0, h.1, climb_front (drop h.0 xs) vs v h.2)

here_again : {V : Type 0} (xs : List V) (n : ℕ) (v : V) → slice_get xs n ≡ Some v → slice_get (drop n xs) 0 ≡ Some v
here_again [] n v e = absurd cc
here_again (x ∷ xs) zero v e = e
here_again (x ∷ xs) (suc n) v e = here_again xs n v e

-- the last value may come again
pub climb-again : {V : Type 0} (xs vs : List V) (v : V) → Climbs xs (vs ++ v ∷ []) → Climbs xs ((vs ++ v ∷ []) ++ v ∷ [])
climb-again xs [] v h = (h.0, h.1, (0, here_again xs h.0 v h.1, tt))
climb-again {V} xs (u ∷ vs) v h = (h.0, h.1, climb-again (drop h.0 xs) vs v h.2)

last_place : {V : Type 0} (a : V) (xs : List V) → IsLast a xs → (n : ℕ) × (slice_get xs n ≡ Some a)
last_place a [] last = absurd last
last_place a (x ∷ []) last = (0, ap Some last)
last_place a (x ∷ y ∷ xs) last = let rest = last_place a (y ∷ xs) last in (suc rest.0, rest.1)

last_drop : {V : Type 0} (a v : V) (n : ℕ) (xs : List V) → slice_get xs n ≡ Some v → IsLast a xs → IsLast a (drop n xs)
last_drop a v n [] e last = absurd last
last_drop a v zero (x ∷ xs) e last = last
last_drop a v (suc n) (x ∷ []) e last = absurd cc
last_drop a v (suc n) (x ∷ y ∷ xs) e last = last_drop a v n (y ∷ xs) e last

-- or the newest one
pub climb-newest : {V : Type 0} (xs vs : List V) (a b : V) → IsLast b xs → Climbs xs (vs ++ a ∷ []) → Climbs xs ((vs ++ b ∷ []) ++ b ∷ [])
climb-newest {V} xs vs a b last h = climb-again xs vs b (stays xs vs last (climb_front xs vs a h))
  where
    stays : (xs vs : List V) → IsLast b xs → Climbs xs vs → Climbs xs (vs ++ b ∷ [])
    stays xs [] last h = let place = last_place b xs last in (place.0, place.1, tt)
    stays xs (u ∷ vs) last h = (h.0, h.1, stays (drop h.0 xs) vs (last_drop b u h.0 xs h.1 last) h.2)

-- ---- a stream of messages

-- These messages are right in their session, and lead to this table, of which the forced keys may be stale. End-of-RIB
-- stands among them or is due, and the marks of refreshes fit the phase.
pub record IsStream (p n : ℕ) (peer : Peer) (worlds : List World) (table : Table) (forced : Key → Bool) (ending : Bool) (phase : Phase) (ms : List Message) : Type 0 where
  pub right : IsToldRight p n peer worlds ms
  pub climbs : (key : Key) → Climbs (values_at key (past p n worlds)) (values_at key (tables_after ms) ++ table key ∷ [])
  pub has : (key : Key) → (reading_from nothing_read ms).table key ≡ table key
  pub stale : (key : Key) → (reading_from nothing_read ms).stale key ≡ true → (forced key ≡ true) × (is_some (table key) ≡ true)
  pub ended : has_ended false ms ≡ not ending
  pub one : ends_of_rib ms + (if ending then 1 else 0) ≡ 1
  pub rests : phase ≡ Quiet → is_refreshing false ms ≡ false
  pub begun : phase ≡ Open → is_refreshing false ms ≡ true
  pub after : phase ≡ Open → ending ≡ false

-- where a message of two lists stands
last_or : (ms before later : List Message) (x m : Message) → ms ++ x ∷ [] ≡ before ++ m ∷ later → ((middle : List Message) × (ms ≡ before ++ m ∷ middle)) ⊎ ((before ≡ ms) × (m ≡ x))
last_or [] [] later x m parts = inr (refl, (let same : x ≡ m = cc in sym same))
last_or [] (y ∷ before) later x m parts = absurd (nothing before m later (let rest : [] ≡ before ++ m ∷ later = cc in rest))
  where
    nothing : (before : List Message) (m : Message) (later : List Message) → [] ≡ before ++ m ∷ later → ⊥
    nothing [] m later parts = absurd cc
    nothing (z ∷ before) m later parts = absurd cc
last_or (y ∷ ms) [] later x m parts = inl (ms, (let same : y ≡ m = cc in ap (λ (z : Message). z ∷ ms) same))
last_or (y ∷ ms) (z ∷ before) later x m parts =
    let same : y ≡ z = cc in
    let rest : ms ++ x ∷ [] ≡ before ++ m ∷ later = cc in
    elim (last_or ms before later x m rest) [
      | inl first ↦ inl (first.0, subst (λ (w : Message). y ∷ ms ≡ w ∷ before ++ m ∷ first.0) same (ap (λ (l : List Message). y ∷ l) first.1))
      | inr last ↦ inr (subst (λ (w : Message). w ∷ before ≡ y ∷ ms) same (ap (λ (l : List Message). y ∷ l) last.0), last.1)
    ]

for_push : (peer : Peer) (b : Bool) (ms : List Message) (m : Message) → AreFor peer b ms → AreFor peer b (m ∷ []) → AreFor peer b (ms ++ m ∷ [])
for_push peer true ms m h k = tt
for_push peer false ms m h k = are-append IsUpdate ms (m ∷ []) h k

module _ (p n : ℕ) (peer : Peer) (worlds : List World) (table next : Table) (forced : Key → Bool) (ending : Bool) (phase : Phase) (ms : List Message) (m : Message) (stream : IsStream p n peer worlds table forced ending phase ms) where
  abbrev r : Reading
  r = reading_from nothing_read ms

  table_now : (key : Key) → (reading_from nothing_read (ms ++ m ∷ [])).table key ≡ (applied r m).table key
  table_now key = ap (λ (x : Reading). x.table key) (reading-append nothing_read ms (m ∷ []))

  -- the climb of a key whose value stays, or is the newest
  climbs_on : (key : Key) → (applied r m).table key ≡ next key → (next key ≡ table key) ⊎ IsLast (next key) (values_at key (past p n worlds))
      → Climbs (values_at key (past p n worlds)) (values_at key (tables_after (ms ++ m ∷ [])) ++ next key ∷ [])
  climbs_on key is moves =
      subst (λ (vs : List (Option Attributes)). Climbs (values_at key (past p n worlds)) (vs ++ next key ∷ []))
      (sym (values-append key nothing_read ms (m ∷ []) ∙ ap (λ (v : Option Attributes). values_at key (tables_after ms) ++ v ∷ []) is))
      (elim moves [
        | inl same ↦
            subst (λ (v : Option Attributes). Climbs (values_at key (past p n worlds)) ((values_at key (tables_after ms) ++ v ∷ []) ++ v ∷ [])) (sym same)
            (climb-again (values_at key (past p n worlds)) (values_at key (tables_after ms)) (table key) (stream.climbs key))
        | inr last ↦ climb-newest (values_at key (past p n worlds)) (values_at key (tables_after ms)) (table key) (next key) last (stream.climbs key)
      ])

  -- What is right stays right with one message more, where each key's value stays or is the newest.
  module _ (is : (key : Key) → (applied r m).table key ≡ next key) (moves : (key : Key) → (next key ≡ table key) ⊎ IsLast (next key) (values_at key (past p n worlds)))
      (few : ends_of_rib (ms ++ m ∷ []) ≤ 1) (whole : says_nothing m ≡ true → (w : World) × IsAmong w (filter (in_session p n) worlds) × ((key : Key) → next key ≡ private_table p w key))
      (turn : IsInTurn r (has_ended false ms) (is_refreshing false ms) (m ∷ [])) (for : AreFor peer peer.enhanced_refresh (m ∷ [])) where
    pub climbs-push : (key : Key) → Climbs (values_at key (past p n worlds)) (values_at key (tables_after (ms ++ m ∷ [])) ++ next key ∷ [])
    climbs-push key = climbs_on key (is key) (moves key)

    whole_push : EndsInWhole p n worlds (ms ++ m ∷ [])
    whole_push before later x parts says =
        elim (last_or ms before later m x parts) [
          | inl first ↦ stream.right.whole before first.0 x first.1 says
          | inr last ↦
              let found = whole (subst (λ (y : Message). says_nothing y ≡ true) last.1 says) in
              (found.0, found.1, λ key. ap (λ (l : List Message). table_of (l ++ x ∷ []) key) last.0 ∙ ap (λ (y : Message). table_of (ms ++ y ∷ []) key) last.1 ∙ table_now key ∙ is key ∙ found.2 key)
        ]

    pub right-push : IsToldRight p n peer worlds (ms ++ m ∷ [])
    right-push = record {
      never_back = NeverBack-from (past p n worlds) (tables_after (ms ++ m ∷ [])) (λ key. climb_front (values_at key (past p n worlds)) (values_at key (tables_after (ms ++ m ∷ []))) (next key) (climbs-push key));
      end_of_rib = few;
      whole = whole_push;
      in_turn = in_turn-append nothing_read false false ms (m ∷ []) stream.right.in_turn turn;
      no_marks = for_push peer peer.enhanced_refresh ms m stream.right.no_marks for;
    }

-- ---- one packet more

or_false : (e b : Bool) → b ≡ false → (e || b) ≡ e
or_false true b is = refl
or_false false b is = is

-- an update of routes: what it names stands as the newest private table has it
module _ (p n : ℕ) (peer : Peer) (worlds : List World) (table next : Table) (forced later : Key → Bool) (ending : Bool) (phase : Phase) (ms : List Message) (u : Changes) (stream : IsStream p n peer worlds table forced ending phase ms)
    (named : (key : Key) → mentions key (Updates u) ≡ true → (changed u table key ≡ next key) × IsLast (next key) (values_at key (past p n worlds)))
    (others : (key : Key) → mentions key (Updates u) ≡ false → (next key ≡ table key) × (forced key ≡ true → later key ≡ true))
    (says : says_nothing (Updates u) ≡ false) where
  abbrev before : Reading
  before = reading_from nothing_read ms

  changed_alike : (t t' : Table) (key : Key) → t key ≡ t' key → changed u t key ≡ changed u t' key
  changed_alike t t' key same = ap (λ (v : Option Attributes). if among u.announced key then u.attrs else (if among u.withdrawn key then None else v)) same

  not_named : (t : Table) (key : Key) → mentions key (Updates u) ≡ false → changed u t key ≡ t key
  not_named t key e = by (among u.announced key) (among u.withdrawn key) e
    where
      by : (a b : Bool) → (a || b) ≡ false → (if a then u.attrs else (if b then None else t key)) ≡ t key
      by true b e = absurd cc
      by false true e = absurd cc
      by false false e = refl

  table_is : (key : Key) → (applied before (Updates u)).table key ≡ next key
  table_is key = changed_alike before.table table key (stream.has key) ∙ by (mentions key (Updates u)) refl
    where
      by : (b : Bool) → mentions key (Updates u) ≡ b → changed u table key ≡ next key
      by true e = (named key e).0
      by false e = not_named table key e ∙ sym (others key e).0

  moves_on : (key : Key) → (next key ≡ table key) ⊎ IsLast (next key) (values_at key (past p n worlds))
  moves_on key = by (mentions key (Updates u)) refl
    where
      by : (b : Bool) → mentions key (Updates u) ≡ b → (next key ≡ table key) ⊎ IsLast (next key) (values_at key (past p n worlds))
      by true e = inr (named key e).1
      by false e = inl (others key e).0

  no_end : ends_of_rib (ms ++ Updates u ∷ []) ≡ ends_of_rib ms
  no_end = count-append says_nothing ms (Updates u ∷ []) ∙ (let none = count-none says_nothing (Updates u) [] says in let all : count_by says_nothing (Updates u ∷ []) ≡ 0 = none in omega arith)

  few_ends : ends_of_rib (ms ++ Updates u ∷ []) ≤ 1
  few_ends = let same = no_end in let few = stream.right.end_of_rib in omega arith

  for_update : (b : Bool) → AreFor peer b (Updates u ∷ [])
  for_update true = tt
  for_update false = (tt, tt)

  stale_left : (key : Key) → (applied before (Updates u)).stale key ≡ true → (later key ≡ true) × (is_some (next key) ≡ true)
  stale_left key still = by (before.stale key) (mentions key (Updates u)) refl refl still
    where
      by : (a b : Bool) → before.stale key ≡ a → mentions key (Updates u) ≡ b → (a && not b) ≡ true → (later key ≡ true) × (is_some (next key) ≡ true)
      by true false e f still = let was = stream.stale key e in let other = others key f in (other.1 was.0, ap is_some other.0 ∙ was.1)
      by true true e f still = absurd cc
      by false b e f still = absurd cc

  pub stream-update : IsStream p n peer worlds next later ending phase (ms ++ Updates u ∷ [])
  stream-update = record {
    right = right-push p n peer worlds table next forced ending phase ms (Updates u) stream table_is moves_on few_ends (λ said. absurd cc) tt (for_update peer.enhanced_refresh);
    climbs = climbs-push p n peer worlds table next forced ending phase ms (Updates u) stream table_is moves_on few_ends (λ said. absurd cc) tt (for_update peer.enhanced_refresh);
    has = λ key. ap (λ (x : Reading). x.table key) (reading-append nothing_read ms (Updates u ∷ [])) ∙ table_is key;
    stale = λ key still. stale_left key (sym (ap (λ (x : Reading). x.stale key) (reading-append nothing_read ms (Updates u ∷ []))) ∙ still);
    ended = ended-append false ms (Updates u ∷ []) ∙ or_false (has_ended false ms) (says_nothing (Updates u)) says ∙ stream.ended;
    one = ap (λ k. k + (if ending then 1 else 0)) no_end ∙ stream.one;
    rests = λ e. refreshing-append false ms (Updates u ∷ []) ∙ stream.rests e;
    begun = λ e. refreshing-append false ms (Updates u ∷ []) ∙ stream.begun e;
    after = stream.after;
  }

-- End-of-RIB, where the table is the private one of a world of the session
module _ (p n : ℕ) (peer : Peer) (worlds : List World) (table : Table) (forced : Key → Bool) (phase : Phase) (ms : List Message) (w : World) (stream : IsStream p n peer worlds table forced true phase ms)
    (there : IsAmong w (filter (in_session p n) worlds)) (level : (key : Key) → table key ≡ private_table p w key) where
  end_one : ends_of_rib (ms ++ withdrawing [] ∷ []) ≡ 1
  end_one = let sum = count-append says_nothing ms (withdrawing [] ∷ []) in let one : count_by says_nothing (withdrawing [] ∷ []) ≡ 1 = refl in let none = stream.one in omega arith

  end_few : ends_of_rib (ms ++ withdrawing [] ∷ []) ≤ 1
  end_few = let one = end_one in omega arith

  for_end : (b : Bool) → AreFor peer b (withdrawing [] ∷ [])
  for_end true = tt
  for_end false = (tt, tt)

  still : (s : Bool) → (s && not (false || false)) ≡ true → s ≡ true
  still true e = refl
  still false e = e

  ended_true : (b : Bool) → has_ended b (withdrawing [] ∷ []) ≡ true
  ended_true true = refl
  ended_true false = refl

  pub stream-end_of_rib : IsStream p n peer worlds table forced false phase (ms ++ withdrawing [] ∷ [])
  stream-end_of_rib = record {
    right = right-push p n peer worlds table table forced true phase ms (withdrawing []) stream stream.has (λ key. inl refl) end_few (λ said. (w, there, level)) tt (for_end peer.enhanced_refresh);
    climbs = climbs-push p n peer worlds table table forced true phase ms (withdrawing []) stream stream.has (λ key. inl refl) end_few (λ said. (w, there, level)) tt (for_end peer.enhanced_refresh);
    has = λ key. ap (λ (x : Reading). x.table key) (reading-append nothing_read ms (withdrawing [] ∷ [])) ∙ stream.has key;
    stale = λ key e. stream.stale key (still ((reading_from nothing_read ms).stale key) (sym (ap (λ (x : Reading). x.stale key) (reading-append nothing_read ms (withdrawing [] ∷ []))) ∙ e));
    ended = ended-append false ms (withdrawing [] ∷ []) ∙ ended_true (has_ended false ms);
    one = let one = end_one in omega arith;
    rests = λ e. refreshing-append false ms (withdrawing [] ∷ []) ∙ stream.rests e;
    begun = λ e. refreshing-append false ms (withdrawing [] ∷ []) ∙ stream.begun e;
    after = λ e. refl;
  }

any_for : (peer : Peer) (b : Bool) (ms : List Message) → b ≡ true → AreFor peer b ms
any_for peer true ms e = tt
any_for peer false ms e = absurd cc

-- the begin of a refresh, which forces all keys of the table
module _ (p n : ℕ) (peer : Peer) (worlds : List World) (table : Table) (forced later : Key → Bool) (phase : Phase) (ms : List Message) (stream : IsStream p n peer worlds table forced false phase ms)
    (enhanced : peer.enhanced_refresh ≡ true) (all : (key : Key) → is_some (table key) ≡ true → later key ≡ true) where
  mark_few : ends_of_rib (ms ++ Begins ∷ []) ≤ 1
  mark_few = let sum = count-append says_nothing ms (Begins ∷ []) in let none : count_by says_nothing (Begins ∷ []) ≡ 0 = refl in let few = stream.right.end_of_rib in omega arith

  begin_turn : IsInTurn (reading_from nothing_read ms) (has_ended false ms) (is_refreshing false ms) (Begins ∷ [])
  begin_turn = (stream.ended, tt)

  pub stream-begins : IsStream p n peer worlds table later false Open (ms ++ Begins ∷ [])
  stream-begins = record {
    right = right-push p n peer worlds table table forced false phase ms Begins stream stream.has (λ key. inl refl) mark_few (λ said. absurd cc) begin_turn (any_for peer peer.enhanced_refresh (Begins ∷ []) enhanced);
    climbs = climbs-push p n peer worlds table table forced false phase ms Begins stream stream.has (λ key. inl refl) mark_few (λ said. absurd cc) begin_turn (any_for peer peer.enhanced_refresh (Begins ∷ []) enhanced);
    has = λ key. ap (λ (x : Reading). x.table key) (reading-append nothing_read ms (Begins ∷ [])) ∙ stream.has key;
    stale = λ key e.
        let there : is_some (table key) ≡ true = ap is_some (sym (stream.has key)) ∙ (sym (ap (λ (x : Reading). x.stale key) (reading-append nothing_read ms (Begins ∷ []))) ∙ e) in
        (all key there, there);
    ended = ended-append false ms (Begins ∷ []);
    one = let sum = count-append says_nothing ms (Begins ∷ []) in let none : count_by says_nothing (Begins ∷ []) ≡ 0 = refl in let one = stream.one in omega arith;
    rests = λ e. absurd cc;
    begun = λ e. refreshing-append false ms (Begins ∷ []);
    after = λ e. refl;
  }

-- the end of a refresh, where no key of the table is forced
module _ (p n : ℕ) (peer : Peer) (worlds : List World) (table : Table) (forced : Key → Bool) (ms : List Message) (stream : IsStream p n peer worlds table forced false Open ms)
    (enhanced : peer.enhanced_refresh ≡ true) (none : (key : Key) → forced key ≡ true → is_some (table key) ≡ true → ⊥) where
  fresh : (key : Key) → (reading_from nothing_read ms).stale key ≡ false
  fresh key = by ((reading_from nothing_read ms).stale key) refl
    where
      by : (b : Bool) → (reading_from nothing_read ms).stale key ≡ b → b ≡ false
      by true e = let was = stream.stale key e in absurd (none key was.0 was.1)
      by false e = refl

  end_table : (key : Key) → (applied (reading_from nothing_read ms) Ends).table key ≡ table key
  end_table key = ap (λ (b : Bool). if b then None else (reading_from nothing_read ms).table key) (fresh key) ∙ stream.has key

  ends_few : ends_of_rib (ms ++ Ends ∷ []) ≤ 1
  ends_few = let sum = count-append says_nothing ms (Ends ∷ []) in let no : count_by says_nothing (Ends ∷ []) ≡ 0 = refl in let few = stream.right.end_of_rib in omega arith

  ends_turn : IsInTurn (reading_from nothing_read ms) (has_ended false ms) (is_refreshing false ms) (Ends ∷ [])
  ends_turn = (stream.begun refl, fresh, tt)

  pub stream-ends : IsStream p n peer worlds table forced false Quiet (ms ++ Ends ∷ [])
  stream-ends = record {
    right = right-push p n peer worlds table table forced false Open ms Ends stream end_table (λ key. inl refl) ends_few (λ said. absurd cc) ends_turn (any_for peer peer.enhanced_refresh (Ends ∷ []) enhanced);
    climbs = climbs-push p n peer worlds table table forced false Open ms Ends stream end_table (λ key. inl refl) ends_few (λ said. absurd cc) ends_turn (any_for peer peer.enhanced_refresh (Ends ∷ []) enhanced);
    has = λ key. ap (λ (x : Reading). x.table key) (reading-append nothing_read ms (Ends ∷ [])) ∙ end_table key;
    stale = λ key e. let no : false ≡ true = sym (ap (λ (x : Reading). x.stale key) (reading-append nothing_read ms (Ends ∷ []))) ∙ e in absurd cc;
    ended = ended-append false ms (Ends ∷ []) ∙ stream.ended;
    one = let sum = count-append says_nothing ms (Ends ∷ []) in let no : count_by says_nothing (Ends ∷ []) ≡ 0 = refl in let one = stream.one in omega arith;
    rests = λ e. refreshing-append false ms (Ends ∷ []);
    begun = λ e. absurd cc;
    after = λ e. refl;
  }
