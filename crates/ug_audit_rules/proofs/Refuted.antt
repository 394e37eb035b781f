-- What is asked of a session isn't kept where there is a breach of it.
use Rattle.std.proofs.Common.{◌≡◌, ℕ, zero, suc, ◌==◌, inl, inr, Bool, true, false, List, [], ◌∷◌, take, slice_get, Option, Some, None, refl, sym, ◌∙◌, ap, subst, arith}
use Rattle.std.specs.Prelude.{◌&&◌, if◌then◌else◌}
use Rattle.std.specs.Option.{option_map}
use Rattle.std.proofs.lemmas.Bool.Decides.{nat_tests}
use Rattle.ug_types.specs.declared.key.Key.{Key}
use Rattle.ug_types.specs.declared.mark.Mark.{Mark}
use Rattle.ug_types.specs.Messages.{Message}
use Rattle.ug_message.proofs.WholeMessages.{one_stream, no_fault_there}
use Rattle.ug_message.specs.Tables.{Table, table_of, tables_after}
use Rattle.ug_message.specs.Climbing.{ClimbsFrom, NeverBack, values_at}
use Rattle.ug_world.specs.declared.peer_state.PeerState.{PeerState}
use Rattle.ug_world.specs.World.{World}
use Rattle.ug_world.specs.Private.{private_table}
use Rattle.ug_world.specs.Worlds.{past}
use Rattle.ug_hearing.specs.declared.breach.Ending.{Ending}
use Rattle.ug_hearing.specs.declared.breach.Ending.TheVariants.{Whole, Cut, Malformed}
use Rattle.ug_hearing.specs.declared.breach.Breach.{Breach}
use Rattle.ug_hearing.specs.Breaches as breaches
use Rattle.ug_hearing.specs.Breaches.{AreAlike, IsOneOf, IsReadAs, IsUnread, Unread, Stuck, Amiss, Short, Off}
use Rattle.ug_audit_rules.specs.Audited.{opened_with, marks_to, table_at, open_table, IsWholeAt, IsSynced, IsSound, IsHeardRight, IsBreach}

-- a climb is one to each of its messages
climbs-front : {V : Type 0} (past vs : List V) (from m : ℕ) → ClimbsFrom past from vs → ClimbsFrom past from (take m vs)
climbs-front past [] from zero h = tt
climbs-front past [] from (suc m) h = tt
climbs-front past (v ∷ vs) from zero h = tt
climbs-front past (v ∷ vs) from (suc m) h = (h.0, h.1, climbs-front past vs h.0 m h.2)

same_number : (a b : ℕ) → (a == b) ≡ true → a ≡ b
same_number a b is = grind (arith, nat_tests, is)

is_same : (a b : ℕ) → a ≡ b → (a == b) ≡ true
is_same a b same = grind (arith, nat_tests, same)

both : (a b : Bool) → (a && b) ≡ true → (a ≡ true) × (b ≡ true)
both true b e = (refl, e)
both false b e = absurd cc

-- the marks of a session are its own, and none of them is left out
module _ (p n : ℕ) where
  abbrev is_to : Mark → Bool
  is_to m = (m.peer == p) && (m.session == n)

  record IsTo (m : Mark) (syncs : List Mark) : Type 0 where
    among : IsOneOf m syncs
    peer : m.peer ≡ p
    session : m.session ≡ n

  to_by : (m x : Mark) (syncs : List Mark) (b : Bool) → is_to x ≡ b → IsOneOf m (if b then x ∷ marks_to p n syncs else marks_to p n syncs) → (IsOneOf m (marks_to p n syncs) → IsTo m syncs) → IsTo m (x ∷ syncs)
  to_by m x syncs true is (inl same) rest =
      let own = both (x.peer == p) (x.session == n) is in
      record { among = inl same; peer = ap (λ (y : Mark). y.peer) same ∙ same_number x.peer p own.0; session = ap (λ (y : Mark). y.session) same ∙ same_number x.session n own.1 }
  to_by m x syncs true is (inr more) rest = let all = rest more in record { among = inr all.among; peer = all.peer; session = all.session }
  to_by m x syncs false is among rest = let all = rest among in record { among = inr all.among; peer = all.peer; session = all.session }

  filtered : (x : Mark) (syncs : List Mark) (b : Bool) → is_to x ≡ b → marks_to p n (x ∷ syncs) ≡ (if b then x ∷ marks_to p n syncs else marks_to p n syncs)
  filtered x syncs true is = rw is refl
  filtered x syncs false is = rw is refl

  own : (m : Mark) (syncs : List Mark) → IsOneOf m (marks_to p n syncs) → IsTo m syncs
  own m [] among = absurd among
  own m (x ∷ syncs) among = to_by m x syncs (is_to x) refl (subst (λ (ms : List Mark). IsOneOf m ms) (filtered x syncs (is_to x) refl) among) (own m syncs)

  kept : (m : Mark) (syncs : List Mark) → IsOneOf m syncs → m.peer ≡ p → m.session ≡ n → IsOneOf m (marks_to p n syncs)
  kept m [] among peer session = absurd among
  kept m (x ∷ syncs) (inl same) peer session =
      let first : (x.peer == p) ≡ true = is_same x.peer p (sym (ap (λ (y : Mark). y.peer) same) ∙ peer) in
      let second : (x.session == n) ≡ true = is_same x.session n (sym (ap (λ (y : Mark). y.session) same) ∙ session) in
      subst (λ (ms : List Mark). IsOneOf m ms) (sym (filtered x syncs true (ap (λ (b : Bool). b && (x.session == n)) first ∙ second))) (inl same)
  kept m (x ∷ syncs) (inr more) peer session = by (is_to x) refl (kept m syncs more peer session)
    where
      by : (b : Bool) → is_to x ≡ b → IsOneOf m (marks_to p n syncs) → IsOneOf m (marks_to p n (x ∷ syncs))
      by true is rest = subst (λ (ms : List Mark). IsOneOf m ms) (sym (filtered x syncs true is)) (inr rest)
      by false is rest = subst (λ (ms : List Mark). IsOneOf m ms) (sym (filtered x syncs false is)) rest

-- the table of a version
some_world : (p version : ℕ) (table : Table) (o : Option World) → option_map (private_table p) o ≡ Some table → (w : World) × (o ≡ Some w) × (private_table p w ≡ table)
some_world p version table None is = absurd cc
some_world p version table (Some w) is = (w, refl, cc)

-- a session that is to end with a table is open
open_by : (last : World) (p : ℕ) (up same : Bool) (table : Table) → (if up && same then Some (private_table p last) else None) ≡ Some table → (up ≡ true) × (same ≡ true) × (private_table p last ≡ table)
open_by last p true true table is = (refl, refl, cc)
open_by last p true false table is = absurd cc
open_by last p false same table is = absurd cc

module _ (ws : List World) (last : World) (p n : ℕ) (s : PeerState) (syncs : List Mark) (lost : Bool) (bytes : List ℕ) (messages : List Message) (ending : Ending)
    (read : IsReadAs (opened_with s.peer) bytes messages ending) (sound : IsSound ws last p n s syncs lost bytes) where
  same_by : (e : Ending) → IsReadAs (opened_with s.peer) bytes messages e → (sound.messages ≡ messages) × (IsUnread e lost → ⊥)
  same_by Whole is =
      let same = one_stream (opened_with s.peer) bytes sound.messages messages sound.rest [] sound.read is in (same.0, λ never. never)
  same_by Cut is =
      let same = one_stream (opened_with s.peer) bytes sound.messages messages sound.rest is.0 sound.read is.1 in
      (same.0, λ whole. is.2 (sym same.1 ∙ sound.cut whole))
  same_by Malformed is = absurd (no_fault_there (opened_with s.peer) bytes sound.messages messages sound.rest is.0 is.1 sound.read is.2)

  same : sound.messages ≡ messages
  same = (same_by ending read).0

  never_back : NeverBack (past p n ws) (tables_after messages)
  never_back = subst (λ (ms : List Message). NeverBack (past p n ws) (tables_after ms)) same sound.never_back

  synced : (m : Mark) → IsOneOf m syncs → m.peer ≡ p → m.session ≡ n → IsSynced ws messages lost m
  synced m among peer session = subst (λ (ms : List Message). IsSynced ws ms lost m) same (sound.synced m among peer session)

  as_marked : (key : Key) (handed : ℕ) (h : breaches.IsAmiss (past p n ws) (table_at ws p) (marks_to p n syncs) lost (open_table last p n s) messages ending key handed) → h.mark.peer ≡ p
      → IsWholeAt ws h.mark.peer h.mark.version h.mark.handed messages → ⊥
  as_marked key handed h peer w =
      let there = some_world p h.mark.version h.table (slice_get ws h.mark.version) h.of_version in
      let world : w.world ≡ there.0 = (let e = sym w.of_version ∙ there.1 in cc) in
      let table : table_of (take handed messages) key ≡ private_table h.mark.peer w.world key = subst (λ k. table_of (take k messages) key ≡ private_table h.mark.peer w.world key) h.handed (w.whole key) in
      h.differs (table ∙ (ap (λ q. private_table q w.world key) peer ∙ (ap (λ (v : World). private_table p v key) world ∙ ap (λ (t : Table). t key) there.2)))

  pub refuted : (b : Breach) → IsBreach ws last p n s syncs lost messages ending b → ⊥
  refuted _ (Unread unread) = (same_by ending read).1 unread
  refuted _ (Stuck key m h) = h.stuck (climbs-front (values_at key (past p n ws)) (values_at key (tables_after messages)) 0 (suc m) (never_back key))
  refuted _ (Amiss key m h) =
      let of = own p n h.mark syncs h.among in
      elim (synced h.mark of.among of.peer of.session) [
        | inl whole ↦ as_marked key m h of.peer whole
        | inr fewer ↦ let within = h.within in let handed = h.handed in let less = fewer.0 in absurd (omega arith)
      ]
  refuted _ (Short h) =
      let of = own p n h.mark syncs h.among in
      elim (synced h.mark of.among of.peer of.session) [
        | inl whole ↦ let short = h.short in let within = whole.within in absurd (omega arith)
        | inr fewer ↦ let whole = h.whole in let lost_is = fewer.1 in absurd cc
      ]
  refuted _ (Off key h) =
      let is = open_by last p s.up (s.sessions == n) h.table h.is_open in
      let table = subst (λ (ms : List Message). AreAlike (table_of ms) (private_table p last)) same (sound.end is.0 (same_number s.sessions n is.1) h.whole) key in
      h.differs (table ∙ ap (λ (t : Table). t key) is.2)

module _ (ws : List World) (last : World) (p n : ℕ) (s : PeerState) (syncs : List Mark) (lost : Bool) (messages : List Message) (ending : Ending) (right : IsHeardRight ws last p n s syncs lost messages ending) where
  as_synced : (m : Mark) → IsOneOf m syncs → m.peer ≡ p → m.session ≡ n → IsSynced ws messages lost m
  as_synced m among peer session =
      elim (right.synced m (kept p n m syncs among peer session)) [
        | inl whole ↦
            (let there = some_world p m.version whole.table (slice_get ws m.version) whole.of_version in
            inl (record {
              within = whole.within;
              world = there.0;
              of_version = there.1;
              whole = λ key. whole.whole key ∙ (ap (λ (t : Table). t key) (sym there.2) ∙ ap (λ q. private_table q there.0 key) (sym peer));
            }))
        | inr fewer ↦ inr fewer
      ]

  as_ended : s.up ≡ true → s.sessions ≡ n → lost ≡ false → AreAlike (table_of messages) (private_table p last)
  as_ended up latest whole =
      let same : (s.sessions == n) ≡ true = is_same s.sessions n latest in
      let is : open_table last p n s ≡ Some (private_table p last) = ap (λ (b : Bool). if b && (s.sessions == n) then Some (private_table p last) else None) up
      ∙ ap (λ (b : Bool). if b then Some (private_table p last) else None) same
      in right.end (private_table p last) is whole

-- What was heard right is sound, whatever its bytes were read from.
pub heard-sound : (ws : List World) (last : World) (p n : ℕ) (s : PeerState) (syncs : List Mark) (lost : Bool) (bytes : List ℕ) (messages : List Message) (ending : Ending)
    → IsReadAs (opened_with s.peer) bytes messages ending → IsHeardRight ws last p n s syncs lost messages ending → IsSound ws last p n s syncs lost bytes
heard-sound ws last p n s syncs lost bytes messages Whole read right = record {
  messages = messages;
  rest = [];
  read = read;
  cut = λ _. refl;
  never_back = right.never_back;
  synced = as_synced ws last p n s syncs lost messages Whole right;
  end = as_ended ws last p n s syncs lost messages Whole right;
}
heard-sound ws last p n s syncs lost bytes messages Cut read right = record {
  messages = messages;
  rest = read.0;
  read = read.1;
  cut = λ whole. absurd (right.read whole);
  never_back = right.never_back;
  synced = as_synced ws last p n s syncs lost messages Cut right;
  end = as_ended ws last p n s syncs lost messages Cut right;
}
heard-sound ws last p n s syncs lost bytes messages Malformed read right = absurd (right.read tt)
