-- How the stream of a member goes on by the next packet of its subgroup.
use Rattle.std.proofs.Common.{◌≡◌, ℕ, ◌<◌, ◌≤◌, ◌⊎◌, inl, inr, Bool, true, false, cond, List, [], ◌∷◌, ◌++◌, length, slice_get, Option, Some, None, refl, sym, ◌∙◌, ap, subst, arith}
use Rattle.std.specs.Prelude.{◌&&◌, ◌||◌, not, is_some, filter, if◌then◌else◌}
use Rattle.std.specs.Option.{option_map, option_eq}
use Rattle.ug_types.specs.declared.key.Key.{Key}
use Rattle.ug_types.specs.declared.route.OutAttrs.{OutAttrs}
use Rattle.ug_types.specs.declared.route.PeerEnds.{PeerEnds}
use Rattle.ug_types.specs.Attributes.{Attributes}
use Rattle.ug_types.specs.Bytes.{is_empty}
use Rattle.ug_types.specs.Keys.{weight_of}
use Rattle.ug_types.specs.Messages.{Message, Updates}
use Rattle.ug_message.specs.Tables.{among}
use Rattle.ug_message.specs.Climbing.{values_at}
use Rattle.ug_message.specs.Streams.{says_nothing}
use Rattle.ug_outbound.specs.declared.key.GroupKey.{GroupKey}
use Rattle.ug_outbound.specs.Keys.{ends_of, limit_of}
use Rattle.ug_message.specs.NextHops.{told_to}
use Rattle.ug_world.specs.declared.peer_state.PeerState.{PeerState}
use Rattle.ug_world.specs.World.{World, key_in}
use Rattle.ug_world.specs.Private.{private_table}
use Rattle.ug_world.specs.Worlds.{in_session, past}
use Rattle.ug_adjout.specs.Tables.{has}
use Rattle.ug_adjout.specs.Formatting.{Due}
use Rattle.ug_adjout.specs.Formatting.Due.{Withdraws, Announces}
use Rattle.ug_pack.specs.Rooms.{room, room_beside}
use Rattle.ug_pack.specs.Ready.{key_order}
use Rattle.ug_speaker.specs.Right.{IsAmong}
use Rattle.ug_speaker.proofs.Bools.{both}
use Rattle.ug_speaker.proofs.Pasts.{IsLast, last-table}
use Rattle.ug_group_rules.specs.declared.phase.Phase.{Phase}
use Rattle.ug_group_rules.specs.declared.phase.Phase.TheVariants.{Quiet, Owed, Open}
use Rattle.ug_group_rules.specs.Packets.{Rows, Says, Withdrawn, Announced, EndOfRib, RefreshBegins, RefreshEnds, same_out, wanted_rows, all_forced, with_told, message_to}
use Rattle.ug_group_rules.specs.Machine.{Subgroup, is_quiet, is_owed, is_pending, owes, says_next, after_saying}
use Rattle.ug_group_rules.proofs.Streams.{IsStream, stream-update, stream-end_of_rib, stream-begins, stream-ends}
use Rattle.ug_group_rules.proofs.Tables.{row_at, is_forced, IsOut, told-formatted, told-forced, forced-all}
use Rattle.ug_group_rules.proofs.WantedTables.{table_in, has-among, private-rows}
use Rattle.ug_group_rules.proofs.Formats.{same-row, IsDueOf, due-is}
use Rattle.ug_group_rules.proofs.NextPackets.{so-next}

-- What is so of each subgroup: its pending list is exact, it desires what its key wants, nothing was formatted where it is
-- fresh, so that End-of-RIB is due, and it is in a refresh only where its key has enhanced refresh.
pub record IsKept (w : World) (x : Subgroup) : Type 0 where
  pub exact : IsOut x.out
  pub desired : x.out.desired ≡ wanted_rows x.key w
  pub nothing : x.fresh ≡ true → x.out.formatted ≡ []
  pub closed : x.fresh ≡ true → x.phase ≡ Open → ⊥
  pub due : x.fresh ≡ true → x.ending ≡ true
  pub marked : (x.phase ≡ Quiet) ⊎ (x.key.enhanced_refresh ≡ true)

-- ---- phases

owed_is : (phase : Phase) → is_owed phase ≡ true → phase ≡ Owed
owed_is Quiet e = absurd cc
owed_is Owed e = refl
owed_is Open e = absurd cc

open_is : (phase : Phase) → is_owed phase ≡ false → is_quiet phase ≡ false → phase ≡ Open
open_is Quiet e f = absurd cc
open_is Owed e f = absurd cc
open_is Open e f = refl

pub some-mapped : {A B : Type 0} (f : A → B) (o : Option A) → is_some (option_map f o) ≡ is_some o
some-mapped f None = refl
some-mapped f (Some x) = refl

pub right-none : (b : Bool) → (b || false) ≡ b
right-none true = refl
right-none false = refl

module _ (p : ℕ) (front : List World) (w : World) (s : PeerState) (is : slice_get w.peers p ≡ Some s) (up : s.up ≡ true) (session : in_session p s.sessions w ≡ true) (x : Subgroup) (kept : IsKept w x) (key : x.key ≡ key_in w s) where
  abbrev worlds : List World
  worlds = front ++ w ∷ []

  abbrev ends : PeerEnds
  ends = ends_of s.peer

  -- what is desired is the private table
  pub desired-private : (q : Key) → table_in ends x.out.desired q ≡ private_table p w q
  desired-private q = ap (λ (rows : Rows). table_in ends rows q) (kept.desired ∙ ap (λ (k : GroupKey). wanted_rows k w) key) ∙ sym (private-rows w p s is up q)

  newest : (q : Key) (v : Option Attributes) → v ≡ private_table p w q → IsLast v (values_at q (past p s.sessions worlds))
  newest q v e = subst (λ (u : Option Attributes). IsLast u (values_at q (past p s.sessions worlds))) (sym e) (last-table p s.sessions front w session q)

  -- with nothing pending the formatted table is the desired one, and no key of it is forced
  same_unless : (a b : Bool) → (not a || b) ≡ false → a ≡ true
  same_unless true b e = refl
  same_unless false b e = absurd cc

  pub level-rows : x.out.pending ≡ [] → (q : Key) → row_at x.out.formatted q ≡ row_at x.out.desired q
  level-rows none q =
      let waits_not = sym (kept.exact.all q) ∙ ap (λ (keys : List Key). has key_order keys q) none in
      same-row (row_at x.out.formatted q) (row_at x.out.desired q) (same_unless (option_eq same_out (row_at x.out.formatted q) (row_at x.out.desired q)) (is_forced x.out q && is_some (row_at x.out.desired q)) waits_not)

  not_both : (a f d : Bool) → (not a || (f && d)) ≡ false → f ≡ true → d ≡ false
  not_both true true d e g = e
  not_both true false d e g = absurd cc
  not_both false f d e g = absurd cc

  pub level-unforced : x.out.pending ≡ [] → (q : Key) → is_forced x.out q ≡ true → is_some (table_in ends x.out.formatted q) ≡ true → ⊥
  level-unforced none q forced there =
      let waits_not = sym (kept.exact.all q) ∙ ap (λ (keys : List Key). has key_order keys q) none in
      let gone = not_both (option_eq same_out (row_at x.out.formatted q) (row_at x.out.desired q)) (is_forced x.out q) (is_some (row_at x.out.desired q)) waits_not forced in
      let same = ap is_some (level-rows none q) in
      let mapped = some-mapped (told_to ends) (row_at x.out.formatted q) in absurd cc

  enhanced : (x.phase ≡ Quiet → ⊥) → s.peer.enhanced_refresh ≡ true
  enhanced other =
      elim kept.marked [
        | inl quiet ↦ absurd (other quiet)
        | inr marked ↦ sym (ap (λ (k : GroupKey). k.enhanced_refresh) key) ∙ marked
      ]

  -- ---- the packet

  module _ (ms : List Message) (stream : IsStream p s.sessions s.peer worlds (table_in ends x.out.formatted) (is_forced x.out) x.ending x.phase ms) where
    abbrev Goes : Says → Type 0
    Goes says =
        let y = after_saying says x in
        IsStream p s.sessions s.peer worlds (table_in ends y.out.formatted) (is_forced y.out) y.ending y.phase (ms ++ message_to ends says ∷ [])

    begins : is_owed x.phase ≡ true → x.ending ≡ false → Goes RefreshBegins
    begins owed not_due =
        subst (λ (b : Bool). IsStream p s.sessions s.peer worlds (table_in ends x.out.formatted) (is_forced (all_forced x.out)) b Open (ms ++ message_to ends RefreshBegins ∷ [])) (sym not_due)
        (stream-begins p s.sessions s.peer worlds (table_in ends x.out.formatted) (is_forced x.out) (is_forced (all_forced x.out)) x.phase ms
        (subst (λ (b : Bool). IsStream p s.sessions s.peer worlds (table_in ends x.out.formatted) (is_forced x.out) b x.phase ms) not_due stream)
        (enhanced (λ quiet. let phase = owed_is x.phase owed in absurd cc))
        (λ q there. forced-all x.out q ∙ ap (λ (b : Bool). b || is_some (row_at x.out.desired q)) (sym (some-mapped (told_to ends) (row_at x.out.formatted q)) ∙ there)))

    -- the tables after some keys are told
    told_table : (keys : List Key) (q : Key) → has key_order keys q ≡ true → table_in ends (with_told keys x.out).formatted q ≡ table_in ends x.out.desired q
    told_table keys q there = ap (option_map (told_to ends)) (told-formatted keys x.out q kept.exact.formatted_rows ∙ ap (λ (b : Bool). if b then row_at x.out.desired q else row_at x.out.formatted q) there)

    other_table : (keys : List Key) (q : Key) → has key_order keys q ≡ false → table_in ends (with_told keys x.out).formatted q ≡ table_in ends x.out.formatted q
    other_table keys q out_of = ap (option_map (told_to ends)) (told-formatted keys x.out q kept.exact.formatted_rows ∙ ap (λ (b : Bool). if b then row_at x.out.desired q else row_at x.out.formatted q) out_of)

    other_forced : (keys : List Key) (q : Key) → has key_order keys q ≡ false → is_forced x.out q ≡ true → is_forced (with_told keys x.out) q ≡ true
    other_forced keys q out_of forced = told-forced keys x.out q ∙ both (is_forced x.out q) (not (has key_order keys q)) forced (ap not out_of)

    says_gone : (keys : List Key) → 0 < length keys → says_nothing (Updates (record { withdrawn = keys; attrs = None; announced = [] })) ≡ false
    says_gone [] some = absurd (omega arith)
    says_gone (key ∷ keys) some = refl

    says_new : (a : Attributes) (keys : List Key) → 0 < length keys → says_nothing (Updates (record { withdrawn = []; attrs = Some a; announced = keys })) ≡ false
    says_new a [] some = absurd (omega arith)
    says_new a (key ∷ keys) some = refl

    gone_next : (keys : List Key) (q : Key) → has key_order keys q ≡ true → row_at x.out.desired q ≡ None → table_in ends (with_told keys x.out).formatted q ≡ None
    gone_next keys q there none = told_table keys q there ∙ ap (option_map (told_to ends)) none

    goes_gone : (keys : List Key) → IsDueOf x.out (Withdraws keys) → Goes (Withdrawn keys)
    goes_gone keys due_now =
        stream-update p s.sessions s.peer worlds (table_in ends x.out.formatted) (table_in ends (with_told keys x.out).formatted) (is_forced x.out) (is_forced (with_told keys x.out)) x.ending x.phase ms
        (record { withdrawn = keys; attrs = None; announced = [] }) stream
        (λ q named.
        let there : has key_order keys q ≡ true = has-among keys q ∙ named in
        let gone = gone_next keys q there (due_now.1 q there) in
        (ap (λ (b : Bool). if b then None else table_in ends x.out.formatted q) named ∙ sym gone, newest q _ (told_table keys q there ∙ desired-private q)))
        (λ q other. let out_of : has key_order keys q ≡ false = has-among keys q ∙ other in (other_table keys q out_of, other_forced keys q out_of))
        (says_gone keys due_now.0)

    goes_new : (o : OutAttrs) (keys : List Key) → IsDueOf x.out (Announces o keys) → Goes (Announced o keys)
    goes_new o keys due_now =
        stream-update p s.sessions s.peer worlds (table_in ends x.out.formatted) (table_in ends (with_told keys x.out).formatted) (is_forced x.out) (is_forced (with_told keys x.out)) x.ending x.phase ms
        (record { withdrawn = []; attrs = Some (told_to ends o); announced = keys }) stream
        (λ q named.
        let listed : among keys q ≡ true = sym (right-none (among keys q)) ∙ named in
        let there : has key_order keys q ≡ true = has-among keys q ∙ listed in
        let next : table_in ends (with_told keys x.out).formatted q ≡ Some (told_to ends o) = told_table keys q there ∙ ap (option_map (told_to ends)) (due_now.1 q there) in
        (ap (λ (b : Bool). if b then Some (told_to ends o) else (if false then None else table_in ends x.out.formatted q)) listed ∙ sym next, newest q _ (told_table keys q there ∙ desired-private q)))
        (λ q other. let out_of : has key_order keys q ≡ false = has-among keys q ∙ (sym (right-none (among keys q)) ∙ other) in (other_table keys q out_of, other_forced keys q out_of))
        (says_new (told_to ends o) keys due_now.0)

    among_last : (v : World) (vs : List World) → IsAmong v (vs ++ v ∷ [])
    among_last v [] = inl refl
    among_last v (u ∷ vs) = inr (among_last v vs)

    among_tested : (test : World → Bool) (v : World) (vs : List World) → test v ≡ true → IsAmong v vs → IsAmong v (filter test vs)
    among_tested test v [] passes there = there
    among_tested test v (u ∷ vs) passes there = by (test u) refl (among_tested test v vs passes) there
      where
        by : (b : Bool) → test u ≡ b → (IsAmong v vs → IsAmong v (filter test vs)) → (v ≡ u) ⊎ IsAmong v vs → IsAmong v (cond b (u ∷ filter test vs) (filter test vs))
        by true e rest there = elim there [ inl here ↦ inl here | inr later ↦ inr (rest later) ]
        by false e rest there = elim there [ inl here ↦ absurd (let so : test u ≡ true = subst (λ (z : World). test z ≡ true) here passes in cc) | inr later ↦ rest later ]

    goes_end : x.out.pending ≡ [] → x.ending ≡ true → Goes EndOfRib
    goes_end none due_now =
        stream-end_of_rib p s.sessions s.peer worlds (table_in ends x.out.formatted) (is_forced x.out) x.phase ms w
        (subst (λ (b : Bool). IsStream p s.sessions s.peer worlds (table_in ends x.out.formatted) (is_forced x.out) b x.phase ms) due_now stream)
        (among_tested (in_session p s.sessions) w worlds session (among_last w front))
        (λ q. ap (option_map (told_to ends)) (level-rows none q) ∙ desired-private q)

    goes_ends : x.out.pending ≡ [] → x.ending ≡ false → x.phase ≡ Open → Goes RefreshEnds
    goes_ends none not_due opened =
        subst (λ (b : Bool). IsStream p s.sessions s.peer worlds (table_in ends x.out.formatted) (is_forced x.out) b Quiet (ms ++ message_to ends RefreshEnds ∷ [])) (sym not_due)
        (stream-ends p s.sessions s.peer worlds (table_in ends x.out.formatted) (is_forced x.out) ms
        (subst (λ (f : Phase). IsStream p s.sessions s.peer worlds (table_in ends x.out.formatted) (is_forced x.out) false f ms) opened
        (subst (λ (b : Bool). IsStream p s.sessions s.peer worlds (table_in ends x.out.formatted) (is_forced x.out) b x.phase ms) not_due stream))
        (enhanced (λ quiet. let both_phases : Quiet ≡ Open = sym quiet ∙ opened in absurd cc)) (level-unforced none))

    owing_open : x.out.pending ≡ [] → owes x ≡ true → is_owed x.phase ≡ false → x.ending ≡ false → x.phase ≡ Open
    owing_open none owing not_owed not_due =
        let no : is_pending x ≡ false = ap (λ (keys : List Key). not (is_empty keys)) none in
        let rest : not (is_quiet x.phase) ≡ true = rw (no, not_due) at owing in
        open_is x.phase not_owed (not_so' (is_quiet x.phase) rest)
      where
        not_so' : (b : Bool) → not b ≡ true → b ≡ false
        not_so' true e = absurd cc
        not_so' false e = refl

    pub format-goes : (light : (q : Key) → has key_order x.out.pending q ≡ true → weight_of q ≤ 21) → 21 ≤ room x.key.family (limit_of x.key)
        → ((q : Key) (o : OutAttrs) → row_at x.out.desired q ≡ Some o → 21 ≤ room_beside x.key.family (limit_of x.key) o.attrs) → owes x ≡ true → Goes (says_next x)
    format-goes light wide beside owing =
        let is = due-is x.key x.out light wide beside in
        so-next x Goes (record {
          begins = λ owed not_due. begins owed not_due;
          withdraws = λ keys due. goes_gone keys (subst (λ (d : Due Key OutAttrs). IsDueOf x.out d) due is);
          announces = λ o keys due. goes_new o keys (subst (λ (d : Due Key OutAttrs). IsDueOf x.out d) due is);
          end_of_rib = λ none due. goes_end (subst (λ (d : Due Key OutAttrs). IsDueOf x.out d) none is) due;
          ends = λ none not_owed not_due. let empty = subst (λ (d : Due Key OutAttrs). IsDueOf x.out d) none is in goes_ends empty not_due (owing_open empty owing not_owed not_due);
        })
