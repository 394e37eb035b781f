-- What a peer that asked for all routes was announced since, and how that goes on with its subgroup.
use Rattle.std.proofs.Common.{◌≡◌, ℕ, ◌≤◌, ◌⊎◌, inl, inr, Bool, true, false, List, [], ◌∷◌, ◌++◌, length, drop, None, refl, sym, ◌∙◌, ap, subst, arith, length-append}
use Rattle.std.specs.Prelude.{◌||◌, not, is_some, if◌then◌else◌}
use Rattle.std.specs.List.{list_any}
use Rattle.std.proofs.lemmas.List.{append-nil, drop-append-le}
use Rattle.std.proofs.lemmas.List.Folds.{list_any-append}
use Rattle.ug_types.specs.declared.key.Key.{Key}
use Rattle.ug_types.specs.declared.route.OutAttrs.{OutAttrs}
use Rattle.ug_types.specs.declared.route.PeerEnds.{PeerEnds}
use Rattle.ug_types.specs.Messages.{Message}
use Rattle.ug_message.specs.Tables.{among}
use Rattle.ug_message.specs.NextHops.{told_to}
use Rattle.ug_pack.specs.Ready.{key_order}
use Rattle.ug_adjout.specs.Tables.{has}
use Rattle.ug_adjout.specs.Formatting.{Due}
use Rattle.ug_adjout.specs.Formatting.Due.{Withdraws}
use Rattle.ug_speaker.specs.Right.{announces, is_begin}
use Rattle.ug_speaker.proofs.Bools.{both, true_or, or_true, or_so}
use Rattle.ug_group_rules.specs.declared.phase.Phase.{Phase}
use Rattle.ug_group_rules.specs.declared.phase.Phase.TheVariants.{Quiet, Owed, Open}
use Rattle.ug_group_rules.specs.Packets.{Says, Withdrawn, Announced, EndOfRib, RefreshBegins, RefreshEnds, all_forced, with_told, routes_due, message_to}
use Rattle.ug_group_rules.specs.Machine.{Subgroup, is_owed, says_next, after_saying, formatted, asked}
use Rattle.ug_group_rules.proofs.StreamsInWorlds.{IsAs}
use Rattle.ug_group_rules.proofs.Tables.{row_at, is_forced, IsOut, told-formatted, told-forced, forced-all}
use Rattle.ug_group_rules.proofs.WantedTables.{table_in, has-among}
use Rattle.ug_group_rules.proofs.NextPackets.{so-next}
use Rattle.ug_group_rules.proofs.MemberStreams.{some-mapped}
use Rattle.ug_group_rules.proofs.Formats.{IsDueOf}

-- a refresh has still to announce the key, where it is desired
abbrev pub is_coming : Subgroup → Key → Bool
is_coming x q = is_owed x.phase || is_forced x.out q

-- Where a request came after so many of these messages, each route that was formatted was announced behind it, or is
-- still coming; and with enhanced refresh a refresh was begun, or is owed.
pub record IsAgain (asks : Bool) (handed : ℕ) (enhanced : Bool) (x : Subgroup) (ms : List Message) : Type 0 where
  pub long : handed ≤ length ms
  pub announced : asks ≡ true → (q : Key) → is_some (row_at x.out.formatted q) ≡ true → (is_coming x q ≡ true) ⊎ (list_any (announces q) (drop handed ms) ≡ true)
  pub begun : asks ≡ true → enhanced ≡ true → (is_owed x.phase ≡ true) ⊎ (list_any is_begin (drop handed ms) ≡ true)

-- One subgroup becomes another with these messages: what is formatted then is coming, or among them, or was formatted and
-- wasn't coming.
pub record GoesTo (x y : Subgroup) (more : List Message) : Type 0 where
  pub announced : (q : Key) → is_some (row_at y.out.formatted q) ≡ true
      → (is_coming y q ≡ true) ⊎ ((list_any (announces q) more ≡ true) ⊎ ((is_some (row_at x.out.formatted q) ≡ true) × (is_coming x q ≡ false)))
  pub begun : is_owed x.phase ≡ true → (is_owed y.phase ≡ true) ⊎ (list_any is_begin more ≡ true)

module _ (asks : Bool) (handed : ℕ) (enhanced : Bool) (x y : Subgroup) (ms more : List Message) (again : IsAgain asks handed enhanced x ms) (goes : GoesTo x y more) where
  -- what is so of a message behind the request is so with more behind it
  found_in : (test : Message → Bool) → list_any test (drop handed (ms ++ more)) ≡ (list_any test (drop handed ms) || list_any test more)
  found_in test = ap (list_any test) (drop-append-le handed ms more again.long) ∙ list_any-append test (drop handed ms) more

  before : (test : Message → Bool) → list_any test (drop handed ms) ≡ true → list_any test (drop handed (ms ++ more)) ≡ true
  before test e = found_in test ∙ true_or (list_any test (drop handed ms)) (list_any test more) e

  behind : (test : Message → Bool) → list_any test more ≡ true → list_any test (drop handed (ms ++ more)) ≡ true
  behind test e = found_in test ∙ or_true (list_any test (drop handed ms)) (list_any test more) e

  pub again-goes : IsAgain asks handed enhanced y (ms ++ more)
  again-goes = record {
    long = (let long = again.long in let sum = length-append ms more in omega arith);
    announced = λ so q there. elim (goes.announced q there) [
      | inl coming ↦ inl coming
      | inr other ↦ elim other [
        | inl now ↦ inr (behind (announces q) now)
        | inr was ↦ elim (again.announced so q was.0) [ inl coming ↦ (let no = was.1 in absurd cc) | inr told ↦ inr (before (announces q) told) ]
      ]
    ];
    begun = λ so marked. elim (again.begun so marked) [
      | inl owed ↦ elim (goes.begun owed) [ inl still ↦ inl still | inr now ↦ inr (behind is_begin now) ]
      | inr told ↦ inr (before is_begin told)
    ];
  }

pub again-stays : (asks : Bool) (handed : ℕ) (enhanced : Bool) (x y : Subgroup) (ms : List Message) → IsAgain asks handed enhanced x ms → GoesTo x y [] → IsAgain asks handed enhanced y ms
again-stays asks handed enhanced x y ms again goes = subst (λ (l : List Message). IsAgain asks handed enhanced y l) (append-nil ms) (again-goes asks handed enhanced x y ms [] again goes)

-- ---- with nothing formatted

owed_then : (old new : Phase) → (new ≡ Quiet → old ≡ Quiet) → (new ≡ Open → old ≡ Open) → is_owed old ≡ true → is_owed new ≡ true
owed_then old Owed rests begun owed = refl
owed_then old Quiet rests begun owed = let none : is_owed old ≡ false = ap is_owed (rests refl) in absurd cc
owed_then old Open rests begun owed = let none : is_owed old ≡ false = ap is_owed (begun refl) in absurd cc

module _ (ends : PeerEnds) (x y : Subgroup) (change : IsAs (table_in ends x.out.formatted) (table_in ends y.out.formatted) (is_forced x.out) (is_forced y.out) x.phase y.phase) where
  owed_still : is_owed x.phase ≡ true → is_owed y.phase ≡ true
  owed_still = owed_then x.phase y.phase change.rests change.begun

  was_there : (q : Key) → is_some (row_at y.out.formatted q) ≡ true → is_some (row_at x.out.formatted q) ≡ true
  was_there q there = sym (some-mapped (told_to ends) (row_at x.out.formatted q)) ∙ ap is_some (change.same q) ∙ some-mapped (told_to ends) (row_at y.out.formatted q) ∙ there

  still_coming : (q : Key) → is_some (row_at x.out.formatted q) ≡ true → is_coming x q ≡ true → is_coming y q ≡ true
  still_coming q there coming =
      elim (or_so (is_owed x.phase) (is_forced x.out q) coming) [
        | inl owed ↦ true_or (is_owed y.phase) (is_forced y.out q) (owed_still owed)
        | inr forced ↦ or_true (is_owed y.phase) (is_forced y.out q) (change.forces q forced (some-mapped (told_to ends) (row_at x.out.formatted q) ∙ there))
      ]

  pub goes-as : GoesTo x y []
  goes-as = record {
    announced = λ q there. by q (was_there q there) (is_coming x q) refl;
    begun = λ owed. inl (owed_still owed);
  }
    where
      by : (q : Key) → is_some (row_at x.out.formatted q) ≡ true → (b : Bool) → is_coming x q ≡ b → (is_coming y q ≡ true) ⊎ ((list_any (announces q) [] ≡ true) ⊎ ((is_some (row_at x.out.formatted q) ≡ true) × (is_coming x q ≡ false)))
      by q there true e = inl (still_coming q there e)
      by q there false e = inr (inr (there, e))

-- ---- the next packet

module _ (ends : PeerEnds) (x : Subgroup) (exact : IsOut x.out) where
  abbrev Goes : Says → Type 0
  Goes says = GoesTo x (record (after_saying says x) { fresh = false; stuck = 0 }) (message_to ends says ∷ [])

  begins : Goes RefreshBegins
  begins = record {
    announced = λ q there. inl (forced-all x.out q ∙ true_or (is_some (row_at x.out.formatted q)) (is_some (row_at x.out.desired q)) there);
    begun = λ owed. inr refl;
  }

  goes_end : Goes EndOfRib
  goes_end = record { announced = λ q there. by q there (is_coming x q) refl; begun = λ owed. inl owed }
    where
      by : (q : Key) → is_some (row_at x.out.formatted q) ≡ true → (b : Bool) → is_coming x q ≡ b
          → (is_coming x q ≡ true) ⊎ ((list_any (announces q) (message_to ends EndOfRib ∷ []) ≡ true) ⊎ ((is_some (row_at x.out.formatted q) ≡ true) × (is_coming x q ≡ false)))
      by q there true e = inl e
      by q there false e = inr (inr (there, e))

  goes_ends : is_owed x.phase ≡ false → Goes RefreshEnds
  goes_ends not_owed = record { announced = λ q there. by q there (is_forced x.out q) refl; begun = λ owed. absurd cc }
    where
      by : (q : Key) → is_some (row_at x.out.formatted q) ≡ true → (b : Bool) → is_forced x.out q ≡ b
          → (is_forced x.out q ≡ true) ⊎ ((list_any (announces q) (message_to ends RefreshEnds ∷ []) ≡ true) ⊎ ((is_some (row_at x.out.formatted q) ≡ true) × (is_coming x q ≡ false)))
      by q there true e = inl e
      by q there false e = inr (inr (there, ap (λ (b : Bool). b || is_forced x.out q) not_owed ∙ e))

  -- a key that isn't among those told
  module _ (keys : List Key) (more : List Message) (q : Key) (out_of : has key_order keys q ≡ false) (there : is_some (row_at (with_told keys x.out).formatted q) ≡ true) where
    not_told : is_some (row_at x.out.formatted q) ≡ true
    not_told = sym (ap is_some (told-formatted keys x.out q exact.formatted_rows ∙ ap (λ (b : Bool). if b then row_at x.out.desired q else row_at x.out.formatted q) out_of)) ∙ there

    other_coming : is_coming x q ≡ true → (is_owed x.phase || is_forced (with_told keys x.out) q) ≡ true
    other_coming coming =
        elim (or_so (is_owed x.phase) (is_forced x.out q) coming) [
          | inl owed ↦ true_or (is_owed x.phase) (is_forced (with_told keys x.out) q) owed
          | inr forced ↦ or_true (is_owed x.phase) (is_forced (with_told keys x.out) q) (told-forced keys x.out q ∙ both (is_forced x.out q) (not (has key_order keys q)) forced (ap not out_of))
        ]

    other_key : ((is_owed x.phase || is_forced (with_told keys x.out) q) ≡ true) ⊎ ((list_any (announces q) more ≡ true) ⊎ ((is_some (row_at x.out.formatted q) ≡ true) × (is_coming x q ≡ false)))
    other_key = by (is_coming x q) refl
      where
        by : (b : Bool) → is_coming x q ≡ b → ((is_owed x.phase || is_forced (with_told keys x.out) q) ≡ true) ⊎ ((list_any (announces q) more ≡ true) ⊎ ((is_some (row_at x.out.formatted q) ≡ true) × (is_coming x q ≡ false)))
        by true e = inl (other_coming e)
        by false e = inr (inr (not_told, e))

  goes_gone : (keys : List Key) → IsDueOf x.out (Withdraws keys) → Goes (Withdrawn keys)
  goes_gone keys is = record { announced = λ q there. by q there (has key_order keys q) refl; begun = λ owed. inl owed }
    where
      by : (q : Key) → is_some (row_at (with_told keys x.out).formatted q) ≡ true → (b : Bool) → has key_order keys q ≡ b
          → ((is_owed x.phase || is_forced (with_told keys x.out) q) ≡ true)
          ⊎ ((list_any (announces q) (message_to ends (Withdrawn keys) ∷ []) ≡ true) ⊎ ((is_some (row_at x.out.formatted q) ≡ true) × (is_coming x q ≡ false)))
      by q there true e =
          let none : row_at (with_told keys x.out).formatted q ≡ None =
          told-formatted keys x.out q exact.formatted_rows ∙ ap (λ (b : Bool). if b then row_at x.out.desired q else row_at x.out.formatted q) e ∙ is.1 q e in
          absurd cc
      by q there false e = other_key keys (message_to ends (Withdrawn keys) ∷ []) q e there

  goes_new : (o : OutAttrs) (keys : List Key) → Goes (Announced o keys)
  goes_new o keys = record { announced = λ q there. by q there (has key_order keys q) refl; begun = λ owed. inl owed }
    where
      by : (q : Key) → is_some (row_at (with_told keys x.out).formatted q) ≡ true → (b : Bool) → has key_order keys q ≡ b
          → ((is_owed x.phase || is_forced (with_told keys x.out) q) ≡ true)
          ⊎ ((list_any (announces q) (message_to ends (Announced o keys) ∷ []) ≡ true) ⊎ ((is_some (row_at x.out.formatted q) ≡ true) × (is_coming x q ≡ false)))
      by q there true e = inr (inl (true_or (among keys q) false (sym (has-among keys q) ∙ e)))
      by q there false e = other_key keys (message_to ends (Announced o keys) ∷ []) q e there

  pub goes-formatted : IsDueOf x.out (routes_due x.key x.out) → GoesTo x (formatted x) (message_to ends (says_next x) ∷ [])
  goes-formatted is =
      so-next x Goes (record {
        begins = λ owed not_due. begins;
        withdraws = λ keys due. goes_gone keys (subst (λ (d : Due Key OutAttrs). IsDueOf x.out d) due is);
        announces = λ o keys due. goes_new o keys;
        end_of_rib = λ none due. goes_end;
        ends = λ none not_owed not_due. goes_ends not_owed;
      })

-- ---- the request

-- all that was formatted is coming, and with enhanced refresh a refresh is owed
pub record IsCovered (x : Subgroup) : Type 0 where
  pub all : (q : Key) → is_some (row_at x.out.formatted q) ≡ true → is_coming x q ≡ true
  pub begins : x.key.enhanced_refresh ≡ true → is_owed x.phase ≡ true

pub covered-asked : (x : Subgroup) → IsCovered (asked x)
covered-asked x = by x.key.enhanced_refresh refl
  where
    by : (b : Bool) → x.key.enhanced_refresh ≡ b → IsCovered (if b then record x { phase = Owed } else record x { out = all_forced x.out })
    by true e = record { all = λ q there. refl; begins = λ marked. refl }
    by false e = record {
      all = λ q there. or_true (is_owed x.phase) (is_forced (all_forced x.out) q) (forced-all x.out q ∙ true_or (is_some (row_at x.out.formatted q)) (is_some (row_at x.out.desired q)) there);
      begins = λ marked. absurd cc;
    }

pub again-covered : (asks : Bool) (handed : ℕ) (enhanced : Bool) (x : Subgroup) (ms : List Message) → IsCovered x → enhanced ≡ x.key.enhanced_refresh → handed ≤ length ms → IsAgain asks handed enhanced x ms
again-covered asks handed enhanced x ms covered same long = record {
  long = long;
  announced = λ so q there. inl (covered.all q there);
  begun = λ so marked. inl (covered.begins (sym same ∙ marked));
}
