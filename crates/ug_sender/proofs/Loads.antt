-- What a laden lane has taken: turn after turn, until it is sent.
use Rattle.std.proofs.Common.{◌≡◌, ℕ, ◌+◌, ◌<◌, ◌≤◌, List, [], ◌∷◌, ◌++◌, length, take, drop, Option, None, refl, sym, ◌∙◌, ap, subst, arith, inl, inr, append_assoc, length-append, length-drop}
use Rattle.std.specs.Prelude.{◌⊎◌, IsSome}
use Rattle.std.proofs.Math.Seq.{take-append_seam}
use Rattle.std.proofs.lemmas.List.{append-nil, length-take-le, take-append-drop}
use Rattle.ug_board.specs.Rules.{Rules}
use Rattle.ug_board.specs.Deeds.{Deed, Hands, begins}
use Rattle.ug_sender.specs.declared.turn.Ending.{Ending}
use Rattle.ug_sender.specs.declared.turn.Ending.TheVariants.{Begun, Idle, Stop, More}
use Rattle.ug_sender.specs.declared.turn.Taken.{Taken}
use Rattle.ug_sender.specs.declared.sending.Went.{Went}
use Rattle.ug_sender.specs.Lanes.{pass_deeds}
use Rattle.ug_sender.specs.Loads.{LadenView, TellsLoad, TellsSend, waiting_after}
use Rattle.ug_sender.specs.Rounds.{Packet, IsBelow, TellsTurn, begun_by, bytes_in, bytes_of, ending_deeds, hands, TellsWent}
use Rattle.ug_sender.proofs.Outcomes.{Losses, length-hands, loses, map-both, went-losses}
use Rattle.ug_sender.proofs.Taking.{begins-hands, take-past}

-- a lane with nothing in its buffer
pub nothing-loaded :
    (latest : Option ℕ) (buf : List ℕ) (ds : List (Deed (List ℕ)))
    → TellsTurn latest (record { packets = 0; filled = 0; ending = Idle }) buf ds ds
nothing-loaded latest buf ds =
    record { packets = []; count = refl; filled = omega arith; bytes = refl; grown = sym (append-nil ds); further = tt }

no-ending : (ending : Ending) → begun_by ending ≡ None → ending_deeds ending ≡ []
no-ending (Begun n) none = cc
no-ending Idle none = refl
no-ending Stop none = refl
no-ending More none = refl

one-ending : (ending : Ending) → IsSome (begun_by ending) → length (ending_deeds ending) ≡ 1
one-ending (Begun n) some = refl
one-ending Idle some = cc
one-ending Stop some = cc
one-ending More some = cc

begun-waits : (waiting : Option ℕ) (ending : Ending) → waiting ≡ None → begun_by ending ≡ waiting_after waiting ending
begun-waits waiting (Begun n) none = refl
begun-waits waiting Idle none = sym none
begun-waits waiting Stop none = sym none
begun-waits waiting More none = sym none

hands-both : (a b : List Packet) → hands (a ++ b) ≡ hands a ++ hands b
hands-both [] b = refl
hands-both (packet ∷ a) b = ap (λ d. Hands packet.session packet.bytes ∷ d) (hands-both a b)

bytes-both : (latest : Option ℕ) (a b : List Packet) → bytes_in latest (a ++ b) ≡ bytes_in latest a ++ bytes_in latest b
bytes-both latest [] b = refl
bytes-both latest (packet ∷ a) b =
    ap (λ x. bytes_of latest packet ++ x) (bytes-both latest a b)
    ∙ sym (append_assoc (bytes_of latest packet) (bytes_in latest a) (bytes_in latest b))

module _ (latest : Option ℕ) (taken : Taken) (buf : List ℕ) (old new : List (Deed (List ℕ))) (turn : TellsTurn latest taken buf old new) where
  -- a turn that no session ended
  pub turn-hands : begun_by taken.ending ≡ None → new ≡ old ++ hands turn.packets
  turn-hands none =
      turn.grown
      ∙ ap (λ d. old ++ d) (ap (λ d. hands turn.packets ++ d) (no-ending taken.ending none) ∙ append-nil (hands turn.packets))

  turn-bytes : length (bytes_in latest turn.packets) ≡ taken.filled
  turn-bytes = sym (ap length turn.bytes) ∙ length-take-le taken.filled buf turn.filled

  turn-length : length new ≡ length old + (length (hands turn.packets) + length (ending_deeds taken.ending))
  turn-length =
      ap length turn.grown
      ∙ (length-append old (hands turn.packets ++ ending_deeds taken.ending)
      ∙ ap (λ n. length old + n) (length-append (hands turn.packets) (ending_deeds taken.ending)))

  -- a turn by which something came
  pub turn-adds : (0 < taken.packets) ⊎ IsSome (begun_by taken.ending) → new ≡ old → ⊥
  turn-adds (inl some) same =
      let grown = turn-length in
      let back : length new ≡ length old = ap length same in
      let count = turn.count in omega (arith, length-hands turn.packets)
  turn-adds (inr some) same =
      let grown = turn-length in
      let back : length new ≡ length old = ap length same in
      omega (arith, one-ending taken.ending some)

module _ {W Opening State Job Said : Type 0} (rules : Rules Opening State Job Said) where
  -- a load that took nothing
  pub nothing-told : (laden : LadenView W Opening Job Said) → TellsLoad rules laden laden
  nothing-told laden =
      record { packets = []; ending = Idle; grown = sym (append-nil (pass_deeds rules laden.lane.pass)); filled = omega arith; waiting = refl }

  -- a load that took a turn
  pub load-told :
      (was old new : LadenView W Opening Job Said) (taken : Taken) (buf : List ℕ)
      → was ≡ old → TellsTurn was.lane.latest taken buf (pass_deeds rules was.lane.pass) (pass_deeds rules new.lane.pass)
      → was.waiting ≡ None → new.filled ≡ was.filled + taken.filled → new.waiting ≡ begun_by taken.ending
      → TellsLoad rules old new
  load-told was old new taken buf same turn none filled waiting =
      subst (λ l. TellsLoad rules l new) same (
      record {
        packets = turn.packets;
        ending = taken.ending;
        grown = turn.grown;
        filled = filled ∙ ap (λ n. was.filled + n) (sym (turn-bytes was.lane.latest taken buf _ _ turn));
        waiting = waiting ∙ begun-waits was.waiting taken.ending none;
      }
      )

-- what fills a buffer, where more was written behind it
both-bytes :
    (latest : Option ℕ) (a b : List Packet) (filled more : ℕ) (buf : List ℕ) → filled ≤ length buf
    → take filled buf ≡ bytes_in latest a → take more (drop filled buf) ≡ bytes_in latest b
    → take (filled + more) buf ≡ bytes_in latest (a ++ b)
both-bytes latest a b filled more buf room first second =
    ap (take (filled + more)) (sym (take-append-drop filled buf))
    ∙ (take-past filled more (take filled buf) (drop filled buf) (length-take-le filled buf room)
    ∙ (ap (λ x. x ++ take more (drop filled buf)) first
    ∙ (ap (λ x. bytes_in latest a ++ x) second ∙ sym (bytes-both latest a b))))

-- Two turns are as one, where no session ended the first, and what was taken in the second stands behind what fills the
-- buffer.
pub turns-joined :
    (latest : Option ℕ) (one two : Taken) (old buf : List ℕ) (d0 d1 d2 : List (Deed (List ℕ)))
    → TellsTurn latest one old d0 d1 → begun_by one.ending ≡ None
    → length buf ≡ length old → take one.filled buf ≡ take one.filled old
    → TellsTurn latest two (drop one.filled buf) d1 d2
    → TellsTurn latest (record { packets = one.packets + two.packets; filled = one.filled + two.filled; ending = two.ending }) buf d0 d2
turns-joined latest one two old buf d0 d1 d2 first none long front second =
    let grown : d1 ≡ d0 ++ hands first.packets = turn-hands latest one old d0 d1 first none in
    let c1 = first.count in
    let c2 = second.count in
    let f1 = first.filled in
    let f2 = second.filled in
    record {
      packets = first.packets ++ second.packets;
      count = omega (arith, length-append first.packets second.packets);
      filled = omega (arith, length-drop one.filled buf);
      bytes = both-bytes latest first.packets second.packets one.filled two.filled buf (omega arith) (front ∙ first.bytes) second.bytes;
      grown = second.grown
          ∙ (ap (λ d. d ++ (hands second.packets ++ ending_deeds two.ending)) grown
          ∙ (append_assoc d0 (hands first.packets) (hands second.packets ++ ending_deeds two.ending)
          ∙ ap (λ d. d0 ++ d) (sym (append_assoc (hands first.packets) (hands second.packets) (ending_deeds two.ending))
          ∙ ap (λ d. d ++ ending_deeds two.ending) (sym (hands-both first.packets second.packets)))));
      further = subst (λ n. IsBelow n two.ending) (ap begins grown ∙ begins-hands d0 first.packets) second.further;
    }

-- the same, of a buffer that was written over from its front to its end
pub load-joined :
    (latest : Option ℕ) (one two : Taken) (old buf rest : List ℕ) (size : ℕ) (d0 d1 d2 : List (Deed (List ℕ)))
    → TellsTurn latest one old d0 d1 → begun_by one.ending ≡ None
    → length buf ≡ size → length old ≡ size → take one.filled buf ≡ take one.filled old
    → TellsTurn latest two (drop one.filled buf) d1 d2
    → TellsTurn latest (record { packets = one.packets + two.packets; filled = one.filled + two.filled; ending = two.ending }) (take size (buf ++ rest)) d0 d2
load-joined latest one two old buf rest size d0 d1 d2 first none long was front second =
    subst (λ b. TellsTurn latest (record { packets = one.packets + two.packets; filled = one.filled + two.filled; ending = two.ending }) b d0 d2)
    (sym (ap (λ n. take n (buf ++ rest)) (sym long) ∙ take-append_seam buf rest))
    (turns-joined latest one two old buf d0 d1 d2 first none (long ∙ sym was) front second)

-- the losses that the two calls of a sending lead to
pub both-losses :
    (sent begun : Went) (one two : Option ℕ) (d0 d1 d2 : List (Deed (List ℕ)))
    → TellsWent sent one d0 d1 → TellsWent begun two d1 d2 → TellsSend d0 d2
unfolding Losses
both-losses sent begun one two d0 d1 d2 first second =
    let a = went-losses sent one d0 d1 first in
    let b = went-losses begun two d1 d2 second in (
      a.0 ++ b.0,
      b.1 ∙ (ap (λ d. d ++ loses b.0) a.1
          ∙ (append_assoc d0 (loses a.0) (loses b.0) ∙ ap (λ l. d0 ++ l) (sym (map-both a.0 b.0)))),
    )
