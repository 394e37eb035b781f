-- What a turn of a lane has taken, packet by packet.
use Rattle.std.proofs.Common.{◌≡◌, ℕ, ◌+◌, ◌≤◌, Bool, true, false, List, [], ◌∷◌, ◌++◌, length, Option, Some, None, refl, sym, ◌∙◌, ap, subst, arith, take, append_assoc, length-append}
use Rattle.std.specs.Prelude.{◌==◌}
use Rattle.std.proofs.lemmas.List.{append-nil}
use Rattle.std.proofs.Math.Seq.{take-append-add}
use Rattle.std.proofs.lemmas.Bool.{eqb-true, eq-eqb}
use Rattle.ug_board.specs.declared.steps.LaneSaid.TheVariants.{Hand}
use Rattle.std.proofs.lemmas.List.Elements.{All-append, All-nil}
use Rattle.ug_board.specs.Deeds.{Deed, Begins, Hands, Loses, begins, when}
use Rattle.ug_sender.specs.declared.turn.Ending.{Ending}
use Rattle.ug_sender.specs.declared.turn.Ending.TheVariants.{More}
use Rattle.ug_sender.specs.declared.turn.Next.TheVariants.{Packet as WasPacket, Last}
use Rattle.ug_sender.specs.Rounds.{Packet, hands, bytes_of, bytes_in, ending_deeds, IsBelow, TellsStep, TellsTurn}
use Rattle.ug_sender.specs.Tellings.{TellsNext}
use Rattle.ug_turnstile.specs.Passes.{Adds}

-- So many packets were handed out so far, and what the open session gets of them stands at the front of the buffer.
pub record HasTaken (latest : Option ℕ) (count filled : ℕ) (buf : List ℕ) (old new : List (Deed (List ℕ))) : Type 0 where
  pub packets : List Packet
  pub counted : count ≡ length packets
  pub bytes : take filled buf ≡ bytes_in latest packets
  pub grown : new ≡ old ++ hands packets

pub nothing-taken : (latest : Option ℕ) (buf : List ℕ) (old : List (Deed (List ℕ))) → HasTaken latest 0 0 buf old old
nothing-taken latest buf old = record { packets = []; counted = refl; bytes = refl; grown = sym (append-nil old) }

bytes-more : (latest : Option ℕ) (packets : List Packet) (packet : Packet) → bytes_in latest (packets ++ packet ∷ []) ≡ bytes_in latest packets ++ bytes_of latest packet
bytes-more latest [] packet = append-nil (bytes_of latest packet)
bytes-more latest (first ∷ packets) packet =
    ap (λ b. bytes_of latest first ++ b) (bytes-more latest packets packet)
    ∙ sym (append_assoc (bytes_of latest first) (bytes_in latest packets) (bytes_of latest packet))

hands-more : (packets : List Packet) (packet : Packet) → hands (packets ++ packet ∷ []) ≡ hands packets ++ hands (packet ∷ [])
hands-more [] packet = refl
hands-more (first ∷ packets) packet = ap (λ d. Hands first.session first.bytes ∷ d) (hands-more packets packet)

-- one packet more
pub taken-further :
    (latest : Option ℕ) (count filled len : ℕ) (buf buf' : List ℕ) (d0 d1 d2 : List (Deed (List ℕ)))
    → HasTaken latest count filled buf d0 d1 → TellsStep latest filled (WasPacket len) buf buf' d1 d2
    → HasTaken latest (count + 1) (filled + len) buf' d0 d2
taken-further latest count filled len buf buf' d0 d1 d2 taken step =
    let packet = step.0 in
    let c = taken.counted in
    record {
      packets = taken.packets ++ packet ∷ [];
      counted = omega (arith, length-append taken.packets (packet ∷ []));
      bytes = step.2 ∙ (ap (λ b. b ++ bytes_of latest packet) taken.bytes ∙ sym (bytes-more latest taken.packets packet));
      grown = step.1 ∙ (ap (λ d. d ++ hands (packet ∷ [])) taken.grown
          ∙ (append_assoc d0 (hands taken.packets) (hands (packet ∷ [])) ∙ ap (λ d. d0 ++ d) (sym (hands-more taken.packets packet))));
    }

pub begins-hands : (d : List (Deed (List ℕ))) (packets : List Packet) → begins (d ++ hands packets) ≡ begins d
begins-hands [] [] = refl
begins-hands [] (packet ∷ packets) = begins-hands [] packets
begins-hands (Begins n ∷ d) packets = ap (λ m. 1 + m) (begins-hands d packets)
begins-hands (Hands n x ∷ d) packets = begins-hands d packets
begins-hands (Loses n ∷ d) packets = begins-hands d packets

-- the turn ends
pub turn-ended :
    (latest : Option ℕ) (count filled : ℕ) (ending : Ending) (buf buf' : List ℕ) (d0 d1 d2 : List (Deed (List ℕ)))
    → HasTaken latest count filled buf d0 d1 → filled ≤ length buf' → TellsStep latest filled (Last ending) buf buf' d1 d2
    → TellsTurn latest (record { packets = count; filled = filled; ending = ending }) buf' d0 d2
turn-ended latest count filled ending buf buf' d0 d1 d2 taken room step =
    record {
      packets = taken.packets;
      count = taken.counted;
      filled = room;
      bytes = step.1 ∙ taken.bytes;
      grown = step.0 ∙ (ap (λ d. d ++ ending_deeds ending) taken.grown ∙ append_assoc d0 (hands taken.packets) (ending_deeds ending));
      further = subst (λ n. IsBelow n ending) (ap begins taken.grown ∙ begins-hands d0 taken.packets) step.2;
    }

-- there may be more
pub turn-broken :
    (latest : Option ℕ) (count filled : ℕ) (buf : List ℕ) (d0 d1 : List (Deed (List ℕ)))
    → HasTaken latest count filled buf d0 d1 → filled ≤ length buf
    → TellsTurn latest (record { packets = count; filled = filled; ending = More }) buf d0 d1
turn-broken latest count filled buf d0 d1 taken room =
    record {
      packets = taken.packets;
      count = taken.counted;
      filled = room;
      bytes = taken.bytes;
      grown = taken.grown ∙ ap (λ d. d0 ++ d) (sym (append-nil (hands taken.packets)));
      further = tt;
    }

-- entries of a number, and then more of it
pub adds-further : {E : Type 0} (owner : E → ℕ) (number : ℕ) (a b c : List E) → Adds owner number a b → Adds owner number b c → Adds owner number a c
adds-further {E} owner number a b c one two =
    (one.0 ++ two.0, two.1 ∙ ap (λ (z : List E). z ++ two.0) one.1 ∙ append_assoc a one.0 two.0, All-append (λ e. owner e ≡ number) one.0 two.0 one.2 two.2)

pub adds-nothing : {E : Type 0} (owner : E → ℕ) (number : ℕ) (a : List E) → Adds owner number a a
adds-nothing owner number a = ([], sym (append-nil a), All-nil (λ e. owner e ≡ number))

-- One answer within a turn, by what stands in the buffer

pub take-past : (filled len : ℕ) (front room : List ℕ) → length front ≡ filled → take (filled + len) (front ++ room) ≡ front ++ take len room
take-past filled len front room is = ap (λ n. take (n + len) (front ++ room)) (sym is) ∙ take-append-add front room len

bytes-open : (latest : Option ℕ) (session : ℕ) (bytes : List ℕ) → latest ≡ Some session → bytes_of latest (record { session = session; bytes = bytes }) ≡ bytes
bytes-open None session bytes is = cc
bytes-open (Some n) session bytes is = let same : n ≡ session = cc in rw (eq-eqb n session same) refl

bytes-by : (b : Bool) (n session : ℕ) (bytes : List ℕ) → (n == session) ≡ b → (Some n ≡ Some session → ⊥) → when b bytes ≡ []
bytes-by true n session bytes is other = absurd (other (ap (λ m. Some m) (eqb-true n session is)))
bytes-by false n session bytes is other = refl

bytes-other : (latest : Option ℕ) (session : ℕ) (bytes : List ℕ) → (latest ≡ Some session → ⊥) → bytes_of latest (record { session = session; bytes = bytes }) ≡ []
bytes-other None session bytes other = refl
bytes-other (Some n) session bytes other = bytes-by (n == session) n session bytes refl other

-- a packet of the open session
pub step-open :
    (latest : Option ℕ) (filled session made len : ℕ) (front room buf buf' : List ℕ) (d d' : List (Deed (List ℕ)))
    → latest ≡ Some session → buf' ≡ front ++ room → front ≡ take filled buf → length front ≡ filled
    → TellsNext (Hand session made len) room d d' → TellsStep latest filled (WasPacket len) buf buf' d d'
step-open latest filled session made len front room buf buf' d d' is whole before long told = (
  record { session = session; bytes = take len room },
  told.0,
  ap (take (filled + len)) whole ∙ (take-past filled len front room long
      ∙ (ap (λ f. f ++ take len room) before ∙ ap (λ b. take filled buf ++ b) (sym (bytes-open latest session (take len room) is)))),
  told.1,
)

-- a packet of another session
pub step-other :
    (latest : Option ℕ) (filled session made len : ℕ) (front room buf buf' : List ℕ) (d d' : List (Deed (List ℕ)))
    → (latest ≡ Some session → ⊥) → buf' ≡ front ++ room → front ≡ take filled buf → length front ≡ filled
    → TellsNext (Hand session made len) room d d' → TellsStep latest filled (WasPacket 0) buf buf' d d'
step-other latest filled session made len front room buf buf' d d' other whole before long told = (
  record { session = session; bytes = take len room },
  told.0,
  ap (take (filled + 0)) whole ∙ (take-past filled 0 front room long
      ∙ (ap (λ f. f ++ []) before ∙ ap (λ b. take filled buf ++ b) (sym (bytes-other latest session (take len room) other)))),
  omega arith,
)
