-- What a receiver makes of longer lists of messages.
use Rattle.std.proofs.Common.{◌≡◌, ◌+◌, Bool, true, false, List, [], ◌∷◌, ◌++◌, refl, sym, ◌∙◌, ap, subst, arith}
use Rattle.std.specs.Prelude.{◌||◌, count_by, if◌then◌else◌}
use Rattle.std.proofs.lemmas.List.{map-append}
use Rattle.std.proofs.lemmas.List.Sums.{sum_by-append}
use Rattle.ug_types.specs.declared.key.Key.{Key}
use Rattle.ug_types.specs.Messages.{Message, Updates, Begins, Ends, Ignored}
use Rattle.ug_message.specs.Tables.{Table, Reading, among, applied, reading_from, tables_from}
use Rattle.ug_message.specs.Climbing.{values_at}
use Rattle.ug_message.specs.Streams.{AreOf, says_nothing}
use Rattle.ug_speaker.specs.Right.{IsInTurn, is_refreshing}

-- the message names the route
abbrev pub mentions : Key → Message → Bool
mentions key (Updates u) = among u.announced key || among u.withdrawn key
mentions key Begins = false
mentions key Ends = false
mentions key Ignored = false

-- ---- longer readings

pub reading-append : (r : Reading) (ms ns : List Message) → reading_from r (ms ++ ns) ≡ reading_from (reading_from r ms) ns
reading-append r [] ns = refl
reading-append r (m ∷ ms) ns = reading-append (applied r m) ms ns

pub tables-append : (r : Reading) (ms ns : List Message) → tables_from r (ms ++ ns) ≡ tables_from r ms ++ tables_from (reading_from r ms) ns
tables-append r [] ns = refl
tables-append r (m ∷ ms) ns = ap (λ (ts : List Table). (applied r m).table ∷ ts) (tables-append (applied r m) ms ns)

pub values-append : (key : Key) (r : Reading) (ms ns : List Message) → values_at key (tables_from r (ms ++ ns)) ≡ values_at key (tables_from r ms) ++ values_at key (tables_from (reading_from r ms) ns)
values-append key r ms ns = ap (values_at key) (tables-append r ms ns) ∙ map-append (λ (table : Table). table key) (tables_from r ms) (tables_from (reading_from r ms) ns)

pub are-append : (P : Message → Type 0) (ms ns : List Message) → AreOf P ms → AreOf P ns → AreOf P (ms ++ ns)
are-append P [] ns h k = k
are-append P (m ∷ ms) ns h k = (h.0, are-append P ms ns h.1 k)

pub are-front : (P : Message → Type 0) (ms ns : List Message) → AreOf P (ms ++ ns) → AreOf P ms
are-front P [] ns h = tt
are-front P (m ∷ ms) ns h = (h.0, are-front P ms ns h.1)

pub count-append : (test : Message → Bool) (ms ns : List Message) → count_by test (ms ++ ns) ≡ count_by test ms + count_by test ns
count-append test ms ns = sum_by-append (λ m. if test m then 1 else 0) ms ns

pub count-none : (test : Message → Bool) (m : Message) (ms : List Message) → test m ≡ false → count_by test (m ∷ ms) ≡ count_by test ms
count-none test m ms none =
    let first : count_by test (m ∷ []) ≡ 0 = rw none refl in
    let parts = count-append test (m ∷ []) ms in omega arith

-- ---- marks

-- End-of-RIB came
abbrev pub has_ended : Bool → List Message → Bool
has_ended ended [] = ended
has_ended ended (Updates u ∷ ms) = has_ended (ended || says_nothing (Updates u)) ms
has_ended ended (Begins ∷ ms) = has_ended true ms
has_ended ended (Ends ∷ ms) = has_ended ended ms
has_ended ended (Ignored ∷ ms) = has_ended ended ms

pub in_turn-append :
    (r : Reading) (ended begun : Bool) (ms ns : List Message) → IsInTurn r ended begun ms → IsInTurn (reading_from r ms) (has_ended ended ms) (is_refreshing begun ms) ns
    → IsInTurn r ended begun (ms ++ ns)
in_turn-append r ended begun [] ns h k = k
in_turn-append r ended begun (Updates u ∷ ms) ns h k = in_turn-append (applied r (Updates u)) (ended || says_nothing (Updates u)) begun ms ns h k
in_turn-append r ended begun (Begins ∷ ms) ns h k =
    (h.0, in_turn-append (applied r Begins) ended true ms ns h.1 (subst (λ (b : Bool). IsInTurn (reading_from (applied r Begins) ms) (has_ended b ms) (is_refreshing true ms) ns) (sym h.0) k))
in_turn-append r ended begun (Ends ∷ ms) ns h k = (h.0, h.1, in_turn-append (applied r Ends) ended false ms ns h.2 k)
in_turn-append r ended begun (Ignored ∷ ms) ns h k = absurd h

pub in_turn-front : (r : Reading) (ended begun : Bool) (ms ns : List Message) → IsInTurn r ended begun (ms ++ ns) → IsInTurn r ended begun ms
in_turn-front r ended begun [] ns h = tt
in_turn-front r ended begun (Updates u ∷ ms) ns h = in_turn-front (applied r (Updates u)) (ended || says_nothing (Updates u)) begun ms ns h
in_turn-front r ended begun (Begins ∷ ms) ns h = (h.0, in_turn-front (applied r Begins) ended true ms ns h.1)
in_turn-front r ended begun (Ends ∷ ms) ns h = (h.0, h.1, in_turn-front (applied r Ends) ended false ms ns h.2)
in_turn-front r ended begun (Ignored ∷ ms) ns h = absurd h

pub refreshing-append : (begun : Bool) (ms ns : List Message) → is_refreshing begun (ms ++ ns) ≡ is_refreshing (is_refreshing begun ms) ns
refreshing-append begun [] ns = refl
refreshing-append begun (Updates u ∷ ms) ns = refreshing-append begun ms ns
refreshing-append begun (Begins ∷ ms) ns = refreshing-append true ms ns
refreshing-append begun (Ends ∷ ms) ns = refreshing-append false ms ns
refreshing-append begun (Ignored ∷ ms) ns = refreshing-append begun ms ns

pub ended-append : (ended : Bool) (ms ns : List Message) → has_ended ended (ms ++ ns) ≡ has_ended (has_ended ended ms) ns
ended-append ended [] ns = refl
ended-append ended (Updates u ∷ ms) ns = ended-append (ended || says_nothing (Updates u)) ms ns
ended-append ended (Begins ∷ ms) ns = ended-append true ms ns
ended-append ended (Ends ∷ ms) ns = ended-append ended ms ns
ended-append ended (Ignored ∷ ms) ns = ended-append ended ms ns
