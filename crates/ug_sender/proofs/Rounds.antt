-- What a wire holds after a round: packets of one turn, sent with one call, and then perhaps a session that begins.
use Rattle.std.proofs.Common.{◌≡◌, ℕ, ◌+◌, ◌≤◌, Bool, true, false, List, [], ◌∷◌, ◌++◌, length, map, Option, Some, None, refl, sym, ◌∙◌, ap, subst, arith, take, drop, append_assoc}
use Rattle.std.specs.Prelude.{◌==◌, ◌||◌}
use Rattle.std.specs.List.{concat}
use Rattle.std.proofs.lemmas.List.{append-nil, take-append-drop}
use Rattle.std.proofs.lemmas.Bool.{eqb-true, eq-eqb}
use Rattle.ug_edge.specs.Told.{Rose, onto_last, SendsPiece, BeginsSession}
use Rattle.ug_board.specs.Deeds.{Deed, Begins, Loses, losses, when}
use Rattle.ug_board.proofs.Folding.{sessions_of-append, losses-append}
use Rattle.ug_board.specs.Sessions.{sessions_of}
use Rattle.ug_sender.specs.declared.turn.Ending.{Ending}
use Rattle.ug_sender.specs.declared.turn.Ending.TheVariants.{Begun, Idle, Stop, More}
use Rattle.ug_sender.specs.declared.turn.Taken.{Taken}
use Rattle.ug_sender.specs.declared.sending.Went.{Went}
use Rattle.ug_sender.specs.declared.sending.Went.TheVariants.{Well, Ill}
use Rattle.ug_sender.specs.Courses.{Fate, Course, HoldsOf, HoldsAll, Holds, failures, failed, when_noted, noted, is_unnoted, has_unnoted, when_whole, open_session, fate_of, KeepsWire}
use Rattle.ug_sender.specs.Pieces.{SendsFront}
use Rattle.ug_sender.specs.Rounds.{Packet, hands, bytes_of, bytes_in, ending_deeds, begun_by, TellsTurn, SendsBy, BeginsBy, TellsWent, CountsFault, fate_after, still_open, open_after}
use Rattle.ug_sender.specs.Tellings.{TellsLoss}
use Rattle.ug_sender.proofs.Pieces.{with_piece, SendsPiece-with, piece-sent, nothing-sent, piece-apart}
use Rattle.ug_sender.proofs.Wires.{change_last, whole-at, was-whole, still-harmless, failures-most, failed-room, length-handed, closed-none, one-not-none, lost-sessions, lost-losses, begun-sessions, begun-kept, sent-well, sent-other}

-- A wire with these sessions holds what these deeds handed out.
pub Keeps : List (Deed (List ℕ)) → Option (List (List ℕ)) → ℕ → ℕ → Option ℕ → Bool → Type 0
Keeps ds told begun faults latest unnoted = (courses : List Course) × KeepsWire courses ds told begun faults latest unnoted

pub keeps : (courses : List Course) (ds : List (Deed (List ℕ))) (told : Option (List (List ℕ))) (begun faults : ℕ) (latest : Option ℕ) (unnoted : Bool)
    → KeepsWire courses ds told begun faults latest unnoted → Keeps ds told begun faults latest unnoted
unfolding Keeps
keeps courses ds told begun faults latest unnoted kept = (courses, kept)

pub courses_of : (ds : List (Deed (List ℕ))) (told : Option (List (List ℕ))) (begun faults : ℕ) (latest : Option ℕ) (unnoted : Bool) → Keeps ds told begun faults latest unnoted → List Course
unfolding Keeps
courses_of ds told begun faults latest unnoted kept = kept.0

pub kept_of : (ds : List (Deed (List ℕ))) (told : Option (List (List ℕ))) (begun faults : ℕ) (latest : Option ℕ) (unnoted : Bool) (kept : Keeps ds told begun faults latest unnoted)
    → KeepsWire (courses_of ds told begun faults latest unnoted kept) ds told begun faults latest unnoted
unfolding Keeps courses_of
kept_of ds told begun faults latest unnoted kept = kept.1

-- Packets are sent

other_one : (n m : ℕ) → (n == m) ≡ false → Some n ≡ Some m → ⊥
other_one n m is e = let same : n ≡ m = cc in let yes : (n == m) ≡ true = eq-eqb n m same in cc

one_by :
    (here : Bool) (n : ℕ) (packet : Packet) (ds : List (Deed (List ℕ))) (told told' : Option (List (List ℕ))) (begun faults : ℕ) (unnoted : Bool)
    → (n == packet.session) ≡ here → Keeps ds told begun faults (Some n) unnoted → SendsPiece told told' (when here packet.bytes)
    → Keeps (ds ++ hands (packet ∷ [])) told' begun faults (Some n) unnoted
unfolding Keeps
one_by true n packet ds told told' begun faults unnoted is kept sends = (
  _,
  sent-well kept.0 ds told begun faults (Some n) unnoted kept.1 packet.session packet.bytes _ told' begun faults
      (ap (λ m. Some m) (eqb-true n packet.session is)) refl sends refl refl,
)
one_by false n packet ds told told' begun faults unnoted is kept sends =
    let same : told' ≡ told = nothing-sent told told' sends in
    let other : Some n ≡ Some packet.session → ⊥ = λ e. other_one n packet.session is e in
    subst (λ t. Keeps (ds ++ hands (packet ∷ [])) t begun faults (Some n) unnoted) (sym same)
    (_, sent-other kept.0 ds told begun faults (Some n) unnoted kept.1 packet.session packet.bytes _ other refl)

-- the open session gets a packet, where it is its own
one-kept :
    (latest : Option ℕ) (packet : Packet) (ds : List (Deed (List ℕ))) (told told' : Option (List (List ℕ))) (begun faults : ℕ) (unnoted : Bool)
    → Keeps ds told begun faults latest unnoted → SendsPiece told told' (bytes_of latest packet)
    → Keeps (ds ++ hands (packet ∷ [])) told' begun faults latest unnoted
unfolding Keeps
one-kept None packet ds told told' begun faults unnoted kept sends =
    let same : told' ≡ told = nothing-sent told told' sends in
    let other : None ≡ Some packet.session → ⊥ = λ e. cc in
    subst (λ t. Keeps (ds ++ hands (packet ∷ [])) t begun faults None unnoted) (sym same)
    (_, sent-other kept.0 ds told begun faults None unnoted kept.1 packet.session packet.bytes _ other refl)
one-kept (Some n) packet ds told told' begun faults unnoted kept sends =
    one_by (n == packet.session) n packet ds told told' begun faults unnoted refl kept sends

pub packets-kept :
    (packets : List Packet) (latest : Option ℕ) (ds : List (Deed (List ℕ))) (told told' : Option (List (List ℕ))) (begun faults : ℕ) (unnoted : Bool)
    → Keeps ds told begun faults latest unnoted → SendsPiece told told' (bytes_in latest packets)
    → Keeps (ds ++ hands packets) told' begun faults latest unnoted
packets-kept [] latest ds told told' begun faults unnoted kept sends =
    subst (λ d. Keeps d told' begun faults latest unnoted) (sym (append-nil ds))
    (subst (λ t. Keeps ds t begun faults latest unnoted) (sym (nothing-sent told told' sends)) kept)
packets-kept (packet ∷ packets) latest ds told told' begun faults unnoted kept sends =
    let first = one-kept latest packet ds told (with_piece told (bytes_of latest packet)) begun faults unnoted kept (SendsPiece-with told (bytes_of latest packet)) in
    let rest = packets-kept packets latest (ds ++ hands (packet ∷ [])) (with_piece told (bytes_of latest packet)) told' begun faults unnoted first
    (piece-apart told told' (bytes_of latest packet) (bytes_in latest packets) sends) in
    subst (λ d. Keeps d told' begun faults latest unnoted) (append_assoc ds (hands (packet ∷ [])) (hands packets)) rest

-- A call fails: the open session holds a front of what was to be sent, and is lost.

-- a session that a call failed in
cut_course : Fate → Course → Course
cut_course fate c = record { session = c.session; fate = fate }

map-cut : (fate : Fate) (cs : List Course) → map (λ c. c.session) (change_last (cut_course fate) cs) ≡ map (λ c. c.session) cs
unfolding change_last cut_course
map-cut fate [] = refl
map-cut fate (c ∷ []) = refl
map-cut fate (c ∷ d ∷ cs) = ap (λ l. c.session ∷ l) (map-cut fate (d ∷ cs))

noted-cut : (n : ℕ) (fate : Fate) (cs : List Course) → open_session cs ≡ Some n → noted (change_last (cut_course fate) cs) ≡ noted cs ++ when_noted fate n
unfolding change_last cut_course
noted-cut n fate [] is = cc
noted-cut n fate (c ∷ []) is =
    let at = whole-at c.fate c.session.number n is in
    rw (at.1, at.0) (append-nil (when_noted fate n))
noted-cut n fate (c ∷ d ∷ cs) is =
    ap (λ l. when_noted c.fate c.session.number ++ l) (noted-cut n fate (d ∷ cs) is)
    ∙ sym (append_assoc (when_noted c.fate c.session.number) (noted (d ∷ cs)) (when_noted fate n))

failed-cut : (n : ℕ) (fate : Fate) (cs : List Course) → open_session cs ≡ Some n → failed (change_last (cut_course fate) cs) ≡ failed cs + failures fate
unfolding change_last cut_course
failed-cut n fate [] is = cc
failed-cut n fate (c ∷ []) is =
    let at = whole-at c.fate c.session.number n is in
    let none : failures c.fate ≡ 0 = ap failures at.0 in omega arith
failed-cut n fate (c ∷ d ∷ cs) is = let rest = failed-cut n fate (d ∷ cs) is in omega arith

or-none : (a : Bool) → (a || false) ≡ a
or-none true = refl
or-none false = refl

or-apart : (a b c : Bool) → (a || (b || c)) ≡ ((a || b) || c)
or-apart true b c = refl
or-apart false b c = refl

unnoted-cut : (n : ℕ) (fate : Fate) (cs : List Course) → open_session cs ≡ Some n → has_unnoted (change_last (cut_course fate) cs) ≡ (has_unnoted cs || is_unnoted fate)
unfolding change_last cut_course
unnoted-cut n fate [] is = cc
unnoted-cut n fate (c ∷ []) is =
    let at = whole-at c.fate c.session.number n is in
    or-none (is_unnoted fate) ∙ ap (λ b. (b || false) || is_unnoted fate) (sym (ap is_unnoted at.0))
unnoted-cut n fate (c ∷ d ∷ cs) is =
    ap (λ b. is_unnoted c.fate || b) (unnoted-cut n fate (d ∷ cs) is) ∙ or-apart (is_unnoted c.fate) (has_unnoted (d ∷ cs)) (is_unnoted fate)

open-cut : (n : ℕ) (fate : Fate) (cs : List Course) → open_session cs ≡ Some n → open_session (change_last (cut_course fate) cs) ≡ when_whole fate n
unfolding change_last cut_course
open-cut n fate [] is = cc
open-cut n fate (c ∷ []) is = let at = whole-at c.fate c.session.number n is in ap (when_whole fate) at.1
open-cut n fate (c ∷ d ∷ []) is = open-cut n fate (d ∷ []) is
open-cut n fate (c ∷ d ∷ e ∷ cs) is = open-cut n fate (d ∷ e ∷ cs) is

holds-cut :
    (noted : Bool) (handed : List (List ℕ)) (s b : List ℕ) (k : ℕ) → (s ++ b) ≡ concat handed → HoldsOf (fate_of noted) handed (s ++ take k b)
holds-cut true handed s b k whole =
    record { rest = drop k b; parts = sym whole ∙ (ap (λ y. s ++ y) (sym (take-append-drop k b)) ∙ sym (append_assoc s (take k b) (drop k b))) }
holds-cut false handed s b k whole =
    record { rest = drop k b; parts = sym whole ∙ (ap (λ y. s ++ y) (sym (take-append-drop k b)) ∙ sym (append_assoc s (take k b) (drop k b))) }

all-cut :
    (n : ℕ) (noted : Bool) (b : List ℕ) (k : ℕ) (cs : List Course) (sessions : List (List ℕ))
    → open_session cs ≡ Some n → HoldsAll cs (onto_last b sessions)
    → HoldsAll (change_last (cut_course (fate_of noted)) cs) (onto_last (take k b) sessions)
unfolding change_last cut_course
all-cut n noted b k [] sessions is all = cc
all-cut n noted b k (c ∷ []) [] is all = absurd all
all-cut n noted b k (c ∷ []) (s ∷ []) is all =
    let at = whole-at c.fate c.session.number n is in
    (holds-cut noted c.session.handed s b k (was-whole c.fate c.session.handed (s ++ b) at.0 all.0), tt)
all-cut n noted b k (c ∷ []) (s ∷ t ∷ []) is all = absurd all.1
all-cut n noted b k (c ∷ []) (s ∷ t ∷ u ∷ sessions) is all = absurd all.1
all-cut n noted b k (c ∷ d ∷ cs) [] is all = absurd all
all-cut n noted b k (c ∷ d ∷ cs) (s ∷ []) is all = absurd all.1
all-cut n noted b k (c ∷ d ∷ cs) (s ∷ t ∷ sessions) is all = (all.0, all-cut n noted b k (d ∷ cs) (t ∷ sessions) is all.1)

told-cut :
    (n : ℕ) (noted : Bool) (b : List ℕ) (k : ℕ) (cs : List Course) (old new : Option (List (List ℕ)))
    → open_session cs ≡ Some n → Holds cs (with_piece old b) → SendsPiece old new (take k b)
    → Holds (change_last (cut_course (fate_of noted)) cs) new
unfolding with_piece
told-cut n noted b k cs None None is all sends = tt
told-cut n noted b k cs None (Some new) is all sends = absurd sends
told-cut n noted b k cs (Some old) None is all sends = absurd sends
told-cut n noted b k cs (Some old) (Some new) is all sends =
    subst (λ s. HoldsAll (change_last (cut_course (fate_of noted)) cs) s) (sym sends) (all-cut n noted b k cs old is all)

cut-kept :
    (noted : Bool) (n : ℕ) (b : List ℕ) (ds ds' : List (Deed (List ℕ))) (told told' : Option (List (List ℕ)))
    (begun begun' faults faults' : ℕ) (unnoted : Bool)
    → Keeps ds (with_piece told b) begun faults (Some n) unnoted
    → SendsFront told told' b → begun' ≡ begun → Rose faults faults' → faults ≤ faults'
    → TellsLoss noted n ds ds'
    → Keeps ds' told' begun' faults' None (unnoted || is_unnoted (fate_of noted))
unfolding Keeps
cut-kept noted n b ds ds' told told' begun begun' faults faults' unnoted keeps_it sends counted rose grew tells =
    let cs = keeps_it.0 in
    let kept = keeps_it.1 in
    let fate = fate_of noted in
    let at : open_session cs ≡ Some n = sym kept.latest in
    let c = kept.begun in
    let m = kept.numbered in
    let none : failures fate ≡ 0 → faults' ≡ faults = λ is. absurd (one-not-none noted is) in
    let room : failed cs + failures fate ≤ faults' = failed-room cs (failures fate) faults faults' kept.faults (omega arith) (failures-most fate) grew rose in (
      change_last (cut_course fate) cs,
      record {
        sessions = map-cut fate cs ∙ (kept.sessions ∙ sym (lost-sessions noted n ds ds' tells));
        noted_losses = noted-cut n fate cs at ∙ (ap (λ l. l ++ when_noted fate n) kept.noted_losses ∙ sym (lost-losses noted n ds ds' tells));
        begun = omega (arith, length-handed (cut_course fate) cs);
        numbered = omega arith;
        bytes = told-cut n noted b sends.0 cs told told' at kept.bytes sends.2;
        faults = omega (arith, failed-cut n fate cs at);
        harmless = still-harmless cs fate (failed (change_last (cut_course fate) cs)) faults faults' kept.harmless none (failed-cut n fate cs at);
        latest = sym (open-cut n fate cs at ∙ closed-none noted n);
        unnoted = ap (λ u. u || is_unnoted fate) kept.unnoted ∙ sym (unnoted-cut n fate cs at);
      },
    )

-- A round

-- the loss of a session, where it is an entry
lost_deeds : Went → Option ℕ → List (Deed (List ℕ))
lost_deeds Well session = []
lost_deeds (Ill noted) None = []
lost_deeds (Ill true) (Some session) = Loses session ∷ []
lost_deeds (Ill false) (Some session) = []

lost-grown : (went : Went) (session : Option ℕ) (ds ds' : List (Deed (List ℕ))) → TellsWent went session ds ds' → ds' ≡ ds ++ lost_deeds went session
unfolding lost_deeds
lost-grown Well session ds ds' tells = tells ∙ sym (append-nil ds)
lost-grown (Ill noted) None ds ds' tells = absurd tells
lost-grown (Ill true) (Some session) ds ds' tells = tells
lost-grown (Ill false) (Some session) ds ds' tells = tells ∙ sym (append-nil ds)

sessions-lost : (went : Went) (session : Option ℕ) (ds : List (Deed (List ℕ))) → sessions_of (ds ++ lost_deeds went session) ≡ sessions_of ds
unfolding lost_deeds
sessions-lost Well session ds = ap sessions_of (append-nil ds)
sessions-lost (Ill noted) None ds = ap sessions_of (append-nil ds)
sessions-lost (Ill true) (Some session) ds = sessions_of-append ds (Loses session ∷ [])
sessions-lost (Ill false) (Some session) ds = ap sessions_of (append-nil ds)

losses-lost : (went : Went) (session : ℕ) (ds : List (Deed (List ℕ))) → losses (ds ++ lost_deeds went (Some session)) ≡ losses ds ++ when_noted (fate_after went) session
unfolding lost_deeds
losses-lost Well session ds = losses-append ds []
losses-lost (Ill true) session ds = losses-append ds (Loses session ∷ [])
losses-lost (Ill false) session ds = losses-append ds []

losses-last : (a b c d : List (Deed (List ℕ))) → losses b ≡ [] → losses ((a ++ b) ++ c) ≡ losses (a ++ c)
losses-last a b c d none =
    losses-append (a ++ b) c
    ∙ (ap (λ l. l ++ losses c) (losses-append a b ∙ (ap (λ l. losses a ++ l) none ∙ append-nil (losses a)))
    ∙ sym (losses-append a c))

-- the packets of a turn are sent, or as much of them as the wire took
sent-round :
    (went : Went) (latest : Option ℕ) (b : List ℕ) (ds : List (Deed (List ℕ))) (told told' : Option (List (List ℕ)))
    (begun begun' faults faults' : ℕ) (unnoted : Bool)
    → Keeps ds (with_piece told b) begun faults latest unnoted
    → SendsBy went told told' b → begun' ≡ begun → CountsFault went faults faults'
    → TellsWent went latest ds (ds ++ lost_deeds went latest)
    → Keeps (ds ++ lost_deeds went latest) told' begun' faults' (still_open went latest) (unnoted || is_unnoted (fate_after went))
unfolding lost_deeds
sent-round Well latest b ds told told' begun begun' faults faults' unnoted kept sends counted count tells =
    subst (λ d. Keeps d told' begun' faults' latest (unnoted || false)) (sym (append-nil ds))
    (subst (λ u. Keeps ds told' begun' faults' latest u) (sym (or-none unnoted))
    (subst (λ t. Keeps ds t begun' faults' latest unnoted) (sym (piece-sent told told' b sends))
    (subst (λ n. Keeps ds (with_piece told b) n faults' latest unnoted) (sym counted)
    (subst (λ n. Keeps ds (with_piece told b) begun n latest unnoted) (sym count) kept))))
sent-round (Ill noted) None b ds told told' begun begun' faults faults' unnoted kept sends counted count tells = absurd tells
sent-round (Ill noted) (Some n) b ds told told' begun begun' faults faults' unnoted kept sends counted count tells =
    cut-kept noted n b ds (ds ++ lost_deeds (Ill noted) (Some n)) told told' begun begun' faults faults' unnoted kept sends counted count.0 count.1 tells

tells-lost : (went : Went) (latest : Option ℕ) (ds ds' other : List (Deed (List ℕ))) → TellsWent went latest ds ds' → TellsWent went latest other (other ++ lost_deeds went latest)
unfolding lost_deeds
tells-lost Well latest ds ds' other tells = append-nil other
tells-lost (Ill noted) None ds ds' other tells = absurd tells
tells-lost (Ill true) (Some n) ds ds' other tells = refl
tells-lost (Ill false) (Some n) ds ds' other tells = append-nil other

-- no session begins: the call that would begin one is not made
same-round :
    (went begun : Went) (latest : Option ℕ) (b : List ℕ) (ds ds' : List (Deed (List ℕ))) (told1 told2 : Option (List (List ℕ)))
    (begun1 begun2 faults1 faults2 : ℕ) (still : Option ℕ) (u : Bool)
    → Keeps ds told1 begun1 faults1 still u
    → (told2 ≡ told1) × (begun2 ≡ begun1) → CountsFault begun faults1 faults2 → TellsWent begun None ds ds'
    → Keeps ds' told2 begun2 faults2 still (u || is_unnoted (fate_after begun))
same-round went Well latest b ds ds' told1 told2 begun1 begun2 faults1 faults2 still u kept same count tells =
    subst (λ d. Keeps d told2 begun2 faults2 still (u || false)) (sym tells)
    (subst (λ x. Keeps ds told2 begun2 faults2 still x) (sym (or-none u))
    (subst (λ t. Keeps ds t begun2 faults2 still u) (sym same.0)
    (subst (λ n. Keeps ds told1 n faults2 still u) (sym same.1)
    (subst (λ n. Keeps ds told1 begun1 n still u) (sym count) kept))))
same-round went (Ill noted) latest b ds ds' told1 told2 begun1 begun2 faults1 faults2 still u kept same count tells = absurd tells

count-well : (went : Went) (faults faults' : ℕ) → CountsFault went faults faults' → failures (fate_after went) ≡ 0 → faults' ≡ faults
count-well Well faults faults' count is = count
count-well (Ill noted) faults faults' count is = absurd (one-not-none noted is)

count-room :
    (went : Went) (cs : List Course) (faults faults' : ℕ) → failed cs ≤ faults → length cs ≤ 4294967295 → CountsFault went faults faults'
    → failed cs + failures (fate_after went) ≤ faults'
count-room Well cs faults faults' was short count = omega arith
count-room (Ill noted) cs faults faults' was short count =
    failed-room cs (failures (fate_of noted)) faults faults' was short (failures-most (fate_of noted)) count.1 count.0

open-begun : (went : Went) (n : ℕ) → when_whole (fate_after went) n ≡ still_open went (Some n)
open-begun Well n = refl
open-begun (Ill noted) n = closed-none noted n

-- a session begins
begin-round :
    (went : Went) (n : ℕ) (ds ds' : List (Deed (List ℕ))) (told told' : Option (List (List ℕ))) (begun begun' faults faults' : ℕ)
    (latest : Option ℕ) (unnoted : Bool)
    → Keeps ds told begun faults latest unnoted
    → sessions_of ds' ≡ sessions_of ds ++ record { number = n; handed = [] } ∷ []
    → losses ds' ≡ losses ds ++ when_noted (fate_after went) n
    → BeginsSession told told' → begun' ≡ begun + 1 → begun' ≤ 4294967295 → CountsFault went faults faults'
    → Keeps ds' told' begun' faults' (still_open went (Some n)) (unnoted || is_unnoted (fate_after went))
unfolding Keeps
begin-round went n ds ds' told told' begun begun' faults faults' latest unnoted keeps_it sessions lost begins_it counted short count =
    let cs = keeps_it.0 in
    let kept = keeps_it.1 in
    let c = kept.begun in
    let m = kept.numbered in
    subst (λ o. Keeps ds' told' begun' faults' o (unnoted || is_unnoted (fate_after went))) (open-begun went n) (
      _,
      begun-kept (fate_after went) n cs ds ds' told told' begun begun' faults faults' latest unnoted kept sessions lost begins_it counted short
          (count-room went cs faults faults' kept.faults (omega arith) count) (count-well went faults faults' count),
    )

-- the deeds of a turn whose session begins, and of its losses
begun-round-sessions :
    (a l1 l2 : List (Deed (List ℕ))) (n : ℕ)
    → ((d : List (Deed (List ℕ))) → sessions_of (d ++ l1) ≡ sessions_of d) → ((d : List (Deed (List ℕ))) → sessions_of (d ++ l2) ≡ sessions_of d)
    → sessions_of (((a ++ Begins n ∷ []) ++ l1) ++ l2) ≡ sessions_of (a ++ l1) ++ record { number = n; handed = [] } ∷ []
begun-round-sessions a l1 l2 n none1 none2 =
    none2 ((a ++ Begins n ∷ []) ++ l1) ∙ (none1 (a ++ Begins n ∷ [])
    ∙ (begun-sessions n a (a ++ Begins n ∷ []) refl ∙ ap (λ l. l ++ record { number = n; handed = [] } ∷ []) (sym (none1 a))))

round-by :
    (ending : Ending) (sent begun : Went) (latest : Option ℕ) (b : List ℕ) (ds0 ds1 ds2 ds3 : List (Deed (List ℕ)))
    (told0 told1 told2 : Option (List (List ℕ))) (begun0 begun1 begun2 faults0 faults1 faults2 : ℕ) (unnoted : Bool)
    → Keeps ds0 (with_piece told0 b) begun0 faults0 latest unnoted
    → ds1 ≡ ds0 ++ ending_deeds ending
    → SendsBy sent told0 told1 b → begun1 ≡ begun0 → CountsFault sent faults0 faults1 → TellsWent sent latest ds1 ds2
    → BeginsBy ending told1 begun1 told2 begun2 → CountsFault begun faults1 faults2 → TellsWent begun (begun_by ending) ds2 ds3
    → Keeps ds3 told2 begun2 faults2 (open_after latest ending sent begun) ((unnoted || is_unnoted (fate_after sent)) || is_unnoted (fate_after begun))
round-by (Begun n) sent begun latest b ds0 ds1 ds2 ds3 told0 told1 told2 begun0 begun1 begun2 faults0 faults1 faults2 unnoted kept grown sends counted1 count1 tells1 begins_it count2 tells2 =
    let l1 = lost_deeds sent latest in
    let l2 = lost_deeds begun (Some n) in
    let mid = sent-round sent latest b ds0 told0 told1 begun0 begun1 faults0 faults1 unnoted kept sends counted1 count1 (tells-lost sent latest ds1 ds2 ds0 tells1) in
    let is2 : ds2 ≡ (ds0 ++ Begins n ∷ []) ++ l1 = lost-grown sent latest ds1 ds2 tells1 ∙ ap (λ d. d ++ l1) grown in
    let is3 : ds3 ≡ ((ds0 ++ Begins n ∷ []) ++ l1) ++ l2 = lost-grown begun (Some n) ds2 ds3 tells2 ∙ ap (λ d. d ++ l2) is2 in
    let more : losses ds3 ≡ losses (ds0 ++ l1) ++ when_noted (fate_after begun) n =
    ap losses is3 ∙ (losses-lost begun n ((ds0 ++ Begins n ∷ []) ++ l1) ∙ ap (λ l. l ++ when_noted (fate_after begun) n) (losses-last ds0 (Begins n ∷ []) l1 [] refl)) in
    begin-round begun n (ds0 ++ l1) ds3 told1 told2 begun1 begun2 faults1 faults2 (still_open sent latest) (unnoted || is_unnoted (fate_after sent)) mid
    (ap sessions_of is3 ∙ begun-round-sessions ds0 l1 l2 n (sessions-lost sent latest) (sessions-lost begun (Some n)))
    more begins_it.0 begins_it.1 begins_it.2 count2
round-by Idle sent begun latest b ds0 ds1 ds2 ds3 told0 told1 told2 begun0 begun1 begun2 faults0 faults1 faults2 unnoted kept grown sends counted1 count1 tells1 begins_it count2 tells2 =
    let mid = sent-round sent latest b ds0 told0 told1 begun0 begun1 faults0 faults1 unnoted kept sends counted1 count1 (tells-lost sent latest ds1 ds2 ds0 tells1) in
    let is2 : ds2 ≡ ds0 ++ lost_deeds sent latest = lost-grown sent latest ds1 ds2 tells1 ∙ ap (λ d. d ++ lost_deeds sent latest) (grown ∙ append-nil ds0) in
    same-round sent begun latest b ds2 ds3 told1 told2 begun1 begun2 faults1 faults2 (still_open sent latest) (unnoted || is_unnoted (fate_after sent))
    (subst (λ d. Keeps d told1 begun1 faults1 (still_open sent latest) (unnoted || is_unnoted (fate_after sent))) (sym is2) mid) begins_it count2 tells2
round-by Stop sent begun latest b ds0 ds1 ds2 ds3 told0 told1 told2 begun0 begun1 begun2 faults0 faults1 faults2 unnoted kept grown sends counted1 count1 tells1 begins_it count2 tells2 =
    let mid = sent-round sent latest b ds0 told0 told1 begun0 begun1 faults0 faults1 unnoted kept sends counted1 count1 (tells-lost sent latest ds1 ds2 ds0 tells1) in
    let is2 : ds2 ≡ ds0 ++ lost_deeds sent latest = lost-grown sent latest ds1 ds2 tells1 ∙ ap (λ d. d ++ lost_deeds sent latest) (grown ∙ append-nil ds0) in
    same-round sent begun latest b ds2 ds3 told1 told2 begun1 begun2 faults1 faults2 (still_open sent latest) (unnoted || is_unnoted (fate_after sent))
    (subst (λ d. Keeps d told1 begun1 faults1 (still_open sent latest) (unnoted || is_unnoted (fate_after sent))) (sym is2) mid) begins_it count2 tells2
round-by More sent begun latest b ds0 ds1 ds2 ds3 told0 told1 told2 begun0 begun1 begun2 faults0 faults1 faults2 unnoted kept grown sends counted1 count1 tells1 begins_it count2 tells2 =
    let mid = sent-round sent latest b ds0 told0 told1 begun0 begun1 faults0 faults1 unnoted kept sends counted1 count1 (tells-lost sent latest ds1 ds2 ds0 tells1) in
    let is2 : ds2 ≡ ds0 ++ lost_deeds sent latest = lost-grown sent latest ds1 ds2 tells1 ∙ ap (λ d. d ++ lost_deeds sent latest) (grown ∙ append-nil ds0) in
    same-round sent begun latest b ds2 ds3 told1 told2 begun1 begun2 faults1 faults2 (still_open sent latest) (unnoted || is_unnoted (fate_after sent))
    (subst (λ d. Keeps d told1 begun1 faults1 (still_open sent latest) (unnoted || is_unnoted (fate_after sent))) (sym is2) mid) begins_it count2 tells2

-- what a wire holds after a round
pub round-kept :
    (cs : List Course) (taken : Taken) (buf : List ℕ) (sent begun : Went) (latest : Option ℕ) (ds0 ds1 ds2 ds3 : List (Deed (List ℕ)))
    (told0 told1 told2 : Option (List (List ℕ))) (begun0 begun1 begun2 faults0 faults1 faults2 : ℕ) (unnoted : Bool)
    → KeepsWire cs ds0 told0 begun0 faults0 latest unnoted
    → TellsTurn latest taken buf ds0 ds1
    → SendsBy sent told0 told1 (take taken.filled buf) → begun1 ≡ begun0 → CountsFault sent faults0 faults1 → TellsWent sent latest ds1 ds2
    → BeginsBy taken.ending told1 begun1 told2 begun2 → CountsFault begun faults1 faults2 → TellsWent begun (begun_by taken.ending) ds2 ds3
    → Keeps ds3 told2 begun2 faults2 (open_after latest taken.ending sent begun) ((unnoted || is_unnoted (fate_after sent)) || is_unnoted (fate_after begun))
round-kept cs taken buf sent begun latest ds0 ds1 ds2 ds3 told0 told1 told2 begun0 begun1 begun2 faults0 faults1 faults2 unnoted kept turn sends counted1 count1 tells1 begins_it count2 tells2 =
    let b = bytes_in latest turn.packets in
    let full = packets-kept turn.packets latest ds0 told0 (with_piece told0 b) begun0 faults0 unnoted (keeps cs ds0 told0 begun0 faults0 latest unnoted kept) (SendsPiece-with told0 b) in
    let grown : ds1 ≡ (ds0 ++ hands turn.packets) ++ ending_deeds taken.ending =
    turn.grown ∙ sym (append_assoc ds0 (hands turn.packets) (ending_deeds taken.ending)) in
    round-by taken.ending sent begun latest b (ds0 ++ hands turn.packets) ds1 ds2 ds3 told0 told1 told2 begun0 begun1 begun2 faults0 faults1 faults2 unnoted full grown
    (subst (λ m. SendsBy sent told0 told1 m) turn.bytes sends) counted1 count1 tells1 begins_it count2 tells2
