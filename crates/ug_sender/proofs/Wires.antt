-- What a wire holds of what was handed out, as calls are made on it.
use Rattle.std.proofs.Common.{◌≡◌, ℕ, ◌+◌, ◌<◌, ◌≤◌, Bool, true, false, List, [], ◌∷◌, ◌++◌, length, map, Option, Some, None, refl, sym, ◌∙◌, ap, subst, arith, inl, inr, take, drop, length-append, append_assoc}
use Rattle.std.specs.Prelude.{◌==◌, ◌||◌}
use Rattle.std.specs.List.{concat}
use Rattle.std.proofs.lemmas.List.{append-nil, length-map, take-append-drop}
use Rattle.std.proofs.lemmas.List.Folds.{concat-append}
use Rattle.std.proofs.lemmas.Bool.{eq-eqb, eqb-true}
use Rattle.ug_edge.specs.Told.{Rose, onto_last, SendsPiece, BeginsSession, IsFresh}
use Rattle.ug_board.specs.Deeds.{Deed, Begins, Hands, Loses, begins, losses}
use Rattle.ug_board.proofs.Folding.{sessions_of-append, losses-append, length-sessions_of}
use Rattle.ug_board.specs.Sessions.{Session, with_item, hand_last, sessions_of}
use Rattle.ug_sender.specs.Courses.{Fate, Whole, Noted, Unnoted, Course, IsFront, HoldsOf, HoldsAll, Holds, failures, failed, when_noted, noted, is_unnoted, has_unnoted, when_whole, open_session, fate_of, KeepsWire}
use Rattle.ug_sender.specs.Pieces.{SendsFront}
use Rattle.ug_sender.specs.Tellings.{TellsLoss}

-- the courses with the last one changed
unfoldable pub change_last : (Course → Course) → List Course → List Course
change_last f [] = []
change_last f (c ∷ []) = f c ∷ []
change_last f (c ∷ d ∷ cs) = c ∷ change_last f (d ∷ cs)

-- a session that begins
pub begun_course : ℕ → Fate → Course
begun_course n fate = record { session = record { number = n; handed = [] }; fate = fate }

-- a course in which something more is handed out
pub handed_course : ℕ → List ℕ → (Fate → Fate) → Course → Course
handed_course n x fate c = record { session = with_item n x c.session; fate = fate c.fate }

-- A session that begins

length-begun : (cs : List Course) (c : Course) → length (cs ++ c ∷ []) ≡ length cs + 1
length-begun cs c = length-append cs (c ∷ [])

map-begun : (cs : List Course) (c : Course) → map (λ c. c.session) (cs ++ c ∷ []) ≡ map (λ c. c.session) cs ++ c.session ∷ []
map-begun [] c = refl
map-begun (d ∷ cs) c = ap (λ l. d.session ∷ l) (map-begun cs c)

noted-begun : (cs : List Course) (c : Course) → noted (cs ++ c ∷ []) ≡ noted cs ++ when_noted c.fate c.session.number
noted-begun [] c = append-nil (when_noted c.fate c.session.number)
noted-begun (d ∷ cs) c =
    ap (λ l. when_noted d.fate d.session.number ++ l) (noted-begun cs c)
    ∙ sym (append_assoc (when_noted d.fate d.session.number) (noted cs) (when_noted c.fate c.session.number))

failed-begun : (cs : List Course) (c : Course) → failed (cs ++ c ∷ []) ≡ failed cs + failures c.fate
failed-begun [] c = omega arith
failed-begun (d ∷ cs) c = let rest = failed-begun cs c in omega arith

or-assoc : (a b c : Bool) → (a || (b || c)) ≡ ((a || b) || c)
or-assoc true b c = refl
or-assoc false b c = refl

pub or-false : (a : Bool) → (a || false) ≡ a
or-false true = refl
or-false false = refl

unnoted-begun : (cs : List Course) (c : Course) → has_unnoted (cs ++ c ∷ []) ≡ (has_unnoted cs || is_unnoted c.fate)
unnoted-begun [] c = or-false (is_unnoted c.fate)
unnoted-begun (d ∷ cs) c =
    ap (λ b. is_unnoted d.fate || b) (unnoted-begun cs c) ∙ or-assoc (is_unnoted d.fate) (has_unnoted cs) (is_unnoted c.fate)

open-begun : (cs : List Course) (c : Course) → open_session (cs ++ c ∷ []) ≡ when_whole c.fate c.session.number
open-begun [] c = refl
open-begun (d ∷ []) c = refl
open-begun (d ∷ e ∷ cs) c = open-begun (e ∷ cs) c

holds-nothing : (n : ℕ) (fate : Fate) → HoldsOf (begun_course n fate).fate (begun_course n fate).session.handed []
unfolding begun_course
holds-nothing n Whole = refl
holds-nothing n Noted = record { rest = []; parts = refl }
holds-nothing n Unnoted = record { rest = []; parts = refl }

all-begun :
    (cs : List Course) (n : ℕ) (fate : Fate) (sessions : List (List ℕ))
    → HoldsAll cs sessions → HoldsAll (cs ++ begun_course n fate ∷ []) (sessions ++ [] ∷ [])
all-begun [] n fate [] all = (holds-nothing n fate, tt)
all-begun [] n fate (s ∷ sessions) all = absurd all
all-begun (c ∷ cs) n fate [] all = absurd all
all-begun (c ∷ cs) n fate (s ∷ sessions) all = (all.0, all-begun cs n fate sessions all.1)

holds-begun :
    (cs : List Course) (n : ℕ) (fate : Fate) (old new : Option (List (List ℕ)))
    → Holds cs old → BeginsSession old new → Holds (cs ++ begun_course n fate ∷ []) new
holds-begun cs n fate None None all begins = tt
holds-begun cs n fate None (Some new) all begins = absurd begins
holds-begun cs n fate (Some old) None all begins = absurd begins
holds-begun cs n fate (Some old) (Some new) all begins =
    subst (λ s. HoldsAll (cs ++ begun_course n fate ∷ []) s) (sym begins) (all-begun cs n fate old all)

pub failures-most : (fate : Fate) → failures fate ≤ 1
failures-most Whole = omega arith
failures-most Noted = omega arith
failures-most Unnoted = omega arith

failed-most : (cs : List Course) → failed cs ≤ length cs
failed-most [] = omega arith
failed-most (c ∷ cs) = let rest = failed-most cs in let one = failures-most c.fate in omega arith

-- where the count of faults rose, one session more may have failed
pub failed-room :
    (cs : List Course) (more before after : ℕ) → failed cs ≤ before → length cs ≤ 4294967295 → more ≤ 1 → before ≤ after → Rose before after → failed cs + more ≤ after
failed-room cs more before after was short one grew (inl rose) = omega arith
failed-room cs more before after was short one grew (inr full) = let most = failed-most cs in omega arith

-- a wire whose sessions went well has no faults still, where the call added none
pub still-harmless :
    (cs : List Course) (fate : Fate) (failed' faults faults' : ℕ)
    → (failed cs ≡ 0 → faults ≡ 0) → (failures fate ≡ 0 → faults' ≡ faults) → failed' ≡ failed cs + failures fate → failed' ≡ 0 → faults' ≡ 0
still-harmless cs fate failed' faults faults' was unharmed grown none =
    let no_more : failures fate ≡ 0 = omega arith in
    let none_before : failed cs ≡ 0 = omega arith in
    unharmed no_more ∙ was none_before

-- a session begins, and the call went well or not
pub begun-kept :
    (fate : Fate) (n : ℕ) (cs : List Course) (ds ds' : List (Deed (List ℕ))) (told told' : Option (List (List ℕ)))
    (begun begun' faults faults' : ℕ) (latest : Option ℕ) (unnoted : Bool)
    → KeepsWire cs ds told begun faults latest unnoted
    → sessions_of ds' ≡ sessions_of ds ++ record { number = n; handed = [] } ∷ []
    → losses ds' ≡ losses ds ++ when_noted fate n
    → BeginsSession told told' → begun' ≡ begun + 1 → begun' ≤ 4294967295
    → failed cs + failures fate ≤ faults' → (failures fate ≡ 0 → faults' ≡ faults)
    → KeepsWire (cs ++ begun_course n fate ∷ []) ds' told' begun' faults' (when_whole fate n) (unnoted || is_unnoted fate)
unfolding begun_course
begun-kept fate n cs ds ds' told told' begun begun' faults faults' latest unnoted kept sessions lost begins counted short room unharmed =
    let c = begun_course n fate in
    let b = kept.begun in
    record {
      sessions = map-begun cs c ∙ (ap (λ l. l ++ record { number = n; handed = [] } ∷ []) kept.sessions ∙ sym sessions);
      noted_losses = noted-begun cs c ∙ (ap (λ l. l ++ when_noted fate n) kept.noted_losses ∙ sym lost);
      begun = omega (arith, length-begun cs c);
      numbered = short;
      bytes = holds-begun cs n fate told told' kept.bytes begins;
      faults = omega (arith, failed-begun cs c);
      harmless = still-harmless cs fate (failed (cs ++ begun_course n fate ∷ [])) faults faults' kept.harmless unharmed (failed-begun cs c);
      latest = sym (open-begun cs c);
      unnoted = ap (λ b. b || is_unnoted fate) kept.unnoted ∙ sym (unnoted-begun cs c);
    }

-- Something is handed out

with_item-here : (n : ℕ) (x : List ℕ) (s : Session (List ℕ)) → s.number ≡ n → with_item n x s ≡ record { number = s.number; handed = s.handed ++ x ∷ [] }
with_item-here n x s here = rw (eq-eqb s.number n here) refl

with_item-number_by : (b : Bool) (n : ℕ) (x : List ℕ) (s : Session (List ℕ)) → (s.number == n) ≡ b → (with_item n x s).number ≡ s.number
with_item-number_by true n x s is = rw is refl
with_item-number_by false n x s is = rw is refl

with_item-number : (n : ℕ) (x : List ℕ) (s : Session (List ℕ)) → (with_item n x s).number ≡ s.number
with_item-number n x s = with_item-number_by (s.number == n) n x s refl

pub length-handed : (f : Course → Course) (cs : List Course) → length (change_last f cs) ≡ length cs
unfolding change_last
length-handed f [] = refl
length-handed f (c ∷ []) = refl
length-handed f (c ∷ d ∷ cs) = let rest = length-handed f (d ∷ cs) in omega arith

map-handed :
    (n : ℕ) (x : List ℕ) (fate : Fate → Fate) (cs : List Course)
    → map (λ c. c.session) (change_last (handed_course n x fate) cs) ≡ hand_last n x (map (λ c. c.session) cs)
unfolding change_last handed_course
map-handed n x fate [] = refl
map-handed n x fate (c ∷ []) = refl
map-handed n x fate (c ∷ d ∷ cs) = ap (λ l. c.session ∷ l) (map-handed n x fate (d ∷ cs))

-- what is known of the last of the courses, where a session is open
IsWholeAt : ℕ → Course → Type 0
IsWholeAt n c = (c.fate ≡ Whole) × (c.session.number ≡ n)

pub whole-at : (fate : Fate) (number n : ℕ) → when_whole fate number ≡ Some n → (fate ≡ Whole) × (number ≡ n)
whole-at Whole number n is = (refl, cc)
whole-at Noted number n is = cc
whole-at Unnoted number n is = cc

-- the open session, with the fate that it has now
noted-closed :
    (n : ℕ) (x : List ℕ) (fate : Fate) (cs : List Course) → open_session cs ≡ Some n
    → noted (change_last (handed_course n x (λ _. fate)) cs) ≡ noted cs ++ when_noted fate n
unfolding change_last handed_course
noted-closed n x fate [] is = cc
noted-closed n x fate (c ∷ []) is =
    let at = whole-at c.fate c.session.number n is in
    let number : (with_item n x c.session).number ≡ n = with_item-number n x c.session ∙ at.1 in
    rw (number, at.0) (append-nil (when_noted fate n))
noted-closed n x fate (c ∷ d ∷ cs) is =
    ap (λ l. when_noted c.fate c.session.number ++ l) (noted-closed n x fate (d ∷ cs) is)
    ∙ sym (append_assoc (when_noted c.fate c.session.number) (noted (d ∷ cs)) (when_noted fate n))

failed-closed :
    (n : ℕ) (x : List ℕ) (fate : Fate) (cs : List Course) → open_session cs ≡ Some n
    → failed (change_last (handed_course n x (λ _. fate)) cs) ≡ failed cs + failures fate
unfolding change_last handed_course
failed-closed n x fate [] is = cc
failed-closed n x fate (c ∷ []) is =
    let at = whole-at c.fate c.session.number n is in
    let none : failures c.fate ≡ 0 = ap failures at.0 in omega arith
failed-closed n x fate (c ∷ d ∷ cs) is = let rest = failed-closed n x fate (d ∷ cs) is in omega arith

unnoted-closed :
    (n : ℕ) (x : List ℕ) (fate : Fate) (cs : List Course) → open_session cs ≡ Some n
    → has_unnoted (change_last (handed_course n x (λ _. fate)) cs) ≡ (has_unnoted cs || is_unnoted fate)
unfolding change_last handed_course
unnoted-closed n x fate [] is = cc
unnoted-closed n x fate (c ∷ []) is =
    let at = whole-at c.fate c.session.number n is in
    or-false (is_unnoted fate) ∙ ap (λ b. (b || false) || is_unnoted fate) (sym (ap is_unnoted at.0))
unnoted-closed n x fate (c ∷ d ∷ cs) is =
    ap (λ b. is_unnoted c.fate || b) (unnoted-closed n x fate (d ∷ cs) is) ∙ or-assoc (is_unnoted c.fate) (has_unnoted (d ∷ cs)) (is_unnoted fate)

open-closed :
    (n : ℕ) (x : List ℕ) (fate : Fate) (cs : List Course) → open_session cs ≡ Some n
    → open_session (change_last (handed_course n x (λ _. fate)) cs) ≡ when_whole fate n
unfolding change_last handed_course
open-closed n x fate [] is = cc
open-closed n x fate (c ∷ []) is =
    let at = whole-at c.fate c.session.number n is in
    ap (when_whole fate) (with_item-number n x c.session ∙ at.1)
open-closed n x fate (c ∷ d ∷ []) is = open-closed n x fate (d ∷ []) is
open-closed n x fate (c ∷ d ∷ e ∷ cs) is = open-closed n x fate (d ∷ e ∷ cs) is

-- what of a message a wire took: all of it, or a front
pub Takes : Fate → List ℕ → List ℕ → Type 0
Takes Whole x piece = piece ≡ x
Takes Noted x piece = IsFront piece x
Takes Unnoted x piece = IsFront piece x

concat-more : (handed : List (List ℕ)) (x : List ℕ) → concat (handed ++ x ∷ []) ≡ concat handed ++ x
concat-more handed x = concat-append handed (x ∷ []) ∙ ap (λ y. concat handed ++ y) (append-nil x)

front-more : (handed : List (List ℕ)) (x bytes piece : List ℕ) → bytes ≡ concat handed → IsFront piece x → IsFront (bytes ++ piece) (concat (handed ++ x ∷ []))
front-more handed x bytes piece whole front =
    record {
      rest = front.rest;
      parts = concat-more handed x ∙ (ap (λ y. y ++ x) (sym whole) ∙ (ap (λ y. bytes ++ y) front.parts ∙ sym (append_assoc bytes piece front.rest)));
    }

holds-more :
    (fate : Fate) (handed : List (List ℕ)) (x bytes piece : List ℕ) → bytes ≡ concat handed → Takes fate x piece
    → HoldsOf fate (handed ++ x ∷ []) (bytes ++ piece)
unfolding Takes
holds-more Whole handed x bytes piece whole took = ap (λ y. y ++ piece) whole ∙ (ap (λ y. concat handed ++ y) took ∙ sym (concat-more handed x))
holds-more Noted handed x bytes piece whole took = front-more handed x bytes piece whole took
holds-more Unnoted handed x bytes piece whole took = front-more handed x bytes piece whole took

pub was-whole : (fate : Fate) (handed : List (List ℕ)) (bytes : List ℕ) → fate ≡ Whole → HoldsOf fate handed bytes → bytes ≡ concat handed
was-whole fate handed bytes is holds = subst (λ f. HoldsOf f handed bytes) is holds

all-closed :
    (n : ℕ) (x piece : List ℕ) (fate : Fate) (cs : List Course) (sessions : List (List ℕ))
    → open_session cs ≡ Some n → Takes fate x piece → HoldsAll cs sessions
    → HoldsAll (change_last (handed_course n x (λ _. fate)) cs) (onto_last piece sessions)
unfolding change_last handed_course
all-closed n x piece fate [] sessions is took all = cc
all-closed n x piece fate (c ∷ []) [] is took all = absurd all
all-closed n x piece fate (c ∷ []) (s ∷ []) is took all =
    let at = whole-at c.fate c.session.number n is in
    (rw (with_item-here n x c.session at.1) (holds-more fate c.session.handed x s piece (was-whole c.fate c.session.handed s at.0 all.0) took), tt)
all-closed n x piece fate (c ∷ []) (s ∷ t ∷ sessions) is took all = absurd all.1
all-closed n x piece fate (c ∷ d ∷ cs) [] is took all = absurd all
all-closed n x piece fate (c ∷ d ∷ cs) (s ∷ []) is took all = absurd all.1
all-closed n x piece fate (c ∷ d ∷ cs) (s ∷ t ∷ sessions) is took all = (all.0, all-closed n x piece fate (d ∷ cs) (t ∷ sessions) is took all.1)

holds-closed :
    (n : ℕ) (x piece : List ℕ) (fate : Fate) (cs : List Course) (old new : Option (List (List ℕ)))
    → open_session cs ≡ Some n → Takes fate x piece → Holds cs old → SendsPiece old new piece
    → Holds (change_last (handed_course n x (λ _. fate)) cs) new
holds-closed n x piece fate cs None None is took all sends = tt
holds-closed n x piece fate cs None (Some new) is took all sends = absurd sends
holds-closed n x piece fate cs (Some old) None is took all sends = absurd sends
holds-closed n x piece fate cs (Some old) (Some new) is took all sends =
    subst (λ s. HoldsAll (change_last (handed_course n x (λ _. fate)) cs) s) (sym sends) (all-closed n x piece fate cs old is took all)

-- something is handed out in the open session, and is sent, or as much of it as the wire took
pub sent-kept :
    (fate : Fate) (n : ℕ) (x piece : List ℕ) (cs : List Course) (ds ds' : List (Deed (List ℕ))) (told told' : Option (List (List ℕ)))
    (begun begun' faults faults' : ℕ) (latest : Option ℕ) (unnoted : Bool)
    → KeepsWire cs ds told begun faults latest unnoted
    → latest ≡ Some n
    → sessions_of ds' ≡ hand_last n x (sessions_of ds)
    → losses ds' ≡ losses ds ++ when_noted fate n
    → Takes fate x piece → SendsPiece told told' piece → begun' ≡ begun
    → failed cs + failures fate ≤ faults' → (failures fate ≡ 0 → faults' ≡ faults)
    → KeepsWire (change_last (handed_course n x (λ _. fate)) cs) ds' told' begun' faults' (when_whole fate n) (unnoted || is_unnoted fate)
sent-kept fate n x piece cs ds ds' told told' begun begun' faults faults' latest unnoted kept is sessions lost took sends counted room unharmed =
    let at : open_session cs ≡ Some n = sym kept.latest ∙ is in
    let f = handed_course n x (λ _. fate) in
    let b = kept.begun in
    let m = kept.numbered in
    record {
      sessions = map-handed n x (λ _. fate) cs ∙ (ap (λ l. hand_last n x l) kept.sessions ∙ sym sessions);
      noted_losses = noted-closed n x fate cs at ∙ (ap (λ l. l ++ when_noted fate n) kept.noted_losses ∙ sym lost);
      begun = omega (arith, length-handed f cs);
      numbered = omega arith;
      bytes = holds-closed n x piece fate cs told told' at took kept.bytes sends;
      faults = omega (arith, failed-closed n x fate cs at);
      harmless = still-harmless cs fate (failed (change_last f cs)) faults faults' kept.harmless unharmed (failed-closed n x fate cs at);
      latest = sym (open-closed n x fate cs at);
      unnoted = ap (λ b. b || is_unnoted fate) kept.unnoted ∙ sym (unnoted-closed n x fate cs at);
    }

-- Something is handed out in another session than the open one: nothing is sent.

-- the last of the courses isn't open under this number
still : (fate : Fate) (number n : ℕ) → (when_whole fate number ≡ Some n → ⊥) → (fate ≡ Whole → number ≡ n → ⊥)
still fate number n other is here = other (ap (λ f. when_whole f number) is ∙ ap Some here)

holds-still :
    (fate : Fate) (n : ℕ) (x bytes : List ℕ) (session : Session (List ℕ)) (b : Bool) → (session.number == n) ≡ b
    → (fate ≡ Whole → session.number ≡ n → ⊥) → HoldsOf fate session.handed bytes → HoldsOf fate (with_item n x session).handed bytes
holds-still Whole n x bytes session true is other holds = absurd (other refl (eqb-true session.number n is))
holds-still Noted n x bytes session true is other holds =
    rw is (record { rest = holds.rest ++ x; parts = concat-more session.handed x ∙ (ap (λ y. y ++ x) holds.parts ∙ append_assoc bytes holds.rest x) })
holds-still Unnoted n x bytes session true is other holds =
    rw is (record { rest = holds.rest ++ x; parts = concat-more session.handed x ∙ (ap (λ y. y ++ x) holds.parts ∙ append_assoc bytes holds.rest x) })
holds-still Whole n x bytes session false is other holds = rw is holds
holds-still Noted n x bytes session false is other holds = rw is holds
holds-still Unnoted n x bytes session false is other holds = rw is holds

kept_fate : Fate → Fate
kept_fate fate = fate

pub other_course : ℕ → List ℕ → Course → Course
other_course n x = handed_course n x kept_fate

noted-still : (n : ℕ) (x : List ℕ) (cs : List Course) → noted (change_last (other_course n x) cs) ≡ noted cs
unfolding change_last handed_course kept_fate other_course
noted-still n x [] = refl
noted-still n x (c ∷ []) = ap (λ m. when_noted c.fate m ++ []) (with_item-number n x c.session)
noted-still n x (c ∷ d ∷ cs) = ap (λ l. when_noted c.fate c.session.number ++ l) (noted-still n x (d ∷ cs))

failed-still : (n : ℕ) (x : List ℕ) (cs : List Course) → failed (change_last (other_course n x) cs) ≡ failed cs
unfolding change_last handed_course kept_fate other_course
failed-still n x [] = refl
failed-still n x (c ∷ []) = refl
failed-still n x (c ∷ d ∷ cs) = let rest = failed-still n x (d ∷ cs) in omega arith

unnoted-still : (n : ℕ) (x : List ℕ) (cs : List Course) → has_unnoted (change_last (other_course n x) cs) ≡ has_unnoted cs
unfolding change_last handed_course kept_fate other_course
unnoted-still n x [] = refl
unnoted-still n x (c ∷ []) = refl
unnoted-still n x (c ∷ d ∷ cs) = ap (λ b. is_unnoted c.fate || b) (unnoted-still n x (d ∷ cs))

open-still : (n : ℕ) (x : List ℕ) (cs : List Course) → open_session (change_last (other_course n x) cs) ≡ open_session cs
unfolding change_last handed_course kept_fate other_course
open-still n x [] = refl
open-still n x (c ∷ []) = ap (when_whole c.fate) (with_item-number n x c.session)
open-still n x (c ∷ d ∷ []) = open-still n x (d ∷ [])
open-still n x (c ∷ d ∷ e ∷ cs) = open-still n x (d ∷ e ∷ cs)

all-still :
    (n : ℕ) (x : List ℕ) (cs : List Course) (sessions : List (List ℕ))
    → (open_session cs ≡ Some n → ⊥) → HoldsAll cs sessions → HoldsAll (change_last (other_course n x) cs) sessions
unfolding change_last handed_course kept_fate other_course
all-still n x [] sessions other all = all
all-still n x (c ∷ []) [] other all = absurd all
all-still n x (c ∷ []) (s ∷ []) other all =
    (holds-still c.fate n x s c.session (c.session.number == n) refl (still c.fate c.session.number n other) all.0, tt)
all-still n x (c ∷ []) (s ∷ t ∷ sessions) other all = absurd all.1
all-still n x (c ∷ d ∷ cs) [] other all = absurd all
all-still n x (c ∷ d ∷ cs) (s ∷ sessions) other all = (all.0, all-still n x (d ∷ cs) sessions other all.1)

holds-other :
    (n : ℕ) (x : List ℕ) (cs : List Course) (told : Option (List (List ℕ)))
    → (open_session cs ≡ Some n → ⊥) → Holds cs told → Holds (change_last (other_course n x) cs) told
holds-other n x cs None other all = tt
holds-other n x cs (Some sessions) other all = all-still n x cs sessions other all

-- The steps of a lane

handed-sessions : (n : ℕ) (x : List ℕ) (ds ds' : List (Deed (List ℕ))) → ds' ≡ ds ++ Hands n x ∷ [] → sessions_of ds' ≡ hand_last n x (sessions_of ds)
handed-sessions n x ds ds' grown = ap sessions_of grown ∙ sessions_of-append ds (Hands n x ∷ [])

handed-losses : (n : ℕ) (x : List ℕ) (ds ds' : List (Deed (List ℕ))) → ds' ≡ ds ++ Hands n x ∷ [] → losses ds' ≡ losses ds ++ []
handed-losses n x ds ds' grown = ap losses grown ∙ losses-append ds (Hands n x ∷ [])

pub begun-sessions : (n : ℕ) (ds ds' : List (Deed (List ℕ))) → ds' ≡ ds ++ Begins n ∷ [] → sessions_of ds' ≡ sessions_of ds ++ record { number = n; handed = [] } ∷ []
begun-sessions n ds ds' grown = ap sessions_of grown ∙ sessions_of-append ds (Begins n ∷ [])

pub begun-losses : (n : ℕ) (ds ds' : List (Deed (List ℕ))) → ds' ≡ ds ++ Begins n ∷ [] → losses ds' ≡ losses ds ++ []
begun-losses n ds ds' grown = ap losses grown ∙ losses-append ds (Begins n ∷ [])

pub lost-sessions : (noted : Bool) (n : ℕ) (ds ds' : List (Deed (List ℕ))) → TellsLoss noted n ds ds' → sessions_of ds' ≡ sessions_of ds
lost-sessions true n ds ds' tells = ap sessions_of tells ∙ sessions_of-append ds (Loses n ∷ [])
lost-sessions false n ds ds' tells = ap sessions_of tells

pub lost-losses : (noted : Bool) (n : ℕ) (ds ds' : List (Deed (List ℕ))) → TellsLoss noted n ds ds' → losses ds' ≡ losses ds ++ when_noted (fate_of noted) n
lost-losses true n ds ds' tells = ap losses tells ∙ losses-append ds (Loses n ∷ [])
lost-losses false n ds ds' tells = ap losses tells ∙ sym (append-nil (losses ds))

pub closed-none : (noted : Bool) (n : ℕ) → when_whole (fate_of noted) n ≡ None
closed-none true n = refl
closed-none false n = refl

pub one-not-none : (noted : Bool) → failures (fate_of noted) ≡ 0 → ⊥
one-not-none true is = omega arith
one-not-none false is = omega arith

module _ (cs : List Course) (ds : List (Deed (List ℕ))) (told : Option (List (List ℕ))) (begun faults : ℕ) (latest : Option ℕ) (unnoted : Bool)
    (kept : KeepsWire cs ds told begun faults latest unnoted) where
  -- as many sessions are begun on the wire as for the pass
  pub begun-counted : begun ≡ begins ds
  begun-counted =
      kept.begun ∙ (sym (length-map cs (λ (c : Course). c.session)) ∙ (ap length kept.sessions ∙ length-sessions_of ds))

  pub begun-below : (n : ℕ) → begins ds < n → begun < n
  begun-below n below = let same = begun-counted in omega arith

  pub begun-well :
      (n : ℕ) (ds' : List (Deed (List ℕ))) (told' : Option (List (List ℕ))) (begun' faults' : ℕ)
      → ds' ≡ ds ++ Begins n ∷ [] → begun' ≤ 4294967295
      → BeginsSession told told' → begun' ≡ begun + 1 → faults' ≡ faults
      → KeepsWire (cs ++ begun_course n Whole ∷ []) ds' told' begun' faults' (Some n) unnoted
  begun-well n ds' told' begun' faults' grown short begins_it counted unharmed =
      let was = kept.faults in
      subst (λ u. KeepsWire (cs ++ begun_course n Whole ∷ []) ds' told' begun' faults' (Some n) u) (or-false unnoted)
      (begun-kept Whole n cs ds ds' told told' begun begun' faults faults' latest unnoted kept
      (begun-sessions n ds ds' grown) (begun-losses n ds ds' grown) begins_it counted short (omega arith) (λ _. unharmed))

  ill-room : (noted : Bool) (faults' : ℕ) → faults ≤ faults' → Rose faults faults' → failed cs + failures (fate_of noted) ≤ faults'
  ill-room noted faults' grew rose =
      let b = kept.begun in let m = kept.numbered in
      failed-room cs (failures (fate_of noted)) faults faults' kept.faults (omega arith) (failures-most (fate_of noted)) grew rose

  pub begun-ill :
      (noted : Bool) (n : ℕ) (ds1 ds' : List (Deed (List ℕ))) (told' : Option (List (List ℕ))) (begun' faults' : ℕ)
      → ds1 ≡ ds ++ Begins n ∷ [] → TellsLoss noted n ds1 ds' → begun' ≤ 4294967295
      → BeginsSession told told' → begun' ≡ begun + 1 → faults ≤ faults' → Rose faults faults'
      → KeepsWire (cs ++ begun_course n (fate_of noted) ∷ []) ds' told' begun' faults' None (unnoted || is_unnoted (fate_of noted))
  begun-ill noted n ds1 ds' told' begun' faults' grown tells short begins_it counted grew rose =
      subst (λ o. KeepsWire (cs ++ begun_course n (fate_of noted) ∷ []) ds' told' begun' faults' o (unnoted || is_unnoted (fate_of noted))) (closed-none noted n)
      (begun-kept (fate_of noted) n cs ds ds' told told' begun begun' faults faults' latest unnoted kept
      (lost-sessions noted n ds1 ds' tells ∙ begun-sessions n ds ds1 grown)
      (lost-losses noted n ds1 ds' tells ∙ ap (λ l. l ++ when_noted (fate_of noted) n) (begun-losses n ds ds1 grown ∙ append-nil (losses ds)))
      begins_it counted short (ill-room noted faults' grew rose) (λ none. absurd (one-not-none noted none)))

  pub sent-well :
      (n : ℕ) (x : List ℕ) (ds' : List (Deed (List ℕ))) (told' : Option (List (List ℕ))) (begun' faults' : ℕ)
      → latest ≡ Some n → ds' ≡ ds ++ Hands n x ∷ []
      → SendsPiece told told' x → begun' ≡ begun → faults' ≡ faults
      → KeepsWire (change_last (handed_course n x (λ _. Whole)) cs) ds' told' begun' faults' latest unnoted
  unfolding Takes
  sent-well n x ds' told' begun' faults' is grown sends counted unharmed =
      let was = kept.faults in
      subst (λ o. KeepsWire (change_last (handed_course n x (λ _. Whole)) cs) ds' told' begun' faults' o unnoted) (sym is)
      (subst (λ u. KeepsWire (change_last (handed_course n x (λ _. Whole)) cs) ds' told' begun' faults' (Some n) u) (or-false unnoted)
      (sent-kept Whole n x x cs ds ds' told told' begun begun' faults faults' latest unnoted kept is
      (handed-sessions n x ds ds' grown) (handed-losses n x ds ds' grown) refl sends counted (omega arith) (λ _. unharmed)))

  front-taken : (noted : Bool) (x : List ℕ) (k : ℕ) → Takes (fate_of noted) x (take k x)
  unfolding Takes
  front-taken true x k = record { rest = drop k x; parts = sym (take-append-drop k x) }
  front-taken false x k = record { rest = drop k x; parts = sym (take-append-drop k x) }

  pub sent-ill :
      (noted : Bool) (n : ℕ) (x : List ℕ) (ds1 ds' : List (Deed (List ℕ))) (told' : Option (List (List ℕ))) (begun' faults' : ℕ)
      → latest ≡ Some n → ds1 ≡ ds ++ Hands n x ∷ [] → TellsLoss noted n ds1 ds'
      → SendsFront told told' x → begun' ≡ begun → faults ≤ faults' → Rose faults faults'
      → KeepsWire (change_last (handed_course n x (λ _. fate_of noted)) cs) ds' told' begun' faults' None (unnoted || is_unnoted (fate_of noted))
  sent-ill noted n x ds1 ds' told' begun' faults' is grown tells sends counted grew rose =
      subst (λ o. KeepsWire (change_last (handed_course n x (λ _. fate_of noted)) cs) ds' told' begun' faults' o (unnoted || is_unnoted (fate_of noted))) (closed-none noted n)
      (sent-kept (fate_of noted) n x (take sends.0 x) cs ds ds' told told' begun begun' faults faults' latest unnoted kept is
      (lost-sessions noted n ds1 ds' tells ∙ handed-sessions n x ds ds1 grown)
      (lost-losses noted n ds1 ds' tells ∙ ap (λ l. l ++ when_noted (fate_of noted) n) (handed-losses n x ds ds1 grown ∙ append-nil (losses ds)))
      (front-taken noted x sends.0) sends.2 counted (ill-room noted faults' grew rose) (λ none. absurd (one-not-none noted none)))

  pub sent-other :
      (n : ℕ) (x : List ℕ) (ds' : List (Deed (List ℕ)))
      → (latest ≡ Some n → ⊥) → ds' ≡ ds ++ Hands n x ∷ []
      → KeepsWire (change_last (other_course n x) cs) ds' told begun faults latest unnoted
  unfolding other_course
  sent-other n x ds' other grown =
      let b = kept.begun in
      let was = kept.faults in
      record {
        sessions = map-handed n x kept_fate cs ∙ (ap (λ l. hand_last n x l) kept.sessions ∙ sym (handed-sessions n x ds ds' grown));
        noted_losses = noted-still n x cs ∙ (kept.noted_losses ∙ sym (handed-losses n x ds ds' grown ∙ append-nil (losses ds)));
        begun = omega (arith, length-handed (other_course n x) cs);
        numbered = kept.numbered;
        bytes = holds-other n x cs told (λ is. other (kept.latest ∙ is)) kept.bytes;
        faults = omega (arith, failed-still n x cs);
        harmless = λ none. kept.harmless (sym (failed-still n x cs) ∙ none);
        latest = kept.latest ∙ sym (open-still n x cs);
        unnoted = kept.unnoted ∙ sym (unnoted-still n x cs);
      }

-- a lane that has done nothing
fresh-holds : (told : Option (List (List ℕ))) → IsFresh told → Holds [] told
fresh-holds None fresh = tt
fresh-holds (Some sessions) fresh = subst (λ s. HoldsAll [] s) (sym fresh) tt

pub fresh-kept :
    (ds : List (Deed (List ℕ))) (told : Option (List (List ℕ))) (begun faults : ℕ)
    → ds ≡ [] → IsFresh told → begun ≡ 0 → faults ≡ 0 → KeepsWire [] ds told begun faults None false
fresh-kept ds told begun faults none fresh zero_begun no_faults =
    record {
      sessions = ap sessions_of (sym none);
      noted_losses = ap losses (sym none);
      begun = zero_begun;
      numbered = omega arith;
      bytes = fresh-holds told fresh;
      faults = omega arith;
      harmless = λ _. no_faults;
      latest = refl;
      unnoted = refl;
    }
