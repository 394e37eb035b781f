-- The sessions of a wire that were lost: those in which a call failed.
use Rattle.std.proofs.Common.{◌≡◌, ℕ, ◌+◌, ◌<◌, ◌≤◌, Bool, true, false, List, [], ◌∷◌, ◌++◌, length, map, refl, ap, arith}
use Rattle.std.specs.Prelude.{◌==◌, ◌||◌}
use Rattle.std.proofs.lemmas.Bool.{eqb-true, eq-eqb}
use Rattle.ug_board.specs.Deeds.{Each}
use Rattle.ug_board.specs.Sessions.{Session}
use Rattle.ug_sender.specs.Courses.{Fate, Whole, Noted, Unnoted, Course, failures, failed, when_noted, noted, is_unnoted, has_unnoted}
use Rattle.ug_event_loop.specs.Contents.{has_number, RiseFrom}
use Rattle.ug_event_loop.proofs.Lists.{each-so}
use Rattle.ug_event_loop.proofs.Numbers.{AreNumbered}

abbrev pub when_failed : Fate → ℕ → List ℕ
when_failed Whole number = []
when_failed Noted number = number ∷ []
when_failed Unnoted number = number ∷ []

-- the numbers of the sessions in which a call failed
abbrev pub lost_of : List Course → List ℕ
lost_of [] = []
lost_of (course ∷ courses) = when_failed course.fate course.session.number ++ lost_of courses

abbrev pub IsFailed : Fate → Type 0
IsFailed Whole = ⊥
IsFailed Noted = Unit {0}
IsFailed Unnoted = Unit {0}

abbrev pub sessions_in : List Course → List (Session (List ℕ))
sessions_in courses = map (λ c. c.session) courses

rise_by : (low n number : ℕ) (fate : Fate) (numbers : List ℕ) → low < n → number ≡ n → ((from : ℕ) → from < n + 1 → RiseFrom from numbers) → RiseFrom low (when_failed fate number ++ numbers)
rise_by low n number Whole numbers less is rest = rest low (omega arith)
rise_by low n number Noted numbers less is rest = ((let above : low < number = omega arith in above), rest number (omega arith))
rise_by low n number Unnoted numbers less is rest = ((let above : low < number = omega arith in above), rest number (omega arith))

pub lost-rise : (low n : ℕ) (courses : List Course) → low < n → AreNumbered n (sessions_in courses) → RiseFrom low (lost_of courses)
lost-rise low n [] less h = tt
lost-rise low n (course ∷ courses) less h =
    rise_by low n course.session.number course.fate (lost_of courses) less h.0 (λ from below. lost-rise from (n + 1) courses below h.1)

few_by : (fate : Fate) (number : ℕ) (numbers : List ℕ) → length (when_failed fate number ++ numbers) ≡ failures fate + length numbers
few_by Whole number numbers = omega arith
few_by Noted number numbers = omega arith
few_by Unnoted number numbers = omega arith

pub lost-few : (courses : List Course) → length (lost_of courses) ≡ failed courses
lost-few [] = refl
lost-few (course ∷ courses) = let here = few_by course.fate course.session.number (lost_of courses) in let rest = lost-few courses in omega arith

-- they are numbers of the sessions
abbrev Within : ℕ → ℕ → ℕ → Type 0
Within n count m = (n ≤ m) × (m < n + count)

were_one : (n number m count : ℕ) (numbers : List ℕ) (b : Bool) → (number == m) ≡ b → number ≡ n → (has_number numbers m ≡ true → Within (n + 1) count m) → (b || has_number numbers m) ≡ true → Within n (count + 1) m
were_one n number m count numbers true e is rest has = let same = eqb-true number m e in (omega arith, omega arith)
were_one n number m count numbers false e is rest has = let found = rest has in let low = found.0 in let high = found.1 in (omega arith, omega arith)

were_by : (n number m count : ℕ) (fate : Fate) (numbers : List ℕ) → number ≡ n → (has_number numbers m ≡ true → Within (n + 1) count m)
    → has_number (when_failed fate number ++ numbers) m ≡ true → Within n (count + 1) m
were_by n number m count Whole numbers is rest has = let found = rest has in let low = found.0 in let high = found.1 in (omega arith, omega arith)
were_by n number m count Noted numbers is rest has = were_one n number m count numbers (number == m) refl is rest has
were_by n number m count Unnoted numbers is rest has = were_one n number m count numbers (number == m) refl is rest has

pub lost-were : (n : ℕ) (courses : List Course) (m : ℕ) → AreNumbered n (sessions_in courses) → has_number (lost_of courses) m ≡ true → Within n (length courses) m
lost-were n [] m h has = absurd cc
lost-were n (course ∷ courses) m h has =
    let found = were_by n course.session.number m (length courses) course.fate (lost_of courses) h.0 (λ there. lost-were (n + 1) courses m h.1 there) has in
    let low = found.0 in
    let high = found.1 in
    (low, omega arith)

or_more : (a b c : Bool) → (b ≡ true → c ≡ true) → (a || b) ≡ true → (a || c) ≡ true
or_more true b c more is = refl
or_more false b c more is = more is

or_right : (a b : Bool) → b ≡ true → (a || b) ≡ true
or_right true b is = refl
or_right false b is = is

noted_by : (fate : Fate) (number m : ℕ) (some all : List ℕ) → (has_number some m ≡ true → has_number all m ≡ true) → has_number (when_noted fate number ++ some) m ≡ true → has_number (when_failed fate number ++ all) m ≡ true
noted_by Whole number m some all more has = more has
noted_by Noted number m some all more has = or_more (number == m) (has_number some m) (has_number all m) more has
noted_by Unnoted number m some all more has = or_right (number == m) (has_number all m) (more has)

-- a loss that was noted is one of them
pub noted-lost : (courses : List Course) (m : ℕ) → has_number (noted courses) m ≡ true → has_number (lost_of courses) m ≡ true
noted-lost [] m has = has
noted-lost (course ∷ courses) m has = noted_by course.fate course.session.number m (noted courses) (lost_of courses) (λ there. noted-lost courses m there) has

neither : (a b : Bool) → (a || b) ≡ false → (a ≡ false) × (b ≡ false)
neither true b e = absurd cc
neither false b e = (refl, e)

all_by : (fate : Fate) (number : ℕ) (some all : List ℕ) → is_unnoted fate ≡ false → all ≡ some → when_failed fate number ++ all ≡ when_noted fate number ++ some
all_by Whole number some all none same = same
all_by Noted number some all none same = ap (λ (l : List ℕ). number ∷ l) same
all_by Unnoted number some all none same = absurd cc

-- where none was passed over they are those that were noted
pub lost-noted : (courses : List Course) → has_unnoted courses ≡ false → lost_of courses ≡ noted courses
lost-noted [] none = refl
lost-noted (course ∷ courses) none =
    let parts = neither (is_unnoted course.fate) (has_unnoted courses) none in
    all_by course.fate course.session.number (noted courses) (lost_of courses) parts.0 (lost-noted courses parts.1)

here_by : (fate : Fate) (number : ℕ) (numbers : List ℕ) → IsFailed fate → has_number (when_failed fate number ++ numbers) number ≡ true
here_by Whole number numbers fails = absurd fails
here_by Noted number numbers fails = rw (eq-eqb number number refl) refl
here_by Unnoted number numbers fails = rw (eq-eqb number number refl) refl

there_by : (fate : Fate) (number m : ℕ) (numbers : List ℕ) → has_number numbers m ≡ true → has_number (when_failed fate number ++ numbers) m ≡ true
there_by Whole number m numbers has = has
there_by Noted number m numbers has = or_right (number == m) (has_number numbers m) has
there_by Unnoted number m numbers has = or_right (number == m) (has_number numbers m) has

-- each session in which a call failed is one of them
pub failed-lost : (courses : List Course) → Each (λ (course : Course). IsFailed course.fate → has_number (lost_of courses) course.session.number ≡ true) courses
failed-lost [] = tt
failed-lost (course ∷ courses) = (
  here_by course.fate course.session.number (lost_of courses),
  each-so (λ (c : Course). IsFailed c.fate → has_number (lost_of courses) c.session.number ≡ true) (λ (c : Course). IsFailed c.fate → has_number (lost_of (course ∷ courses)) c.session.number ≡ true)
      (λ c has fails. there_by course.fate course.session.number c.session.number (lost_of courses) (has fails)) courses (failed-lost courses),
)
