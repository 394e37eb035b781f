-- What a machine counts of a peer's sessions is what a history says of them: those that were begun, which of them are
-- lost, and how many messages were handed out in the last of them.
use Rattle.std.proofs.Common.{◌≡◌, ℕ, ◌+◌, ◌<◌, ◌≤◌, ◌⊎◌, inl, inr, Bool, true, false, List, [], ◌∷◌, ◌++◌, length, refl, sym, ◌∙◌, ap, subst, arith, length-append}
use Rattle.std.specs.Prelude.{◌==◌, ◌&&◌, ◌||◌, not, nat_le, if◌then◌else◌}
use Rattle.std.specs.List.{list_any}
use Rattle.std.proofs.lemmas.Bool.{cases_eq, eqb-true, eq-eqb}
use Rattle.std.proofs.lemmas.Bool.Decides.{nat_tests}
use Rattle.std.proofs.lemmas.List.Folds.{list_any-append}
use Rattle.std.proofs.lemmas.Map.Views.{any-filter_same}
use Rattle.ug_types.specs.Messages.{Message}
use Rattle.ug_board.specs.Deeds.{Deed, Begins as BeginsDeed, Hands, Loses, losses}
use Rattle.ug_board.specs.Sessions.{Session, with_item, hand_last, sessions_of}
use Rattle.ug_board.proofs.Folding.{sessions_of-append, losses-append}
use Rattle.ug_world.specs.declared.peer_state.PeerState.{PeerState}
use Rattle.ug_speaker.specs.Told.{handed_in}
use Rattle.ug_speaker.specs.Counts.{Counts, has, is_lost_at, with_session, with_loss}

-- ---- the sessions of a peer, numbered from one on

-- These sessions have the numbers that follow `before`, up to `last`.
abbrev pub AreNumbered : ℕ → List (Session Message) → ℕ → Type 0
AreNumbered before [] last = before ≡ last
AreNumbered before (session ∷ sessions) last = (session.number ≡ before + 1) × AreNumbered (before + 1) sessions last

pub numbered-up : (before last : ℕ) (sessions : List (Session Message)) → AreNumbered before sessions last → before ≤ last
numbered-up before last [] h = omega arith
numbered-up before last (session ∷ sessions) h = let rest = numbered-up (before + 1) last sessions h.1 in omega arith

numbered-begins : (before last : ℕ) (sessions : List (Session Message)) → AreNumbered before sessions last → AreNumbered before (sessions ++ record { number = last + 1; handed = [] } ∷ []) (last + 1)
numbered-begins before last [] h = (ap (λ n. n + 1) (sym h), ap (λ n. n + 1) h)
numbered-begins before last (session ∷ sessions) h = (h.0, numbered-begins (before + 1) last sessions h.1)

same_number : (n : ℕ) (item : Message) (session : Session Message) (b : Bool) → (if b then record { number = session.number; handed = session.handed ++ item ∷ [] } else session).number ≡ session.number
same_number n item session true = refl
same_number n item session false = refl

numbered-hands : (n : ℕ) (item : Message) (before last : ℕ) (sessions : List (Session Message)) → AreNumbered before sessions last → AreNumbered before (hand_last n item sessions) last
numbered-hands n item before last [] h = h
numbered-hands n item before last (session ∷ []) h = (same_number n item session (session.number == n) ∙ h.0, h.1)
numbered-hands n item before last (session ∷ next ∷ sessions) h = (h.0, numbered-hands n item (before + 1) last (next ∷ sessions) h.1)

-- a session that begins has nothing handed out
pub begins-nothing : (m n : ℕ) (sessions : List (Session Message)) → handed_in m (sessions ++ record { number = n; handed = [] } ∷ []) ≡ handed_in m sessions
begins-nothing m n [] = by (n == m)
  where
    by : (b : Bool) → ◌≡◌ {A = List Message} (if b then [] else []) []
    by true = refl
    by false = refl
begins-nothing m n (session ∷ sessions) = ap (λ (rest : List Message). if session.number == m then session.handed else rest) (begins-nothing m n sessions)

apart_test : (a b : ℕ) → a < b → (a == b) ≡ false
apart_test a b less = grind (arith, nat_tests)

-- nothing was handed out in a session that isn't begun
pub nothing-in : (m before last : ℕ) (sessions : List (Session Message)) → AreNumbered before sessions last → last < m → handed_in m sessions ≡ []
nothing-in m before last [] h less = refl
nothing-in m before last (session ∷ sessions) h less =
    let up = numbered-up (before + 1) last sessions h.1 in
    let number = h.0 in
    let below : session.number < m = omega arith in
    rw (apart_test session.number m below) (nothing-in m (before + 1) last sessions h.1 less)

abbrev with_one : Session Message → Message → Session Message
with_one session item = record { number = session.number; handed = session.handed ++ item ∷ [] }

-- what is handed out in the last session is added there
pub handed-last : (item : Message) (before last : ℕ) (sessions : List (Session Message)) → AreNumbered before sessions last → before < last → handed_in last (hand_last last item sessions) ≡ handed_in last sessions ++ item ∷ []
handed-last item before last [] h less = absurd (omega arith)
handed-last item before last (session ∷ []) h less =
    let number = h.0 in
    let end = h.1 in
    let here : (session.number == last) ≡ true = eq-eqb session.number last (omega arith) in
    ap (λ (x : Session Message). handed_in last (x ∷ [])) (ap (λ (b : Bool). if b then with_one session item else session) here)
    ∙ ap (λ (b : Bool). if b then session.handed ++ item ∷ [] else []) here
    ∙ sym (ap (λ (b : Bool). (if b then session.handed else []) ++ item ∷ []) here)
handed-last item before last (session ∷ next ∷ sessions) h less =
    let number = h.0 in
    let up = numbered-up (before + 1 + 1) last sessions h.1.1 in
    let below : session.number < last = omega arith in
    rw (apart_test session.number last below) (handed-last item (before + 1) last (next ∷ sessions) h.1 (omega arith))

-- and nowhere else
by_number : (m n : ℕ) (item : Message) (session : Session Message) (b c : Bool) → (session.number == n) ≡ b → (session.number == m) ≡ c → (m ≡ n → ⊥)
    → (if c then (if b then record { number = session.number; handed = session.handed ++ item ∷ [] } else session).handed else []) ≡ (if c then session.handed else [])
by_number m n item session true true e f apart = absurd (apart (sym (eqb-true session.number m f) ∙ eqb-true session.number n e))
by_number m n item session true false e f apart = refl
by_number m n item session false c e f apart = refl

pub handed-other : (m n : ℕ) (item : Message) (sessions : List (Session Message)) → (m ≡ n → ⊥) → handed_in m (hand_last n item sessions) ≡ handed_in m sessions
handed-other m n item [] apart = refl
handed-other m n item (session ∷ []) apart =
    ap (λ (k : ℕ). if k == m then (with_item n item session).handed else []) (same_number n item session (session.number == n))
    ∙ by_number m n item session (session.number == n) (session.number == m) refl refl apart
handed-other m n item (session ∷ next ∷ sessions) apart = ap (λ (rest : List Message). if session.number == m then session.handed else rest) (handed-other m n item (next ∷ sessions) apart)

-- ---- what is counted

-- What is counted of a peer, by the deeds to it.
pub record IsCounted (deeds : List (Deed Message)) (s : PeerState) (t : Counts) : Type 0 where
  pub begun : t.begun ≤ s.sessions
  pub numbers : AreNumbered 0 (sessions_of deeds) t.begun
  pub handed : t.handed ≡ length (handed_in t.begun (sessions_of deeds))
  pub lost : (n : ℕ) → list_any (λ (m : ℕ). m == n) (losses deeds) ≡ is_lost_at t n
  pub within : (n : ℕ) → has t.unlost n ≡ true → (1 ≤ n) × (n ≤ t.begun)

-- a session that isn't begun is not lost
pub not-lost : (t : Counts) (n : ℕ) → t.begun < n → is_lost_at t n ≡ false
not-lost t n less = let past : nat_le n t.begun ≡ false = grind (arith, nat_tests) in rw past (by (nat_le 1 n))
  where
    by : (b : Bool) → (b && false) ≡ false
    by true = refl
    by false = refl

module _ (deeds : List (Deed Message)) (s : PeerState) (t : Counts) (counted : IsCounted deeds s t) where
  -- a session begins
  pub begins-lost : (n : ℕ) → is_lost_at (with_session t) n ≡ is_lost_at t n
  begins-lost n =
      elim (cases_eq n (t.begun + 1)) [
        | inl here ↦
            let there : has (with_session t).unlost n ≡ true = list_any-append (λ (m : ℕ). m == n) t.unlost ((t.begun + 1) ∷ []) ∙ last_true (has t.unlost n) ((t.begun + 1) == n) (eq-eqb (t.begun + 1) n (sym here)) in
            let new : is_lost_at (with_session t) n ≡ false = no_longer (nat_le 1 n) (nat_le n (t.begun + 1)) (has (with_session t).unlost n) there in
            new ∙ sym (not-lost t n (omega arith))
        | inr apart ↦
            let other : ((t.begun + 1) == n) ≡ false = grind (arith, nat_tests) in
            let same : has (with_session t).unlost n ≡ has t.unlost n = list_any-append (λ (m : ℕ). m == n) t.unlost ((t.begun + 1) ∷ []) ∙ last_false (has t.unlost n) ((t.begun + 1) == n) other in
            let reach : nat_le n (t.begun + 1) ≡ nat_le n t.begun = grind (arith, nat_tests) in
            ap (λ (b : Bool). nat_le 1 n && (b && not (has (with_session t).unlost n))) reach ∙ ap (λ (b : Bool). nat_le 1 n && (nat_le n t.begun && not b)) same
      ]
    where
      last_true : (a b : Bool) → b ≡ true → (a || (b || false)) ≡ true
      last_true true b e = refl
      last_true false b e = rw e refl

      last_false : (a b : Bool) → b ≡ false → (a || (b || false)) ≡ a
      last_false true b e = refl
      last_false false b e = rw e refl

      no_longer : (a b c : Bool) → c ≡ true → (a && (b && not c)) ≡ false
      no_longer true true c e = rw e refl
      no_longer true false c e = refl
      no_longer false b c e = refl

  begun_within : (n : ℕ) → has (with_session t).unlost n ≡ true → (1 ≤ n) × (n ≤ t.begun + 1)
  begun_within n is =
      elim (or_so (has t.unlost n) (((t.begun + 1) == n) || false) (sym (list_any-append (λ (m : ℕ). m == n) t.unlost ((t.begun + 1) ∷ [])) ∙ is)) [
        | inl old ↦ let bounds = counted.within n old in let low = bounds.0 in let high = bounds.1 in (low, omega arith)
        | inr new ↦ let here : t.begun + 1 ≡ n = eqb-true (t.begun + 1) n (or_none ((t.begun + 1) == n) new) in (omega arith, omega arith)
      ]
    where
      or_so : (a b : Bool) → (a || b) ≡ true → (a ≡ true) ⊎ (b ≡ true)
      or_so true b e = inl refl
      or_so false b e = inr e

      or_none : (b : Bool) → (b || false) ≡ true → b ≡ true
      or_none true e = refl
      or_none false e = e

  pub counted-begins : t.begun < s.sessions → IsCounted (deeds ++ BeginsDeed (t.begun + 1) ∷ []) s (with_session t)
  counted-begins less =
      let made = sessions_of-append deeds (BeginsDeed (t.begun + 1) ∷ []) in
      record {
        begun = omega arith;
        numbers = subst (λ (sessions : List (Session Message)). AreNumbered 0 sessions (t.begun + 1)) (sym made) (numbered-begins 0 t.begun (sessions_of deeds) counted.numbers);
        handed =
            ap length (sym (nothing-in (t.begun + 1) 0 t.begun (sessions_of deeds) counted.numbers (omega arith)))
            ∙ ap length (sym (begins-nothing (t.begun + 1) (t.begun + 1) (sessions_of deeds)))
            ∙ ap (λ (sessions : List (Session Message)). length (handed_in (t.begun + 1) sessions)) (sym made);
        lost = λ n. ap (list_any (λ (m : ℕ). m == n)) (losses-append deeds (BeginsDeed (t.begun + 1) ∷ []) ∙ no_loss (losses deeds)) ∙ counted.lost n ∙ sym (begins-lost n);
        within = begun_within;
      }
    where
      no_loss : (ls : List ℕ) → ls ++ [] ≡ ls
      no_loss [] = refl
      no_loss (l ∷ ls) = ap (λ (rest : List ℕ). l ∷ rest) (no_loss ls)

  -- a message is handed out
  pub counted-hands : (item : Message) → 0 < t.begun → IsCounted (deeds ++ Hands t.begun item ∷ []) s (record t { handed = t.handed + 1 })
  counted-hands item some =
      let made = sessions_of-append deeds (Hands t.begun item ∷ []) in
      record {
        begun = counted.begun;
        numbers = subst (λ (sessions : List (Session Message)). AreNumbered 0 sessions t.begun) (sym made) (numbered-hands t.begun item 0 t.begun (sessions_of deeds) counted.numbers);
        handed =
            ap (λ n. n + 1) counted.handed
            ∙ sym (length-append (handed_in t.begun (sessions_of deeds)) (item ∷ []))
            ∙ ap length (sym (handed-last item 0 t.begun (sessions_of deeds) counted.numbers some))
            ∙ ap (λ (sessions : List (Session Message)). length (handed_in t.begun sessions)) (sym made);
        lost = λ n. ap (list_any (λ (m : ℕ). m == n)) (losses-append deeds (Hands t.begun item ∷ []) ∙ no_loss (losses deeds)) ∙ counted.lost n;
        within = counted.within;
      }
    where
      no_loss : (ls : List ℕ) → ls ++ [] ≡ ls
      no_loss [] = refl
      no_loss (l ∷ ls) = ap (λ (rest : List ℕ). l ∷ rest) (no_loss ls)

  -- a session is lost
  module _ (n : ℕ) (there : has t.unlost n ≡ true) where
    gone : has (with_loss n t).unlost n ≡ false
    gone = any-filter_same (λ (m : ℕ). m == n) (λ (m : ℕ). not (m == n)) false (λ m same. rw same refl) t.unlost

    kept : (m : ℕ) → (n == m) ≡ false → has (with_loss n t).unlost m ≡ has t.unlost m
    kept m apart = any-filter_same (λ (k : ℕ). k == m) (λ (k : ℕ). not (k == n)) true (λ k same. other k same) t.unlost
      where
        other : (k : ℕ) → (k == m) ≡ true → not (k == n) ≡ true
        other k same =
            elim (cases_eq k n) [
              | inl e ↦ let here : (n == m) ≡ true = rw e at same in absurd cc
              | inr e ↦ let apart' : (k == n) ≡ false = grind (arith, nat_tests) in rw apart' refl
            ]

    pub lost-now : (m : ℕ) → (is_lost_at t m || ((n == m) || false)) ≡ is_lost_at (with_loss n t) m
    lost-now m = by (n == m) refl
      where
        or_true : (a : Bool) → (a || true) ≡ true
        or_true true = refl
        or_true false = refl

        or_false : (a : Bool) → (a || false) ≡ a
        or_false true = refl
        or_false false = refl

        all_true : (a b c : Bool) → a ≡ true → b ≡ true → c ≡ false → (a && (b && not c)) ≡ true
        all_true a b c e f g = rw (e, f, g) refl

        by : (b : Bool) → (n == m) ≡ b → (is_lost_at t m || (b || false)) ≡ is_lost_at (with_loss n t) m
        by true e =
            let same : n ≡ m = eqb-true n m e in
            let bounds = counted.within n there in
            let low = bounds.0 in
            let high = bounds.1 in
            let first : nat_le 1 m ≡ true = grind (arith, nat_tests) in
            let second : nat_le m t.begun ≡ true = grind (arith, nat_tests) in
            let third : has (with_loss n t).unlost m ≡ false = subst (λ k. has (with_loss n t).unlost k ≡ false) same gone in
            or_true (is_lost_at t m) ∙ sym (all_true (nat_le 1 m) (nat_le m t.begun) (has (with_loss n t).unlost m) first second third)
        by false e = or_false (is_lost_at t m) ∙ ap (λ (b : Bool). nat_le 1 m && (nat_le m t.begun && not b)) (sym (kept m e))

    still_within : (m : ℕ) → has (with_loss n t).unlost m ≡ true → (1 ≤ m) × (m ≤ t.begun)
    still_within m is = by (n == m) refl
      where
        by : (b : Bool) → (n == m) ≡ b → (1 ≤ m) × (m ≤ t.begun)
        by true e = let none : has (with_loss n t).unlost m ≡ false = subst (λ k. has (with_loss n t).unlost k ≡ false) (eqb-true n m e) gone in absurd cc
        by false e = counted.within m (sym (kept m e) ∙ is)

    pub counted-loses : IsCounted (deeds ++ Loses n ∷ []) s (with_loss n t)
    counted-loses =
        let made = sessions_of-append deeds (Loses n ∷ []) in
        record {
          begun = counted.begun;
          numbers = subst (λ (found : List (Session Message)). AreNumbered 0 found t.begun) (sym made) counted.numbers;
          handed = counted.handed ∙ ap (λ (found : List (Session Message)). length (handed_in t.begun found)) (sym made);
          lost = λ m.
              ap (list_any (λ (k : ℕ). k == m)) (losses-append deeds (Loses n ∷ []))
              ∙ list_any-append (λ (k : ℕ). k == m) (losses deeds) (n ∷ [])
              ∙ ap (λ (b : Bool). b || ((n == m) || false)) (counted.lost m)
              ∙ lost-now m;
          within = still_within;
        }

  -- an event changes none of it, and the peer has as many sessions as before, or more
  pub counted-event : (s' : PeerState) → s.sessions ≤ s'.sessions → IsCounted deeds s' t
  counted-event s' more = record {
    begun = let few = counted.begun in omega arith;
    numbers = counted.numbers;
    handed = counted.handed;
    lost = counted.lost;
    within = counted.within;
  }
