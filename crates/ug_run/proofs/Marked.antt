-- The marks of `sync` are of peers that are up, in their present sessions.
use Rattle.std.proofs.Common.{◌≡◌, ℕ, zero, suc, ◌+◌, ◌⊎◌, inl, inr, Bool, true, false, List, [], ◌∷◌, ◌++◌, slice_get, Some, Ok, Err, refl, sym, subst, arith}
use Rattle.std.specs.Prelude.{take, ◌&&◌}
use Rattle.ug_types.specs.declared.mark.Mark.{Mark}
use Rattle.ug_events.specs.Events.{Saying, SaysNothing, SaysSync, Says}
use Rattle.ug_events.specs.Reads.{Reads}
use Rattle.ug_world.specs.declared.peer_state.PeerState.{PeerState}
use Rattle.ug_world.specs.World.{World}
use Rattle.ug_world.specs.Worlds.{outcome, world_after, last_world}
use Rattle.ug_speaker.specs.Right.{IsAmong}
use Rattle.ug_event_loop.specs.Marks.{FirstIs, IsMarkOf, HasMarkOr, AreMarksFrom, AreMarksOf, AreMarks}
use Rattle.ug_event_loop.specs.Kept.{HasMark}
use Rattle.ug_run.specs.Files.{sync_marks, all_syncs}

-- The mark is of a peer that is up, in its present session.
pub record IsMarked (w : World) (q : ℕ) (peers : List PeerState) (m : Mark) : Type 0 where
  pub place : ℕ
  pub state : PeerState
  pub there : slice_get peers place ≡ Some state
  pub up : state.up ≡ true
  pub mark : IsMarkOf w (q + place) state m

marked_here : (w : World) (q : ℕ) (s : PeerState) (peers : List PeerState) (m : Mark) → s.up ≡ true → IsMarkOf w q s m → IsMarked w q (s ∷ peers) m
marked_here w q s peers m up is =
    let same : q ≡ q + 0 = omega arith in record { place = 0; state = s; there = refl; up = up; mark = subst (λ k. IsMarkOf w k s m) same is }

marked_next : (w : World) (q : ℕ) (s : PeerState) (peers : List PeerState) (m : Mark) → IsMarked w (q + 1) peers m → IsMarked w q (s ∷ peers) m
marked_next w q s peers m h =
    let same : q + 1 + h.place ≡ q + suc h.place = omega arith in
    record { place = suc h.place; state = h.state; there = h.there; up = h.up; mark = subst (λ k. IsMarkOf w k h.state m) same h.mark }

module _ (asked : PeerState → Bool) (is_lost : ℕ → ℕ → Bool) (w : World) (m : Mark) where
  abbrev Asked : ℕ → List PeerState → List Mark → Type 0
  Asked = AreMarksFrom asked is_lost w

  first_or : (q : ℕ) (s : PeerState) (peers : List PeerState) (ms : List Mark) → s.up ≡ true → FirstIs (IsMarkOf w q s) (Asked (q + 1) peers) ms → IsAmong m ms
      → ((rest : List Mark) → Asked (q + 1) peers rest → IsAmong m rest → IsMarked w (q + 1) peers m) → IsMarked w q (s ∷ peers) m
  first_or q s peers [] up is among further = absurd is
  first_or q s peers (x ∷ xs) up is among further =
      elim among [
        | inl here ↦ marked_here w q s peers m up (subst (λ (y : Mark). IsMarkOf w q s y) (sym here) is.0)
        | inr later ↦ marked_next w q s peers m (further xs is.1 later)
      ]

  by_up : (q : ℕ) (s : PeerState) (peers : List PeerState) (ms : List Mark) (a b : Bool) → s.up ≡ b → HasMarkOr (a && b) (is_lost q s.sessions ≡ true) (IsMarkOf w q s) (Asked (q + 1) peers) ms → IsAmong m ms
      → ((rest : List Mark) → Asked (q + 1) peers rest → IsAmong m rest → IsMarked w (q + 1) peers m) → IsMarked w q (s ∷ peers) m
  by_up q s peers ms false b up has among further = marked_next w q s peers m (further ms has among)
  by_up q s peers ms true false up has among further = marked_next w q s peers m (further ms has among)
  by_up q s peers ms true true up has among further =
      elim has [ inl first ↦ first_or q s peers ms up first among further | inr excused ↦ marked_next w q s peers m (further ms excused.1 among) ]

  -- a mark is of a peer that is up
  pub mark-of : (q : ℕ) (peers : List PeerState) (ms : List Mark) → Asked q peers ms → IsAmong m ms → IsMarked w q peers m
  mark-of q [] ms none among = absurd (subst (λ (l : List Mark). IsAmong m l) none among)
  mark-of q (s ∷ peers) ms has among = by_up q s peers ms (asked s) s.up refl has among (λ rest are later. mark-of (q + 1) peers rest are later)

-- the marks of the line at a place, with the world before it
pub marks-at : (is_lost : ℕ → ℕ → Bool) (w : World) (lines : List (Reads Saying)) (marks : List (List Mark)) (i : ℕ) (line : Reads Saying) (ms : List Mark) → AreMarks is_lost w lines marks → slice_get lines i ≡ Some line
    → slice_get marks i ≡ Some ms → AreMarksOf is_lost (last_world w (take i lines)) line ms
marks-at is_lost w [] marks i line ms are at has = absurd cc
marks-at is_lost w (l ∷ lines) [] i line ms are at has = absurd are
marks-at is_lost w (l ∷ lines) (x ∷ marks) zero line ms are at has =
    let same : l ≡ line = cc in
    let those : x ≡ ms = cc in
    subst (λ (y : Reads Saying). AreMarksOf is_lost w y ms) same (subst (λ (ys : List Mark). AreMarksOf is_lost w l ys) those are.0)
marks-at is_lost w (l ∷ lines) (x ∷ marks) (suc i) line ms are at has = marks-at is_lost (world_after w (outcome w l)) lines marks i line ms are.1 at has

-- A mark of `sync` is one of the line at some place.
pub record IsOfLine (lines : List (Reads Saying)) (marks : List (List Mark)) (m : Mark) : Type 0 where
  pub place : ℕ
  pub line : slice_get lines place ≡ Some (Ok SaysSync)
  pub has : HasMark marks place m

among_either : (m : Mark) (xs ys : List Mark) → IsAmong m (xs ++ ys) → IsAmong m xs ⊎ IsAmong m ys
among_either m [] ys h = inr h
among_either m (x ∷ xs) ys h = elim h [
  | inl here ↦ inl (inl here)
  | inr later ↦ elim (among_either m xs ys later) [ inl one ↦ inl (inr one) | inr other ↦ inr other ]
]

line_next : (l : Reads Saying) (lines : List (Reads Saying)) (ms : List Mark) (marks : List (List Mark)) (m : Mark) → IsOfLine lines marks m → IsOfLine (l ∷ lines) (ms ∷ marks) m
line_next l lines ms marks m h = record { place = suc h.place; line = h.line; has = record { all = h.has.all; of_line = h.has.of_line; among = h.has.among } }

line_here : (l : Reads Saying) (lines : List (Reads Saying)) (ms : List Mark) (marks : List (List Mark)) (m : Mark) → IsAmong m (sync_marks l ms) → IsOfLine (l ∷ lines) (ms ∷ marks) m
line_here (Ok SaysNothing) lines ms marks m among = absurd among
line_here (Ok SaysSync) lines ms marks m among = record { place = 0; line = refl; has = record { all = ms; of_line = refl; among = among } }
line_here (Ok (Says e)) lines ms marks m among = absurd among
line_here (Err refusal) lines ms marks m among = absurd among

none_here : (l : Reads Saying) (m : Mark) → IsAmong m (sync_marks l []) → ⊥
none_here (Ok SaysNothing) m among = among
none_here (Ok SaysSync) m among = among
none_here (Ok (Says e)) m among = among
none_here (Err refusal) m among = among

none_at_all : (lines : List (Reads Saying)) (m : Mark) → IsAmong m (all_syncs lines []) → ⊥
none_at_all [] m among = among
none_at_all (l ∷ lines) m among = elim (among_either m (sync_marks l []) (all_syncs lines []) among) [ inl here ↦ none_here l m here | inr later ↦ none_at_all lines m later ]

pub sync-line : (lines : List (Reads Saying)) (marks : List (List Mark)) (m : Mark) → IsAmong m (all_syncs lines marks) → IsOfLine lines marks m
sync-line [] marks m among = absurd among
sync-line (l ∷ lines) [] m among = absurd (none_at_all (l ∷ lines) m among)
sync-line (l ∷ lines) (ms ∷ marks) m among =
    elim (among_either m (sync_marks l ms) (all_syncs lines marks) among) [
      | inl here ↦ line_here l lines ms marks m here
      | inr later ↦ line_next l lines ms marks m (sync-line lines marks m later)
    ]
