-- Marks beside the peers whose they are.
use Rattle.std.proofs.Common.{◌≡◌, ℕ, zero, suc, ◌+◌, ◌<◌, ◌≤◌, Bool, true, false, List, [], ◌∷◌, ◌++◌, length, drop, slice_get, Option, Some, None, is_some, refl, sym, ap, ◌∙◌, arith}
use Rattle.std.specs.Prelude.{◌&&◌, ◌==◌, if◌then◌else◌}
use Rattle.std.specs.Option.{option_map}
use Rattle.std.proofs.lemmas.List.{append_assoc, drop_all}
use Rattle.ug_types.specs.declared.mark.Mark.{Mark}
use Rattle.ug_board.specs.Deeds.{when}
use Rattle.ug_world.specs.declared.peer_state.PeerState.{PeerState}
use Rattle.ug_world.specs.World.{World}
use Rattle.ug_group_rules.specs.Machine as machine
use Rattle.ug_group_rules.specs.Machine.{System, seat_at, seat_of, handed_now, mark_at, marks_at}
use Rattle.ug_groups.specs.Rows.{Rows}
use Rattle.ug_groups.specs.declared.member.Member.{Member}
use Rattle.ug_groups.specs.Members.{seat_in, member_of, members_from, system, sub_in, sub_at}
use Rattle.ug_groups.proofs.ListFacts.{get_none}
use Rattle.ug_groups.proofs.MemberViews.{member-get}

there_is : {T : Type 0} (xs : List T) (p : ℕ) → p < length xs → (x : T) × (slice_get xs p ≡ Some x) × (drop p xs ≡ x ∷ drop (p + 1) xs)
there_is [] p inside = absurd (omega arith)
there_is (x ∷ xs) zero inside = (x, refl, refl)
there_is (x ∷ xs) (suc p) inside =
    let e : suc p + 1 ≡ suc (p + 1) = omega arith in
    rw e (there_is xs p (omega arith))

none_more : {T : Type 0} (xs : List T) → xs ++ [] ≡ xs
none_more [] = refl
none_more {T} (x ∷ xs) = ap (λ (rest : List T). x ∷ rest) (none_more xs)

module _ (test : PeerState → Bool) (state : System) (peers : List PeerState) (p : ℕ) where
  -- The marks so far grow by that of one peer, where it has one.
  pub mark_step : (old new all : List Mark) → p < length peers
      → ((s : PeerState) → slice_get peers p ≡ Some s → new ≡ old ++ when (test s && is_some (seat_at p state)) (mark_at p s state ∷ []))
      → old ++ marks_at test p (drop p peers) state ≡ all → new ++ marks_at test (p + 1) (drop (p + 1) peers) state ≡ all
  mark_step old new all inside pushed so =
      let found = there_is peers p inside in
      let s = found.0 in
      let more = marks_at test (p + 1) (drop (p + 1) peers) state in
      ap (λ (marks : List Mark). marks ++ more) (pushed s found.1)
      ∙ append_assoc old (when (test s && is_some (seat_at p state)) (mark_at p s state ∷ [])) more
      ∙ ap (λ (left : List PeerState). old ++ marks_at test p left state) (sym found.2)
      ∙ so

  -- no peer is left
  pub mark_end : (marks all : List Mark) → length peers ≤ p → marks ++ marks_at test p (drop p peers) state ≡ all → marks ≡ all
  mark_end marks all past so = sym (none_more marks) ∙ ap (λ (left : List PeerState). marks ++ marks_at test p left state) (sym (drop_all p peers past)) ∙ so

module _ (w : World) (closed : Bool) (made : ℕ) (rows : Rows) (members : List Member) (p : ℕ) where
  abbrev s : System
  s = system w closed made rows members

  seat-is : is_some (seat_at p s) ≡ is_some (sub_at p members)
  seat-is = ap (λ (o : Option machine.Member). is_some (seat_of o)) (member-get rows p members) ∙ by (slice_get members p)
    where
      seat : (o : Option ℕ) → is_some (option_map (seat_in rows p) o) ≡ is_some o
      seat None = refl
      seat (Some g) = refl

      by : (o : Option Member) → is_some (seat_of (option_map (member_of rows p) o)) ≡ is_some (sub_in o)
      by None = refl
      by (Some m) = seat m.sub

  -- no seat, no mark
  pub mark_none : (old : List Mark) (mark : Mark) → None ≡ sub_at p members → old ≡ old ++ when (is_some (seat_at p s)) (mark ∷ [])
  mark_none old mark none = sym (ap (λ (b : Bool). old ++ when b (mark ∷ [])) (seat-is ∙ ap is_some (sym none)) ∙ none_more old)

  pub mark_some : (old new : List Mark) (mark is : Mark) (g : ℕ) → Some g ≡ sub_at p members → new ≡ old ++ mark ∷ [] → mark ≡ is → new ≡ old ++ when (is_some (seat_at p s)) (is ∷ [])
  mark_some old new mark is g some pushed same =
      pushed ∙ ap (λ (m : Mark). old ++ m ∷ []) same ∙ sym (ap (λ (b : Bool). old ++ when b (is ∷ [])) (seat-is ∙ ap is_some (sym some)))

module _ (rows : Rows) (members : List Member) (p : ℕ) where
  pub handed-none : length members ≤ p → (session : ℕ) → handed_now session (slice_get (members_from rows 0 members) p) ≡ 0
  handed-none past session = ap (handed_now session) (member-get rows p members ∙ ap (option_map (member_of rows p)) (get_none members p past))

  pub handed-some : (m : Member) → slice_get members p ≡ Some m → (session : ℕ) → handed_now session (slice_get (members_from rows 0 members) p) ≡ (if m.begun == session then m.handed else 0)
  handed-some m is session = ap (handed_now session) (member-get rows p members ∙ ap (option_map (member_of rows p)) is)

-- the mark of a live peer
pub mark_is : (w : World) (closed : Bool) (made : ℕ) (rows : Rows) (members : List Member) (p session handed version : ℕ) (s : PeerState) → slice_get w.peers p ≡ Some s → option_map (λ (x : PeerState). x.sessions) (slice_get w.peers p) ≡ Some session
    → version ≡ w.version → handed ≡ handed_now session (slice_get (members_from rows 0 members) p) → record { version = version; peer = p; session = session; handed = handed } ≡ mark_at p s (system w closed made rows members)
mark_is w closed made rows members p session handed version s at had is count =
    let same : session ≡ s.sessions = sessions_are (sym had ∙ ap (option_map (λ (x : PeerState). x.sessions)) at) in
    ap (λ (v : ℕ). record { version = v; peer = p; session = session; handed = handed }) is
    ∙ ap (λ (n : ℕ). record { version = w.version; peer = p; session = session; handed = n }) count
    ∙ ap (λ (n : ℕ). record { version = w.version; peer = p; session = n; handed = handed_now n (slice_get (members_from rows 0 members) p) }) same
  where
    sessions_are : Some session ≡ Some s.sessions → session ≡ s.sessions
    sessions_are e = cc

-- where it asks
pub asks-mark : (asks is : Bool) (old new : List Mark) (m : Mark) → asks ≡ true → new ≡ old ++ when is (m ∷ []) → new ≡ old ++ when (asks && is) (m ∷ [])
asks-mark true is old new m e pushed = pushed
asks-mark false is old new m e pushed = absurd cc

-- where an event asks for nothing
none-asks : (about : PeerState → Bool) (p : ℕ) (peers : List PeerState) (left : System) → marks_at (λ (x : PeerState). false && about x) p peers left ≡ []
none-asks about p [] left = refl
none-asks about p (x ∷ peers) left = none-asks about (p + 1) peers left

pub mark_nobody : (asks : Bool) (about : PeerState → Bool) (p : ℕ) (peers : List PeerState) (left : System) → asks ≡ false → marks_at (λ (x : PeerState). asks && about x) p peers left ≡ []
mark_nobody true about p peers left idle = absurd cc
mark_nobody false about p peers left idle = none-asks about p peers left
