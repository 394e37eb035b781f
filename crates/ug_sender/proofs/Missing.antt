-- Which losses a lane tells as not noted: those that were passed over.
use Rattle.std.proofs.Common.{◌≡◌, ℕ, Bool, true, false, List, [], ◌∷◌, ◌++◌, Option, Some, None, refl, sym, ◌∙◌, ap, subst, inl, inr, append_assoc}
use Rattle.std.specs.Prelude.{◌||◌, ◌⊎◌}
use Rattle.std.proofs.lemmas.List.{append-nil}
use Rattle.ug_board.specs.Entry.{Entry}
use Rattle.ug_board.specs.Rules.{Rules}
use Rattle.ug_board.specs.Deeds.{Deed, Begins, Loses}
use Rattle.ug_turnstile.specs.Passes.{Held, IsSamePass, StartsWith}
use Rattle.ug_sender.specs.declared.turn.Ending.{Ending}
use Rattle.ug_sender.specs.declared.turn.Ending.TheVariants.{Begun, Idle, Stop, More}
use Rattle.ug_sender.specs.declared.turn.Taken.{Taken}
use Rattle.ug_sender.specs.declared.sending.Went.{Went}
use Rattle.ug_sender.specs.declared.sending.Went.TheVariants.{Well, Ill}
use Rattle.ug_sender.specs.Courses.{is_unnoted, fate_of}
use Rattle.ug_sender.specs.Lanes.{BeginsAmong, IsPassedOver, MissesLoss, pass_deeds}
use Rattle.ug_sender.specs.Loads.{LadenView, MissesLossOf}
use Rattle.ug_sender.specs.Rounds.{hands, begun_by, ending_deeds, fate_after, PassesOver, TellsTurn, TellsWent}
use Rattle.ug_sender.specs.Tellings.{TellsLoss}
use Rattle.ug_sender.proofs.Turns.{starts_with_more}
use Rattle.ug_sender.proofs.Wires.{or-false}

starts-same : {E : Type 0} (entries : List E) → StartsWith entries entries
starts-same {E} entries = ([], sym (append-nil entries))

same-pass : {E R : Type 0} (a b c : Held E R) → IsSamePass a b → IsSamePass b c → IsSamePass a c
same-pass {E} {R} a b c ab bc = (bc.0 ∙ ab.0, bc.1 ∙ ab.1, bc.2 ∙ ab.2)

one-of-three : (a b c : Bool) → ((a || b) || c) ≡ true → (a ≡ true) ⊎ ((b ≡ true) ⊎ (c ≡ true))
one-of-three true b c is = inl refl
one-of-three false true c is = inr (inl refl)
one-of-three false false c is = inr (inr is)

loss-none : (noted : Bool) (session : ℕ) (old new : List (Deed (List ℕ))) → noted ≡ false → TellsLoss noted session old new → new ≡ old
loss-none true session old new none told = cc
loss-none false session old new none told = told

went-starts : (went : Went) (session : Option ℕ) (old new : List (Deed (List ℕ))) → TellsWent went session old new → StartsWith new old
went-starts Well session old new told = ([], told ∙ sym (append-nil old))
went-starts (Ill noted) None old new told = absurd told
went-starts (Ill true) (Some session) old new told = (Loses session ∷ [], told)
went-starts (Ill false) (Some session) old new told = ([], told ∙ sym (append-nil old))

among : (session : ℕ) (front first mid last : List (Deed (List ℕ))) → mid ≡ first ++ (front ++ Begins session ∷ []) → StartsWith last mid → BeginsAmong session first last
among session front first mid last grown starts = (
  front,
  starts.0,
  starts.1 ∙ (ap (λ d. d ++ starts.0) grown ∙ (append_assoc first (front ++ Begins session ∷ []) starts.0
      ∙ ap (λ d. first ++ d) (append_assoc front (Begins session ∷ []) starts.0))),
)

module _ {Opening State Job Said : Type 0} (rules : Rules Opening State Job Said) where
  -- one call, which failed and whose loss was noted or not
  one-missed :
      (noted u u' : Bool) (peer : ℕ) (latest : Option ℕ) (old new : Held (Entry Job Said) Opening)
      → u' ≡ (u || is_unnoted (fate_of noted)) → (noted ≡ false → MissesLoss rules peer latest old new)
      → u' ≡ true → (u ≡ true) ⊎ MissesLoss rules peer latest old new
  one-missed true u u' peer latest old new is misses has = inl (sym (or-false u) ∙ (sym is ∙ has))
  one-missed false u u' peer latest old new is misses has = inr (misses refl)

  -- a step in which a session began, and the call failed
  pub begun-missed :
      (session : ℕ) (noted u u' : Bool) (peer : ℕ) (latest : Option ℕ) (p0 p1 p2 : Held (Entry Job Said) Opening)
      → u' ≡ (u || is_unnoted (fate_of noted)) → IsSamePass p0 p1 → IsSamePass p1 p2 → StartsWith p1.seen p0.seen → StartsWith p2.seen p1.seen
      → pass_deeds rules p1 ≡ pass_deeds rules p0 ++ Begins session ∷ [] → TellsLoss noted session (pass_deeds rules p1) (pass_deeds rules p2)
      → (noted ≡ false → IsPassedOver rules peer session p2)
      → u' ≡ true → (u ≡ true) ⊎ MissesLoss rules peer latest p0 p2
  begun-missed session noted u u' peer latest p0 p1 p2 is same1 same2 seen1 seen2 grown told passed has =
      one-missed noted u u' peer latest p0 p2 is (λ none. (
        session,
        inr ([], [], loss-none noted session (pass_deeds rules p1) (pass_deeds rules p2) none told ∙ grown),
        (p2, same-pass p0 p1 p2 same1 same2, starts_with_more p0.seen p1.seen p2.seen seen1 seen2, starts-same p2.seen, passed none),
      )) has

  -- a step in which a packet was handed out, and the call failed
  pub sent-missed :
      (session : ℕ) (noted u u' : Bool) (peer : ℕ) (latest : Option ℕ) (p0 p1 p2 : Held (Entry Job Said) Opening)
      → u' ≡ (u || is_unnoted (fate_of noted)) → IsSamePass p0 p1 → IsSamePass p1 p2 → StartsWith p1.seen p0.seen → StartsWith p2.seen p1.seen
      → latest ≡ Some session → (noted ≡ false → IsPassedOver rules peer session p2)
      → u' ≡ true → (u ≡ true) ⊎ MissesLoss rules peer latest p0 p2
  sent-missed session noted u u' peer latest p0 p1 p2 is same1 same2 seen1 seen2 open_one passed has =
      one-missed noted u u' peer latest p0 p2 is (λ none. (
        session,
        inl open_one,
        (p2, same-pass p0 p1 p2 same1 same2, starts_with_more p0.seen p1.seen p2.seen seen1 seen2, starts-same p2.seen, passed none),
      )) has

  -- the call that sent the packets of a turn
  taken-missed :
      (sent : Went) (u u' : Bool) (peer : ℕ) (latest : Option ℕ) (p0 p2 p3 : Held (Entry Job Said) Opening)
      → u' ≡ (u || is_unnoted (fate_after sent)) → IsSamePass p0 p2 → StartsWith p2.seen p0.seen → StartsWith p3.seen p2.seen
      → PassesOver rules sent peer latest p2
      → u' ≡ true → (u ≡ true) ⊎ MissesLoss rules peer latest p0 p3
  taken-missed Well u u' peer latest p0 p2 p3 is same seen1 seen2 passed has = inl (sym (or-false u) ∙ (sym is ∙ has))
  taken-missed (Ill true) u u' peer latest p0 p2 p3 is same seen1 seen2 passed has = inl (sym (or-false u) ∙ (sym is ∙ has))
  taken-missed (Ill false) u u' peer None p0 p2 p3 is same seen1 seen2 passed has = absurd passed
  taken-missed (Ill false) u u' peer (Some session) p0 p2 p3 is same seen1 seen2 passed has =
      inr (session, inl refl, (p2, same, seen1, seen2, passed))

  -- the call that began a session at the end of a turn
  began-missed :
      (ending : Ending) (peer : ℕ) (latest : Option ℕ) (front d1 : List (Deed (List ℕ))) (p0 p3 : Held (Entry Job Said) Opening)
      → d1 ≡ pass_deeds rules p0 ++ (front ++ ending_deeds ending) → StartsWith (pass_deeds rules p3) d1
      → IsSamePass p0 p3 → StartsWith p3.seen p0.seen → PassesOver rules (Ill false) peer (begun_by ending) p3
      → MissesLoss rules peer latest p0 p3
  began-missed (Begun n) peer latest front d1 p0 p3 grown starts same seen passed =
      (n, inr (among n front (pass_deeds rules p0) d1 (pass_deeds rules p3) grown starts), (p3, same, seen, starts-same p3.seen, passed))
  began-missed Idle peer latest front d1 p0 p3 grown starts same seen passed = absurd passed
  began-missed Stop peer latest front d1 p0 p3 grown starts same seen passed = absurd passed
  began-missed More peer latest front d1 p0 p3 grown starts same seen passed = absurd passed

  ended-missed :
      (begun : Went) (ending : Ending) (v u' : Bool) (peer : ℕ) (latest : Option ℕ) (front d1 : List (Deed (List ℕ))) (p0 p3 : Held (Entry Job Said) Opening)
      → u' ≡ (v || is_unnoted (fate_after begun))
      → d1 ≡ pass_deeds rules p0 ++ (front ++ ending_deeds ending) → StartsWith (pass_deeds rules p3) d1
      → IsSamePass p0 p3 → StartsWith p3.seen p0.seen → PassesOver rules begun peer (begun_by ending) p3
      → u' ≡ true → (v ≡ true) ⊎ MissesLoss rules peer latest p0 p3
  ended-missed Well ending v u' peer latest front d1 p0 p3 is grown starts same seen passed has = inl (sym (or-false v) ∙ (sym is ∙ has))
  ended-missed (Ill true) ending v u' peer latest front d1 p0 p3 is grown starts same seen passed has = inl (sym (or-false v) ∙ (sym is ∙ has))
  ended-missed (Ill false) ending v u' peer latest front d1 p0 p3 is grown starts same seen passed has =
      inr (began-missed ending peer latest front d1 p0 p3 grown starts same seen passed)

  either-missed :
      (u v : Bool) (peer : ℕ) (latest : Option ℕ) (p0 p3 : Held (Entry Job Said) Opening)
      → (v ≡ true) ⊎ MissesLoss rules peer latest p0 p3 → (v ≡ true → (u ≡ true) ⊎ MissesLoss rules peer latest p0 p3)
      → (u ≡ true) ⊎ MissesLoss rules peer latest p0 p3
  either-missed u v peer latest p0 p3 (inl has) sent = sent has
  either-missed u v peer latest p0 p3 (inr misses) sent = inr misses

  -- a round
  pub round-missed :
      (taken : Taken) (buf : List ℕ) (sent begun : Went) (u u' : Bool) (peer : ℕ) (latest : Option ℕ) (p0 p1 p2 p3 : Held (Entry Job Said) Opening)
      → u' ≡ ((u || is_unnoted (fate_after sent)) || is_unnoted (fate_after begun))
      → IsSamePass p0 p1 → IsSamePass p1 p2 → IsSamePass p2 p3 → StartsWith p1.seen p0.seen → StartsWith p2.seen p1.seen → StartsWith p3.seen p2.seen
      → TellsTurn latest taken buf (pass_deeds rules p0) (pass_deeds rules p1)
      → TellsWent sent latest (pass_deeds rules p1) (pass_deeds rules p2) → TellsWent begun (begun_by taken.ending) (pass_deeds rules p2) (pass_deeds rules p3)
      → PassesOver rules sent peer latest p2 → PassesOver rules begun peer (begun_by taken.ending) p3
      → u' ≡ true → (u ≡ true) ⊎ MissesLoss rules peer latest p0 p3
  round-missed taken buf sent begun u u' peer latest p0 p1 p2 p3 is same1 same2 same3 seen1 seen2 seen3 turn first second passed1 passed2 has =
      let same = same-pass p0 p1 p2 same1 same2 in
      let seen = starts_with_more p0.seen p1.seen p2.seen seen1 seen2 in
      let starts = starts_with_more (pass_deeds rules p1) (pass_deeds rules p2) (pass_deeds rules p3)
      (went-starts sent latest (pass_deeds rules p1) (pass_deeds rules p2) first) (went-starts begun (begun_by taken.ending) (pass_deeds rules p2) (pass_deeds rules p3) second) in
      either-missed u (u || is_unnoted (fate_after sent)) peer latest p0 p3
      (ended-missed begun taken.ending (u || is_unnoted (fate_after sent)) u' peer latest (hands turn.packets) (pass_deeds rules p1) p0 p3 is turn.grown starts
      (same-pass p0 p2 p3 same same3) (starts_with_more p0.seen p2.seen p3.seen seen seen3) passed2 has)
      (λ some. taken-missed sent u (u || is_unnoted (fate_after sent)) peer latest p0 p2 p3 refl same seen seen3 passed1 some)

  -- a call whose session's loss was not noted
  passed-one :
      (went : Went) (peer : ℕ) (session : Option ℕ) (pass : Held (Entry Job Said) Opening)
      → is_unnoted (fate_after went) ≡ true → PassesOver rules went peer session pass
      → (n : ℕ) × (session ≡ Some n) × IsPassedOver rules peer n pass
  passed-one Well peer session pass is passed = cc
  passed-one (Ill true) peer session pass is passed = cc
  passed-one (Ill false) peer None pass is passed = absurd passed
  passed-one (Ill false) peer (Some n) pass is passed = (n, refl, passed)

  -- the two calls that send a load
  pub load-missed :
      {W : Type 0} (was laden : LadenView W Opening Job Said) (sent begun : Went) (u' : Bool) (p1 p2 : Held (Entry Job Said) Opening)
      → was ≡ laden → u' ≡ ((was.lane.unnoted || is_unnoted (fate_after sent)) || is_unnoted (fate_after begun))
      → IsSamePass was.lane.pass p1 → IsSamePass p1 p2 → StartsWith p1.seen was.lane.pass.seen → StartsWith p2.seen p1.seen
      → PassesOver rules sent was.lane.peer was.lane.latest p1 → PassesOver rules begun was.lane.peer was.waiting p2
      → u' ≡ true → (laden.lane.unnoted ≡ true) ⊎ MissesLossOf rules laden p2
  load-missed {W} was laden sent begun u' p1 p2 same is same1 same2 seen1 seen2 passed1 passed2 has =
      let peer = was.lane.peer in
      let p0 = was.lane.pass in
      subst (λ l. (l.lane.unnoted ≡ true) ⊎ MissesLossOf rules l p2) same
      (elim (one-of-three was.lane.unnoted (is_unnoted (fate_after sent)) (is_unnoted (fate_after begun)) (sym is ∙ has)) [
        | inl before ↦ inl before
        | inr (inl first) ↦
            let one = passed-one sent peer was.lane.latest p1 first passed1 in
            inr (one.0, inl one.1, (p1, same1, seen1, seen2, one.2))
        | inr (inr second) ↦
            let one = passed-one begun peer was.waiting p2 second passed2 in
            inr (one.0, inr one.1, (p2, same-pass p0 p1 p2 same1 same2, starts_with_more p0.seen p1.seen p2.seen seen1 seen2, starts-same p2.seen, one.2))
      ])
