-- The rules are those of a speaker.
use Rattle.std.proofs.Common.{◌≡◌, ℕ, true, List, ◌∷◌, ◌++◌, length, sym, subst, arith, length-append}
use Rattle.ug_board.specs.History.{replay, job_entry}
use Rattle.ug_world.specs.declared.peer_state.PeerState.{PeerState}
use Rattle.ug_world.specs.World.{World}
use Rattle.ug_speaker.specs.Speech.{TakesEvent}
use Rattle.ug_speaker.specs.Told.{deeds_to, told, world_at}
use Rattle.ug_speaker.specs.Right.{IsToldAgain}
use Rattle.ug_speaker.specs.Owes.{IsCourse, IsDrainedSince, HistoriesRight, IsSpeaker}
use Rattle.ug_group_rules.specs.Machine.{Job, Take, Format, Merge, Slow, Sync, Close}
use Rattle.ug_group_rules.specs.Rules.{group_rules, group_speech, purpose}
use Rattle.ug_group_rules.proofs.Seated.{told_by}
use Rattle.ug_group_rules.proofs.Histories.{GroupEntry}
use Rattle.ug_group_rules.proofs.Asked.{IsAsked}
use Rattle.ug_group_rules.proofs.Steps.{group-steps}
use Rattle.ug_group_rules.proofs.Courses.{world-led, told-right, begun-at_most, begun-all, all-told, text-told, losses-told}
use Rattle.ug_group_rules.proofs.Marks.{marks-told}
use Rattle.ug_group_rules.proofs.AskedHistories.{asked-whole, told-all_again}

module _ (opening : World) (before whole : List GroupEntry) (p : ℕ) (asker s : PeerState) (since : IsDrainedSince group_rules group_speech opening before whole p asker s) where
  abbrev handed : ℕ
  handed = length (told group_rules group_speech p asker.sessions opening before)

  -- the peer has asked for all routes in this history
  abbrev HasAsked : List GroupEntry → Type 0
  HasAsked h = IsAsked true p asker.sessions handed (deeds_to group_rules group_speech p opening h) (replay group_rules opening h).world (replay group_rules opening h)

  asked_by : (job : Job) → purpose job ≡ TakesEvent since.asks.event → whole ≡ before ++ job_entry group_rules since.pass job (replay group_rules opening before) ∷ since.later → HasAsked whole
  asked_by (Take e) takes goes_on =
      let event : e ≡ since.asks.event = cc in
      subst (λ h. HasAsked h) (sym goes_on)
      (asked-whole opening before since.later since.pass e p asker (subst (λ h. IsCourse group_rules group_speech opening h) goes_on since.course) since.asks.there (rw event since.asks.request)
      (rw event since.asks.about) handed
      (λ t sits. (let sum = length-append (told group_rules group_speech p asker.sessions opening before) (told_by asker t.rest) in omega arith)))
  asked_by (Format g) takes goes_on = absurd cc
  asked_by (Merge g h) takes goes_on = absurd cc
  asked_by (Slow g) takes goes_on = absurd cc
  asked_by Sync takes goes_on = absurd cc
  asked_by Close takes goes_on = absurd cc

  pub told-again : IsToldAgain p s.peer (world_at group_rules group_speech opening whole) handed (told group_rules group_speech p s.sessions opening whole)
  told-again =
      told-all_again opening whole since.course p asker.sessions handed s since.there since.drained since.live (asked_by since.asks.job since.asks.takes since.goes_on) since.same_session

group_histories : HistoriesRight group_rules group_speech
group_histories = record {
  world = λ opening h course. world-led opening h;
  right = λ opening h p n s course is some few. told-right opening h course p n s is;
  begun_at_most = λ opening h p s course is. begun-at_most opening h course p s is;
  begun_all = λ opening h p s course is drained. begun-all opening h course p s is drained;
  all_told = λ opening h p s course is drained live. all-told opening h course p s is drained live;
  text = λ opening h p session made len s course is said. text-told opening h course p s is session made len said;
  losses = λ opening h p n course. losses-told opening h course p n;
  marks = λ opening h pass job course legal. marks-told opening h pass job course legal;
  told_again = λ opening before whole p asker s since. told-again opening before whole p asker s since;
}

pub group_speaks : IsSpeaker group_rules group_speech
group_speaks = record { steps = group-steps; histories = group_histories }
