-- Each step does what a step of a speaker does, in every state.
use Rattle.std.proofs.Common.{◌≡◌, Bool, true, false, slice_get, Option, refl}
use Rattle.std.specs.Prelude.{not}
use Rattle.ug_board.specs.declared.steps.LaneSaid.{LaneSaid}
use Rattle.ug_board.specs.declared.steps.LaneSaid.TheVariants.{Idle, Stop}
use Rattle.ug_world.specs.declared.peer_state.PeerState.{PeerState}
use Rattle.ug_speaker.specs.Counts.{sessions_at}
use Rattle.ug_speaker.proofs.Bools.{both_so, not_so}
use Rattle.ug_speaker.specs.Owes.{IsTimely, StaysDrained, StepsRight}
use Rattle.ug_group_rules.specs.Machine.{System, may_format, may_merge, must_part, upshot_of, Upshot, Begins, Hands, Rests, Job, Take, Format, Merge, Slow, Sync, Close, legal, after_job}
use Rattle.ug_group_rules.specs.Rules.{at_rest, said_of, group_rules, group_speech, purpose}
use Rattle.ug_group_rules.proofs.Drained.{rested, formats-none, merges-none, parts-none, drained-settled, drained-rests, drained-after_lane}
use Rattle.ug_group_rules.proofs.WorldStays.{world-job, closed-job, stands-lane}

timely : (job : Job) (s : System) → IsTimely group_rules group_speech (purpose job) (legal job s) s
timely (Take e) s = refl
timely (Format g) s = λ e. not_so s.closed (both_so (may_format s g) (not s.closed) e).1
timely (Merge g h) s = λ e. not_so s.closed (both_so (may_merge s g h) (not s.closed) e).1
timely (Slow g) s = λ e. not_so s.closed (both_so (must_part s g) (not s.closed) e).1
timely Sync s = refl
timely Close s = refl

drained_after_job : (job : Job) (s : System) → legal job s ≡ true → StaysDrained group_rules group_speech (purpose job) s (after_job job s)
drained_after_job (Take e) s is = tt
drained_after_job (Format g) s is = λ drained. absurd (formats-none s g (rested s drained) (both_so (may_format s g) (not s.closed) is).0)
drained_after_job (Merge g h) s is = λ drained. absurd (merges-none s g h (rested s drained) (both_so (may_merge s g h) (not s.closed) is).0)
drained_after_job (Slow g) s is = λ drained. absurd (parts-none s g (rested s drained) (both_so (must_part s g) (not s.closed) is).0)
drained_after_job Sync s is = λ drained. drained
drained_after_job Close s is = λ drained. drained

-- ---- where a lane rests

abbrev IsAtRest : LaneSaid → Bool → Type 0
IsAtRest said closed = (said ≡ Stop → closed ≡ true) × (said ≡ Idle → closed ≡ false)

rest_stops : (closed : Bool) → IsAtRest (at_rest closed) closed
rest_stops true = (λ e. refl, λ e. absurd cc)
rest_stops false = (λ e. absurd cc, λ e. refl)

upshot_stops : (closed : Bool) (peer : Option PeerState) (u : Upshot) → IsAtRest (said_of closed peer u) closed
upshot_stops closed peer (Begins n) = (λ e. absurd cc, λ e. absurd cc)
upshot_stops closed peer (Hands n packet) = (λ e. absurd cc, λ e. absurd cc)
upshot_stops closed peer Rests = rest_stops closed

pub group-steps : StepsRight group_rules group_speech
group-steps = record {
  first_world = λ w. refl;
  first_open = λ w. refl;
  timely = timely;
  world_after_job = λ job s is. world-job job s;
  closed_after_job = λ job s is. closed-job job s;
  drained_after_job = drained_after_job;
  world_after_lane = λ step s more. (stands-lane step s).0;
  closed_after_lane = λ step s more. (stands-lane step s).1;
  drained_after_lane = drained-after_lane;
  drained_settled = drained-settled;
  drained_rests = drained-rests;
  stops = λ p s. (upshot_stops s.closed (slice_get s.world.peers p) (upshot_of (sessions_at p s.world) (slice_get s.members p))).0;
  rests = λ p s. (upshot_stops s.closed (slice_get s.world.peers p) (upshot_of (sessions_at p s.world) (slice_get s.members p))).1;
}
